use Rattle.quantum_space.proofs.Noting.{white_rule, white_tells}
use Rattle.quantum_space.proofs.admin.whitened_bytes_tell_the_rest.Goals as goal

pub returns : goal.returns
returns c = λ b first. (white_rule.first b first, white_tells b first)
