use Rattle.quantum_space.proofs.Noting.{age_rule, aged_tells}
use Rattle.quantum_space.proofs.admin.aged_bytes_tell_the_rest.Goals as goal

pub returns : goal.returns
returns c = λ b first. (age_rule.first b first, aged_tells b first)
