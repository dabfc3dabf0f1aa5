use Rattle.std.proofs.Common.{ap, ◌∙◌}
use Rattle.call_words.specs.Names.{name_of}
use Rattle.call_words.proofs.WordLaws.{name_ok, name_from}
use Rattle.call_words.proofs.laws.names_are_read.Goals as goal

pub returns : goal.returns
returns c = λ word name. (name_ok word name, λ spelled. ap name_of spelled ∙ name_from name)
