use Rattle.call_words.proofs.WordLaws.{collect_ok, collect_from}
use Rattle.call_words.proofs.laws.collect_names_are_read.Goals as goal

pub returns : goal.returns
returns c = λ word kind. (collect_ok word kind, collect_from word kind)
