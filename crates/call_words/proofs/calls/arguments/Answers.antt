use Rattle.std.proofs.Common.{refl}
use Rattle.call_words.specs.Reading.Calls.{act_at}
use Rattle.call_words.proofs.calls.arguments.Goals as goal

pub returns-in-Stats : goal.returns-in-Stats
unfolding act_at
returns-in-Stats c = rw c.in-Stats.is refl
