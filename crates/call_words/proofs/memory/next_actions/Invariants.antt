use Rattle.std.proofs.Common.{◌≡◌, ◌-◌, length}
use Rattle.call_words.specs.Reading.Calls.{actions_at}
use Rattle.call_words.proofs.Actions.{with_actions}
use Rattle.call_words.proofs.memory.next_actions.Given as goal

abbrev pub invariant-loop-used : goal.invariant-loop-used
invariant-loop-used l = record {
  read : with_actions l.actions.items (actions_at (l.most - l.used) l.words) ≡ actions_at l.most l.fn.words;
  count : length l.actions.items ≡ l.used;
}
