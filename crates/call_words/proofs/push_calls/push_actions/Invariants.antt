use Rattle.std.proofs.Common.{◌≡◌, ◌++◌, take, string_bytes, All}
use Rattle.call_words.specs.Spacing.{spread}
use Rattle.call_words.specs.Words.{actions_words}
use Rattle.call_words.specs.Ranges.{IsAction}
use Rattle.call_words.proofs.push_calls.push_actions.Given as goal

abbrev pub invariant-loop-action : goal.invariant-loop-action
invariant-loop-action l = record {
  adds : string_bytes l.out ≡ string_bytes l.initial.out ++ spread (actions_words (take l.action-index l.actions));
  range : All IsAction (take l.action-index l.actions);
}
