use Rattle.std.proofs.Common.{List, ℕ, sym, ap, ◌∙◌, map, string_bytes, Global}
use Rattle.std.proofs.lemmas.Bool.{true≢false}
use Rattle.zone_commands.specs.CommandLine.{asked}
use Rattle.zone_commands.proofs.Asking.{asks_ok}
use Rattle.zone_commands.proofs.CommandWords.{command_is_taken, command_is_found, not_dashed}
use Rattle.zone_commands.proofs.words.command_found.Goals as goal

pub returns-then-any_dashed : goal.returns-then-any_dashed
returns-then-any_dashed c = λ command e.
    let asks = asks_ok (map (string_bytes {Z = Global}) c.args.words.now) command e in
    absurd (true≢false (sym c.if-any_dashed.true ∙ c.any_dashed.ensures ∙ not_dashed (string_bytes {Z = Global}) c.args.words.now command asks))

pub returns-in-Ok : goal.returns-in-Ok
returns-in-Ok c = λ command e.
    let words : List (List ℕ) = map (string_bytes {Z = Global}) c.args.words.now in
    let found = command_is_found words command c.in-Ok.matches (asks_ok words command e) c.in-Ok.ensures.matches in
    c.command_matched.ensures found.word found.first found.second found.finds ∙ ap asked found.are ∙ e

pub returns : goal.returns
returns c = λ command e.
    let words : List (List ℕ) = map (string_bytes {Z = Global}) c.args.words.now in
    let taken = command_is_taken words command (asks_ok words command e) in
    absurd (true≢false (sym (c.is_want_of_memory.ensures (c.in-Err.ensures.passes taken)) ∙ c.if-is_want_of_memory.false))
