use Rattle.std.proofs.Common.{[], ◌∷◌, ◌++◌, codes, refl}
use Rattle.std.specs.Fmt.{decimal}
use Rattle.call_words.specs.Spacing.{spread}
use Rattle.history_text.specs.Words.{stats_words}
use Rattle.call_words.proofs.Spreading.{on_added, added}
use Rattle.history_text.proofs.Spreading.{end_spelled}
use Rattle.history_text.proofs.lines.push_end.Goals as goal

pub returns-clause-adds : goal.returns-clause-adds
returns-clause-adds c =
    let named = spread (codes "entries" ∷ decimal c.args.count ∷ []) in
    on_added c.push_stats.result _ _ _ (codes "end" ++ named) (spread (stats_words c.args.stats.now)) _
    (added _ _ _ (codes "end") named _ c.in_ok-push_str.ensures.bytes c.in_ok-push_named.ensures.adds refl) (end_spelled c.args.count c.args.stats.now) c.push_stats.ensures.adds
