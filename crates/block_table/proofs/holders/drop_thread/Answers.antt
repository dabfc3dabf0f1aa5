use Rattle.std.proofs.Common.{◌==◌, ℕ, not, rules}
use Rattle.block_table.proofs.Filtered.{filter_in_turn}
use Rattle.block_table.proofs.holders.drop_thread.Goals as goal

pub returns-clause-items : goal.returns-clause-items
returns-clause-items c = filter_in_turn _ (λ (h : ℕ × ℕ). not (h.0 == c.args.thread)) _ (λ x b g y r. search rules) _ _ c.retain.ensures.filtered
