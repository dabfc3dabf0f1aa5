-- Blocks that one thread alone knew count in no statistics
use Rattle.std.proofs.Common.{◌≡◌, ℕ, ◌==◌, Bool, true, false, cond, not, ◌&&◌, List, Option, Some, None, refl, sym, ap, ◌∙◌, is_some, is_none}
use Rattle.std.specs.Option.{option_map_or}
use Rattle.std.specs.FinMap.{get}
use Rattle.az_base.specs.declared.block_id.BlockId.{BlockId}
use Rattle.az_base.specs.Ids.{among, ids_total, exact_ids}
use Rattle.block_layouts.specs.Layouts.{quanta, len_of}
use Rattle.zone_model.specs.State.{State, Block, is_own, is_unescaped, without_blocks}
use Rattle.zone_model.specs.Stats.{stats_of}
use Rattle.zone_model.specs.Collection.{with_end}
use Rattle.zone_model.proofs.Totals.{total-retain_keys}

second_true : (a b : Bool) → (a && b) ≡ true → b ≡ true
second_true true b h = h
second_true false b h = cc

not_false : (a : Bool) → not a ≡ false → a ≡ true
not_false true h = refl
not_false false h = cc

none_counts_0 : (o : Option ℕ) (n : ℕ) → is_none o ≡ true → cond (is_some o) n 0 ≡ 0
none_counts_0 None n h = refl
none_counts_0 (Some x) n h = cc

module _ (z : State) (t : ℕ) (gone : List BlockId) (own : (q : BlockId) → among gone q ≡ is_own z t q) where
  gone_is_unescaped : (k : BlockId) (b : Block) → get z.blocks k ≡ Some b → not (among gone k) ≡ false → is_none b.since ≡ true
  gone_is_unescaped k b here left =
      let unescaped : is_unescaped z k ≡ true = second_true (k.thread == t) (is_unescaped z k) (sym (own k) ∙ not_false (among gone k) left) in
      sym (ap (λ o. option_map_or (λ (b : Block). is_none b.since) o false) here) ∙ unescaped

  -- the end of a thread, and a collection of its own blocks, leave the statistics as they were
  pub stats_without_own : stats_of (with_end (without_blocks z gone) t) ≡ stats_of z
  stats_without_own = λ i. record {
    blocks = total-retain_keys ids_total exact_ids (λ id b. cond (is_some b.since) 1 0) z.blocks (λ id. not (among gone id)) (λ k b here left. none_counts_0 b.since 1 (gone_is_unescaped k b here left)) i;
    quanta = total-retain_keys ids_total exact_ids (λ id b. cond (is_some b.since) (quanta (len_of b.layout)) 0) z.blocks (λ id. not (among gone id)) (λ k b here left. none_counts_0 b.since (quanta (len_of b.layout)) (gone_is_unescaped k b here left)) i;
    retained = (stats_of z).retained;
    weak = (stats_of z).weak;
    assocs = (stats_of z).assocs;
  }
