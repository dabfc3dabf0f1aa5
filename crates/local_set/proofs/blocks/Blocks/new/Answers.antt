use Rattle.std.proofs.Common.{ap, sym, ◌∙◌, arith}
use Rattle.az_base.specs.Ids.{id_cmp}
use Rattle.zone_model.proofs.MapLaws.{total-empty}
use Rattle.retain_table.specs.Counted.{count_of}
use Rattle.local_set.specs.LocalSets.{blocks_of}
use Rattle.zone_model.specs.Holds.{word_holds}
use Rattle.local_set.proofs.Quantities.{quanta_in}
use Rattle.local_set.proofs.Counting.{none_counted}
use Rattle.local_set.proofs.blocks.Blocks.new.Goals as goal

pub invariant_of-result : goal.invariant_of-result
invariant_of-result c = record {
  quanta = ap (λ es. quanta_in (blocks_of es)) c.new.ensures.empty ∙ total-empty id_cmp _;
  fits = omega arith;
  counted = λ q. ap (λ m. count_of m q) c.new-2.ensures.counts ∙ none_counted q ∙ sym (ap (λ es. word_holds (blocks_of es) q) c.new.ensures.empty ∙ total-empty id_cmp _);
  bounded = λ q. let none = ap (λ m. count_of m q) c.new-2.ensures.counts ∙ none_counted q in omega (arith, none);
}
