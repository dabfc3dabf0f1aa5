use Rattle.std.proofs.Common.{◌≡◌, ap, ◌∙◌, arith}
use Rattle.std.specs.FinMap.{get}
use Rattle.az_base.specs.Ids.{id_cmp, id_of}
use Rattle.zone_model.proofs.MapLaws.{total-empty}
use Rattle.zone_model.specs.Part.{opening_part}
use Rattle.local_set.specs.LocalSets.{blocks_of}
use Rattle.local_set.proofs.Tables.{none_there, no_blocks}
use Rattle.local_set.proofs.Quantities.{quanta_in}
use Rattle.local_set.proofs.Serials.{null_register}
use Rattle.local_set.proofs.local.Local.new.Goals as goal

pub invariant_of-result : goal.invariant_of-result
invariant_of-result c =
    let none : quanta_in (blocks_of c.new.result.list) ≡ 0 = ap (λ es. quanta_in (blocks_of es)) c.new.ensures.list ∙ ap quanta_in no_blocks ∙ total-empty id_cmp _ in
    record {
      fits = omega (arith, none);
      most = omega (arith, c.requires.local);
      few = omega arith;
      range = omega (arith, c.requires.serials);
      queue = rw (c.new-2.ensures) (omega arith);
      fresh = λ s h. ap (λ es. get (blocks_of es) (id_of c.args.thread s)) c.new.ensures.list ∙ none_there (id_of c.args.thread s);
    }

pub returns-clause-part : goal.returns-clause-part
returns-clause-part c = λ i. record (opening_part c.args.options) { registers = λ r. null_register 16 r i; blocks = (ap blocks_of c.new.ensures.list ∙ no_blocks) i }
