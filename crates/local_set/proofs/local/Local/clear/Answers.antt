use Rattle.std.proofs.Common.{◌≡◌, true, ap, ◌∙◌, arith}
use Rattle.std.specs.FinMap.{get}
use Rattle.az_base.specs.Ids.{id_cmp, id_of}
use Rattle.zone_model.proofs.MapLaws.{total-empty}
use Rattle.local_set.specs.LocalSets.{blocks_of, held_in}
use Rattle.local_set.proofs.Tables.{none_there, no_blocks}
use Rattle.local_set.proofs.Quantities.{quanta_in}
use Rattle.local_set.proofs.Serials.{null_register}
use Rattle.local_set.proofs.local.Local.clear.Goals as goal

pub invariant_of-self : goal.invariant_of-self
invariant_of-self c =
    let none : quanta_in (blocks_of c.clear.new.self.list) ≡ 0 = ap (λ es. quanta_in (blocks_of es)) c.clear.ensures.list ∙ ap quanta_in no_blocks ∙ total-empty id_cmp _ in
    record {
      fits = omega (arith, none);
      most = c.self.invariant.most;
      few = c.self.invariant.few;
      range = c.self.invariant.range;
      queue = c.self.invariant.queue;
      fresh = λ s h. ap (λ es. get (blocks_of es) (id_of c.self.inside.thread s)) c.clear.ensures.list ∙ none_there (id_of c.self.inside.thread s);
    }

pub returns-clause-part : goal.returns-clause-part
returns-clause-part c =
    rw (← c.self.view_is) (λ i. record {
      options = c.self.inside.options;
      registers = λ r. (ap (λ rs. held_in rs r) c.copy_from_slice.ensures.after ∙ null_register 16 r) i;
      serials = c.self.inside.serials;
      ended = true;
      blocks = (ap blocks_of c.clear.ensures.list ∙ no_blocks) i;
    })
