use Rattle.std.proofs.Common.{◌≡◌, ◌+◌, ℕ, None, Some, Option, IsSome, List, arith, drop, option_map, ap, sym, subst, refl, cond, not, ◌||◌, ◌∙◌}
use Rattle.std.specs.FinMap.{get}
use Rattle.std.specs.Option.{option_map_or}
use Rattle.az_base.specs.declared.word.Word.{Word}
use Rattle.az_base.specs.Ids.{among, same_id}
use Rattle.az_base.proofs.Ids.{same_self}
use Rattle.block_layouts.specs.Layouts.{len_of, quanta}
use Rattle.zone_model.proofs.Blocks.{left_get}
use Rattle.zone_model.specs.Part.{Part}
use Rattle.zone_model.specs.State.{Block, State}
use Rattle.heap_cycle.specs.Livening.{unshaded}
use Rattle.shared_heap.specs.Holding.{HoldsSet}
use Rattle.block_table.specs.Table.{used_by}
use Rattle.shared_heap.specs.Shared.{Shared}
use Rattle.local_set.specs.LocalSets.{LocalSet, part_in}
use Rattle.escape_plan.specs.Moving.{CanTell, refer_to, Told}
use Rattle.escape_plan.specs.Planning.{quanta_at}
use Rattle.escape_plan.proofs.Moving.{can_tell, absent, admitted_there, agree_after}
use Rattle.escape_plan.proofs.committing.move_one.Goals as goal

pub tell_words-requires : goal.tell_words-requires
tell_words-requires c =
    let l = c.args.local.now in
    let h = c.args.heap.now in
    subst (λ (ws : List Word). CanTell c.take_out-layout.new.self h (refer_to ws)) (sym c.deref.ensures.value)
    (can_tell l h c.requires.agree.0 c.args.id _ _ c.requires.agree.1 (c.requires.can.1.own c.args.id (ap (λ b. b || among c.requires.can.0 c.args.id) (same_self c.args.id))) c.take_out-layout.ensures.block c.take_out-layout.new.self (ap (λ (s : LocalSet). s.thread) c.take_out-layout.ensures.rest))

pub admit-requires-clause-absent : goal.admit-requires-clause-absent
admit-requires-clause-absent c =
    let l = c.args.local.now in
    let h = c.args.heap.now in
    ap (λ (s : Shared). get s.blocks c.args.id) c.tell_words.ensures.rest ∙ absent l h c.requires.agree.0 c.args.id _ _ c.requires.agree.1 (c.requires.can.1.own c.args.id (ap (λ b. b || among c.requires.can.0 c.args.id) (same_self c.args.id))) c.take_out-layout.ensures.block

pub hold_count-requires : goal.hold_count-requires
hold_count-requires c = record { given = subst (λ (s : Shared). IsSome (get s.blocks c.args.id)) (sym c.admit.ensures.value) (admitted_there c.tell_words.new.heap c.args.id _ _) }

pub returns : goal.returns
returns c =
    let l : LocalSet = c.args.local.now in
    let m : LocalSet = c.take_out-layout.new.self in
    let h : Shared = c.args.heap.now in
    let told : Shared = c.tell_words.new.heap in
    let in_it : Shared = c.admit.new.self in
    let k : Shared = c.hold_count.new.self in
    let id = c.args.id in
    let taken = c.take_out-layout.ensures in
    let own = c.requires.can.1.own id (ap (λ b. b || among c.requires.can.0 id) (same_self id)) in
    record {
      local = taken.rest;
      blocks = λ q. ap (λ (p : Part). get p.blocks q) taken.part ∙ left_get (part_in l).blocks (same_id id) q;
      options = ap (λ (s : Shared). s.options) c.in-Ok.ensures.ok ∙ ap (λ (s : Shared). s.options) c.admit.ensures.value ∙ ap (λ (s : Shared). s.options) c.tell_words.ensures.rest;
      ready = ap (λ (s : Shared). s.ready) c.in-Ok.ensures.ok ∙ ap (λ (s : Shared). s.ready) c.admit.ensures.value ∙ ap (λ (s : Shared). s.ready) c.tell_words.ensures.rest;
      room = ap (λ (s : Shared). s.room) c.in-Ok.ensures.ok ∙ ap (λ (s : Shared). s.room) c.admit.ensures.value ∙ ap (λ (s : Shared). drop 1 s.room) c.tell_words.ensures.rest;
      used =
          ap (λ (s : Shared). used_by s.blocks) c.in-Ok.ensures.ok ∙ c.admit.ensures.used ∙ ap (λ (s : Shared). used_by s.blocks + quanta (len_of c.take_out-layout.result.0)) c.tell_words.ensures.rest
          ∙ ap (λ n. used_by h.blocks + n) (sym (ap (λ (o : Option Block). option_map_or (λ b. quanta (len_of b.layout)) o 0) taken.block));
      cycle = ap (λ (s : Shared). option_map unshaded s.gc.cycle) c.in-Ok.ensures.ok ∙ c.admit.ensures.gc.cycle ∙ ap (λ (s : Shared). option_map unshaded s.gc.cycle) c.tell_words.ensures.rest;
      agree = λ z a. agree_after l h z id _ _ a own taken.block m told in_it k (ap (λ (s : LocalSet). s.thread) taken.rest) taken.part
          (subst (λ (ws : List Word). Told m h told (refer_to ws)) c.deref.ensures.value c.tell_words.ensures) c.admit.ensures.held
          (subst (λ n. HoldsSet in_it k m.thread id n) c.holds_of.ensures (subst (λ t. HoldsSet in_it k t id c.holds_of.result) c.thread.ensures c.in-Ok.ensures.held)) c.admit.ensures.stands c.in-Ok.ensures.stands;
    }
