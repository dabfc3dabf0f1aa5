use Rattle.std.proofs.Common.{◌∙◌, ◌⊎◌, inl, inr, IsTrue, IsFalse, Some, subst, sym}
use Rattle.std.specs.List.Sorted.{IsStrictlySortedBy}
use Rattle.std.specs.Option.{IfSome}
use Rattle.az_base.specs.Ids.{id_cmp}
use Rattle.heap_tables.specs.declared.tables.Tables.{Tables}
use Rattle.heap_cycle.specs.Barriers.{IsWatched, StoreWantsCard}
use Rattle.heap_cycle.proofs.Remembering.{remembered_collects, remembered_watched, remembers, room_for, wanted_old}
use Rattle.heap_cycle.specs.Collects.{is_old_at}
use Rattle.write_barrier.specs.Barrier.{IsSettling}
use Rattle.heap_cycle.proofs.barriers.remember.Goals as goal
use Rattle.heap_cycle.proofs.barriers.remember.Goals.{then-old, else-old}

pub remember-requires : goal.remember-requires
remember-requires c = room_for c.args.tables.now c.requires.collects.cards (subst (IsStrictlySortedBy id_cmp) c.list-cards.ensures.list c.list-cards.ensures.ascends) c.args.into c.requires.there

pub returns-then-effect-clause-collects : goal.returns-then-effect-clause-collects
returns-then-effect-clause-collects c =
    remembered_collects c.args.tables.now c.remember.new.self c.args.into (record { list = c.remember.ensures.list; added = c.remember.ensures.added; there = c.remember.ensures.there }) c.args.cycle.now c.requires.there
    (wanted_old c.args.tables.now c.args.cycle.now c.args.into c.phase_of-phase.result c.is_old_near-old.result c.phase_of-phase.ensures c.is_old_near-old.ensures (c.on_store-effect.ensures.remember.0 c.if-effect.true)) c.requires.collects

pub returns-then-effect-clause-remembers : goal.returns-then-effect-clause-remembers
returns-then-effect-clause-remembers c = remembers c.args.tables.now c.remember.new.self c.args.into (record { list = c.remember.ensures.list; added = c.remember.ensures.added; there = c.remember.ensures.there })

pub returns-then-effect-clause-watched : goal.returns-then-effect-clause-watched
returns-then-effect-clause-watched c =
    let card = remembered_watched c.args.tables.now c.remember.new.self c.args.into (record { list = c.remember.ensures.list; added = c.remember.ensures.added; there = c.remember.ensures.there }) c.args.cycle.now in
    subst (λ v. IfSome v (IsWatched (let x : Tables = record c.args.tables.now { cards = c.remember.new.self } in x) c.args.cycle.now c.args.into)) (sym c.in-Some.is) (card c.in-Some.value)

pub returns-then-effect-clause-needed : goal.returns-then-effect-clause-needed
returns-then-effect-clause-needed c =
    inr (subst (StoreWantsCard c.args.tables.now c.args.cycle.now c.args.into) (sym c.in-Some.is) (wants (c.on_store-effect.ensures.remember.0 c.if-effect.true)))
  where
    newer : IsTrue c.is_old_near-old.result → IsFalse c.if-old.value_old → IsFalse (is_old_at c.args.tables.now.blocks.blocks c.in-Some.value)
    newer old young = elim c.if-old.branch [ then-old w ↦ sym w.is_old-value_old.ensures ∙ (sym w.value_old-is ∙ young) | else-old w ↦ (let at = w.if-old.false in cc (at, old)) ]

    wants : (IsTrue c.is_old_near-old.result × IsFalse c.if-old.value_old) ⊎ (IsSettling c.phase_of-phase.result × IsTrue c.is_condemned-condemned.result) → StoreWantsCard c.args.tables.now c.args.cycle.now c.args.into (Some c.in-Some.value)
    wants (inl w) = inl (sym c.is_old_near-old.ensures ∙ w.0, newer w.0 w.1)
    wants (inr w) = inr (sym c.is_condemned-condemned.ensures ∙ w.1)
