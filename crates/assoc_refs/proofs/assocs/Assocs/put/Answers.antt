use Rattle.std.proofs.Common.{◌≡◌, true≢false, ap, ◌∙◌, sym, subst, Some, None, is_some, arith, ◌<◌, ◌+◌, ◌^◌}
use Rattle.std.proofs.lemmas.Result.{err_from_is_err_and}
use Rattle.std.specs.FinMap.{get, insert}
use Rattle.std.specs.Map.{lookup}
use Rattle.az_base.specs.Ids.{id_eq}
use Rattle.assoc_refs.specs.Filter.{HasAll}
use Rattle.assoc_refs.specs.Table.{Associated}
use Rattle.assoc_refs.proofs.MayHave.{joins, all-in}
use Rattle.assoc_refs.proofs.Keeping.{Relists, stays-met, room-absent, room-present, room-counted, value-there, absent-none, wider-shown, wider-table, changed-shown, first-shown, grown-table, kept-table, none_of, none_value, some_value}
use Rattle.assoc_refs.proofs.assocs.Assocs.put.Goals as goal

pub returns-then-self-clause-succeeds : goal.returns-then-self-clause-succeeds
returns-then-self-clause-succeeds c = λ e.
    let fits : c.self.inside.total + 1 < 2 ^ 64 = room-counted c.self.inside.lists c.self.inside.blank c.self.inside.total c.self.inside.ready c.self.invariant c.args.object (ap (λ (a : Associated). a.ready) c.self.view_is ∙ e) in
    let most = c.if-self.true in
    absurd (omega (arith, fits, most))

pub returns-in_err-reserve-clause-succeeds : goal.returns-in_err-reserve-clause-succeeds
returns-in_err-reserve-clause-succeeds c = λ e.
    let room = room-absent c.self.inside.lists c.self.inside.blank c.self.inside.total c.self.inside.ready c.self.invariant c.args.object (ap (λ (a : Associated). a.ready) c.self.view_is ∙ e) (none_of _ (sym c.contains_key.ensures ∙ c.if-not-contains_key.true)) in
    absurd (true≢false (sym (c.in_err-reserve.ensures.succeeds (omega (arith, room)))))

pub returns-in_err-set-clause-succeeds : goal.returns-in_err-set-clause-succeeds
returns-in_err-set-clause-succeeds c = λ e.
    let room = room-absent c.self.inside.lists c.self.inside.blank c.self.inside.total c.self.inside.ready c.self.invariant c.args.object (ap (λ (a : Associated). a.ready) c.self.view_is ∙ e) (none_of _ (sym c.contains_key.ensures ∙ c.if-not-contains_key.true)) in
    absurd (true≢false (sym (c.in_err-set.ensures.succeeds room.1)))

pub returns-then-not-contains_key-clause-before : goal.returns-then-not-contains_key-clause-before
returns-then-not-contains_key-clause-before c =
    sym (absent-none c.self.inside.lists c.self.inside.blank c.self.inside.total c.self.inside.ready c.self.invariant c.args.object c.args.key.0 (none_of _ (sym c.contains_key.ensures ∙ c.if-not-contains_key.true)))
    ∙ ap (λ (a : Associated). get a.pairs (c.args.object, c.args.key.0)) c.self.view_is

pub returns-then-not-contains_key-clause-pairs : goal.returns-then-not-contains_key-clause-pairs
returns-then-not-contains_key-clause-pairs c =
    first-shown c.self.inside.lists c.self.inside.blank c.self.inside.total c.self.inside.ready c.self.invariant c.args.object c.insert.new.self c.insert.ensures.unique
    c.replace-list.result c.args.key.0 c.args.value (none_of _ (sym c.contains_key.ensures ∙ c.if-not-contains_key.true))
    (subst (λ es. Relists c.args.object (Some c.replace-list.result) es c.insert.new.self.entries) c.reserve.ensures.entries c.in-Ok.ensures.updates.0)
    (ap (λ v. v.values) c.replace-list.ensures.value ∙ c.in_ok-set.ensures.ok)
    ∙ ap (λ (a : Associated). insert a.pairs (c.args.object, c.args.key.0) c.args.value) c.self.view_is

pub invariant_of-self-then-not-contains_key : goal.invariant_of-self-then-not-contains_key
invariant_of-self-then-not-contains_key c =
    let none : lookup (id_eq c.args.object) c.self.inside.lists.entries ≡ None = none_of _ (sym c.contains_key.ensures ∙ c.if-not-contains_key.true) in
    grown-table c.self.inside.lists c.self.inside.blank c.self.inside.total c.self.inside.ready c.self.invariant c.args.object c.insert.new.self c.insert.ensures.unique
    c.args.key.0 c.args.value c.replace-list.new.dest
    (joins _ _ c.reserve.new.self.entries c.insert.new.self.entries c.args.object (Some c.replace-list.result) c.admit.ensures.all c.admit.ensures.object c.in-Ok.ensures.updates.0)
    (absent-none c.self.inside.lists c.self.inside.blank c.self.inside.total c.self.inside.ready c.self.invariant c.args.object c.args.key.0 none)
    (first-shown c.self.inside.lists c.self.inside.blank c.self.inside.total c.self.inside.ready c.self.invariant c.args.object c.insert.new.self c.insert.ensures.unique
    c.replace-list.result c.args.key.0 c.args.value none
    (subst (λ es. Relists c.args.object (Some c.replace-list.result) es c.insert.new.self.entries) c.reserve.ensures.entries c.in-Ok.ensures.updates.0)
    (ap (λ v. v.values) c.replace-list.ensures.value ∙ c.in_ok-set.ensures.ok))
    (ap (λ v. v.values) c.replace-list.ensures.after ∙ c.new.ensures)

pub returns-in_err-before-clause-succeeds : goal.returns-in_err-before-clause-succeeds
returns-in_err-before-clause-succeeds c = λ e.
    absurd (true≢false (sym (c.in_err-before.ensures.succeeds (room-present c.self.inside.lists c.self.inside.blank c.self.inside.total c.self.inside.ready c.self.invariant c.args.object c.in-Some.list.now
    (ap (λ (a : Associated). a.ready) c.self.view_is ∙ e) (sym c.in-Some.ensures.value)))))

pub returns-in_err-before-clause-err : goal.returns-in_err-before-clause-err
returns-in_err-before-clause-err c =
    let there = sym c.in-Some.ensures.value in
    let written = c.get_mut.follows.holds c.set-2.new.self in
    let failed = err_from_is_err_and c.from_residual-in_err-before.result c.from_residual-in_err-before.ensures.1 in
    rw failed.1 (ap (λ p. let a : Associated = record { pairs = p; ready = c.self.inside.ready } in a)
    (wider-shown c.self.inside.lists c.self.inside.blank c.self.inside.total c.self.inside.ready c.self.invariant c.args.object (c.get_mut.follows.lender c.set-2.new.self) written.4 c.in-Some.list.now c.set-2.new.self there
    (written.3 (ap is_some there)).0 c.in_err-before.ensures.err)
    ∙ c.self.view_is)

pub invariant_of-self-in_err-before : goal.invariant_of-self-in_err-before
invariant_of-self-in_err-before c =
    let there = sym c.in-Some.ensures.value in
    let written = c.get_mut.follows.holds c.set-2.new.self in
    wider-table c.self.inside.lists c.self.inside.blank c.self.inside.total c.self.inside.ready c.self.invariant c.args.object (c.get_mut.follows.lender c.set-2.new.self) written.4 c.in-Some.list.now c.set-2.new.self there
    (written.3 (ap is_some there)).0 c.in_err-before.ensures.err written.6 c.in_err-before.ensures.spare

pub returns-then-is_some-clause-before : goal.returns-then-is_some-clause-before
returns-then-is_some-clause-before c =
    c.in_ok-before.ensures.before
    ∙ sym (value-there c.self.inside.lists c.self.inside.blank c.self.inside.total c.self.inside.ready c.self.invariant c.args.object c.args.key.0 (Some c.in-Some.list.now) (sym c.in-Some.ensures.value))
    ∙ ap (λ (a : Associated). get a.pairs (c.args.object, c.args.key.0)) c.self.view_is

pub returns-clause-before : goal.returns-clause-before
returns-clause-before c =
    c.in_ok-before.ensures.before
    ∙ sym (value-there c.self.inside.lists c.self.inside.blank c.self.inside.total c.self.inside.ready c.self.invariant c.args.object c.args.key.0 (Some c.in-Some.list.now) (sym c.in-Some.ensures.value))
    ∙ ap (λ (a : Associated). get a.pairs (c.args.object, c.args.key.0)) c.self.view_is

pub returns-then-is_some-clause-pairs : goal.returns-then-is_some-clause-pairs
returns-then-is_some-clause-pairs c =
    let there = sym c.in-Some.ensures.value in
    let written = c.get_mut.follows.holds c.set-2.new.self in
    changed-shown c.self.inside.lists c.self.inside.blank c.self.inside.total c.self.inside.ready c.self.invariant c.args.object (c.get_mut.follows.lender c.set-2.new.self) written.4 c.in-Some.list.now c.set-2.new.self c.args.key.0 (Some c.args.value) there
    (written.3 (ap is_some there)).0 c.in_ok-before.ensures.ok
    ∙ ap (λ (a : Associated). insert a.pairs (c.args.object, c.args.key.0) c.args.value) c.self.view_is

pub returns-clause-pairs : goal.returns-clause-pairs
returns-clause-pairs c =
    let there = sym c.in-Some.ensures.value in
    let written = c.get_mut.follows.holds c.set-2.new.self in
    changed-shown c.self.inside.lists c.self.inside.blank c.self.inside.total c.self.inside.ready c.self.invariant c.args.object (c.get_mut.follows.lender c.set-2.new.self) written.4 c.in-Some.list.now c.set-2.new.self c.args.key.0 (Some c.args.value) there
    (written.3 (ap is_some there)).0 c.in_ok-before.ensures.ok
    ∙ ap (λ (a : Associated). insert a.pairs (c.args.object, c.args.key.0) c.args.value) c.self.view_is

pub invariant_of-self-then-is_some : goal.invariant_of-self-then-is_some
invariant_of-self-then-is_some c =
    let there = sym c.in-Some.ensures.value in
    let written = c.get_mut.follows.holds c.set-2.new.self in
    let before = some_value _ (sym (c.is_some.ensures) ∙ c.if-is_some.true) in
    kept-table c.self.inside.lists c.self.inside.blank c.self.inside.total c.self.inside.ready c.self.invariant c.args.object (c.get_mut.follows.lender c.set-2.new.self) written.4 c.args.key.0 c.args.value before.0
    (stays-met c.self.inside.lists c.self.inside.blank c.self.inside.total c.self.inside.ready c.self.invariant c.args.object (c.get_mut.follows.lender c.set-2.new.self) written.4 (Some c.set-2.new.self) (written.3 (ap is_some there)).0
    (λ _ _. c.self.invariant.met c.args.object c.in-Some.list.now there))
    (value-there c.self.inside.lists c.self.inside.blank c.self.inside.total c.self.inside.ready c.self.invariant c.args.object c.args.key.0 (Some c.in-Some.list.now) there ∙ sym c.in_ok-before.ensures.before ∙ before.1)
    (changed-shown c.self.inside.lists c.self.inside.blank c.self.inside.total c.self.inside.ready c.self.invariant c.args.object (c.get_mut.follows.lender c.set-2.new.self) written.4 c.in-Some.list.now c.set-2.new.self c.args.key.0 (Some c.args.value) there
    (written.3 (ap is_some there)).0 c.in_ok-before.ensures.ok)

pub invariant_of-self-2 : goal.invariant_of-self-2
invariant_of-self-2 c =
    let there = sym c.in-Some.ensures.value in
    let written = c.get_mut.follows.holds c.set-2.new.self in
    grown-table c.self.inside.lists c.self.inside.blank c.self.inside.total c.self.inside.ready c.self.invariant c.args.object (c.get_mut.follows.lender c.set-2.new.self) written.4 c.args.key.0 c.args.value c.self.inside.blank
    (stays-met c.self.inside.lists c.self.inside.blank c.self.inside.total c.self.inside.ready c.self.invariant c.args.object (c.get_mut.follows.lender c.set-2.new.self) written.4 (Some c.set-2.new.self) (written.3 (ap is_some there)).0
    (λ _ _. c.self.invariant.met c.args.object c.in-Some.list.now there))
    (value-there c.self.inside.lists c.self.inside.blank c.self.inside.total c.self.inside.ready c.self.invariant c.args.object c.args.key.0 (Some c.in-Some.list.now) there ∙ sym c.in_ok-before.ensures.before
    ∙ none_value _ (sym (c.is_some.ensures) ∙ c.if-is_some.false))
    (changed-shown c.self.inside.lists c.self.inside.blank c.self.inside.total c.self.inside.ready c.self.invariant c.args.object (c.get_mut.follows.lender c.set-2.new.self) written.4 c.in-Some.list.now c.set-2.new.self c.args.key.0 (Some c.args.value) there
    (written.3 (ap is_some there)).0 c.in_ok-before.ensures.ok)
    c.self.invariant.blank

pub admit-requires : goal.admit-requires
admit-requires c =
    subst (HasAll c.self.inside.filter.taken.items c.self.inside.filter.mask) (sym c.reserve.ensures.entries)
    (all-in c.self.inside.filter.taken.items c.self.inside.filter.mask c.self.inside.lists.entries c.self.invariant.once c.self.invariant.met)
