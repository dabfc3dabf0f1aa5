use Rattle.std.proofs.Common.{◌≡◌, ◌==◌, ℕ, refl, sym, ap, ◌∙◌, arith, Some, cond, inl, inr, slice_set}
use Rattle.std.specs.Ordering.{nat_cmp}
use Rattle.std.specs.Cmp.{nat_cmp_total}
use Rattle.std.specs.FinMap.{from_entries, from_entries_push, nat_cmp-IsAntisymmetric}
use Rattle.std.specs.FinMap.Entries.{find}
use Rattle.block_table.specs.Holds.{Holds, times, with_times}
use Rattle.block_table.proofs.Counts.{place_found, place_none, map_set, map_without, filtered, positive, none_listed, refilled, no_times, above, positive_kept, positive_set, positive_push}
use Rattle.block_table.proofs.holders.Holders.set.Goals.{in-Ok, in-Err}
use Rattle.block_table.proofs.holders.Holders.set.Goals as goal

pub returns-then-n-eq0-clause-ok : goal.returns-then-n-eq0-clause-ok
returns-then-n-eq0-clause-ok c =
    ap (λ xs. from_entries {R = nat_cmp} xs) c.drop_thread.ensures.items
    ∙ map_without c.self.inside.counts.items _ c.get-thread.result (λ q. filtered c.get-thread.result q c.self.inside.counts.items)
    ∙ rw (c.get-thread.ensures.value, c.if-n-eq0.true) (ap (λ (m : Holds). with_times m c.args.t 0) c.self.view_is)

pub returns-in-Some-clause-ok : goal.returns-in-Some-clause-ok
returns-in-Some-clause-ok c =
    let place = place_found c.get-thread.result c.as_slice.result.now (0, 0) c.in-Some.place (sym c.place_of.ensures ∙ c.in-Some.is) in
    let is : (q : ℕ) → find nat_cmp q (slice_set c.self.inside.counts.items c.in-Some.place (c.get-thread.result, c.args.n)) ≡ cond (c.get-thread.result == q) (Some c.args.n) (find nat_cmp q c.self.inside.counts.items) = λ q. rw (← c.as_slice.ensures) (place.2 c.args.n q) in
    let map = map_set c.self.inside.counts.items (slice_set c.self.inside.counts.items c.in-Some.place (c.get-thread.result, c.args.n)) c.get-thread.result c.args.n is in
    rw (c.as_mut_slice.ensures.value, refilled c.self.inside.counts.items c.in-Some.place (c.get-thread.result, c.args.n)) (map ∙ sym (positive _ _ _ c.if-n-eq0.false) ∙ rw c.get-thread.ensures.value (ap (λ (m : Holds). with_times m c.args.t c.args.n) c.self.view_is))

pub returns-after-push-clause-ok : goal.returns-after-push-clause-ok
returns-after-push-clause-ok c = elim c.match-push.branch [
  | in-Ok w ↦ rw w.result-is (let none = place_none c.get-thread.result c.as_slice.result.now (sym c.place_of.ensures ∙ c.in-None.is) in
      let push = from_entries_push nat_cmp_total nat_cmp-IsAntisymmetric c.self.inside.counts.items c.get-thread.result c.args.n (rw (← c.as_slice.ensures) none) in
      ap (λ xs. from_entries {R = nat_cmp} xs) w.in-Ok.ensures.ok ∙ push ∙ sym (positive _ _ _ c.if-n-eq0.false) ∙ rw c.get-thread.ensures.value (ap (λ (m : Holds). with_times m c.args.t c.args.n) c.self.view_is))
  | in-Err w ↦ rw w.result-is tt
]

pub returns-after-push-clause-sure : goal.returns-after-push-clause-sure
returns-after-push-clause-sure c h = elim c.match-push.branch [
  | in-Ok w ↦ rw w.result-is refl
  | in-Err w ↦
      let none = place_none c.get-thread.result c.as_slice.result.now (sym c.place_of.ensures ∙ c.in-None.is) in
      let zero_times : times c.args.self.now c.args.t ≡ 0 = rw (← c.self.view_is) (no_times c.self.inside.counts.items c.args.t (rw (← c.as_slice.ensures, ← c.get-thread.ensures.value) none)) in
      elim h [
        | inl e ↦ absurd (c.if-n-eq0.false e)
        | inr k ↦ elim k [
          | inl l ↦ absurd (omega arith)
          | inr e ↦ let few = none_listed c.self.inside.counts.items (c.self.view_is ∙ e) in let ok = w.in-Err.ensures.succeeds (omega (arith, c.self.invariant.0)) in cc
        ]
      ]
]

pub invariant_of-self : goal.invariant_of-self
invariant_of-self c = (
  (let e = c.drop_thread.ensures.capacity in let i = c.self.invariant.0 in omega (arith, e, i)),
  rw c.drop_thread.ensures.items (positive_kept c.get-thread.result c.self.inside.counts.items c.self.invariant.1),
)

pub invariant_of-self-in-Some : goal.invariant_of-self-in-Some
invariant_of-self-in-Some c = (
  c.self.invariant.0,
  rw (c.as_mut_slice.ensures.value, refilled c.self.inside.counts.items c.in-Some.place (c.get-thread.result, c.args.n)) (positive_set c.self.inside.counts.items c.in-Some.place (c.get-thread.result, c.args.n) (above c.args.n c.if-n-eq0.false) c.self.invariant.1),
)

pub invariant_of-self-in-None : goal.invariant_of-self-in-None
invariant_of-self-in-None c = (
  (let e = c.push.ensures.capacity in let i = c.self.invariant.0 in omega (arith, e, i)),
  elim c.match-push.branch [
    | in-Ok w ↦ rw w.in-Ok.ensures.ok (positive_push c.self.inside.counts.items (c.get-thread.result, c.args.n) (above c.args.n c.if-n-eq0.false) c.self.invariant.1)
    | in-Err w ↦ rw w.in-Err.ensures.err c.self.invariant.1
  ],
)
