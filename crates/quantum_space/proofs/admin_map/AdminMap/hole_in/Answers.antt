use Rattle.std.proofs.Common.{subst, sym, arith, ◌≡◌, ◌<◌, ◌+◌, ◌-◌, ◌*◌, ap, get_or, length, List, ℕ}
use Rattle.std.proofs.lemmas.List.{get_or_read}
use Rattle.quantum_space.specs.AdminMaps.{AdminMap', HasNoHole, IsFirstIn}
use Rattle.quantum_space.specs.Holes.{IsFirstHole, NoHoleWithin}
use Rattle.quantum_space.proofs.Cursors.{cursor_in, byte_in, low_set, found_in, none_in}
use Rattle.quantum_space.proofs.admin_map.AdminMap.hole_in.Goals as goal

pub overflow_mul-base : goal.overflow_mul-base
overflow_mul-base c =
    let there : c.args.subzone < c.self.inside.subzones = subst (λ (v : AdminMap'). c.args.subzone < v.subzones) (sym c.self.view_is) c.requires.there in
    let b = byte_in _ c.self.inside.low.items c.self.inside.first c.args.subzone c.self.invariant there in
    omega (arith, b, c.self.inside.bytes.ok.0, c.self.inside.bytes.ok.1, c.self.inside.bytes.small)

pub overflow_mul-cursor : goal.overflow_mul-cursor
overflow_mul-cursor c =
    let there : c.args.subzone < c.self.inside.subzones = subst (λ (v : AdminMap'). c.args.subzone < v.subzones) (sym c.self.view_is) c.requires.there in
    let k = cursor_in _ c.self.inside.low.items c.self.inside.first c.args.subzone c.args.len c.self.invariant there (omega (arith, c.requires.length)) in
    omega (arith, k, c.self.inside.low.ok.0, c.self.inside.low.ok.1, c.self.inside.low.small)

pub overflow_add-cursor : goal.overflow_add-cursor
overflow_add-cursor c =
    let there : c.args.subzone < c.self.inside.subzones = subst (λ (v : AdminMap'). c.args.subzone < v.subzones) (sym c.self.view_is) c.requires.there in
    let k = cursor_in _ c.self.inside.low.items c.self.inside.first c.args.subzone c.args.len c.self.invariant there (omega (arith, c.requires.length)) in
    omega (arith, k, c.self.inside.low.ok.0, c.self.inside.low.ok.1, c.self.inside.low.small)

pub overflow_add-base : goal.overflow_add-base
overflow_add-base c =
    let i = c.self.inside in
    let there : c.args.subzone < i.subzones = subst (λ (v : AdminMap'). c.args.subzone < v.subzones) (sym c.self.view_is) c.requires.there in
    let k = cursor_in _ i.low.items i.first c.args.subzone c.args.len c.self.invariant there (omega (arith, c.requires.length)) in
    let b = byte_in _ i.low.items i.first c.args.subzone c.self.invariant there in
    let from = get_or_read i.low.items _ _ k c.index-from.ensures 0 in
    omega (arith, b, from, c.self.invariant.within (c.args.subzone * 33 + c.args.len), i.bytes.ok.0, i.bytes.ok.1, i.bytes.small)

pub first_hole-requires-clause-ordered : goal.first_hole-requires-clause-ordered
first_hole-requires-clause-ordered c =
    let i = c.self.inside in
    let there : c.args.subzone < i.subzones = subst (λ (v : AdminMap'). c.args.subzone < v.subzones) (sym c.self.view_is) c.requires.there in
    let k = cursor_in _ i.low.items i.first c.args.subzone c.args.len c.self.invariant there (omega (arith, c.requires.length)) in
    let from = get_or_read i.low.items _ _ k c.index-from.ensures 0 in
    omega (arith, from, c.self.invariant.within (c.args.subzone * 33 + c.args.len))

pub first_hole-requires-clause-within : goal.first_hole-requires-clause-within
first_hole-requires-clause-within c =
    let i = c.self.inside in
    let there : c.args.subzone < i.subzones = subst (λ (v : AdminMap'). c.args.subzone < v.subzones) (sym c.self.view_is) c.requires.there in
    let b = byte_in _ i.low.items i.first c.args.subzone c.self.invariant there in
    let e : length c.deref.result.now ≡ length i.bytes.items = ap (λ (xs : List ℕ). length xs) c.deref.ensures.value in
    omega (arith, b, e)

first : (c : goal.After-self-1) → IsFirstIn (record { size = c.self.inside.size; subzones = c.self.inside.subzones; bytes = c.self.inside.bytes.items }) c.args.len c.args.subzone (c.in-Some.at - c.args.subzone * c.self.inside.size)
first c =
    let i = c.self.inside in
    let there : c.args.subzone < i.subzones = subst (λ (v : AdminMap'). c.args.subzone < v.subzones) (sym c.self.view_is) c.requires.there in
    let k = cursor_in _ i.low.items i.first c.args.subzone c.args.len c.self.invariant there (omega (arith, c.requires.length)) in
    let from : c.index-from.result.now ≡ get_or i.low.items (c.args.subzone * 33 + c.args.len) 0 = get_or_read i.low.items _ _ k c.index-from.ensures 0 in
    let f : IsFirstHole c.deref.result.now c.args.len (c.args.subzone * i.size + c.index-from.result.now) (c.args.subzone * i.size + i.size) c.in-Some.at = c.in-Some.ensures in
    let g : IsFirstHole i.bytes.items c.args.len (c.args.subzone * i.size + get_or i.low.items (c.args.subzone * 33 + c.args.len) 0) (c.args.subzone * i.size + i.size) c.in-Some.at =
    subst (λ (x : ℕ). IsFirstHole i.bytes.items c.args.len (c.args.subzone * i.size + x) (c.args.subzone * i.size + i.size) c.in-Some.at) from
    (subst (λ (xs : List ℕ). IsFirstHole xs c.args.len (c.args.subzone * i.size + c.index-from.result.now) (c.args.subzone * i.size + i.size) c.in-Some.at) c.deref.ensures.value f) in
    found_in _ i.low.items i.first c.args.subzone c.args.len c.in-Some.at _ c.self.invariant c.requires.length (omega (arith, g.begins)) g

none : (c : goal.After-self-in-None-1) → HasNoHole (record { size = c.self.inside.size; subzones = c.self.inside.subzones; bytes = c.self.inside.bytes.items }) c.args.len c.args.subzone
none c =
    let i = c.self.inside in
    let there : c.args.subzone < i.subzones = subst (λ (v : AdminMap'). c.args.subzone < v.subzones) (sym c.self.view_is) c.requires.there in
    let k = cursor_in _ i.low.items i.first c.args.subzone c.args.len c.self.invariant there (omega (arith, c.requires.length)) in
    let from : c.index-from.result.now ≡ get_or i.low.items (c.args.subzone * 33 + c.args.len) 0 = get_or_read i.low.items _ _ k c.index-from.ensures 0 in
    let f : NoHoleWithin c.deref.result.now c.args.len (c.args.subzone * i.size + c.index-from.result.now) (c.args.subzone * i.size + i.size) = c.in-None.ensures in
    none_in _ i.low.items i.first c.args.subzone c.args.len c.self.invariant c.requires.length
    (subst (λ (x : ℕ). NoHoleWithin i.bytes.items c.args.len (c.args.subzone * i.size + x) (c.args.subzone * i.size + i.size)) from
    (subst (λ (xs : List ℕ). NoHoleWithin xs c.args.len (c.args.subzone * i.size + c.index-from.result.now) (c.args.subzone * i.size + i.size)) c.deref.ensures.value f))

pub invariant_of-self : goal.invariant_of-self
invariant_of-self c =
    let i = c.self.inside in
    let there : c.args.subzone < i.subzones = subst (λ (v : AdminMap'). c.args.subzone < v.subzones) (sym c.self.view_is) c.requires.there in
    low_set _ i.low.items i.first c.args.subzone c.args.len _ c.self.invariant there (omega (arith, c.requires.length)) (omega (arith, (first c).hole.0)) (first c).first

pub invariant_of-self-in-None : goal.invariant_of-self-in-None
invariant_of-self-in-None c =
    let i = c.self.inside in
    let there : c.args.subzone < i.subzones = subst (λ (v : AdminMap'). c.args.subzone < v.subzones) (sym c.self.view_is) c.requires.there in
    low_set _ i.low.items i.first c.args.subzone c.args.len i.size c.self.invariant there (omega (arith, c.requires.length)) (omega arith) (λ q l. none c q)

pub returns-in-Some-clause-found : goal.returns-in-Some-clause-found
returns-in-Some-clause-found c = subst (λ (v : AdminMap'). IsFirstIn v c.args.len c.args.subzone (c.in-Some.at - c.args.subzone * c.self.inside.size)) c.self.view_is (first c)

pub returns-in-None-clause-found : goal.returns-in-None-clause-found
returns-in-None-clause-found c = subst (λ (v : AdminMap'). HasNoHole v c.args.len c.args.subzone) c.self.view_is (none c)
