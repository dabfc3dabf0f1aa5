use Rattle.std.proofs.Common.{◌≡◌, ◌⊎◌, ◌+◌, ◌*◌, ◌<◌, ◌≤◌, max, sym, ap, subst, arith, refl, set, ◌∙◌}
use Rattle.block_layouts.specs.Layouts.{len_of}
use Rattle.quantum_space.specs.AdminMaps.{AdminMap', AllAre, IsFirstOf, SameOutside}
use Rattle.quantum_space.specs.Regions.{Region', IsPlaced, quanta_in, room_of, further_byte}
use Rattle.quantum_space.proofs.Placing.{hole_fresh, room_hole, some_quanta, region_placed, opens_where, room_after, words_inside, quanta_inside, Written, written, same_region, same_room}
use Rattle.quantum_space.proofs.region.Region.place.Goals as goal

pub unreachable-requires : goal.unreachable-requires
unreachable-requires c =
    let i = c.self.inside in
    let nq : c.quanta_in-quanta.result ≡ quanta_in i.width (len_of c.args.layout) = c.quanta_in-quanta.ensures ∙ ap (λ n. quanta_in i.width n) c.len.ensures.value in
    let few : quanta_in i.width (len_of c.args.layout) ≤ 32 = subst (λ (v : Region'). quanta_in v.width (len_of c.args.layout) ≤ 32) (sym c.self.view_is) c.requires.few in
    let room = subst (λ (v : Region'). quanta_in v.width (len_of c.args.layout) + 31 ≤ room_of v) (sym c.self.view_is) c.requires.room in
    room_hole _ c.quanta_in-quanta.result c.self.invariant (omega (arith, nq, some_quanta i.width (len_of c.args.layout))) (omega (arith, nq, few)) (omega (arith, nq, room)) c.in_default.ensures.found

pub overflow_mul-at-2 : goal.overflow_mul-at-2
overflow_mul-at-2 c =
    let i = c.self.inside in
    let nq : c.quanta_in-quanta.result ≡ quanta_in i.width (len_of c.args.layout) = c.quanta_in-quanta.ensures ∙ ap (λ n. quanta_in i.width n) c.len.ensures.value in
    let f : IsFirstOf i.map (quanta_in i.width (len_of c.args.layout)) (c.in-Some.subzone, c.in-Some.quantum) = subst (λ n. IsFirstOf i.map n (c.in-Some.subzone, c.in-Some.quantum)) nq c.in-Some.ensures.found in
    let size : c.size.result ≡ i.map.size = c.size.ensures ∙ ap (λ (m : AdminMap'). m.size) c.find.ensures.same in
    let at : c.in-Some.subzone * c.size.result + c.in-Some.quantum ≡ c.in-Some.subzone * i.map.size + c.in-Some.quantum = ap (λ x. c.in-Some.subzone * x + c.in-Some.quantum) size in
    let e = words_inside _ c.in-Some.subzone c.in-Some.quantum (c.in-Some.subzone * c.size.result + c.in-Some.quantum) (len_of c.args.layout) c.self.invariant f.there f.here.hole.0 at in
    omega (arith, e, i.words.ok.0, i.words.ok.1, i.words.small)

pub write_new-requires : goal.write_new-requires
write_new-requires c =
    let i = c.self.inside in
    let nq : c.quanta_in-quanta.result ≡ quanta_in i.width (len_of c.args.layout) = c.quanta_in-quanta.ensures ∙ ap (λ n. quanta_in i.width n) c.len.ensures.value in
    let f : IsFirstOf i.map (quanta_in i.width (len_of c.args.layout)) (c.in-Some.subzone, c.in-Some.quantum) = subst (λ n. IsFirstOf i.map n (c.in-Some.subzone, c.in-Some.quantum)) nq c.in-Some.ensures.found in
    let size : c.size.result ≡ i.map.size = c.size.ensures ∙ ap (λ (m : AdminMap'). m.size) c.find.ensures.same in
    let at : c.in-Some.subzone * c.size.result + c.in-Some.quantum ≡ c.in-Some.subzone * i.map.size + c.in-Some.quantum = ap (λ x. c.in-Some.subzone * x + c.in-Some.quantum) size in
    words_inside _ c.in-Some.subzone c.in-Some.quantum (c.in-Some.subzone * c.size.result + c.in-Some.quantum) (len_of c.args.layout) c.self.invariant f.there f.here.hole.0 at

pub invariant_of-self : goal.invariant_of-self
invariant_of-self c =
    let i = c.self.inside in
    let l = c.args.layout in
    let k = c.in-Some.subzone * c.size.result + c.in-Some.quantum in
    let nq : c.quanta_in-quanta.result ≡ quanta_in i.width (len_of l) = c.quanta_in-quanta.ensures ∙ ap (λ n. quanta_in i.width n) c.len.ensures.value in
    let few : quanta_in i.width (len_of l) ≤ 32 = subst (λ (v : Region'). quanta_in v.width (len_of l) ≤ 32) (sym c.self.view_is) c.requires.few in
    let f : IsFirstOf i.map (quanta_in i.width (len_of l)) (c.in-Some.subzone, c.in-Some.quantum) = subst (λ n. IsFirstOf i.map n (c.in-Some.subzone, c.in-Some.quantum)) nq c.in-Some.ensures.found in
    let size : c.size.result ≡ i.map.size = c.size.ensures ∙ ap (λ (m : AdminMap'). m.size) c.find.ensures.same in
    let at : k ≡ c.in-Some.subzone * i.map.size + c.in-Some.quantum = ap (λ x. c.in-Some.subzone * x + c.in-Some.quantum) size in
    let inside = quanta_inside _ c.in-Some.subzone c.in-Some.quantum k (len_of l) c.self.invariant f.there f.here.hole.0 at in
    let v : Written i.map c.fill.new.self k (k + c.quanta_in-quanta.result) =
    written i.map c.find.new.self c.set.new.self c.fill.new.self k (k + c.quanta_in-quanta.result) c.find.ensures.same c.set.ensures c.fill.ensures.changed c.fill.ensures.inside
    (omega (arith, inside, some_quanta i.width (len_of l))) (omega (arith, nq, some_quanta i.width (len_of l))) in
    same_region _ _ _ _ _ _ _ i.width _ c.max-self-inside.result _ c.max-self-inside-2.result v.is refl c.put.ensures c.max-self-inside.ensures (c.max-self-inside-2.ensures ∙ ap (λ n. max i.top (k + n)) nq)
    (region_placed _ c.self.invariant c.args.id l (c.in-Some.subzone, c.in-Some.quantum) k c.fill.new.self.bytes c.write_new.new.words.items f at few v.count c.write_new.ensures.length v.new
    (subst (λ n. AllAre c.fill.new.self.bytes (k + 1) (k + n) further_byte) nq v.further) (subst (λ n. SameOutside i.map.bytes c.fill.new.self.bytes k (k + n)) nq v.same))

pub returns-clause-placed : goal.returns-clause-placed
returns-clause-placed c =
    let i = c.self.inside in
    let l = c.args.layout in
    let k = c.in-Some.subzone * c.size.result + c.in-Some.quantum in
    let nq : c.quanta_in-quanta.result ≡ quanta_in i.width (len_of l) = c.quanta_in-quanta.ensures ∙ ap (λ n. quanta_in i.width n) c.len.ensures.value in
    let few : quanta_in i.width (len_of l) ≤ 32 = subst (λ (v : Region'). quanta_in v.width (len_of l) ≤ 32) (sym c.self.view_is) c.requires.few in
    let f : IsFirstOf i.map (quanta_in i.width (len_of l)) (c.in-Some.subzone, c.in-Some.quantum) = subst (λ n. IsFirstOf i.map n (c.in-Some.subzone, c.in-Some.quantum)) nq c.in-Some.ensures.found in
    let size : c.size.result ≡ i.map.size = c.size.ensures ∙ ap (λ (m : AdminMap'). m.size) c.find.ensures.same in
    let at : k ≡ c.in-Some.subzone * i.map.size + c.in-Some.quantum = ap (λ x. c.in-Some.subzone * x + c.in-Some.quantum) size in
    let inside = quanta_inside _ c.in-Some.subzone c.in-Some.quantum k (len_of l) c.self.invariant f.there f.here.hole.0 at in
    let v : Written i.map c.fill.new.self k (k + c.quanta_in-quanta.result) =
    written i.map c.find.new.self c.set.new.self c.fill.new.self k (k + c.quanta_in-quanta.result) c.find.ensures.same c.set.ensures c.fill.ensures.changed c.fill.ensures.inside
    (omega (arith, inside, some_quanta i.width (len_of l))) (omega (arith, nq, some_quanta i.width (len_of l))) in
    let r : Region' = record { map = i.map; ids = i.ids.items; layouts = i.layouts.items; words = i.words.items; width = i.width; opened = i.opened; top = i.top } in
    let new : Region' = record { map = c.fill.new.self; ids = set i.ids.items k c.args.id; layouts = c.put.new.layouts.items; words = c.write_new.new.words.items; width = i.width; opened = c.max-self-inside.result; top = c.max-self-inside-2.result } in
    let further : AllAre c.fill.new.self.bytes (k + 1) (k + quanta_in i.width (len_of l)) further_byte = subst (λ n. AllAre c.fill.new.self.bytes (k + 1) (k + n) further_byte) nq v.further in
    let same : SameOutside i.map.bytes c.fill.new.self.bytes k (k + quanta_in i.width (len_of l)) = subst (λ n. SameOutside i.map.bytes c.fill.new.self.bytes k (k + n)) nq v.same in
    let p : IsPlaced r new c.args.id l (c.in-Some.subzone, c.in-Some.quantum) k = record {
      hole = f;
      place = at;
      inside = omega (arith, inside, c.self.invariant.layouts, some_quanta i.width (len_of l));
      fresh = hole_fresh r (quanta_in i.width (len_of l)) (c.in-Some.subzone, c.in-Some.quantum) k c.self.invariant (some_quanta i.width (len_of l)) f at;
      opens = subst (λ o. ((c.in-Some.subzone < i.opened) × (o ≡ i.opened)) ⊎ ((c.in-Some.subzone ≡ i.opened) × (c.in-Some.quantum ≡ 0) × (o ≡ i.opened + 1))) (sym c.max-self-inside.ensures)
          (opens_where r c.self.invariant c.args.id l (c.in-Some.subzone, c.in-Some.quantum) k c.fill.new.self.bytes c.write_new.new.words.items f at few v.count c.write_new.ensures.length v.new further same);
      map = v.is;
      width = refl;
      ids = refl;
      layouts = c.put.ensures;
      first = v.new;
      further = further;
      bytes = same;
      words = c.write_new.ensures.new;
      others = c.write_new.ensures.others;
    } in
    subst (λ (x : Region'). IsPlaced x new c.args.id l (c.in-Some.subzone, c.in-Some.quantum) (c.in-Some.subzone * x.map.size + c.in-Some.quantum)) c.self.view_is
    (subst (λ x. IsPlaced r new c.args.id l (c.in-Some.subzone, c.in-Some.quantum) x) at p)

pub returns-clause-room : goal.returns-clause-room
returns-clause-room c =
    let i = c.self.inside in
    let l = c.args.layout in
    let k = c.in-Some.subzone * c.size.result + c.in-Some.quantum in
    let nq : c.quanta_in-quanta.result ≡ quanta_in i.width (len_of l) = c.quanta_in-quanta.ensures ∙ ap (λ n. quanta_in i.width n) c.len.ensures.value in
    let few : quanta_in i.width (len_of l) ≤ 32 = subst (λ (v : Region'). quanta_in v.width (len_of l) ≤ 32) (sym c.self.view_is) c.requires.few in
    let f : IsFirstOf i.map (quanta_in i.width (len_of l)) (c.in-Some.subzone, c.in-Some.quantum) = subst (λ n. IsFirstOf i.map n (c.in-Some.subzone, c.in-Some.quantum)) nq c.in-Some.ensures.found in
    let size : c.size.result ≡ i.map.size = c.size.ensures ∙ ap (λ (m : AdminMap'). m.size) c.find.ensures.same in
    let at : k ≡ c.in-Some.subzone * i.map.size + c.in-Some.quantum = ap (λ x. c.in-Some.subzone * x + c.in-Some.quantum) size in
    let inside = quanta_inside _ c.in-Some.subzone c.in-Some.quantum k (len_of l) c.self.invariant f.there f.here.hole.0 at in
    let v : Written i.map c.fill.new.self k (k + c.quanta_in-quanta.result) =
    written i.map c.find.new.self c.set.new.self c.fill.new.self k (k + c.quanta_in-quanta.result) c.find.ensures.same c.set.ensures c.fill.ensures.changed c.fill.ensures.inside
    (omega (arith, inside, some_quanta i.width (len_of l))) (omega (arith, nq, some_quanta i.width (len_of l))) in
    let r : Region' = record { map = i.map; ids = i.ids.items; layouts = i.layouts.items; words = i.words.items; width = i.width; opened = i.opened; top = i.top } in
    let further : AllAre c.fill.new.self.bytes (k + 1) (k + quanta_in i.width (len_of l)) further_byte = subst (λ n. AllAre c.fill.new.self.bytes (k + 1) (k + n) further_byte) nq v.further in
    let same : SameOutside i.map.bytes c.fill.new.self.bytes k (k + quanta_in i.width (len_of l)) = subst (λ n. SameOutside i.map.bytes c.fill.new.self.bytes k (k + n)) nq v.same in
    let left = room_after r c.self.invariant c.args.id l (c.in-Some.subzone, c.in-Some.quantum) k c.fill.new.self.bytes c.write_new.new.words.items f at few v.count c.write_new.ensures.length v.new further same in
    subst (λ (x : Region'). room_of x ≤ room_of (record { map = c.fill.new.self; ids = set i.ids.items k c.args.id; layouts = c.put.new.layouts.items; words = c.write_new.new.words.items; width = i.width; opened = c.max-self-inside.result; top = c.max-self-inside-2.result }) + quanta_in x.width (len_of l)) c.self.view_is
    (same_room (room_of r) (quanta_in i.width (len_of l)) _ c.fill.new.self _ c.max-self-inside.result _ c.max-self-inside-2.result v.is c.max-self-inside.ensures (c.max-self-inside-2.ensures ∙ ap (λ n. max i.top (k + n)) nq) left)
