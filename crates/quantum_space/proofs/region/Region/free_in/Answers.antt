use Rattle.std.proofs.Common.{◌≡◌, ◌+◌, ◌*◌, ◌<◌, ◌∙◌, refl, sym, subst, arith, ap, get_or, set, List, Option, Some, None, IfSome}
use Rattle.block_layouts.specs.declared.layout.Layout.{Layout}
use Rattle.block_layouts.specs.Layouts.{len_of}
use Rattle.quantum_space.specs.AdminMaps.{AllAre, SameOutside}
use Rattle.quantum_space.specs.Regions.{Region', HasBlock, quanta_in}
use Rattle.quantum_space.proofs.Placing.{block_inside, changed_map, ends_within, region_freed, same_region}
use Rattle.quantum_space.proofs.region.Region.free_in.Goals as goal

pub clear-requires-clause-within : goal.clear-requires-clause-within
clear-requires-clause-within c =
    let i = c.self.inside in
    let k = c.args.subzone * i.map.size + c.args.quantum in
    let size : c.size.result ≡ i.map.size = c.size.ensures in
    let at : c.args.subzone * c.size.result + c.args.quantum ≡ k = ap (λ n. c.args.subzone * n + c.args.quantum) size in
    let within : c.args.quantum < i.map.size = subst (λ (v : Region'). c.args.quantum < v.map.size) (sym c.self.view_is) c.requires.within in
    let b = block_inside _ k c.self.invariant (subst (λ (v : Region'). HasBlock v (c.args.subzone * v.map.size + c.args.quantum)) (sym c.self.view_is) c.requires.block) in
    let stored : get_or c.deref.result.now (c.args.subzone * c.size.result + c.args.quantum) None ≡ Some b.0 =
    ap (λ (xs : List (Option Layout)). get_or xs (c.args.subzone * c.size.result + c.args.quantum) None) c.deref.ensures.value ∙ ap (λ n. get_or i.layouts.items n None) at ∙ b.1 in
    let q : c.quanta_at-quanta.result ≡ quanta_in i.width (len_of b.0) = subst (λ (o : Option Layout). IfSome o (λ l. c.quanta_at-quanta.result ≡ quanta_in i.width (len_of l))) stored c.quanta_at-quanta.ensures in
    omega (arith, q, ends_within _ c.args.subzone c.args.quantum b.0 c.self.invariant within b.1)

pub invariant_of-self : goal.invariant_of-self
invariant_of-self c =
    let i = c.self.inside in
    let k = c.args.subzone * i.map.size + c.args.quantum in
    let size : c.size.result ≡ i.map.size = c.size.ensures in
    let at : c.args.subzone * c.size.result + c.args.quantum ≡ k = ap (λ n. c.args.subzone * n + c.args.quantum) size in
    let within : c.args.quantum < i.map.size = subst (λ (v : Region'). c.args.quantum < v.map.size) (sym c.self.view_is) c.requires.within in
    let b = block_inside _ k c.self.invariant (subst (λ (v : Region'). HasBlock v (c.args.subzone * v.map.size + c.args.quantum)) (sym c.self.view_is) c.requires.block) in
    let stored : get_or c.deref.result.now (c.args.subzone * c.size.result + c.args.quantum) None ≡ Some b.0 =
    ap (λ (xs : List (Option Layout)). get_or xs (c.args.subzone * c.size.result + c.args.quantum) None) c.deref.ensures.value ∙ ap (λ n. get_or i.layouts.items n None) at ∙ b.1 in
    let q : c.quanta_at-quanta.result ≡ quanta_in i.width (len_of b.0) = subst (λ (o : Option Layout). IfSome o (λ l. c.quanta_at-quanta.result ≡ quanta_in i.width (len_of l))) stored c.quanta_at-quanta.ensures in
    same_region _ c.clear.new.self _ i.ids.items _ c.put.new.layouts.items _ i.width _ i.opened _ i.top (changed_map i.map c.clear.new.self _ _ c.clear.ensures.changed) refl (c.put.ensures ∙ ap (λ n. set i.layouts.items n None) at) refl refl
    (region_freed _ c.self.invariant b.0 k c.clear.new.self.bytes b.1 c.clear.ensures.changed.count
    (subst (λ n. AllAre c.clear.new.self.bytes k (k + n) 0) q c.clear.ensures.inside) (subst (λ n. SameOutside i.map.bytes c.clear.new.self.bytes k (k + n)) q c.clear.ensures.changed.outside))
