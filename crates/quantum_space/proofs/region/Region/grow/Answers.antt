use Rattle.std.proofs.Common.{◌≡◌, ◌+◌, ◌*◌, ◌∙◌, ap, length, get_or, List, Option, None}
use Rattle.az_base.specs.declared.block_id.BlockId.{BlockId}
use Rattle.quantum_space.specs.declared.placed.PlacedWord.{PlacedWord}
use Rattle.block_layouts.specs.declared.layout.Layout.{Layout}
use Rattle.quantum_space.proofs.Placing.{region_grown}
use Rattle.quantum_space.proofs.region.Region.grow.Goals as goal

pub invariant_of-self-2 : goal.invariant_of-self-2
invariant_of-self-2 c =
    let i = c.self.inside in
    let size : c.size-size.result ≡ i.map.size = c.size-size.ensures in
    region_grown _ c.grow.new.self c.append.new.list.items c.append_none.new.layouts.items c.append-2.new.list.items c.self.invariant c.in-Ok.ensures.ok
    (c.append.ensures.length ∙ ap (λ (xs : List BlockId). length xs + c.size-size.result) c.reserve.ensures.items ∙ ap (λ n. length i.ids.items + n) size)
    (c.append_none.ensures.length ∙ ap (λ (xs : List (Option Layout)). length xs + c.size-size.result) c.reserve-2.ensures.items ∙ ap (λ n. length i.layouts.items + n) size)
    (c.append-2.ensures.length ∙ ap (λ (xs : List PlacedWord). length xs + c.in-Some.words) c.reserve-3.ensures.items ∙ ap (λ n. length i.words.items + n) (c.in-Some.ensures ∙ ap (λ n. n * i.width) size))
    (λ k. c.append_none.ensures.same k ∙ ap (λ (xs : List (Option Layout)). get_or xs k None) c.reserve-2.ensures.items)
