use Rattle.std.proofs.Common.{◌<◌, arith, ap, subst, sym, length}
use Rattle.quantum_space.specs.declared.spot.Kind.TheVariants as kind
use Rattle.block_space.specs.Tables.{Table', subzone_of}
use Rattle.block_space.proofs.Opening.{medium_pushed, length_end}
use Rattle.block_space.proofs.table.Table.open_medium.Goals as goal

pub invariant_of-self : goal.invariant_of-self
invariant_of-self c =
    let i = c.self.inside in
    let v = c.self.invariant in
    let room : 0 < i.room = subst (λ (v : Table'). 0 < v.room) (sym c.self.view_is) c.requires in (
      medium_pushed _ c.push_reserved.new.self.items c.push_reserved-2.new.self.items c.len-number.result c.len-index.result v.0 room (omega (arith, c.len-number.ensures, i.subzones.ok.0)) (omega (arith, c.len-index.ensures, i.medium.ok.0)) c.push_reserved.ensures.items c.push_reserved-2.ensures.items,
      omega (arith, length_end i.subzones.items (subzone_of kind.Medium c.len-index.result), ap length c.push_reserved.ensures.items, c.push_reserved.ensures.capacity, v.1, room),
      omega (arith, v.2, room),
      omega (arith, length_end i.medium.items c.len-number.result, ap length c.push_reserved-2.ensures.items, c.push_reserved-2.ensures.capacity, v.3, room),
    )
