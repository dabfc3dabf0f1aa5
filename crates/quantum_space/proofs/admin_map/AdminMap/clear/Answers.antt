use Rattle.std.proofs.Common.{subst, sym, arith, ◌<◌, ◌≤◌, ◌+◌}
use Rattle.quantum_space.specs.AdminMaps.{AdminMap'}
use Rattle.quantum_space.proofs.Cursors.{byte_in, cursors_freed}
use Rattle.quantum_space.proofs.admin_map.AdminMap.clear.Goals as goal

pub lower_in-requires-clause-within : goal.lower_in-requires-clause-within
lower_in-requires-clause-within c =
    let i = c.self.inside in
    let there : c.args.subzone < i.subzones = subst (λ (v : AdminMap'). c.args.subzone < v.subzones) (sym c.self.view_is) c.requires.there in
    let within : c.args.quantum + c.args.len ≤ i.size = subst (λ (v : AdminMap'). c.args.quantum + c.args.len ≤ v.size) (sym c.self.view_is) c.requires.within in
    let b = byte_in _ i.low.items i.first c.args.subzone c.self.invariant there in
    omega (arith, b, within, i.bytes.ok.0, i.bytes.ok.1, i.bytes.small)

pub invariant_of-self : goal.invariant_of-self
invariant_of-self c =
    let i = c.self.inside in
    let within : c.args.quantum + c.args.len ≤ i.size = subst (λ (v : AdminMap'). c.args.quantum + c.args.len ≤ v.size) (sym c.self.view_is) c.requires.within in
    cursors_freed _ c.zero.new.bytes.items i.low.items i.first c.lower_in.new.low.items c.lower_to.new.first c.args.subzone c.args.quantum c.args.len c.self.invariant within
    c.zero.ensures.length c.zero.ensures.outside c.lower_in.ensures.length c.lower_in.ensures.lower c.lower_in.ensures.back c.lower_to.ensures.lower c.lower_to.ensures.back
