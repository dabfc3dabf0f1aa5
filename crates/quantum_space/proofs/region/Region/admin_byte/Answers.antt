use Rattle.std.proofs.Common.{arith, ap, ◌≡◌, ◌*◌}
use Rattle.quantum_space.proofs.Cursors.{row_after}
use Rattle.quantum_space.proofs.region.Region.admin_byte.Goals as goal

pub byte-requires : goal.byte-requires
byte-requires c =
    let i = c.self.inside in
    let e : c.size-size.result ≡ i.map.size = c.size-size.ensures in
    omega (arith, e, ap (λ n. c.args.subzone * n) e, row_after i.map.size c.args.subzone i.map.subzones (omega (arith, c.self.invariant.enough)), c.self.invariant.sized)
