use Rattle.std.proofs.Common.{◌<◌, ◌∙◌, arith}
use Rattle.quantum_space.proofs.AdminTables.{bit_5, bit_6}
use Rattle.quantum_space.proofs.admin.Admin.from_byte.Goals as goal

pub returns : goal.returns
returns c =
    let l : c.args.byte < 256 = omega arith in
    rw (c.shade_of.ensures, c.has.ensures ∙ bit_5 c.args.byte l, c.has-2.ensures ∙ bit_6 c.args.byte l)
