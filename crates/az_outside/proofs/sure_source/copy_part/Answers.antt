use Rattle.std.proofs.Common.{arith}
use Rattle.az_outside.proofs.Taking.{given_part}
use Rattle.az_outside.proofs.sure_source.copy_part.Goals as goal

pub returns-clause-copied : goal.returns-clause-copied
returns-clause-copied c =
    given_part c.args.bytes.now c.copy_from_slice.new.self c.args.buf.now c.args.at c.min-count.result c.copy_from_slice.ensures.after (omega arith)
