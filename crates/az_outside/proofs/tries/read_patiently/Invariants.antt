use Rattle.std.specs.Io.KnownBytes.{Keeps}
use Rattle.az_outside.specs.Patience.{WereInterrupted}
use Rattle.az_outside.proofs.tries.read_patiently.Given as goal

abbrev pub invariant-tries : goal.invariant-tries
invariant-tries g l = Keeps (g.R.ReadOnce.left l.initial.reader) (g.R.ReadOnce.left l.reader)
    × WereInterrupted g.R.ReadOnce.tried l.times l.initial.reader l.reader
