use Rattle.std.proofs.Common.{[]}
use Rattle.std.specs.Io.KnownBytes.{Appends}
use Rattle.az_outside.specs.Patience.{WereInterrupted}
use Rattle.az_outside.proofs.tries.write_patiently.Given as goal

abbrev pub invariant-tries : goal.invariant-tries
invariant-tries g l = Appends (g.W.WriteOnce.contents l.initial.writer) (g.W.WriteOnce.contents l.writer) []
    × WereInterrupted g.W.WriteOnce.tried l.times l.initial.writer l.writer
