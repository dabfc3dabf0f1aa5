use Rattle.std.proofs.Common.{Result, Ok, Err, OnOk, OnErr}
use Rattle.local_set.specs.LocalSets.{LocalSet}
use Rattle.zone_escape.specs.Cores.{CoreShown, IsCore, BelongsTo}
use Rattle.zone_escape.specs.Publications.{Flushed, Untouched}
use Rattle.zone_escape_tests.specs.Turns.{Turned}
use Rattle.zone_escape_tests.proofs.Taken.{flushed, untouched}
use Rattle.zone_escape_tests.proofs.turns.publishes.Goals as goal

either : {T E : Type 0} (r : Result T E) (l m : LocalSet) (k n : CoreShown) → IsCore k → IsCore n → BelongsTo l k → OnOk r (Flushed l m k n) → OnErr r (Untouched l m k n) → Turned l m k n
either (Ok v) l m k n before after belongs f u = flushed l m k n before after f
either (Err e) l m k n before after belongs f u = untouched l m k n before after belongs u

pub returns : goal.returns
returns c = either c.flush.result c.args.local.now c.flush.new.local c.args.core.now c.flush.new.core c.requires.state c.flush.ensures.state c.requires.belongs c.flush.ensures.ok c.flush.ensures.err
