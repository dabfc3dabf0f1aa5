-- What was read is what the text is found to be.
use Rattle.std.proofs.Common.{ℕ, List, Result, Ok, Err}
use Rattle.heap_script.specs.declared.cause.ScriptErr.{ScriptErr}
use Rattle.heap_script.specs.declared.cause.ScriptErr.TheVariants as errors
use Rattle.heap_script.specs.declared.script.Script.{Script}
use Rattle.heap_script.specs.Scripts.{Parses}
use Rattle.heap_script.specs.Laws.{ScriptsAreRead, ScriptsAreRefused}
use Rattle.heap_script.specs.Reading.Scripts.{IsRead}

pub found : (scripts : ScriptsAreRead) → (refusals : ScriptsAreRefused) → (bytes : List ℕ) (result : Result Script ScriptErr) → IsRead bytes result → Parses bytes result
found scripts refusals bytes (Ok script) h = (scripts bytes script).0 h
found scripts refusals bytes (Err (errors.Refused cause line)) h = (refusals bytes (record { cause = cause; line = line })).0 h
found scripts refusals bytes (Err errors.NoMemory) h = tt
