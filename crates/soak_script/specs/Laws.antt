-- What is known of each generated script
use Rattle.std.specs.Prelude.{ℕ}
use Rattle.heap_script.specs.Scripts.{CanBePlayed}
use Rattle.soak_script.specs.Generated.{soak_script}

-- a generated script can be played
abbrev pub SoakScriptsCanBePlayed : Type 0
SoakScriptsCanBePlayed = (start calls : ℕ) → CanBePlayed (soak_script start calls)
