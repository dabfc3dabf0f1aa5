-- The numbers of the statuses, and what stops a command
use Rattle.std.specs.Prelude.{ℕ}
use Rattle.az_outside.specs.declared.reading.ReadAll.{ReadAll}
use Rattle.az_outside.specs.declared.reading.ReadAll.TheVariants as reads
use Rattle.heap_script.specs.declared.cause.ScriptErr.{ScriptErr}
use Rattle.heap_script.specs.declared.cause.ScriptErr.TheVariants as parses
use Rattle.zone_commands.specs.declared.status.Status.{Status}
use Rattle.zone_commands.specs.declared.status.Status.TheVariants as status
use Rattle.zone_commands.specs.declared.status.Stop.{Stop}
use Rattle.zone_commands.specs.declared.status.Stop.TheVariants as stops

-- the exit status
abbrev pub status_number : Status → ℕ
status_number status.Done = 0
status_number status.ScriptRefused = 1
status_number status.Usage = 2
status_number status.ReadFault = 3
status_number status.WriteFault = 4
status_number status.NoMemory = 5
status_number status.TooLong = 6

-- why reading a source stops a command
abbrev pub stop_of_read : ReadAll → Stop
stop_of_read reads.Fault = stops.ReadFault
stop_of_read reads.TooLong = stops.TooLong
stop_of_read reads.NoMemory = stops.NoMemory

-- why parsing stops a command
abbrev pub stop_of_parse : ScriptErr → Stop
stop_of_parse (parses.Refused cause line) = stops.Refused cause line
stop_of_parse parses.NoMemory = stops.NoMemory
