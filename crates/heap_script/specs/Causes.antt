-- The names of causes, and errors of lines as those of scripts
use Rattle.std.specs.Prelude.{List, ℕ, codes}
use Rattle.call_words.specs.declared.argument_err.ArgumentErr.{ArgumentErr}
use Rattle.call_words.specs.declared.argument_err.ArgumentErr.TheVariants as arguments
use Rattle.heap_script.specs.declared.cause.Cause.{Cause}
use Rattle.heap_script.specs.declared.cause.LineErr.{LineErr}
use Rattle.heap_script.specs.declared.cause.LineErr.TheVariants as lines
use Rattle.heap_script.specs.declared.cause.ScriptErr.{ScriptErr}
use Rattle.heap_script.specs.declared.cause.ScriptErr.TheVariants as scripts
use Rattle.heap_script.specs.declared.cause.Cause.TheVariants.{NotText, LineTooLong, TooManyLines, NoThread, NoCall, WrongArgument, TooManyArguments}

-- how messages name a cause
abbrev pub cause_text : Cause → List ℕ
cause_text NotText = codes "NotText"
cause_text LineTooLong = codes "LineTooLong"
cause_text TooManyLines = codes "TooManyLines"
cause_text NoThread = codes "NoThread"
cause_text NoCall = codes "NoCall"
cause_text WrongArgument = codes "WrongArgument"
cause_text TooManyArguments = codes "TooManyArguments"

-- the error of a line whose arguments have this one
abbrev pub line_err : ArgumentErr → LineErr
line_err arguments.Wrong = lines.Cause WrongArgument
line_err arguments.NoMemory = lines.NoMemory

-- the error of a script in which the line of this number has this one
abbrev pub err_at : ℕ → LineErr → ScriptErr
err_at n (lines.Cause cause) = scripts.Refused cause n
err_at n lines.NoMemory = scripts.NoMemory
