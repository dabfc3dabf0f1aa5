-- The generated script: a generator of numbers modulo 2 ^ 64, and the call that each of its numbers says
use Rattle.std.specs.Prelude.{ℕ, zero, suc, ◌+◌, ◌*◌, ◌/◌, ◌%◌, ◌^◌, ◌==◌, nat_lt, List, [], ◌∷◌, ◌++◌, if◌then◌else◌}
use Rattle.az_base.specs.declared.action.Mode.TheVariants as mode
use Rattle.az_base.specs.declared.word.Class.TheVariants as class
use Rattle.az_base.specs.OptionRanges.{usual_options}
use Rattle.block_layouts.specs.declared.layout.Shape.TheVariants as shape
use Rattle.zone_model.specs.declared.act.Act.{Act}
use Rattle.zone_model.specs.declared.act.Act.TheVariants as act
use Rattle.zone_model.specs.declared.call.Call.{Call}
use Rattle.zone_model.specs.declared.call.Call.TheVariants as call
use Rattle.zone_model.specs.declared.call.Loc.TheVariants as loc
use Rattle.heap_script.specs.declared.line.Line.{Line}
use Rattle.heap_script.specs.declared.script.Script.{Script}

-- the number after x
unfoldable pub next_number : ℕ → ℕ
next_number x = (x * 6364136223846793005 + 1442695040888963407) % 2 ^ 64

-- the n-th number after the start
abbrev pub number_after : ℕ → ℕ → ℕ
number_after start zero = start
number_after start (suc n) = next_number (number_after start n)

-- four bits of x, the lowest of which is the one of this place
abbrev pub bits_at : ℕ → ℕ → ℕ
bits_at place x = x / 2 ^ place % 16

-- an object of two Strong words, a Weak one and a Plain one
abbrev pub new_object : ℕ → Call
new_object to = call.New to (shape.Object (class.Strong ∷ class.Strong ∷ class.Weak ∷ class.Plain ∷ [])) []

-- the last call: each collection, or the statistics
abbrev pub collection_by : ℕ → Act
collection_by c =
    if c == 0 then act.Call call.CollectLocal
    else if c == 1 then act.Collect mode.Young
    else if c == 2 then act.Collect mode.Full
    else act.Call call.Stats

-- the call that a number below 16 chooses, over registers a and b, and c as a root, a weak root, a key or a place
abbrev pub call_by : ℕ → ℕ → ℕ → ℕ → Call
call_by choice a b c =
    if nat_lt choice 4 then new_object a
    else if nat_lt choice 6 then call.Store a (c % 2) b
    else if choice == 6 then call.Load a b (c % 2)
    else if choice == 7 then call.SetRoot (record { 0 = c }) a
    else if choice == 8 then call.GetRoot a (record { 0 = c })
    else if choice == 9 then call.DropReg a
    else if choice == 10 then call.Copy a b
    else if choice == 11 then call.SetWeak (loc.Root (record { 0 = c })) a
    else if choice == 12 then call.ReadWeak a (loc.Root (record { 0 = c }))
    else if choice == 13 then call.SetAssoc a (record { 0 = c }) b
    else if nat_lt c 2 then call.Retain a
    else call.Release a

-- what the choice asks for
abbrev pub act_by : ℕ → ℕ → ℕ → ℕ → Act
act_by choice a b c = if choice == 15 then collection_by c else act.Call (call_by choice a b c)

-- the line that a number says: its thread, 1 to 4, by the highest bits
unfoldable pub line_by : ℕ → Line
line_by x = record {
  thread = 1 + bits_at 60 x % 4;
  act = act_by (bits_at 52 x) (bits_at 48 x % 4) (bits_at 44 x % 4) (bits_at 40 x % 4);
}

-- the first n lines
abbrev pub lines_after : ℕ → ℕ → List Line
lines_after start zero = []
lines_after start (suc n) = lines_after start n ++ line_by (number_after start (suc n)) ∷ []

-- the generated script of so many calls
abbrev pub soak_script : ℕ → ℕ → Script
soak_script start calls = record { options = usual_options; lines = lines_after start calls }
