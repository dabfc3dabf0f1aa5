-- The words of the command line, and what they ask for
use Rattle.std.specs.Prelude.{◌≡◌, ◌≤◌, ◌<◌, ◌==◌, ◌&&◌, ◌^◌, ℕ, Bool, true, false, List, [], ◌∷◌, length, Option, Some, None, is_some, codes, nat_lt, nat_le, if◌then◌else◌}
use Rattle.std.specs.Char.{digit_value}
use Rattle.std.specs.List.{list_all}
use Rattle.std.specs.Str.{bytes_eq}
use Rattle.std.specs.Str.Parse.{IsNumeral, digits_value, without_leading_plus}
use Rattle.clap.specs.Words.{App, first_value, found_of, new_app, new_rule, with_rule}
use Rattle.clap.specs.declared.parser.matches.ArgMatches.{ArgMatches}
use Rattle.zone_commands.specs.declared.words.Command.{Command}
use Rattle.zone_commands.specs.declared.words.Command.TheVariants as commands

-- one decimal digit or more, and nothing else
abbrev pub are_digits : List ℕ → Bool
are_digits text = nat_lt 0 (length text) && list_all (λ c. nat_lt (digit_value c) 10) text

-- the number of 64 bits that digits write
abbrev pub number_by : List ℕ → Option ℕ
number_by digits = if are_digits digits && nat_lt (digits_value 10 digits) (2 ^ 64) then Some (digits_value 10 digits) else None

-- the number that a word is: decimal digits, after a plus or none
unfoldable pub number_of : List ℕ → Option ℕ
number_of word = number_by (without_leading_plus word)

-- a generated script has from 1 to 65,536 calls
abbrev pub soak_by : Option ℕ → Option ℕ → Option Command
soak_by (Some start) (Some calls) = if nat_le 1 calls && nat_le calls 65536 then Some (commands.Soak start calls) else None
soak_by _ _ = None

-- what a command word asks for alone
abbrev pub script_by : List ℕ → Option Command
script_by word = if bytes_eq word (codes "play") then Some commands.Play else (if bytes_eq word (codes "run") then Some commands.Run else None)

-- what a command word asks for with up to two arguments
abbrev pub command_by : List ℕ → List (List ℕ) → Option Command
command_by word [] = script_by word
command_by word (start ∷ calls ∷ []) = if bytes_eq word (codes "soak") then soak_by (number_of start) (number_of calls) else None
command_by word _ = None

-- what words ask for; None where they are no command
abbrev pub asked : List (List ℕ) → Option Command
asked [] = None
asked (word ∷ arguments) = command_by word arguments

-- a command word with its arguments, as words
abbrev pub arguments_of : List ℕ → Option (List ℕ) → Option (List ℕ) → List (List ℕ)
arguments_of word None None = word ∷ []
arguments_of word (Some first) None = word ∷ first ∷ []
arguments_of word None (Some second) = word ∷ second ∷ []
arguments_of word (Some first) (Some second) = word ∷ first ∷ second ∷ []

-- the word is this number of 64 bits, as Rust reads it: decimal digits, one or more, after a plus or none
pub record IsNumber (word : List ℕ) (n : ℕ) : Type 0 where
  pub digits : IsNumeral 10 (without_leading_plus word)
  pub value : n ≡ digits_value 10 (without_leading_plus word)
  pub small : n < 2 ^ 64

-- the words are this command, said apart from how that is found
abbrev pub AsksFor : List (List ℕ) → Command → Type 0
AsksFor words commands.Play = words ≡ codes "play" ∷ []
AsksFor words commands.Run = words ≡ codes "run" ∷ []
AsksFor words (commands.Soak start calls) =
    (first : List ℕ) × (second : List ℕ) × (words ≡ codes "soak" ∷ first ∷ second ∷ []) × IsNumber first start × IsNumber second calls × (1 ≤ calls) × (calls ≤ 65536)

-- the words are a command
abbrev pub is_command : List (List ℕ) → Bool
is_command words = is_some (asked words)

-- the word begins with a dash
abbrev pub is_dashed : List ℕ → Bool
is_dashed [] = false
is_dashed (c ∷ word) = c == 45

-- a command whose words begin with no name of a program
abbrev pub unnamed : App
unnamed = record (new_app (codes "autozone")) { top = record (new_app (codes "autozone")).top { no_binary_name = true } }

-- the command line that is parsed: the command word and two optional arguments, by their places
unfoldable pub command_line : App
command_line = with_rule (with_rule (with_rule unnamed (new_rule (codes "command"))) (new_rule (codes "first"))) (new_rule (codes "second"))

-- the parse found this command word, and these arguments
pub record Finds (m : ArgMatches) (word : List ℕ) (one two : Option (List ℕ)) : Type 0 where
  pub command : first_value (found_of m) (codes "command") ≡ Some word
  pub first : first_value (found_of m) (codes "first") ≡ one
  pub second : first_value (found_of m) (codes "second") ≡ two
