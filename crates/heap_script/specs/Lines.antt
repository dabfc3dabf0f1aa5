-- What a line of a script is
use Rattle.std.specs.Prelude.{◌≡◌, ◌≤◌, ◌==◌, ℕ, Bool, true, false, List, [], ◌∷◌, length, All, codes}
use Rattle.std.specs.Str.{IsUtf8}
use Rattle.az_base.specs.declared.numbers.TheConstants.{MOST_THREADS}
use Rattle.az_words.specs.Words.{words_of}
use Rattle.az_words.specs.Grammar.{IsNumberIn}
use Rattle.call_words.specs.declared.names.CallName.{CallName}
use Rattle.call_words.specs.Names.{name_text}
use Rattle.call_words.specs.Grammar.{AsksAt}
use Rattle.heap_script.specs.declared.entries.Entry.{Entry}
use Rattle.heap_script.specs.declared.entries.Entry.TheVariants as entry
use Rattle.heap_script.specs.declared.line.Line.{Line}
use Rattle.call_words.specs.declared.options.OptionName.{OptionName}
use Rattle.heap_script.specs.declared.setting.Setting.{Setting}
use Rattle.call_words.specs.Options.{option_text, least}
use Rattle.heap_script.specs.Settings.{largest, setting_to}

-- text of at most 8,192 bytes
pub record IsFit (line : List ℕ) : Type 0 where
  pub text : IsUtf8 line
  pub short : length line ≤ 8192

-- the words of a line that says nothing: there are none, or the first one begins with #
unfoldable pub is_skipped : List (List ℕ) → Bool
is_skipped [] = true
is_skipped ([] ∷ words) = false
is_skipped ((c ∷ word) ∷ words) = c == 35

-- a call line: a thread, a call, and its arguments; these words are left
pub record LineAt (words : List (List ℕ)) (line : Line) (left : List (List ℕ)) : Type 0 where
  pub first : List ℕ
  pub name : CallName
  pub others : List (List ℕ)
  pub spelled : words ≡ first ∷ name_text name ∷ others
  pub thread : IsNumberIn 1 MOST_THREADS first line.thread
  pub asks : AsksAt 8 name others line.act left

-- a call line, and no more
abbrev pub IsLine : List (List ℕ) → Line → Type 0
IsLine words line = LineAt words line []

-- an option, a number in its range, and these words are left
abbrev pub SettingAt : List (List ℕ) → Setting → List (List ℕ) → Type 0
SettingAt words set left =
    (name : OptionName) × (number : List ℕ) × (n : ℕ) × (words ≡ option_text name ∷ number ∷ left) × IsNumberIn (least name) (largest name) number n × (set ≡ setting_to name n)

-- what the words of a line say, where a call line came before or none did; an option line stands before the first call line alone
abbrev pub IsEntry : Bool → List (List ℕ) → Entry → Type 0
IsEntry called words entry.Nothing = is_skipped words ≡ true
IsEntry called words (entry.Set set) = (called ≡ false) × (others : List (List ℕ)) × (words ≡ codes "option" ∷ others) × SettingAt others set []
IsEntry called words (entry.Call line) = (is_skipped words ≡ false) × IsLine words line

-- whether a call line came, once this line has come too
abbrev pub called_after : Bool → Entry → Bool
called_after called (entry.Call line) = true
called_after called e = called

-- the lines with these words say what stands at their place, where a call line came before or none did
abbrev pub AreEntries : Bool → List (List ℕ) → List Entry → Type 0
AreEntries called [] [] = Unit {0}
AreEntries called (line ∷ more) (e ∷ entries) = IsEntry called (words_of line) e × AreEntries (called_after called e) more entries
AreEntries called _ _ = ⊥

-- the lines of a text say this, line by line
pub record SayLines (text : List (List ℕ)) (entries : List Entry) : Type 0 where
  pub few : length text ≤ 65536
  pub fit : All IsFit text
  pub says : AreEntries false text entries
