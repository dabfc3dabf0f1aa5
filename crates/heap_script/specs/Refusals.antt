-- What each cause says of a line that is refused
use Rattle.std.specs.Prelude.{◌≡◌, ◌≤◌, ◌<◌, ℕ, Bool, true, false, List, [], ◌∷◌, length, Option, Some, None, codes, if◌then◌else◌}
use Rattle.std.specs.Str.{IsUtf8, bytes_eq}
use Rattle.az_base.specs.declared.numbers.TheConstants.{MOST_THREADS}
use Rattle.az_words.specs.Words.{words_of}
use Rattle.az_words.specs.Grammar.{IsNumberIn}
use Rattle.call_words.specs.declared.names.CallName.{CallName}
use Rattle.call_words.specs.Names.{name_text}
use Rattle.heap_script.specs.declared.cause.Cause.{Cause}
use Rattle.heap_script.specs.declared.cause.Cause.TheVariants.{NotText, LineTooLong, TooManyLines, NoThread, NoCall, WrongArgument, TooManyArguments}
use Rattle.heap_script.specs.declared.line.Line.{Line}
use Rattle.call_words.specs.declared.options.OptionName.{OptionName}
use Rattle.heap_script.specs.declared.setting.Setting.{Setting}
use Rattle.call_words.specs.Options.{option_text}
use Rattle.heap_script.specs.Lines.{IsFit, is_skipped, LineAt, SettingAt}

-- the first word is a thread
abbrev pub HasThread : List (List ℕ) → Type 0
HasThread words = (first : List ℕ) × (others : List (List ℕ)) × (n : ℕ) × (words ≡ first ∷ others) × IsNumberIn 1 MOST_THREADS first n

-- the first word is a thread, and the second one names a call
abbrev pub HasCall : List (List ℕ) → Type 0
HasCall words =
    (first : List ℕ) × (others : List (List ℕ)) × (name : CallName) × (n : ℕ) × (words ≡ first ∷ name_text name ∷ others) × IsNumberIn 1 MOST_THREADS first n

-- what a call line lacks where it has this cause
abbrev pub LineCause : List (List ℕ) → Cause → Type 0
LineCause words NoThread = ¬ HasThread words
LineCause words NoCall = HasThread words × ¬ HasCall words
LineCause words WrongArgument = HasCall words × ((line : Line) (left : List (List ℕ)) → ¬ LineAt words line left)
LineCause words TooManyArguments = (line : Line) × (word : List ℕ) × (others : List (List ℕ)) × LineAt words line (word ∷ others)
LineCause words _ = ⊥

-- the first word names an option
abbrev pub NamesOption : List (List ℕ) → Type 0
NamesOption words = (name : OptionName) × (others : List (List ℕ)) × (words ≡ option_text name ∷ others)

-- what the words after option lack where they have this cause
abbrev pub SettingCause : List (List ℕ) → Cause → Type 0
SettingCause words NoCall = ¬ NamesOption words
SettingCause words WrongArgument = NamesOption words × ((set : Setting) (left : List (List ℕ)) → ¬ SettingAt words set left)
SettingCause words TooManyArguments = (set : Setting) × (word : List ℕ) × (others : List (List ℕ)) × SettingAt words set (word ∷ others)
SettingCause words _ = ⊥

-- the words after option, where it begins the words
abbrev pub option_words : List (List ℕ) → Option (List (List ℕ))
option_words [] = None
option_words (first ∷ others) = if bytes_eq first (codes "option") then Some others else None

-- the words after option, where the words are those of an option line: no call line came before
unfoldable pub after_option : Bool → List (List ℕ) → Option (List (List ℕ))
after_option false words = option_words words
after_option true words = None

-- what the words lack where they have this cause: those of an option line where some stand after option, and else those of a call line
abbrev pub CauseBy : List (List ℕ) → Option (List (List ℕ)) → Cause → Type 0
CauseBy words (Some others) cause = SettingCause others cause
CauseBy words None cause = LineCause words cause

-- the line of a number is no comment, and nothing is wrong with it as a whole
pub record SaysWords (n : ℕ) (line : List ℕ) : Type 0 where
  pub fit : IsFit line
  pub few : n ≤ 65536
  pub says : is_skipped (words_of line) ≡ false

-- where each cause stands as the first one of the line of a number, where a call line came before or none did
abbrev pub HasCause : ℕ → Bool → List ℕ → Cause → Type 0
HasCause n called line NotText = ¬ IsUtf8 line
HasCause n called line LineTooLong = IsUtf8 line × (8192 < length line)
HasCause n called line TooManyLines = IsFit line × (65536 < n)
HasCause n called line cause = SaysWords n line × CauseBy (words_of line) (after_option called (words_of line)) cause

-- why a text is no script: the first line that has a cause, counted from 1, and its first cause
pub record Refusal : Type 0 where
  pub cause : Cause
  pub line : ℕ
