-- What is read of a call, said by the grammar, and what is written of it
use Rattle.std.specs.Prelude.{◌≡◌, ◌↔◌, ℕ, List, Some}
use Rattle.az_words.specs.Words.{words_of}
use Rattle.zone_model.specs.declared.act.Act.{Act}
use Rattle.call_words.specs.declared.names.CallName.{CallName}
use Rattle.call_words.specs.declared.keywords.CollectName.{CollectName}
use Rattle.call_words.specs.declared.options.OptionName.{OptionName}
use Rattle.call_words.specs.Options.{option_text, option_of}
use Rattle.call_words.specs.Names.{name_text, name_of, collect_text, collect_of}
use Rattle.call_words.specs.Spacing.{spaced, ArePlain}
use Rattle.call_words.specs.Grammar.{NoAction, AsksAt}
use Rattle.call_words.specs.Words.{act_words}
use Rattle.call_words.specs.Ranges.{IsSpelledAct, ActFits, HasFewActions, IsNamed}
use Rattle.call_words.specs.Written.{IsAskedFor}
use Rattle.call_words.specs.Reading.Calls.{act_at}

-- a word names the call whose text it is, and else none
abbrev pub NamesAreRead : Type 0
NamesAreRead = (word : List ℕ) (name : CallName) → (name_of word ≡ Some name) ↔ (word ≡ name_text name)

-- a word names the kind of collection whose text it is, and else none
abbrev pub CollectNamesAreRead : Type 0
CollectNamesAreRead = (word : List ℕ) (kind : CollectName) → (collect_of word ≡ Some kind) ↔ (word ≡ collect_text kind)

-- a word names the option whose text it is, and else none
abbrev pub OptionNamesAreRead : Type 0
OptionNamesAreRead = (word : List ℕ) (name : OptionName) → (option_of word ≡ Some name) ↔ (word ≡ option_text name)

-- exactly the arguments of the grammar are read, each as what it says
abbrev pub ArgumentsAreRead : Type 0
ArgumentsAreRead = (most : ℕ) (name : CallName) (words : List (List ℕ)) (act : Act) (left : List (List ℕ)) → (act_at most name words ≡ Some (act, left)) ↔ AsksAt most name words act left

-- what the arguments of the grammar ask for is spelled as the grammar has it
abbrev pub ReadCallsAreSpelled : Type 0
ReadCallsAreSpelled = (most : ℕ) (name : CallName) (words : List (List ℕ)) (a : Act) (left : List (List ℕ)) → AsksAt most name words a left → IsSpelledAct a

-- what is written of a call asks for this call, before words that begin no action
abbrev pub WrittenCallsAreRead : Type 0
WrittenCallsAreRead = (most : ℕ) (a : Act) (left : List (List ℕ)) → ActFits a → IsNamed a → HasFewActions most a → NoAction left → IsAskedFor most a left

-- the words of a call are plain
abbrev pub WrittenCallsArePlain : Type 0
WrittenCallsArePlain = (a : Act) → ActFits a → ArePlain (act_words a)

-- plain words with single spaces between them are cut into the same words
abbrev pub SpacedWordsAreCut : Type 0
SpacedWordsAreCut = (words : List (List ℕ)) → ArePlain words → words_of (spaced words) ≡ words
