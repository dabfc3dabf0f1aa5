-- A word names the option whose text it is, and these words are plain
use Rattle.std.proofs.Common.{◌≡◌, ℕ, List, [], ◌∷◌, Some, refl, arith}
use Rattle.az_words.proofs.NameLaws.{among_ok}
use Rattle.call_words.specs.declared.options.OptionName.{OptionName}
use Rattle.call_words.specs.declared.options.OptionName.TheVariants as option
use Rattle.call_words.specs.Spacing.{IsPlain}
use Rattle.call_words.specs.Options.{option_text, option_of}

pub option_ok : (word : List ℕ) (name : OptionName) → option_of word ≡ Some name → word ≡ option_text name
unfolding option_of
option_ok word name e = among_ok option_text (option.Heap ∷ option.Local ∷ option.Serials ∷ option.Counts ∷ option.Pending ∷ []) word name e

pub option_from : (name : OptionName) → option_of (option_text name) ≡ Some name
unfolding option_of
option_from option.Heap = refl
option_from option.Local = refl
option_from option.Serials = refl
option_from option.Counts = refl
option_from option.Pending = refl

pub option_plain : (name : OptionName) → IsPlain (option_text name)
option_plain option.Heap = record { some = omega arith; visible = refl }
option_plain option.Local = record { some = omega arith; visible = refl }
option_plain option.Serials = record { some = omega arith; visible = refl }
option_plain option.Counts = record { some = omega arith; visible = refl }
option_plain option.Pending = record { some = omega arith; visible = refl }
