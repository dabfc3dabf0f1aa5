-- Options, as scripts and histories name them
use Rattle.std.specs.Prelude.{ℕ, List, [], ◌∷◌, ◌++◌, ◌==◌, Option, codes, if◌then◌else◌}
use Rattle.std.specs.Fmt.{decimal}
use Rattle.az_base.specs.declared.options.Options.{Options}
use Rattle.az_base.specs.OptionRanges.{usual_options}
use Rattle.az_words.specs.Names.{name_among}
use Rattle.call_words.specs.declared.options.OptionName.{OptionName}
use Rattle.call_words.specs.declared.options.OptionName.TheVariants as option

-- how an option is written
abbrev pub option_text : OptionName → List ℕ
option_text option.Heap = codes "heap"
option_text option.Local = codes "local"
option_text option.Serials = codes "serials"
option_text option.Counts = codes "counts"
option_text option.Pending = codes "pending"

-- the option that a word names
unfoldable pub option_of : List ℕ → Option OptionName
option_of word = name_among option_text (option.Heap ∷ option.Local ∷ option.Serials ∷ option.Counts ∷ option.Pending ∷ []) word

-- the least number that an option may have
abbrev pub least : OptionName → ℕ
least option.Local = 0
least _ = 1

-- an option and its number
unfoldable pub option_words : OptionName → ℕ → List (List ℕ)
option_words name n = codes "option" ∷ option_text name ∷ decimal n ∷ []

-- the line of an option, where its number isn't the usual one
unfoldable pub option_lines : OptionName → ℕ → ℕ → List (List (List ℕ))
option_lines name usual n = if n == usual then [] else option_words name n ∷ []

-- the lines of the options, in their order
unfoldable pub options_lines : Options → List (List (List ℕ))
options_lines o =
    option_lines option.Heap usual_options.heap_quanta o.heap_quanta ++ option_lines option.Local usual_options.local_quanta o.local_quanta
    ++ option_lines option.Serials usual_options.serials o.serials ++ option_lines option.Counts usual_options.counts o.counts
    ++ option_lines option.Pending usual_options.pending o.pending
