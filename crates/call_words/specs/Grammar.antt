-- The grammar of calls with their arguments, as lists of words, apart from how they are read
use Rattle.std.specs.Prelude.{◌≡◌, ◌≤◌, ◌<◌, ℕ, zero, suc, List, [], ◌∷◌, ◌++◌, length, None, codes}
use Rattle.az_base.specs.declared.action.Action.{Action}
use Rattle.az_base.specs.declared.action.Action.TheVariants as action
use Rattle.az_base.specs.declared.block_id.BlockId.{BlockId}
use Rattle.az_base.specs.declared.numbers.Key.{Key}
use Rattle.az_base.specs.declared.numbers.TheConstants.{MOST_THREADS}
use Rattle.az_base.specs.declared.numbers.RootNo.{RootNo}
use Rattle.az_words.specs.Grammar.{IsNumberIn}
use Rattle.block_layouts.specs.declared.layout.Shape.{Shape}
use Rattle.block_layouts.specs.declared.layout.Shape.TheVariants as shape
use Rattle.block_layouts.specs.Letters.{first_other, classes_of}
use Rattle.zone_model.specs.declared.act.Act.{Act}
use Rattle.zone_model.specs.declared.call.Loc.{Loc}
use Rattle.zone_model.specs.declared.call.Loc.TheVariants as loc
use Rattle.call_words.specs.declared.names.CallName.{CallName}
use Rattle.call_words.specs.declared.keywords.LayoutName.{LayoutName}
use Rattle.call_words.specs.declared.keywords.LayoutName.TheVariants as layout
use Rattle.call_words.specs.declared.keywords.Verb.{Verb}
use Rattle.call_words.specs.Names.{layout_text, verb_text, collect_text}
use Rattle.call_words.specs.Arguments.{Argument, Register, Root, AssocKey, Place, Number, Id, Location, Memory, Collection, Said, AllSaid, arguments_of, act_of}

-- one word that says this, and these words are left
abbrev pub OneWord : {A : Type 0} → (List ℕ → A → Type 0) → List (List ℕ) → A → List (List ℕ) → Type 0
OneWord says words x left = (word : List ℕ) × (words ≡ word ∷ left) × says word x

-- this letter and a numeral up to a bound
abbrev pub IsLettered : ℕ → ℕ → List ℕ → ℕ → Type 0
IsLettered letter high word n = (digits : List ℕ) × (word ≡ letter ∷ digits) × IsNumberIn 0 high digits n

-- a place in a block: a numeral of 32 bits
abbrev pub SaysPlace : List ℕ → ℕ → Type 0
SaysPlace word at = IsNumberIn 0 4294967295 word at

-- a thread, a dot, and a serial of 32 bits
abbrev pub SaysId : List ℕ → BlockId → Type 0
SaysId word id = (thread : List ℕ) × (serial : List ℕ) × (word ≡ thread ++ 46 ∷ serial) × IsNumberIn 1 MOST_THREADS thread id.thread × IsNumberIn 0 4294967295 serial id.serial

-- an object of 1 to 4,096 words: a letter S, W or P for each, and no other letter
abbrev pub IsObject : List ℕ → Shape → Type 0
IsObject word layout = (first_other word ≡ None) × (0 < length word) × (length word ≤ 4096) × (layout ≡ shape.Object (classes_of word))

-- a weak root, or a register and a place
abbrev pub LocationAt : List (List ℕ) → Loc → List (List ℕ) → Type 0
LocationAt words (loc.Root root) left = (word : List ℕ) × (words ≡ word ∷ left) × IsLettered 119 255 word root.0
LocationAt words (loc.Word reg at) left = (first : List ℕ) × (second : List ℕ) × (words ≡ first ∷ second ∷ left) × IsLettered 114 15 first reg × SaysPlace second at

-- an action: keep and a root, or pass, a root and a place
abbrev pub ActionAt : List (List ℕ) → Action → List (List ℕ) → Type 0
ActionAt words (action.Keep root) left = (first : List ℕ) × (words ≡ codes "keep" ∷ first ∷ left) × IsLettered 103 255 first root.0
ActionAt words (action.Pass root at) left =
    (first : List ℕ) × (second : List ℕ) × (words ≡ codes "pass" ∷ first ∷ second ∷ left) × IsLettered 103 255 first root.0 × SaysPlace second at

-- no word begins an action here
abbrev pub NoAction : List (List ℕ) → Type 0
NoAction words = (kind : Verb) (others : List (List ℕ)) → ¬ (words ≡ verb_text kind ∷ others)

-- up to so many actions, as long as a word begins one
abbrev pub ActionsAt : ℕ → List (List ℕ) → List Action → List (List ℕ) → Type 0
ActionsAt zero words [] left = words ≡ left
ActionsAt zero words (first ∷ more) left = ⊥
ActionsAt (suc room) words [] left = (words ≡ left) × NoAction words
ActionsAt (suc room) words (first ∷ more) left = (rest : List (List ℕ)) × ActionAt words first rest × ActionsAt room rest more left

-- the kind of a layout
abbrev pub kind_of : Shape → LayoutName
kind_of (shape.Scanned n) = layout.Scanned
kind_of (shape.Unscanned n) = layout.Unscanned
kind_of (shape.Object classes) = layout.Object

-- what stands after the kind of a layout: a number of words, or letters and up to so many actions
abbrev pub LayoutAt : ℕ → List (List ℕ) → Shape → List Action → List (List ℕ) → Type 0
LayoutAt most words (shape.Scanned n) actions left = OneWord (IsNumberIn 0 4096) words n left × (actions ≡ [])
LayoutAt most words (shape.Unscanned n) actions left = OneWord (IsNumberIn 0 4096) words n left × (actions ≡ [])
LayoutAt most words (shape.Object classes) actions left = (rest : List (List ℕ)) × OneWord IsObject words (shape.Object classes) rest × ActionsAt most rest actions left

-- a layout with its actions
abbrev pub MemoryAt : ℕ → List (List ℕ) → Shape × List Action → List (List ℕ) → Type 0
MemoryAt most words memory left =
    (rest : List (List ℕ)) × (words ≡ layout_text (kind_of memory.0) ∷ rest) × LayoutAt most rest memory.0 memory.1 left

-- an argument of a kind, and these words are left; an object has at most so many actions
abbrev pub ArgumentAt : ℕ → (kind : Argument) → List (List ℕ) → Said kind → List (List ℕ) → Type 0
ArgumentAt most Register words reg left = OneWord (IsLettered 114 15) words reg left
ArgumentAt most Root words root left = OneWord (λ word (g : RootNo). IsLettered 103 255 word g.0) words root left
ArgumentAt most AssocKey words key left = OneWord (λ word (k : Key). IsLettered 107 255 word k.0) words key left
ArgumentAt most Place words at left = OneWord SaysPlace words at left
ArgumentAt most Number words n left = OneWord (IsNumberIn 0 18446744073709551615) words n left
ArgumentAt most Id words id left = OneWord SaysId words id left
ArgumentAt most Location words loc left = LocationAt words loc left
ArgumentAt most Memory words memory left = MemoryAt most words memory left
ArgumentAt most Collection words kind left = OneWord (λ word kind. word ≡ collect_text kind) words kind left

-- arguments of these kinds, and these words are left
abbrev pub ArgumentsAt : ℕ → (kinds : List Argument) → List (List ℕ) → AllSaid kinds → List (List ℕ) → Type 0
ArgumentsAt most [] words said left = words ≡ left
ArgumentsAt most (kind ∷ kinds) words said left = (rest : List (List ℕ)) × ArgumentAt most kind words said.0 rest × ArgumentsAt most kinds rest said.1 left

-- what a call of this name asks for, by its arguments, and these words are left
pub record AsksAt (most : ℕ) (name : CallName) (words : List (List ℕ)) (act : Act) (left : List (List ℕ)) : Type 0 where
  pub said : AllSaid (arguments_of name)
  pub arguments : ArgumentsAt most (arguments_of name) words said left
  pub asked : act ≡ act_of name said
