-- What the first words say, and the words after them; None where they don't say it
use Rattle.std.specs.Prelude.{◌≡◌, ℕ, zero, suc, List, [], ◌∷◌, Option, Some, None, Result, Ok, Err}
use Rattle.az_base.specs.declared.action.Action.{Action}
use Rattle.az_base.specs.declared.action.Action.TheVariants as action
use Rattle.az_base.specs.declared.numbers.WeakNo.{WeakNo}
use Rattle.az_words.specs.Numerals.{number_in}
use Rattle.block_layouts.specs.declared.layout.Shape.{Shape}
use Rattle.block_layouts.specs.declared.layout.Shape.TheVariants as shape
use Rattle.zone_model.specs.declared.act.Act.{Act}
use Rattle.zone_model.specs.declared.call.Loc.{Loc}
use Rattle.zone_model.specs.declared.call.Loc.TheVariants as loc
use Rattle.call_words.specs.declared.argument_err.ArgumentErr.{ArgumentErr}
use Rattle.call_words.specs.declared.argument_err.ArgumentErr.TheVariants as errors
use Rattle.call_words.specs.declared.names.CallName.{CallName}
use Rattle.call_words.specs.declared.keywords.LayoutName.{LayoutName}
use Rattle.call_words.specs.declared.keywords.LayoutName.TheVariants as layout
use Rattle.call_words.specs.declared.keywords.Verb.{Verb}
use Rattle.call_words.specs.declared.keywords.Verb.TheVariants as verb
use Rattle.call_words.specs.Names.{layout_of, verb_of, collect_of}
use Rattle.call_words.specs.Arguments.{Argument, Register, Root, AssocKey, Place, Number, Id, Location, Memory, Collection, Said, AllSaid, arguments_of, act_of}
use Rattle.call_words.specs.Reading.Words.{reg_of, root_of, weak_of, key_of, block_of, object_of}

-- the second step with what the first one gave, or nothing
infixl 10 ◌>>=◌
abbrev pub ◌>>=◌ : {A B : Type 0} → Option A → (A → Option B) → Option B
None >>= f = None
(Some x) >>= f = f x

-- what a reader answered, and the words that it left, are what reading gives
abbrev pub Reads : {X : Type 0} → Option X → List (List ℕ) → Option (X × List (List ℕ)) → Type 0
Reads (Some x) left read = read ≡ Some (x, left)
Reads None left read = read ≡ None

-- the same, unless memory ran out
abbrev pub Takes : {X : Type 0} → Result X ArgumentErr → List (List ℕ) → Option (X × List (List ℕ)) → Type 0
Takes (Ok x) left read = read ≡ Some (x, left)
Takes (Err errors.Wrong) left read = read ≡ None
Takes (Err errors.NoMemory) left read = Unit {0}

-- what a function answered is this, unless memory ran out
abbrev pub Gives : {X : Type 0} → Result X ArgumentErr → Option X → Type 0
Gives (Ok x) said = said ≡ Some x
Gives (Err errors.Wrong) said = said ≡ None
Gives (Err errors.NoMemory) said = Unit {0}

-- what was read of the first word, and the words after it
abbrev pub with_rest : {A : Type 0} → List (List ℕ) → Option A → Option (A × List (List ℕ))
with_rest words None = None
with_rest words (Some x) = Some (x, words)

-- the first word, read so, and the words after it
unfoldable pub next_as : {A : Type 0} → (List ℕ → Option A) → List (List ℕ) → Option (A × List (List ℕ))
next_as read [] = None
next_as read (word ∷ words) = with_rest words (read word)

-- a place in a block: a numeral of 32 bits
unfoldable pub place_at : List (List ℕ) → Option (ℕ × List (List ℕ))
place_at words = next_as (number_in 0 4294967295) words

-- a weak root, or a register and a place
abbrev pub location_by : Option WeakNo → Option ℕ → List (List ℕ) → Option (Loc × List (List ℕ))
location_by (Some root) reg words = Some (loc.Root root, words)
location_by None None words = None
location_by None (Some reg) words = do
  at ← place_at words
  Some (loc.Word reg at.0, at.1)

-- a weak location
unfoldable pub location_at : List (List ℕ) → Option (Loc × List (List ℕ))
location_at [] = None
location_at (word ∷ words) = location_by (weak_of word) (reg_of word) words

-- the words of an action, after its first one
unfoldable pub action_by : Verb → List (List ℕ) → Option (Action × List (List ℕ))
action_by verb.Keep words = do
  root ← next_as root_of words
  Some (action.Keep root.0, root.1)
action_by verb.Pass words = do
  root ← next_as root_of words
  at ← place_at root.1
  Some (action.Pass root.0 at.0, at.1)

-- an action where a word begins one, and else these words
abbrev pub begun_by : Option Verb → List (List ℕ) → List (List ℕ) → Option (Option Action × List (List ℕ))
begun_by None here after = Some (None, here)
begun_by (Some verb) here after = do
  x ← action_by verb after
  Some (Some x.0, x.1)

-- the next action, where one begins here
unfoldable pub next_action : List (List ℕ) → Option (Option Action × List (List ℕ))
next_action [] = Some (None, [])
next_action (word ∷ words) = begun_by (verb_of word) (word ∷ words) words

-- an action and those that are read after it
abbrev pub onto_actions : Option Action → List (List ℕ) → (List (List ℕ) → Option (List Action × List (List ℕ))) → Option (List Action × List (List ℕ))
onto_actions None words others = Some ([], words)
onto_actions (Some first) words others = do
  more ← others words
  Some (first ∷ more.0, more.1)

-- up to so many actions
unfoldable pub actions_at : ℕ → List (List ℕ) → Option (List Action × List (List ℕ))
actions_at zero words = Some ([], words)
actions_at (suc room) words = do
  first ← next_action words
  onto_actions first.0 first.1 (actions_at room)

-- the words of a layout of this kind, after its first one; an object may have up to so many actions
unfoldable pub memory_by : ℕ → LayoutName → List (List ℕ) → Option ((Shape × List Action) × List (List ℕ))
memory_by most layout.Scanned words = do
  count ← next_as (number_in 0 4096) words
  Some ((shape.Scanned count.0, []), count.1)
memory_by most layout.Unscanned words = do
  count ← next_as (number_in 0 4096) words
  Some ((shape.Unscanned count.0, []), count.1)
memory_by most layout.Object words = do
  object ← next_as object_of words
  actions ← actions_at most object.1
  Some ((object.0, actions.0), actions.1)

-- a layout with its actions
unfoldable pub memory_at : ℕ → List (List ℕ) → Option ((Shape × List Action) × List (List ℕ))
memory_at most words = do
  kind ← next_as layout_of words
  memory_by most kind.0 kind.1

-- an argument of a kind, and the words after it
abbrev pub argument_at : ℕ → (kind : Argument) → List (List ℕ) → Option (Said kind × List (List ℕ))
argument_at most Register words = next_as reg_of words
argument_at most Root words = next_as root_of words
argument_at most AssocKey words = next_as key_of words
argument_at most Place words = place_at words
argument_at most Number words = next_as (number_in 0 18446744073709551615) words
argument_at most Id words = next_as block_of words
argument_at most Location words = location_at words
argument_at most Memory words = memory_at most words
argument_at most Collection words = next_as collect_of words

-- arguments of these kinds, and the words after them
abbrev pub arguments_at : ℕ → (kinds : List Argument) → List (List ℕ) → Option (AllSaid kinds × List (List ℕ))
arguments_at most [] words = Some (tt, words)
arguments_at most (kind ∷ kinds) words = do
  first ← argument_at most kind words
  others ← arguments_at most kinds first.1
  Some ((first.0, others.0), others.1)

-- what a call of this name asks for, by its arguments, and the words after them
unfoldable pub act_at : ℕ → CallName → List (List ℕ) → Option (Act × List (List ℕ))
act_at most name words = do
  said ← arguments_at most (arguments_of name) words
  Some (act_of name said.0, said.1)
