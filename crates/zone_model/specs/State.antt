-- What a zone holds at one moment
use Rattle.std.specs.Prelude.{is_some, is_none, zero, suc, ℕ, ◌+◌, ◌&&◌, ◌==◌, Bool, true, false, not, List, [], ◌∷◌, Option, Some, None, if◌then◌else◌, slice_set, slice_get, unwrap_or, option_and_then}
use Rattle.std.specs.Option.{option_map_or}
use Rattle.std.specs.declared.cmp.Ordering.{Ordering}
use Rattle.std.specs.FinMap.{FinMap, empty, get, insert, retain_keys}
use Rattle.az_base.specs.declared.action.Action.{Action}
use Rattle.az_base.specs.declared.block_id.BlockId.{BlockId}
use Rattle.az_base.specs.declared.action.Mode.{Mode}
use Rattle.az_base.specs.declared.options.Options.{Options}
use Rattle.az_base.specs.declared.weak_loc.WeakLoc.{WeakLoc}
use Rattle.az_base.specs.declared.weak_loc.WeakLoc.TheVariants as weak
use Rattle.az_base.specs.declared.word.Word.{Word}
use Rattle.az_base.specs.declared.word.Word.TheVariants as word
use Rattle.block_layouts.specs.declared.layout.Layout.{Layout}
pub use Rattle.az_base.specs.WithValue.{with_value}
use Rattle.az_base.specs.Ids.{id_cmp, among}
use Rattle.az_base.specs.Places.{pair_cmp, loc_cmp}

-- a block (what a Weak word of it shows stands with the weak locations)
pub record Block : Type 0 where
  pub layout : Layout
  pub words : List Word
  -- what its finaliser does, and whether that was done
  pub actions : List Action
  pub finalised : Bool
  -- None while its thread alone knows it, and else how many Reclaims there had been when it escaped
  pub since : Option ℕ

-- a zone, with what is open on it
pub record Zone (C : Type 0) : Type 0 where
  pub options : Options
  pub blocks : FinMap id_cmp Block
  -- of each thread: what each register holds, how many blocks it made, and whether it has ended
  pub registers : ℕ → ℕ → Option BlockId
  pub serials : ℕ → ℕ
  pub ended : ℕ → Bool
  pub roots : ℕ → Option BlockId
  -- the positive external retain counts
  pub counts : FinMap id_cmp ℕ
  -- the weak locations that show a block
  pub weak : FinMap loc_cmp BlockId
  -- the associations, by object and key
  pub assocs : FinMap pair_cmp BlockId
  -- how many Reclaims there were
  pub reclaims : ℕ
  pub cycle : C

-- what a zone was at one moment, without its cycle
abbrev pub Moment : Type 0
Moment = Zone (Unit {0})

-- an open collection cycle
pub record Cycle : Type 0 where
  pub owner : ℕ
  pub mode : Mode
  -- the blocks that were escaped when it began
  pub start : BlockId → Bool
  -- what the zone was in each state since, until it condemned, the last one first
  pub moments : List Moment
  -- the condemned blocks, ascending, once there are any
  pub condemned : Option (List BlockId)

-- a zone and its open cycle
abbrev pub State : Type 0
State = Zone (Option Cycle)

-- the zone without its cycle
abbrev pub moment : State → Moment
moment z = record {
  options = z.options;
  blocks = z.blocks;
  registers = z.registers;
  serials = z.serials;
  ended = z.ended;
  roots = z.roots;
  counts = z.counts;
  weak = z.weak;
  assocs = z.assocs;
  reclaims = z.reclaims;
  cycle = tt;
}

-- no blocks, all registers and roots null, all else empty, and numbers 0
abbrev pub opening : Options → State
opening o = record {
  options = o;
  blocks = empty;
  registers = λ t r. None;
  serials = λ t. 0;
  ended = λ t. false;
  roots = λ g. None;
  counts = empty;
  weak = empty;
  assocs = empty;
  reclaims = 0;
  cycle = None;
}

-- the list has no item
abbrev pub is_nil : {X : Type 0} → List X → Bool
is_nil [] = true
is_nil (x ∷ xs) = false

-- how many Reclaims there had been when the block escaped, where it is an escaped one
abbrev pub since_of : {C : Type 0} → Zone C → BlockId → Option ℕ
since_of z id = option_and_then (λ b. b.since) (get z.blocks id)

-- it is a block that has escaped
abbrev pub is_escaped : {C : Type 0} → Zone C → BlockId → Bool
is_escaped z id = is_some (since_of z id)

-- it is a block that its thread alone knows
abbrev pub is_unescaped : {C : Type 0} → Zone C → BlockId → Bool
is_unescaped z id = option_map_or (λ b. is_none b.since) (get z.blocks id) false

-- it is an unescaped block of the thread
abbrev pub is_own : State → ℕ → BlockId → Bool
is_own z t id = (id.thread == t) && is_unescaped z id

-- the external retain count of a block
abbrev pub count_of : {C : Type 0} → Zone C → BlockId → ℕ
count_of z id = unwrap_or (get z.counts id) 0

-- the block is in the condemned set of the open cycle
abbrev pub is_condemned : State → BlockId → Bool
is_condemned z id = option_map_or (λ r. among r id) (option_and_then (λ c. c.condemned) z.cycle) false

-- the block to which a word refers
abbrev pub referent : Option Word → Option BlockId
referent (Some (word.Block b)) = Some b
referent _ = None

-- the word that refers to a block, or to none
abbrev pub reference : Option BlockId → Word
reference None = word.Null
reference (Some b) = word.Block b

-- the word at a place of a block
abbrev pub word_at : State → Option BlockId → ℕ → Option Word
word_at z a at = option_and_then (λ b. slice_get b.words at) (option_and_then (λ id. get z.blocks id) a)

module _ {K X : Type 0} {R : K → K → Ordering} where
  -- the map where the value at the key, if there is one, is changed by f
  abbrev pub with_edit : FinMap R X → K → (X → X) → FinMap R X
  with_edit m k f = option_map_or (λ x. insert m k (f x)) (get m k) m

-- a register holds a block, or null
abbrev pub with_register : State → ℕ → ℕ → Option BlockId → State
with_register z t r v = record z { registers = λ u q. if (t == u) && (r == q) then v else z.registers u q }

-- a root holds a block, or null
abbrev pub with_root : State → ℕ → Option BlockId → State
with_root z g v = record z { roots = λ q. if g == q then v else z.roots q }

-- this block is there
abbrev pub with_block : State → BlockId → Block → State
with_block z id b = record z { blocks = insert z.blocks id b }

-- a word of the block, if there is one, is changed
abbrev pub with_word : State → Option BlockId → ℕ → Word → State
with_word z a at w = record z { blocks = option_map_or (λ id. with_edit z.blocks id (λ b. record b { words = slice_set b.words at w })) a z.blocks }

-- the thread has made one block more
abbrev pub with_next_serial : State → ℕ → State
with_next_serial z t = record z { serials = λ u. if t == u then z.serials t + 1 else z.serials u }

-- a count of 0 is taken away
abbrev pub positive_count : ℕ → Option ℕ
positive_count zero = None
positive_count (suc n) = Some (suc n)

-- the block has this count
abbrev pub with_count : State → BlockId → ℕ → State
with_count z id n = record z { counts = with_value z.counts id (positive_count n) }

-- the pair of the object and the key has a value, or none
abbrev pub with_assoc : State → BlockId → ℕ → Option BlockId → State
with_assoc z object key v = record z { assocs = with_value z.assocs (object, key) v }

-- the weak location shows a block, or null
abbrev pub with_weak : State → WeakLoc → Option BlockId → State
with_weak z l v = record z { weak = with_value z.weak l v }

-- there is this cycle, or none
abbrev pub with_cycle : State → Option Cycle → State
with_cycle z c = record z { cycle = c }

-- these blocks are gone
abbrev pub without_blocks : State → List BlockId → State
without_blocks z ids = record z { blocks = retain_keys z.blocks (λ id. not (among ids id)) }

-- the weak location is a weak root, or a word of a block that is there
abbrev pub is_there : State → WeakLoc → Bool
is_there z (weak.Root w) = true
is_there z (weak.Word b i) = is_some (get z.blocks b)

-- the weak location is a word of one of these blocks
abbrev pub is_word_of : List BlockId → WeakLoc → Bool
is_word_of ids (weak.Root w) = false
is_word_of ids (weak.Word b i) = among ids b

-- these blocks are gone, with the associations of which they are the object, and with the weak locations that are their words
abbrev pub without : State → List BlockId → State
without z ids = record (without_blocks z ids) {
  assocs = retain_keys z.assocs (λ pair. not (among ids pair.0));
  weak = retain_keys z.weak (λ l. not (is_word_of ids l));
}
