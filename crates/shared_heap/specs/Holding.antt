-- When a heap's table of holds is that of a state
-- A thread holds an escaped block by its registers and by the words of its unescaped blocks, of which the heap knows
-- nothing. The heap is told the numbers, so its table may lag behind the state: here is how far.
use Rattle.std.specs.Prelude.{◌≡◌, ◌+◌, ◌==◌, ◌&&◌, ℕ, Bool, false, List, [], ◌∷◌, Option, Some, None, IsTrue, IsFalse, IsSome, if◌then◌else◌}
use Rattle.std.specs.List.{list_any}
use Rattle.std.specs.FinMap.{get}
use Rattle.az_base.specs.declared.block_id.BlockId.{BlockId}
use Rattle.az_base.specs.declared.word.Word.{Word}
use Rattle.az_base.specs.declared.word.Word.TheVariants as word
use Rattle.az_base.specs.Ids.{same_id}
use Rattle.zone_model.specs.declared.call.Call.{Call}
use Rattle.zone_model.specs.declared.call.Call.TheVariants as call
use Rattle.zone_model.specs.declared.entry.Reply.{Reply}
use Rattle.zone_model.specs.declared.entry.Reply.TheVariants as reply
use Rattle.zone_model.specs.Escape.{block_named}
use Rattle.zone_model.specs.Holds.{holds_of, is_block, words_to}
use Rattle.zone_model.specs.InRange.{InRange}
use Rattle.zone_model.specs.Part.{part_of}
use Rattle.zone_model.specs.Reach.{WordEdge}
use Rattle.zone_model.specs.Sound.{Knows, Sound}
use Rattle.zone_model.specs.State.{State, is_escaped, is_unescaped}
use Rattle.shared_heap.specs.Shared.{Shared, held}
use Rattle.shared_heap.specs.Stands.{Stands}
use Rattle.shared_heap.specs.Steps.{names}

-- the word refers to the block
abbrev pub refers_to : BlockId → Word → Bool
refers_to q (word.Block b) = same_id b q
refers_to q _ = false

-- the thread and the block are one of these pairs
abbrev pub is_off : List (ℕ × BlockId) → ℕ → BlockId → Bool
is_off off t q = list_any (λ (pair : ℕ × BlockId). (pair.0 == t) && same_id pair.1 q) off

-- each thread holds each escaped block as often as the table says
abbrev pub HoldsAgree : Shared → State → Type 0
HoldsAgree h z = (t : ℕ) (q : BlockId) → IsTrue (is_escaped z q) → held h t q ≡ holds_of (part_of z t) q

-- the heap stands for the sound state, in which registers and roots are in range, and knows how often each block is held in it; and the thread hasn't ended
pub record Serves (h : Shared) (z : State) (t : ℕ) : Type 0 where
  pub stands : Stands h z
  pub holds : HoldsAgree h z
  pub sound : Sound z
  pub range : InRange z
  pub running : z.ended t ≡ false

-- the same, but for these threads and blocks
abbrev pub HoldsAgreeBut : List (ℕ × BlockId) → Shared → State → Type 0
HoldsAgreeBut off h z = (t : ℕ) (q : BlockId) → IsTrue (is_escaped z q) → IsFalse (is_off off t q) → held h t q ≡ holds_of (part_of z t) q

-- the thread holds the block that it got, if it was one, once more than before, and all else is held as before
abbrev pub HoldsMore : Shared → Shared → ℕ → Reply → Type 0
HoldsMore old new t r = (u : ℕ) (q : BlockId) → IsSome (get old.blocks q) → held new u q ≡ held old u q + (if (t == u) && names r q then 1 else 0)

-- the thread holds the block so often, and all else is held as before
abbrev pub HoldsSet : Shared → Shared → ℕ → BlockId → ℕ → Type 0
HoldsSet old new t id n = (u : ℕ) (q : BlockId) → held new u q ≡ (if (t == u) && same_id id q then n else held old u q)

-- the block, which has just come in, is held by nobody, and all else is held as before
abbrev pub HoldsAdmitted : Shared → Shared → BlockId → Type 0
HoldsAdmitted old new id = (u : ℕ) (q : BlockId) → held new u q ≡ (if same_id id q then 0 else held old u q)

-- the block that was born, if one was, is held by its thread once, and all else is held as before
abbrev pub HoldsBorn : Shared → Shared → ℕ → Reply → Type 0
HoldsBorn old new t r = (u : ℕ) (q : BlockId) → held new u q ≡ (if names r q then (if t == u then 1 else 0) else held old u q)

-- what a thread holds has escaped, or is an unescaped block of its own: so much of soundness lasts while blocks escape
pub record HoldsItsOwn (z : State) : Type 0 where
  pub registers : (t r : ℕ) (b : BlockId) → z.registers t r ≡ Some b → Knows z t b
  pub words : (a b : BlockId) → IsTrue (is_unescaped z a) → WordEdge z.blocks a b → Knows z a.thread b

-- null, or a block that has escaped
abbrev pub IsShared : State → Option BlockId → Type 0
IsShared z None = Unit {0}
IsShared z (Some b) = IsTrue (is_escaped z b)

-- the call reads into no register, and what it writes to or gives to others has escaped: so it leaves the parts of the threads
abbrev pub LeavesParts : State → ℕ → Call → Type 0
LeavesParts z t (call.Store into at from) = IsShared z (z.registers t into) × IsShared z (z.registers t from)
LeavesParts z t (call.Put into at number) = IsShared z (z.registers t into)
LeavesParts z t (call.Get from at) = Unit {0}
LeavesParts z t (call.SetRoot root from) = IsShared z (z.registers t from)
LeavesParts z t (call.Retain reg) = IsShared z (z.registers t reg)
LeavesParts z t (call.Release reg) = Unit {0}
LeavesParts z t (call.Count reg) = Unit {0}
LeavesParts z t (call.SetAssoc object key value) = IsShared z (z.registers t object) × IsShared z (z.registers t value)
LeavesParts z t (call.SetWeak loc from) = IsShared z (z.registers t from) × IsShared z (block_named z t loc)
LeavesParts z t call.Stats = Unit {0}
LeavesParts z t (call.Begin mode) = Unit {0}
LeavesParts z t call.Condemn = Unit {0}
LeavesParts z t call.Finalise = Unit {0}
LeavesParts z t _ = ⊥

-- the block that a register of the thread held before, if it was one, is counted once more
abbrev pub HoldsOnceMore : Shared → State → ℕ → Option BlockId → Type 0
HoldsOnceMore h z t before = (u : ℕ) (q : BlockId) → IsTrue (is_escaped z q) → held h u q ≡ holds_of (part_of z u) q + (if (t == u) && is_block q before then 1 else 0)

-- the block that has just escaped counts as not held, and what its words hold as often as when its thread held it by them
abbrev pub HoldsAsBefore : Shared → State → BlockId → List Word → Type 0
HoldsAsBefore h z id words = (u : ℕ) (q : BlockId) → IsTrue (is_escaped z q) → held h u q ≡ (if same_id id q then 0 else holds_of (part_of z u) q + (if id.thread == u then words_to q words else 0))

-- the call reads a block into this register
abbrev pub ReadsTo : Call → ℕ → Type 0
ReadsTo (call.Load to from at) r = to ≡ r
ReadsTo (call.GetRoot to root) r = to ≡ r
ReadsTo (call.Take to id) r = to ≡ r
ReadsTo (call.GetAssoc to object key) r = to ≡ r
ReadsTo (call.ReadWeak to loc) r = to ≡ r
ReadsTo _ r = ⊥

-- what a register held before a reply went to it
abbrev pub replaced : Reply → Option BlockId → Option BlockId
replaced (reply.Block v) before = before
replaced _ before = None

-- the pair of the thread and the block, if there is one
abbrev pub pair_of : ℕ → Option BlockId → List (ℕ × BlockId)
pair_of t None = []
pair_of t (Some id) = (t, id) ∷ []

-- the pairs of the thread with each block in the words
abbrev pub pairs_in : ℕ → List Word → List (ℕ × BlockId)
pairs_in t [] = []
pairs_in t (word.Block b ∷ words) = (t, b) ∷ pairs_in t words
pairs_in t (w ∷ words) = pairs_in t words
