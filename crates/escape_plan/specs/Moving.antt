-- One block after another escapes, while the others of a plan are still their thread's own
use Rattle.std.specs.Prelude.{◌≡◌, ◌≤◌, ◌<◌, ◌+◌, ◌==◌, ◌&&◌, ◌⊎◌, ℕ, Bool, true, List, if◌then◌else◌, drop, IsTrue, is_some, None}
use Rattle.std.specs.List.{list_any}
use Rattle.std.specs.FinMap.{get}
use Rattle.az_base.specs.declared.block_id.BlockId.{BlockId}
use Rattle.az_base.specs.declared.word.Word.{Word}
use Rattle.az_base.specs.Ids.{among, same_id}
use Rattle.zone_model.specs.Escape.{with_escaped}
use Rattle.zone_model.specs.Part.{part_of, is_in}
use Rattle.zone_model.specs.Reached.{OpenReached}
use Rattle.zone_model.specs.State.{State}
use Rattle.shared_heap.specs.Holding.{HoldsAgree, HoldsItsOwn, refers_to}
use Rattle.block_table.specs.Table.{used_by}
use Rattle.shared_heap.specs.Shared.{Shared, held}
use Rattle.shared_heap.specs.Stands.{Stands}
use Rattle.zone_model.specs.Holds.{holds_of}
use Rattle.local_set.specs.LocalSets.{LocalSet, part_in}
use Rattle.local_set.specs.Tables.{Distinct}
use Rattle.escape_plan.specs.Escapes.{KeepsCycle}
use Rattle.escape_plan.specs.Planning.{quanta_at, lengths_of, sum_of}

-- the set has its thread's part of the state and the heap what is shared of it, with the holds; so much of belonging together
-- lasts while blocks escape
pub record Agree (l : LocalSet) (h : Shared) (z : State) : Type 0 where
  pub part : part_in l ≡ part_of z l.thread
  pub stands : Stands h z
  pub holds : HoldsAgree h z
  pub own : HoldsItsOwn z
  pub reached : OpenReached z

-- a word among these refers to the block
abbrev pub refer_to : List Word → BlockId → Bool
refer_to words q = list_any (refers_to q) words

-- the heap was told how often the thread holds each block of the heap that passes the test, and nothing else
pub record Told (l : LocalSet) (old new : Shared) (test : BlockId → Bool) : Type 0 where
  pub held : (u : ℕ) (q : BlockId) → held new u q ≡ (if (l.thread == u) && (test q && is_some (get old.blocks q)) then holds_of (part_in l) q else held old u q)
  pub rest : new ≡ record old { holds = new.holds }
  pub stands : (z : State) → Stands old z → Stands new z

-- the heap can be told without memory: the thread holds the block by the table, or no longer at all
abbrev pub CanTell : LocalSet → Shared → (BlockId → Bool) → Type 0
CanTell l h test = (q : BlockId) → test q ≡ true → is_some (get h.blocks q) ≡ true → (0 < held h l.thread q) ⊎ (holds_of (part_in l) q ≡ 0)

-- the blocks may be moved to the heap one after another, which has room for them
pub record CanMove (l : LocalSet) (h : Shared) (ids : List BlockId) : Type 0 where
  pub distinct : Distinct ids
  pub own : (q : BlockId) → among ids q ≡ true → is_in (part_in l) q ≡ true
  pub room : h.room ≡ lengths_of (part_in l).blocks ids
  pub fits : used_by h.blocks + sum_of (part_in l).blocks ids ≤ h.options.heap_quanta

-- a block was moved to the heap
pub record Moves (l m : LocalSet) (h k : Shared) (id : BlockId) : Type 0 where
  pub local : m ≡ record l { blocks = m.blocks }
  pub blocks : (q : BlockId) → get (part_in m).blocks q ≡ (if same_id id q then None else get (part_in l).blocks q)
  pub options : k.options ≡ h.options
  pub ready : k.ready ≡ h.ready
  pub room : k.room ≡ drop 1 h.room
  pub used : used_by k.blocks ≡ used_by h.blocks + quanta_at (part_in l).blocks id
  pub cycle : KeepsCycle h k
  pub agree : (z : State) → Agree l h z → Agree m k (with_escaped z (same_id id))
