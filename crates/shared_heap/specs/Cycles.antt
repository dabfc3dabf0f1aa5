-- What the calls of a cycle do, told from what the heap shows
use Rattle.std.specs.Prelude.{◌≡◌, ◌≢◌, ◌≤◌, ◌-◌, ◌⊎◌, ◌↔◌, ℕ, true, not, List, [], Option, None, Some, IsTrue, IsFalse, IsSome, if◌then◌else◌, find, fold, option_map, slice_get, count_by}
use Rattle.std.specs.Option.{option_map_or}
use Rattle.std.specs.List.Sorted.{IsStrictlySortedBy}
use Rattle.std.specs.FinMap.{get, retain_keys, empty}
use Rattle.az_base.specs.declared.action.Mode.{Mode}
use Rattle.az_base.specs.declared.block_id.BlockId.{BlockId}
use Rattle.az_base.specs.declared.word.Word.TheVariants as word
use Rattle.az_base.specs.Ids.{id_cmp, among}
use Rattle.quantum_space.specs.declared.shade.Shade.TheVariants as shade
use Rattle.gen_marker.specs.Marking.{blacks}
use Rattle.zone_model.specs.declared.entry.Reply.{Reply}
use Rattle.zone_model.specs.declared.entry.Reply.TheVariants as reply
use Rattle.zone_model.specs.State.{with_edit, is_word_of}
use Rattle.zone_model.specs.Collection.{shows_one}
use Rattle.heap_cycle.specs.Collector.{Collecting, Collector, shade_in}
use Rattle.shared_heap.specs.Shared.{Shared}
use Rattle.heap_cycle.specs.Collects.{is_old_at}
use Rattle.heap_cycle.specs.Waiting.{awaits_in, unfinalised_by}
use Rattle.heap_cycle.specs.Livening.{Livens}
use Rattle.heap_cycle.specs.Phases.{after_action}
use Rattle.block_table.specs.Stored.{HeapBlock, older}
use Rattle.heap_tables.specs.Running.{actions_in}

-- the thread's own cycle is open, and this is it
abbrev pub IsOpenOf : Shared → ℕ → Collecting → Type 0
IsOpenOf h t g = (h.gc.cycle ≡ Some g) × (g.owner ≡ t)

-- the thread's own cycle is open, and isn't condemned
abbrev pub IsMarking : Shared → ℕ → Type 0
IsMarking h t = (g : Collecting) × IsOpenOf h t g × (g.condemned ≡ None)

-- the thread's own cycle is open, and is condemned
abbrev pub IsSettling : Shared → ℕ → Type 0
IsSettling h t = (g : Collecting) × (r : List BlockId) × IsOpenOf h t g × (g.condemned ≡ Some r)

-- a cycle opened, with room for the lists of the entries of Condemn and Reclaim
pub record Opens (h : Shared) (t : ℕ) (mode : Mode) (new : Collector) : Type 0 where
  pub cycle : Collecting
  pub is : new ≡ record h.gc { cycle = Some cycle }
  pub owner : cycle.owner ≡ t
  pub mode_is : cycle.mode ≡ mode
  pub start : (b : BlockId) → IsTrue (among cycle.start b) ↔ IsSome (get h.blocks b)
  pub fresh : cycle.condemned ≡ None
  pub left : cycle.left ≡ unfinalised_by h.blocks
  pub rooms : cycle.rooms ≡ 3
  -- nothing is scanned yet
  pub none_black : blacks cycle.start (shade_in cycle) ≡ 0

-- the collector after a `begin` with this reply
abbrev pub AfterBegin : Shared → ℕ → Mode → Reply → Collector → Type 0
AfterBegin h t mode reply.Busy new = new ≡ h.gc
AfterBegin h t mode reply.Begun new = Opens h t mode new
AfterBegin h t mode _ new = ⊥

-- shades got darker, and all else stays
pub record Darkens (old new : Collector) : Type 0 where
  pub before : Collecting
  pub after : Collecting
  pub was : old.cycle ≡ Some before
  pub is : new ≡ record old { cycle = Some after }
  pub same : after ≡ record before { shades = after.shades }
  pub black : (b : BlockId) → shade_in before b ≡ shade.Black → shade_in after b ≡ shade.Black
  pub dark : (b : BlockId) → shade_in before b ≢ shade.White → shade_in after b ≢ shade.White

-- the number of an open cycle that isn't condemned; 0 where there is none
abbrev pub marked_by : (Collecting → ℕ) → Option Collecting → ℕ
marked_by f None = 0
marked_by f (Some g) = option_map_or (λ r. 0) g.condemned (f g)

-- how many blocks of the start are black
abbrev pub black_in : Shared → ℕ
black_in h = marked_by (λ g. blacks g.start (shade_in g)) h.gc.cycle

-- these blocks are condemned: no weak location shows one of them any more; the room that was ready for a weak location is gone
pub record Condemned (h : Shared) (r : List BlockId) (new : Shared) : Type 0 where
  pub before : Collecting
  pub was : h.gc.cycle ≡ Some before
  pub left : ℕ
  pub is : new ≡ record h { weak = retain_keys h.weak (λ l. not (shows_one r (get h.weak l))); ready = record h.ready { value = None }; gc = record h.gc { cycle = Some (record before { shades = empty; condemned = Some r; left = left }) } }
  pub ascending : IsStrictlySortedBy id_cmp r
  pub start : (b : BlockId) → IsTrue (among r b) → IsTrue (among before.start b)
  -- its finalisers are those that wait, and no more than were foreseen
  pub waiting : left ≡ count_by (awaits_in h.blocks) r
  pub foreseen : left ≤ before.left

-- the heap after a `condemn` with this reply
abbrev pub AfterCondemn : Shared → Reply → Shared → Type 0
AfterCondemn h (reply.Condemned r) new = Condemned h r.list new
AfterCondemn h _ new = ⊥

-- one finaliser less is left to run
abbrev pub one_left_less : Collector → Collector
one_left_less gc = record gc { cycle = option_map (λ (g : Collecting). record g { left = g.left - 1 }) gc.cycle }

-- the heap after the finaliser of a block
abbrev pub finalised : Shared → BlockId → Shared
finalised h b = record h {
  roots = fold (after_action h.blocks b) h.roots (actions_in h.blocks b);
  blocks = with_edit h.blocks b (λ k. record k { finalised = true });
  gc = one_left_less h.gc;
}

-- the block is the least condemned one that waits for its finaliser
abbrev pub IsNext : Shared → BlockId → Type 0
IsNext h b = (g : Collecting) × (r : List BlockId) × (h.gc.cycle ≡ Some g) × (g.condemned ≡ Some r) × (find (awaits_in h.blocks) r ≡ Some b)

-- the heap after a `finalise_next` with this reply
abbrev pub AfterFinalise : Shared → Reply → Shared → Type 0
AfterFinalise h (reply.Finalised b) new = IsNext h b × (new ≡ finalised h b)
AfterFinalise h _ new = ⊥

-- a Strong word of the block refers to another one, or an association of it has that one as its value
abbrev pub HeapEdge : Shared → BlockId → BlockId → Type 0
HeapEdge h a b = ((k : HeapBlock) × (i : ℕ) × (get h.blocks a ≡ Some k) × (slice_get k.words i ≡ Some (word.Block b))) ⊎ ((key : ℕ) × (get h.assocs (a, key) ≡ Some b))

-- the block is old and refers to one that isn't
abbrev pub RefersToNewer : Shared → BlockId → Type 0
RefersToNewer h a = IsTrue (is_old_at h.blocks a) × ((b : BlockId) × HeapEdge h a b × IsFalse (is_old_at h.blocks b))

-- the heap without these blocks, a Reclaim later, with exactly the old blocks remembered that refer to one that isn't old; for which calls there is room is not told
pub record Reclaimed (h : Shared) (gone : List BlockId) (new : Shared) : Type 0 where
  pub blocks : (b : BlockId) → get new.blocks b ≡ (if among gone b then None else option_map older (get h.blocks b))
  pub holds : new.holds ≡ retain_keys h.holds (λ b. not (among gone b))
  pub assocs : new.assocs ≡ retain_keys h.assocs (λ p. not (among gone p.0))
  pub weak : new.weak ≡ retain_keys h.weak (λ l. not (is_word_of gone l))
  pub others : (new.options ≡ h.options) × (new.roots ≡ h.roots) × (new.counts ≡ h.counts)
  pub room : new.room ≡ []
  pub closed : new.gc.cycle ≡ None
  pub cards : (a : BlockId) → IsTrue (among new.gc.cards a) ↔ RefersToNewer new a

-- the heap after a `reclaim` with this reply
abbrev pub AfterReclaim : Shared → Reply → Shared → Type 0
AfterReclaim h (reply.Settled gone kept) new = Reclaimed h gone.list new
AfterReclaim h _ new = ⊥

-- one list less is left to lend
abbrev pub one_lent : Collector → Collector
one_lent gc = record gc { cycle = option_map (λ (g : Collecting). record g { rooms = g.rooms - 1 }) gc.cycle }

-- the collector after a call with this reply, which enlivens and remembers unless it is a misuse
abbrev pub AfterBarrier : Collector → Collector → Reply → List BlockId → List BlockId → Type 0
AfterBarrier old new (reply.Misuse m) live carded = new ≡ old
AfterBarrier old new _ live carded = Livens old new live carded
