-- Collections: the steps of a cycle, local collections, and the end of a thread
-- A cycle is of one thread, and the others go on beside it. Begin notes which blocks have escaped. Condemn takes a set of
-- them to which nothing outside refers, and that has at least what was never anchored since Begin. Finalise runs one
-- finaliser, which may put a condemned block into a root, where any thread may find it. Reclaim takes the condemned
-- blocks that nothing refers to by now, and keeps the others.
use Rattle.std.specs.Prelude.{◌≡◌, ◌≢◌, ◌⊎◌, ℕ, ◌+◌, ◌&&◌, ◌||◌, ◌==◌, Bool, true, false, not, List, [], Option, Some, None, if◌then◌else◌, fold, find, Any, IsTrue, IsFalse}
use Rattle.std.specs.List.Sorted.{IsStrictlySortedBy}
use Rattle.std.specs.Option.{option_map_or}
use Rattle.std.specs.FinMap.{get, retain_keys}
use Rattle.az_base.specs.declared.action.Action.{Action}
use Rattle.az_base.specs.declared.action.Action.TheVariants as action
use Rattle.az_base.specs.declared.block_id.BlockId.{BlockId}
use Rattle.az_base.specs.declared.action.Mode.{Mode}
use Rattle.az_base.specs.Ids.{id_cmp, among}
use Rattle.zone_model.specs.State.{State, Cycle, is_nil, is_escaped, is_own, word_at, referent, with_edit, with_root, with_cycle, without_blocks, without}
use Rattle.zone_model.specs.Reach.{Edge, ReachedFrom, IsHeld, Live, AnchoredFor, in_scope}
use Rattle.zone_model.specs.Escape.{Tells}

-- the list has exactly the blocks of which P holds, ascending without repeats
abbrev pub Lists : List BlockId → (BlockId → Type 0) → Type 0
Lists ids P = IsStrictlySortedBy id_cmp ids × Tells (among ids) P

-- a cycle is open that is another thread's
abbrev pub IsBusy : State → ℕ → Type 0
IsBusy z t = (c : Cycle) × (z.cycle ≡ Some c) × (c.owner ≢ t)

-- the open cycle is the thread's, and it is c
abbrev pub HasCycle : State → ℕ → Cycle → Type 0
HasCycle z t c = (z.cycle ≡ Some c) × (c.owner ≡ t)

-- the open cycle is the thread's, and its condemned set is r
abbrev pub HasCondemned : State → ℕ → List BlockId → Type 0
HasCondemned z t r = (c : Cycle) × HasCycle z t c × (c.condemned ≡ Some r)

-- a cycle of the thread as it opens
abbrev pub new_cycle : State → ℕ → Mode → Cycle
new_cycle z t mode = record { owner = t; mode = mode; start = is_escaped z; moments = []; condemned = None }

-- Begin: no cycle is open, and one of the thread opens, with the escaped blocks as its start
abbrev pub Begins : State → ℕ → Mode → State → Type 0
Begins z t mode after = (z.cycle ≡ None) × (after ≡ with_cycle z (Some (new_cycle z t mode)))

-- the block was anchored in some state since Begin
abbrev pub WasAnchored : Cycle → BlockId → Type 0
WasAnchored c b = Any (λ m. AnchoredFor c.mode m b) c.moments

-- the block is reached: it is of the start, and was anchored since Begin
abbrev pub IsReached : Cycle → BlockId → Type 0
IsReached c b = IsTrue (c.start b) × WasAnchored c b

-- what a cycle may condemn
pub record MayCondemn (z : State) (c : Cycle) (r : List BlockId) : Type 0 where
  pub ascending : IsStrictlySortedBy id_cmp r
  -- (a) it lies in the start; for mode young each of its blocks is young
  pub start : (b : BlockId) → IsTrue (among r b) → IsTrue (c.start b)
  pub scope : (b : BlockId) → IsTrue (among r b) → IsTrue (in_scope c.mode z b)
  -- (b) no block of it is held, and no edge leads into it from outside
  pub not_held : (b : BlockId) → IsTrue (among r b) → ¬ IsHeld z b
  pub closed : (a b : BlockId) → IsFalse (among r a) → IsTrue (among r b) → ¬ Edge z a b
  -- (c) each block of the start, for mode young each young one, is reached or in it
  pub complete : (b : BlockId) → IsTrue (c.start b) → IsTrue (in_scope c.mode z b) → ¬ IsReached c b → IsTrue (among r b)

-- the weak location shows one of these blocks
abbrev pub shows_one : List BlockId → Option BlockId → Bool
shows_one r shown = option_map_or (among r) shown false

-- the cycle has the condemned set, and each weak location that showed a block of it shows null
abbrev pub with_condemned : State → Cycle → List BlockId → State
with_condemned z c r = record z {
  cycle = Some (record c { condemned = Some r });
  weak = retain_keys z.weak (λ l. not (shows_one r (get z.weak l)));
}

-- Condemn: the thread's open cycle isn't condemned yet, and may condemn r
abbrev pub Condemns : State → ℕ → List BlockId → State → Type 0
Condemns z t r after = (c : Cycle) × HasCycle z t c × (c.condemned ≡ None) × MayCondemn z c r × (after ≡ with_condemned z c r)

-- the block has actions and isn't finalised
abbrev pub awaits : State → BlockId → Bool
awaits z id = option_map_or (λ b. not (is_nil b.actions) && not b.finalised) (get z.blocks id) false

-- `keep` puts the block into a root; `pass` puts the reference in a Strong word of it, or null, into a root
abbrev pub with_action : BlockId → State → Action → State
with_action b z (action.Keep g) = with_root z g.0 (Some b)
with_action b z (action.Pass g at) = with_root z g.0 (referent (word_at z (Some b) at))

-- the actions of the block
abbrev pub actions_of : State → BlockId → List Action
actions_of z id = option_map_or (λ b. b.actions) (get z.blocks id) []

-- the block counts as finalised
abbrev pub with_finalised : State → BlockId → State
with_finalised z id = record z { blocks = with_edit z.blocks id (λ b. record b { finalised = true }) }

-- Finalise: b is the least condemned block with actions that isn't finalised; its actions are applied in their order
abbrev pub Finalises : State → ℕ → BlockId → State → Type 0
Finalises z t b after = (r : List BlockId) × HasCondemned z t r × (find (awaits z) r ≡ Some b) × (after ≡ with_finalised (fold (with_action b) z (actions_of z b)) b)

-- a condemned block is kept where it is reached from a block that is held or lies outside the condemned set
abbrev pub IsKept : State → List BlockId → BlockId → Type 0
IsKept z r = ReachedFrom z (λ a. IsHeld z a ⊎ IsFalse (among r a))

-- Reclaim: nothing is left to finalise; the condemned blocks that aren't kept are gone, and the cycle is closed
pub record Reclaims (z : State) (t : ℕ) (gone kept : List BlockId) (after : State) : Type 0 where
  pub r : List BlockId
  pub condemned : HasCondemned z t r
  pub finalised : find (awaits z) r ≡ None
  pub kept_ones : Lists kept (λ b. IsTrue (among r b) × IsKept z r b)
  pub gone_ones : Lists gone (λ b. IsTrue (among r b) × ¬ IsKept z r b)
  pub does : after ≡ record (without z gone) { reclaims = z.reclaims + 1; cycle = None }

-- CollectLocal: exactly the unescaped blocks of the thread that aren't live are gone
abbrev pub CollectsLocal : State → ℕ → List BlockId → State → Type 0
CollectsLocal z t gone after = Lists gone (λ b. IsTrue (is_own z t b) × ¬ Live z b) × (after ≡ without_blocks z gone)

-- the thread's registers are null, and it has ended
abbrev pub with_end : State → ℕ → State
with_end z t = record z { registers = λ u r. if t == u then None else z.registers u r; ended = λ u. (t == u) || z.ended u }

-- Leave: no cycle of the thread is open; its registers become null, all its unescaped blocks are gone, and it has ended
pub record Leaves (z : State) (t : ℕ) (gone : List BlockId) (after : State) : Type 0 where
  pub no_cycle : (c : Cycle) → ¬ HasCycle z t c
  pub gone_ones : Lists gone (λ b. IsTrue (is_own z t b))
  pub does : after ≡ with_end (without_blocks z gone) t
