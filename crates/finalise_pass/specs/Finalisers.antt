-- What finalisers are, and what running one does
use Rattle.std.specs.Prelude.{◌≡◌, ℕ, ◌==◌, ◌&&◌, ◌||◌, Bool, not, List, Option, Some, if◌then◌else◌, slice_get}
use Rattle.az_base.specs.declared.action.Action.{Action}
use Rattle.az_base.specs.declared.action.Action.TheVariants as action
use Rattle.az_base.specs.declared.block_id.BlockId.{BlockId}
use Rattle.az_base.specs.Ids.{same_id}
use Rattle.zone_model.specs.State.{is_nil}

-- the roots, and for each block its actions in order, the reference in the Strong word at a place, and whether it is done
pub record Finalisers : Type 0 where
  pub roots : ℕ → Option BlockId
  pub actions : BlockId → List Action
  pub strong : BlockId → ℕ → Option BlockId
  pub done : BlockId → Bool

-- the action is one of the block's
abbrev pub IsActionOf : Finalisers → BlockId → Action → Type 0
IsActionOf f id a = (n : ℕ) × (slice_get (f.actions id) n ≡ Some a)

-- the block has an action and isn't done
abbrev pub awaits : Finalisers → BlockId → Bool
awaits f id = not (is_nil (f.actions id)) && not (f.done id)

-- this root changes
abbrev pub with_root : Finalisers → ℕ → Option BlockId → Finalisers
with_root f g v = record f { roots = λ q. if g == q then v else f.roots q }

-- `keep` puts the block into a root; `pass` puts the reference in a Strong word of it, or null, into a root
abbrev pub with_action : BlockId → Finalisers → Action → Finalisers
with_action id f (action.Keep g) = with_root f g.0 (Some id)
with_action id f (action.Pass g at) = with_root f g.0 (f.strong id at)

-- this block is done
abbrev pub with_done : Finalisers → BlockId → Finalisers
with_done f id = record f { done = λ q. same_id id q || f.done q }
