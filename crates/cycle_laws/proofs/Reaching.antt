-- What isn't white was anchored: as a cycle begins, and as it marks
use Rattle.std.proofs.Common.{◌≡◌, List, refl, ◌∙◌, subst, ◌⊎◌, inl, inr, IsTrue}
use Rattle.az_base.specs.declared.action.Mode.{Mode}
use Rattle.az_base.specs.declared.action.Mode.TheVariants as mode
use Rattle.az_base.specs.declared.block_id.BlockId.{BlockId}
use Rattle.quantum_space.specs.Shapes.{Shape, Shades, Has, anchors}
use Rattle.gen_marker.specs.Marking.{Begun, Greys, Spreads, Starts}
use Rattle.gen_marker.specs.Closure.{OfDark, GoesOn}
use Rattle.gen_marker.specs.Tight.{AtBegin}
use Rattle.gen_marker.proofs.Closure.{begun_dark, spread_dark}
use Rattle.zone_model.specs.State.{State, Cycle, moment}
use Rattle.zone_model.specs.Reach.{AnchoredFor, is_old}
use Rattle.zone_model.specs.Collection.{WasAnchored}
use Rattle.zone_model.specs.Reached.{KeepsReached}
use Rattle.zone_model.proofs.Anchoring.{anchor_anchored, anchored_edge, held_anchored, unescaped_anchored}
use Rattle.zone_model.proofs.Moments.{seeing, was_more, was_now}
use Rattle.cycle_laws.specs.Shown.{Shows, HasStart, FromUnescaped}

-- what an unescaped block refers to is anchored
below_anchored : (m : Mode) (z : State) (b : BlockId) → FromUnescaped z b → AnchoredFor m z b
below_anchored m z b f = anchored_edge m z f.0 b (unescaped_anchored m z f.0 f.1) f.2

-- what is reached goes on along the graph's edges
pub reached_on : (z : State) (c : Cycle) (s : Shape) → Shows c.mode z s → HasStart c s → KeepsReached z c → GoesOn s (WasAnchored c)
reached_on z c s shows starts keeps a b h was e = keeps.on a b was (shows.real a b e) ((starts.start b).1 h)

-- an anchor of the graph is anchored in the state, and so was anchored
pub anchor_reached : (z : State) (c : Cycle) (s : Shape) → Shows c.mode z s → HasStart c s → KeepsReached z c → (b : BlockId) → Has s.blocks b → Has (anchors s) b → WasAnchored c b
anchor_reached z c s shows starts keeps b h a =
    keeps.now b ((starts.start b).1 h) (elim (shows.anchor b a) [ inl k ↦ held_anchored c.mode z b k | inr u ↦ below_anchored c.mode z b u ])

-- what marking starts with was anchored
starts_reached : (z : State) (c : Cycle) (s : Shape) → Shows c.mode z s → HasStart c s → KeepsReached z c → ((b : BlockId) → Has s.remembered b → IsTrue (is_old z b)) → (b : BlockId) → Starts c.mode s b → WasAnchored c b
starts_reached z c s shows starts keeps old b st = go c.mode refl st
  where
    go : (m : Mode) → m ≡ c.mode → Starts m s b → WasAnchored c b
    go mode.Full e st = anchor_reached z c s shows starts keeps b st.block st.here
    go mode.Young e (inl st) = anchor_reached z c s shows starts keeps b st.block st.here
    go mode.Young e (inr st) = keeps.now b ((starts.start b).1 st.block) (subst (λ m. AnchoredFor m z b) e (anchor_anchored mode.Young z b (inr (inr (old b st.here)))))

pub begin_reaches : (z : State) (c : Cycle) (s : Shape) (old new : Shades) → Shows c.mode z s → HasStart c s → KeepsReached z c → ((b : BlockId) → Has s.remembered b → IsTrue (is_old z b)) → Begun c.mode s old new → OfDark s new (WasAnchored c)
begin_reaches z c s old new shows starts keeps aged begun = begun_dark c.mode s old new (WasAnchored c) begun (starts_reached z c s shows starts keeps aged)

pub slice_reaches : (z : State) (c : Cycle) (s : Shape) (old new : Shades) → Shows c.mode z s → HasStart c s → KeepsReached z c → Spreads c.mode s old new → OfDark s old (WasAnchored c) → OfDark s new (WasAnchored c)
slice_reaches z c s old new shows starts keeps spreads dark = spread_dark c.mode s old new (WasAnchored c) spreads (reached_on z c s shows starts keeps) dark

-- enlivening what is anchored keeps that what isn't white was anchored
pub enlivened_reaches : (after : State) (c : Cycle) (s t : Shape) (live : List BlockId) (old new : Shades) → t.blocks ≡ s.blocks → Greys (AtBegin s live) old new
    → ((b : BlockId) → Has live b → Has s.blocks b → AnchoredFor c.mode after b ⊎ WasAnchored c b) → OfDark s old (WasAnchored c) → OfDark t new (WasAnchored (seeing (moment after) c))
enlivened_reaches after c s t live old new same greys anchored dark b h d = elim (greys.same b) [
  | inl e ↦ was_more (moment after) c b (dark b (here h) (λ w. d (e ∙ w)))
  | inr x ↦ elim (anchored b x.0.0 x.0.1) [ inl k ↦ was_now after c b k | inr k ↦ was_more (moment after) c b k ]
]
  where
    here : Has t.blocks b → Has s.blocks b
    here k = subst (λ l. Has l b) same k
