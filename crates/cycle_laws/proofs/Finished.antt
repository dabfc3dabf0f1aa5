-- A graph at the end of marking, beside the state that it shows
use Rattle.std.proofs.Common.{◌≡◌, ◌≢◌, List, true, filter, refl, sym, ◌∙◌, subst, inl, inr, IsTrue}
use Rattle.std.specs.List.Sorted.{IsStrictlySortedBy}
use Rattle.std.specs.FinMap.{get}
use Rattle.az_base.specs.declared.action.Mode.{Mode}
use Rattle.az_base.specs.declared.action.Mode.TheVariants as mode
use Rattle.az_base.specs.declared.block_id.BlockId.{BlockId}
use Rattle.az_base.specs.Ids.{id_cmp, among}
use Rattle.quantum_space.specs.declared.shade.Shade.TheVariants as shade
use Rattle.quantum_space.specs.Shapes.{Shape, Shades, Has, anchors}
use Rattle.gen_marker.specs.Marking.{Finishes, NoGrey, Shut, Among, in_scope, is_left}
use Rattle.gen_marker.specs.Closure.{MarkedIn, OfDark, ShowsCycle}
use Rattle.gen_marker.specs.Tight.{Tight}
use Rattle.gen_marker.proofs.Closure.{finish_dark}
use Rattle.gen_marker.proofs.Condemning.{may_condemn}
use Rattle.gen_marker.proofs.Tight.{tight_shut, tight_darker}
use Rattle.zone_model.specs.State.{State, Cycle, is_escaped, is_unescaped}
use Rattle.zone_model.specs.Reach.{Anchors, IsHeld}
use Rattle.zone_model.specs.Reach as reach
use Rattle.zone_model.specs.Collection.{MayCondemn, WasAnchored}
use Rattle.zone_model.specs.Reached.{IsRooted, KeepsReached}
use Rattle.zone_model.proofs.Anchoring.{old_not_young}
use Rattle.zone_model.proofs.Blocks.{not_both}
use Rattle.cycle_laws.specs.Shown.{Shows, HasStart}
use Rattle.cycle_laws.proofs.Reaching.{anchor_reached, reached_on}

-- no block has escaped and hasn't
pub one_only : (z : State) (b : BlockId) → IsTrue (is_escaped z b) → IsTrue (is_unescaped z b) → ⊥
one_only z b e u = not_both (get z.blocks b) e u

-- a tight graph without grey blocks and with dark anchors is marked in the state
tight_marked : (z : State) (m : Mode) (s : Shape) (f : Shades) → Shows m z s → IsRooted z → Tight m s f → NoGrey s.blocks f
    → ((b : BlockId) → Among m s (anchors s) b → f b ≢ shade.White) → MarkedIn z m s f
tight_marked z m s f shows rooted tight none anchored = record {
  shut = tight_shut m s f tight;
  no_grey = none;
  first = first m refl;
  inner = λ a b ha hb e. shows.full a b (shows.escaped a ha) e;
  outer = λ a b n hb sb e. elim (rooted a b e) [
    | inl k ↦ tight.dark a b (inl n) (shows.full a b k e) hb sb
    | inr u ↦ anchored b (record { block = hb; scope = sb; here = shows.below b hb sb (a, u, e) })
  ];
  crossing = λ a b ha out hb sb e white. tight.dark a b (inr (ha, inr (white, out))) (shows.full a b (shows.escaped a ha) e) hb sb;
}
  where
    held_dark : (a : BlockId) → Has s.blocks a → IsTrue (in_scope m s a) → IsHeld z a → f a ≢ shade.White
    held_dark a h sc k = anchored a (record { block = h; scope = sc; here = shows.held a h sc k })

    first : (n : Mode) → n ≡ m → (a : BlockId) → Anchors n z a → Has s.blocks a → IsTrue (in_scope m s a) → f a ≢ shade.White
    first mode.Full e a (inl k) h sc = held_dark a h sc k
    first mode.Full e a (inr u) h sc = absurd (one_only z a (shows.escaped a h) u)
    first mode.Young e a (inl k) h sc = held_dark a h sc k
    first mode.Young e a (inr (inl u)) h sc = absurd (one_only z a (shows.escaped a h) u)
    first mode.Young e a (inr (inr o)) h sc = absurd (old_not_young z a o (sym (shows.young a h) ∙ subst (λ k. in_scope k s a ≡ true) (sym e) sc))

-- the graph has the cycle's blocks and ages
shows_cycle : (z : State) (c : Cycle) (s : Shape) → Shows c.mode z s → HasStart c s → ShowsCycle z c s
shows_cycle z c s shows starts = record { start = starts.start; scope = λ b h. scope c.mode b h }
  where
    scope : (m : Mode) (b : BlockId) → Has s.blocks b → reach.in_scope m z b ≡ in_scope m s b
    scope mode.Full b h = refl
    scope mode.Young b h = sym (shows.young b h)

pub finish_condemns : (z : State) (c : Cycle) (s : Shape) (old new : Shades) → Shows c.mode z s → HasStart c s → IsRooted z → KeepsReached z c → Tight c.mode s old → OfDark s old (WasAnchored c)
    → Finishes c.mode s old new → Shut c.mode s new → NoGrey s.blocks new
    → (r : List BlockId) → IsStrictlySortedBy id_cmp r → ((b : BlockId) → among r b ≡ among (filter (is_left c.mode s new) s.blocks) b) → MayCondemn z c r
finish_condemns z c s old new shows starts rooted keeps tight dark fin shut none r sorted same =
    may_condemn z c s new (shows_cycle z c s shows starts)
    (tight_marked z c.mode s new shows rooted (tight_darker c.mode s old new fin.stays shut tight) none fin.anchors)
    (finish_dark c.mode s old new (WasAnchored c) fin (reached_on z c s shows starts keeps) (λ b k. anchor_reached z c s shows starts keeps b k.block k.here) dark) r sorted same
