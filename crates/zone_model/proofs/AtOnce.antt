-- No condemned block is anchored; and where a Condemn follows its Begin at once, it condemns exactly the blocks that aren't
use Rattle.std.specs.Prelude.{Any}
use Rattle.std.proofs.Common.{◌≡◌, ℕ, Bool, true, false, Option, Some, List, [], ◌∷◌, refl, sym, ap, ◌∙◌, subst, ◌⊎◌, inl, inr, IsTrue, ◌↔◌}
use Rattle.std.specs.Cmp.{both_ways}
use Rattle.az_base.specs.declared.action.Mode.{Mode}
use Rattle.az_base.specs.declared.action.Mode.TheVariants as mode
use Rattle.az_base.specs.declared.block_id.BlockId.{BlockId}
use Rattle.az_base.specs.Ids.{among}
use Rattle.zone_model.specs.State.{State, Cycle, moment, is_escaped}
use Rattle.zone_model.specs.Reach.{Edge, Path, Anchors, AnchoredFor, in_scope}
use Rattle.zone_model.specs.declared.call.Call.TheVariants as call
use Rattle.zone_model.specs.declared.entry.Reply.TheVariants as reply
use Rattle.zone_model.specs.Room.{WithRoom}
use Rattle.zone_model.specs.Collection.{MayCondemn, WasAnchored, HasCycle, new_cycle}
use Rattle.zone_model.specs.Step.{Step, seen_now}
use Rattle.zone_model.specs.Replies.{replied}
use Rattle.zone_model.proofs.Steps.{plain_happens}
use Rattle.zone_model.proofs.Blocks.{not_both}
use Rattle.zone_model.proofs.Anchoring.{old_not_young, of_moment}
use Rattle.zone_model.proofs.Moments.{any_one, seeing, the_cycle}
use Rattle.zone_model.proofs.Ascending.{one_list}
use Rattle.std.specs.FinMap.{get}

true_or_not : (t : Bool) → (t ≡ true) ⊎ (t ≡ false)
true_or_not true = inl refl
true_or_not false = inr refl

-- what leads into the condemned set is in it
backward : (z : State) (c : Cycle) (r : List BlockId) → MayCondemn z c r → (a : BlockId) (steps : List BlockId) (b : BlockId) → Path (Edge z) a steps b → IsTrue (among r b) → IsTrue (among r a)
backward z c r may a [] b p i = subst (λ x. IsTrue (among r x)) (sym p) i
backward z c r may a (x ∷ more) b p i = elim (true_or_not (among r a)) [
  | inl t ↦ t
  | inr f ↦ absurd (may.closed a x f (backward z c r may x more b p.1 i) p.0)
]

-- the start has escaped
abbrev pub StartEscaped : State → Cycle → Type 0
StartEscaped z c = (b : BlockId) → IsTrue (c.start b) → IsTrue (is_escaped z b)

-- no condemned block anchors
condemned_anchors : (z : State) (c : Cycle) (r : List BlockId) → MayCondemn z c r → StartEscaped z c → (a : BlockId) → IsTrue (among r a) → (m : Mode) → m ≡ c.mode → Anchors m z a → ⊥
condemned_anchors z c r may escaped a i mode.Full e (inl held) = may.not_held a i held
condemned_anchors z c r may escaped a i mode.Full e (inr un) = not_both (get z.blocks a) (escaped a (may.start a i)) un
condemned_anchors z c r may escaped a i mode.Young e (inl held) = may.not_held a i held
condemned_anchors z c r may escaped a i mode.Young e (inr (inl un)) = not_both (get z.blocks a) (escaped a (may.start a i)) un
condemned_anchors z c r may escaped a i mode.Young e (inr (inr old)) = old_not_young z a old (subst (λ m. IsTrue (in_scope m z a)) (sym e) (may.scope a i))

-- so none is anchored
pub condemned_unanchored : (z : State) (c : Cycle) (r : List BlockId) → MayCondemn z c r → StartEscaped z c → (b : BlockId) → IsTrue (among r b) → ¬ AnchoredFor c.mode z b
condemned_unanchored z c r may escaped b i (a, first, (steps, p)) = condemned_anchors z c r may escaped a (backward z c r may a steps b p i) c.mode refl first

-- what was anchored at the one moment that was seen
only_now : (z : State) (c : Cycle) (b : BlockId) → c.moments ≡ moment z ∷ [] → WasAnchored c b → AnchoredFor c.mode z b
only_now z c b seen was = of_moment c.mode z b (any_one (λ m. AnchoredFor c.mode m b) (moment z) (subst (Any (λ m. AnchoredFor c.mode m b)) seen was))

pub at_once : (z : State) (c : Cycle) (r : List BlockId) → MayCondemn z c r → StartEscaped z c → c.moments ≡ moment z ∷ []
    → (b : BlockId) → IsTrue (among r b) ↔ (IsTrue (c.start b) × IsTrue (in_scope c.mode z b) × ¬ AnchoredFor c.mode z b)
at_once z c r may escaped seen b = (
  λ i. (may.start b i, may.scope b i, condemned_unanchored z c r may escaped b i),
  λ h. may.complete b h.0 h.1 (λ reached. h.2 (only_now z c b seen reached.1)),
)

-- what may be condemned at once is one list
pub condemned_once : (z : State) (c : Cycle) (r q : List BlockId) → MayCondemn z c r → MayCondemn z c q → StartEscaped z c → c.moments ≡ moment z ∷ [] → r ≡ q
condemned_once z c r q may also escaped seen = one_list r q may.ascending also.ascending (λ b.
    both_ways (among r b) (among q b)
    (λ i. (at_once z c q also escaped seen b).1 ((at_once z c r may escaped seen b).0 i))
    (λ i. (at_once z c r may escaped seen b).1 ((at_once z c q also escaped seen b).0 i)))

-- a cycle that has just begun
begun_condemned : (z : State) (t : ℕ) (m : Mode) (x : Option Cycle) (r : List BlockId) → MayCondemn (record z { cycle = x }) (seeing (moment z) (new_cycle z t m)) r
    → (b : BlockId) → IsTrue (among r b) ↔ (IsTrue (is_escaped z b) × IsTrue (in_scope m z b) × ¬ AnchoredFor m z b)
begun_condemned z t mode.Full x r may b = at_once (record z { cycle = x }) (seeing (moment z) (new_cycle z t mode.Full)) r may (λ b i. i) refl b
begun_condemned z t mode.Young x r may b = at_once (record z { cycle = x }) (seeing (moment z) (new_cycle z t mode.Young)) r may (λ b i. i) refl b

-- the state after a Begin, and what a Condemn there may take
begun_state : (z y : State) (t : ℕ) (m : Mode) → Step z (replied t (call.Begin m) reply.Begun) y → y ≡ record z { cycle = Some (seeing (moment z) (new_cycle z t m)) }
begun_state z y t m step = let h = plain_happens z (replied t (call.Begin m) reply.Begun) y step (λ id n. n) refl in h.2 ∙ ap seen_now h.1.1

pub condemn_takes : (y a : State) (t : ℕ) (r : WithRoom) → Step y (replied t call.Condemn (reply.Condemned r)) a → (c : Cycle) × HasCycle y t c × MayCondemn y c r.list
condemn_takes y a t r step = let h = plain_happens y (replied t call.Condemn (reply.Condemned r)) a step (λ id n. n) refl in (h.1.0, h.1.1, h.1.3)

pub begin_then_condemn : (z y a : State) (t : ℕ) (m : Mode) (r : WithRoom) → Step z (replied t (call.Begin m) reply.Begun) y → Step y (replied t call.Condemn (reply.Condemned r)) a
    → (b : BlockId) → IsTrue (among r.list b) ↔ (IsTrue (is_escaped z b) × IsTrue (in_scope m z b) × ¬ AnchoredFor m z b)
begin_then_condemn z y a t m r begin condemn =
    let is = begun_state z y t m begin in
    let takes = condemn_takes y a t r condemn in
    let same : takes.0 ≡ seeing (moment z) (new_cycle z t m) = the_cycle takes.0 _ (sym takes.1.0 ∙ ap (λ (w : State). w.cycle) is) in
    begun_condemned z t m _ r.list (subst (λ (w : State). MayCondemn w (seeing (moment z) (new_cycle z t m)) r.list) is (subst (λ c. MayCondemn y c r.list) same takes.2))
