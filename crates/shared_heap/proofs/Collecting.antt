-- A heap's cycle and the state's, as both go on
use Rattle.std.proofs.Common.{◌≡◌, ◌≢◌, ◌||◌, ◌&&◌, ◌++◌, ◌⊎◌, ℕ, suc, Bool, true, false, cond, List, [], ◌∷◌, Option, Some, None, IsTrue, is_some, option_map, refl, sym, ap, subst, ◌∙◌, inl, inr, slice_get}
use Rattle.std.specs.Option.{option_and_then}
use Rattle.az_base.specs.declared.action.Mode.{Mode}
use Rattle.az_base.specs.declared.block_id.BlockId.{BlockId}
use Rattle.az_base.specs.declared.word.Word.{Word}
use Rattle.az_base.specs.declared.word.Word.TheVariants as word
use Rattle.az_base.specs.Ids.{same_id, among}
use Rattle.az_base.proofs.Ids.{same_is}
use Rattle.quantum_space.specs.declared.shade.Shade.TheVariants as shade
use Rattle.gen_marker.specs.Marking.{is_white}
use Rattle.zone_model.specs.Collection.{WasAnchored, HasCondemned}
use Rattle.zone_model.specs.Phases.{Free, Marking}
use Rattle.zone_model.specs.Reach.{AnchoredFor}
use Rattle.zone_model.specs.State.{State, Cycle, Moment, moment}
use Rattle.zone_model.specs.Step.{with_moment, seen_now}
use Rattle.zone_model.proofs.Anchoring.{held_anchored}
use Rattle.zone_model.proofs.Moments.{sees, seeing, was_more, was_now}
use Rattle.heap_cycle.specs.Collector.{Collecting, Collector, shade_in}
use Rattle.shared_heap.specs.Cycles.{IsOpenOf, IsMarking, IsSettling}
use Rattle.heap_cycle.specs.Livening.{Livens, enlivened, of_option, blocks_in, unshaded}
use Rattle.shared_heap.specs.Shared.{Shared, with_gc}
use Rattle.shared_heap.specs.Stands.{Stands, StandsCycle, SameCycle}

-- the cycle is the same but for what it has seen
record Sees (c d : Cycle) : Type 0 where
  owner : d.owner ≡ c.owner
  mode : d.mode ≡ c.mode
  start : d.start ≡ c.start
  condemned : d.condemned ≡ c.condemned
  more : (b : BlockId) → WasAnchored c b → WasAnchored d b

-- what a cycle is after it has seen a moment
seen_one : (m : Moment) (c : Cycle) → Sees c (with_moment m c)
seen_one m c = go c.condemned refl
  where
    go : (o : Option (List BlockId)) → c.condemned ≡ o → Sees c (with_moment m c)
    go None e = subst (Sees c) (sym (sees m c e)) (record { owner = refl; mode = refl; start = refl; condemned = refl; more = was_more m c })
    go (Some r) e =
        let same : with_moment m c ≡ c = ap (λ (o : Option (List BlockId)). cond (is_some o) c (seeing m c)) e in
        subst (Sees c) (sym same) (record { owner = refl; mode = refl; start = refl; condemned = refl; more = λ b was. was })

-- after it has seen several
pub seen_more : (c : Cycle) (more : List Moment) (b : BlockId) → WasAnchored c b → WasAnchored (record c { moments = more ++ c.moments }) b
seen_more c [] b was = was
seen_more c (m ∷ more) b was = was_more m (record c { moments = more ++ c.moments }) b (seen_more c more b was)

-- the heap's cycle stays the state's
still : (g : Collecting) (c d : Cycle) → Sees c d → StandsCycle g c → StandsCycle g d
still g c d s k = record {
  owner = s.owner ∙ k.owner;
  mode = s.mode ∙ k.mode;
  start = λ b. ap (λ f. f b) s.start ∙ k.start b;
  condemned = s.condemned ∙ k.condemned;
  dark = λ none b i w. s.more b (k.dark none b i w);
}

pub seen_same : (g : Option Collecting) (c : Option Cycle) (m : Moment) → SameCycle g c → SameCycle g (option_map (with_moment m) c)
seen_same None None m s = tt
seen_same None (Some c) m s = absurd s
seen_same (Some g) None m s = absurd s
seen_same (Some g) (Some c) m s = still g c (with_moment m c) (seen_one m c) s

-- blocks that were enlivened, where each of them was anchored
lit : (f g : Collecting) (c d : Cycle) (live : List BlockId) → unshaded g ≡ unshaded f → ((b : BlockId) → f.condemned ≡ None → IsTrue (among f.start b) → shade_in g b ≡ enlivened live f b) → Sees c d
    → ((b : BlockId) → c.condemned ≡ None → IsTrue (among f.start b) → IsTrue (among live b) → WasAnchored d b) → StandsCycle f c → StandsCycle g d
lit f g c d live same shades s anchored k = record {
  owner = s.owner ∙ k.owner ∙ sym (ap (λ (x : Collecting). x.owner) same);
  mode = s.mode ∙ k.mode ∙ sym (ap (λ (x : Collecting). x.mode) same);
  start = λ b. ap (λ f. f b) s.start ∙ k.start b ∙ sym (ap (λ (x : Collecting). among x.start b) same);
  condemned = s.condemned ∙ k.condemned ∙ sym condemned_is;
  dark = dark;
}
  where
    condemned_is : g.condemned ≡ f.condemned
    condemned_is = ap (λ (x : Collecting). x.condemned) same

    dark : g.condemned ≡ None → (b : BlockId) → IsTrue (among g.start b) → shade_in g b ≢ shade.White → WasAnchored d b
    dark none b i w =
        let none_before : f.condemned ≡ None = sym condemned_is ∙ none in
        let here : IsTrue (among f.start b) = sym (ap (λ (x : Collecting). among x.start b) same) ∙ i in
        by none_before here (among live b) refl
      where
        by : f.condemned ≡ None → IsTrue (among f.start b) → (t : Bool) → among live b ≡ t → WasAnchored d b
        by n h true e = anchored b (k.condemned ∙ n) h e
        by n h false e = s.more b (k.dark n b h (λ white. w (shades b n h ∙ ap (λ t. cond (t && is_white (shade_in f b)) shade.Grey (shade_in f b)) e ∙ white)))

none_some : {X : Type 0} {Q : Type 0} (x : X) → None ≡ Some x → Q
none_some x e = cc

some_same : {X : Type 0} (x y : X) → Some x ≡ Some y → x ≡ y
some_same x y e = cc

-- the same of cycles that may be open
lit_open : (old new : Collector) (c d : Option Cycle) (live carded : List BlockId) → Livens old new live carded
    → ((a : Cycle) → c ≡ Some a → (b : Cycle) × (d ≡ Some b) × Sees a b × ((q : BlockId) → a.condemned ≡ None → IsTrue (a.start q) → IsTrue (among live q) → WasAnchored b q)) → (c ≡ None → d ≡ None) → SameCycle old.cycle c → SameCycle new.cycle d
lit_open old new c d live carded l sees none s = go old.cycle new.cycle c refl refl refl l.cycle s
  where
    go : (f g : Option Collecting) (a : Option Cycle) → old.cycle ≡ f → new.cycle ≡ g → c ≡ a → option_map unshaded g ≡ option_map unshaded f → SameCycle f a → SameCycle g d
    go None None None ef eg ea same k = subst (SameCycle None) (sym (none ea)) tt
    go None (Some g) None ef eg ea same k = none_some (unshaded g) (sym same)
    go None g (Some a) ef eg ea same k = absurd k
    go (Some f) g None ef eg ea same k = absurd k
    go (Some f) None (Some a) ef eg ea same k = none_some (unshaded f) same
    go (Some f) (Some g) (Some a) ef eg ea same k =
        let found = sees a ea in
        subst (SameCycle (Some g)) (sym found.1) (lit f g a found.0 live (some_same (unshaded g) (unshaded f) same) (λ b n i. l.shades f g ef eg n b i) found.2 (λ b n i lives. found.3 b n (k.start b ∙ i) lives) k)

-- where a call enlivens what is anchored after it
pub live_stands : (k : Shared) (y : State) (gc : Collector) (live carded : List BlockId) → Livens k.gc gc live carded → ((m : Mode) (b : BlockId) → IsTrue (among live b) → AnchoredFor m y b) → Stands k y → Stands (with_gc k gc) (seen_now y)
live_stands k y gc live carded l anchored s = record {
  options = s.options;
  blocks = s.blocks;
  roots = s.roots;
  counts = s.counts;
  assocs = s.assocs;
  weak = s.weak;
  cycle = lit_open k.gc gc y.cycle (option_map (with_moment (moment y)) y.cycle) live carded l
      (λ a e. (with_moment (moment y) a, ap (option_map (with_moment (moment y))) e, seen_one (moment y) a, λ q n i lives. subst (λ d. WasAnchored d q) (sym (sees (moment y) a n)) (was_now y a q (anchored a.mode q lives))))
      (λ e. ap (option_map (with_moment (moment y))) e) s.cycle;
}

-- where a call enlivens what was anchored before
pub live_still : (k : Shared) (y : State) (gc : Collector) (live carded : List BlockId) → Livens k.gc gc live carded → ((c : Cycle) (b : BlockId) → y.cycle ≡ Some c → c.condemned ≡ None → IsTrue (c.start b) → IsTrue (among live b) → WasAnchored c b) → Stands k y → Stands (with_gc k gc) y
live_still k y gc live carded l anchored s = record {
  options = s.options;
  blocks = s.blocks;
  roots = s.roots;
  counts = s.counts;
  assocs = s.assocs;
  weak = s.weak;
  cycle = lit_open k.gc gc y.cycle y.cycle live carded l
      (λ a e. (a, e, record { owner = refl; mode = refl; start = refl; condemned = refl; more = λ b was. was }, λ q n i lives. anchored a q e n i lives))
      (λ e. e) s.cycle;
}

either : (a b : Bool) → (a || b) ≡ true → (a ≡ true) ⊎ (b ≡ true)
either true b h = inl refl
either false b h = inr h

pub among_one : (b q : BlockId) → IsTrue (among (b ∷ []) q) → b ≡ q
among_one b q h = elim (either (same_id q b) false h) [ inl e ↦ sym (same_is q b e) | inr f ↦ cc (f) ]

-- what stands in a register is anchored
pub register_anchored : (y : State) (t r : ℕ) (v : Option BlockId) → y.registers t r ≡ v → (m : Mode) (b : BlockId) → IsTrue (among (of_option v) b) → AnchoredFor m y b
register_anchored y t r None is m b i = cc (i)
register_anchored y t r (Some q) is m b i = held_anchored m y b (inl (t, r, is ∙ ap Some (among_one q b i)))

-- what is among the blocks of words stands in one of them
pub word_of : (ws : List Word) (b : BlockId) → IsTrue (among (blocks_in ws) b) → (i : ℕ) × (slice_get ws i ≡ Some (word.Block b))
word_of [] b h = cc (h)
word_of (word.Block q ∷ ws) b h = elim (either (same_id b q) (among (blocks_in ws) b) h) [
  | inl e ↦ (0, ap (λ x. Some (word.Block x)) (sym (same_is b q e)))
  | inr k ↦ let w = word_of ws b k in (suc w.0, w.1)
]
word_of (word.Null ∷ ws) b h = let w = word_of ws b h in (suc w.0, w.1)
word_of (word.Number n ∷ ws) b h = let w = word_of ws b h in (suc w.0, w.1)

-- a heap that is known whole is known but for its collections
pub with_own_gc : (new k : Shared) → new ≡ k → new ≡ with_gc k new.gc
with_own_gc new k e = subst (λ k. new ≡ with_gc k new.gc) e refl

-- who is condemned
pub condemned_same : (g : Option Collecting) (c : Option Cycle) → SameCycle g c → option_and_then (λ (c : Cycle). c.condemned) c ≡ option_and_then (λ (g : Collecting). g.condemned) g
condemned_same None None s = refl
condemned_same None (Some c) s = absurd s
condemned_same (Some g) None s = absurd s
condemned_same (Some g) (Some c) s = s.condemned

-- where the heap has no cycle, the state has none
pub none_open : (c : Option Cycle) → SameCycle None c → c ≡ None
none_open None s = refl
none_open (Some c) s = absurd s

-- the state's cycle is one of the heap
pub heap_cycle : (g : Option Collecting) (c : Cycle) (o : Option Cycle) → SameCycle g o → o ≡ Some c → (f : Collecting) × (g ≡ Some f) × StandsCycle f c
heap_cycle None c None s e = none_some c e
heap_cycle None c (Some d) s e = absurd s
heap_cycle (Some g) c None s e = absurd s
heap_cycle (Some g) c (Some d) s e = (g, refl, subst (StandsCycle g) (some_same d c e) s)

pub state_cycle : (g : Collecting) (o : Option Collecting) (c : Option Cycle) → SameCycle o c → o ≡ Some g → (d : Cycle) × (c ≡ Some d) × StandsCycle g d
state_cycle g None None s e = none_some g e
state_cycle g None (Some d) s e = absurd s
state_cycle g (Some f) None s e = absurd s
state_cycle g (Some f) (Some d) s e = (d, refl, subst (λ x. StandsCycle x d) (some_same f g e) s)

-- where a thread stands in its own cycle
pub free_of : (h : Shared) (z : State) (t : ℕ) → Stands h z → ((g : Collecting) → IsOpenOf h t g → ⊥) → Free z t
free_of h z t s none c has = let f = heap_cycle h.gc.cycle c z.cycle s.cycle has.0 in none f.0 (f.1, sym f.2.owner ∙ has.1)

pub none_of : (h : Shared) (z : State) (t : ℕ) (g : Collecting) → Stands h z → Free z t → IsOpenOf h t g → ⊥
none_of h z t g s free is = let d = state_cycle g h.gc.cycle z.cycle s.cycle is.0 in free d.0 (d.1, d.2.owner ∙ is.1)

pub marking_of : (h : Shared) (z : State) (t : ℕ) → Stands h z → Marking z t → IsMarking h t
marking_of h z t s m = let f = heap_cycle h.gc.cycle m.0 z.cycle s.cycle m.1.0 in (f.0, (f.1, sym f.2.owner ∙ m.1.1), sym f.2.condemned ∙ m.2)

pub settling_of : (h : Shared) (z : State) (t : ℕ) (r : List BlockId) → Stands h z → HasCondemned z t r → IsSettling h t
settling_of h z t r s m = let f = heap_cycle h.gc.cycle m.0 z.cycle s.cycle m.1.0 in (f.0, r, (f.1, sym f.2.owner ∙ m.1.1), sym f.2.condemned ∙ m.2)
