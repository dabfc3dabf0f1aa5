-- What the calls of a cycle have to be, so that they are steps of the states for which the heap stands
use Rattle.std.proofs.Common.{◌≡◌, ◌≢◌, ◌+◌, ◌-◌, ◌≤◌, ◌==◌, ℕ, min, Bool, true, false, not, cond, Option, Some, None, IsTrue, is_some, option_map, refl, sym, ap, subst, ◌∙◌, arith}
use Rattle.std.proofs.lemmas.Bool.Decides.{nat_tests}
use Rattle.std.specs.Option.{option_map_or, option_and_then}
use Rattle.std.specs.FinMap.{get, retain_keys, empty}
use Rattle.az_base.specs.declared.action.Mode.{Mode}
use Rattle.az_base.specs.declared.block_id.BlockId.{BlockId}
use Rattle.az_base.specs.Ids.{among}
use Rattle.quantum_space.specs.declared.shade.Shade.TheVariants as shade
use Rattle.zone_model.specs.declared.call.Call.TheVariants as call
use Rattle.zone_model.specs.declared.entry.Reply.TheVariants as reply
use Rattle.zone_model.specs.Collection.{MayCondemn, Reclaims, WasAnchored, new_cycle, shows_one, with_condemned}
use Rattle.zone_model.specs.Reach.{AnchoredFor}
use Rattle.zone_model.specs.Room.{WithRoom}
use Rattle.zone_model.specs.State.{State, Block, Cycle, moment, is_escaped, is_word_of, with_cycle, without}
use Rattle.zone_model.specs.Step.{seen_now}
use Rattle.zone_model.proofs.Anchoring.{of_moment, to_moment}
use Rattle.zone_model.proofs.Blocks.{left_get}
use Rattle.zone_model.proofs.Moments.{seeing, was_now}
use Rattle.zone_model.proofs.Steps.{step_plain}
use Rattle.heap_cycle.specs.Collector.{Collecting, Collector, shade_in}
use Rattle.block_table.specs.Stored.{older}
use Rattle.shared_heap.specs.Cycles.{IsOpenOf, IsMarking, Opens, Darkens, Condemned, Reclaimed}
use Rattle.shared_heap.specs.Holding.{Serves}
use Rattle.shared_heap.specs.Shared.{Shared, is_busy, with_gc}
use Rattle.heap_tables.specs.Standing.{escaped_view}
use Rattle.shared_heap.specs.Stands.{Stands, StandsCycle, SameCycle}
use Rattle.shared_heap.specs.Steps.{Stepped}
use Rattle.shared_heap.proofs.Agreeing.{here_escaped}
use Rattle.shared_heap.proofs.Collecting.{none_open, state_cycle}
use Rattle.shared_heap.proofs.Stepping.{escaped_here}

none_some : {X : Type 0} {Q : Type 0} (x : X) → None ≡ Some x → Q
none_some x e = cc

some_same : {X : Type 0} (x y : X) → Some x ≡ Some y → x ≡ y
some_same x y e = cc

-- tests that follow from each other are one
both_ways : (a b : Bool) → (IsTrue a → IsTrue b) → (IsTrue b → IsTrue a) → a ≡ b
both_ways true b f g = sym (f refl)
both_ways false true f g = g refl
both_ways false false f g = refl

same_number : (a b : ℕ) → (a == b) ≡ true → a ≡ b
same_number a b e = grind (arith, nat_tests)

-- where no cycle of others is open, nor one of the thread, there is none
none_of_all : (h : Shared) (t : ℕ) → ((g : Collecting) → IsOpenOf h t g → ⊥) → is_busy h t ≡ false → h.gc.cycle ≡ None
none_of_all h t own free = go h.gc.cycle refl free
  where
    go : (o : Option Collecting) → h.gc.cycle ≡ o → option_map_or (λ g. not (g.owner == t)) o false ≡ false → o ≡ None
    go None e f = refl
    go (Some g) e f = by (g.owner == t) refl f
      where
        by : (b : Bool) → (g.owner == t) ≡ b → not b ≡ false → Some g ≡ None
        by true k n = absurd (own g (e, same_number g.owner t k))
        by false k n = cc (n)

-- and where one is open that isn't the thread's, it is busy
pub busy_of : (h : Shared) (t : ℕ) → ((g : Collecting) → IsOpenOf h t g → ⊥) → is_some h.gc.cycle ≡ true → is_busy h t ≡ true
busy_of h t own is = go h.gc.cycle refl is
  where
    go : (o : Option Collecting) → h.gc.cycle ≡ o → is_some o ≡ true → option_map_or (λ g. not (g.owner == t)) o false ≡ true
    go None e f = cc (f)
    go (Some g) e f = by (g.owner == t) refl
      where
        by : (b : Bool) → (g.owner == t) ≡ b → not (g.owner == t) ≡ true
        by true k = absurd (own g (e, same_number g.owner t k))
        by false k = ap not k

-- Begin
pub begin_step : (h : Shared) (z : State) (t : ℕ) (mode : Mode) (gc : Collector) → Serves h z t → ((g : Collecting) → IsOpenOf h t g → ⊥) → is_busy h t ≡ false → (o : Opens h t mode gc)
    → ((b : BlockId) → IsTrue (among o.cycle.start b) → shade_in o.cycle b ≢ shade.White → AnchoredFor mode z b) → Stepped (with_gc h gc) z t (call.Begin mode) reply.Begun
begin_step h z t mode gc s own free o dark = (
  seen_now mid,
  step_plain z _ (seen_now mid) s.running (λ id n. n) refl (mid, (none, refl), refl),
  record {
    options = s.stands.options;
    blocks = s.stands.blocks;
    roots = s.stands.roots;
    counts = s.stands.counts;
    assocs = s.stands.assocs;
    weak = s.stands.weak;
    cycle = subst (λ g. SameCycle g (Some (seeing (moment z) (new_cycle z t mode)))) (sym (ap (λ (g : Collector). g.cycle) o.is)) cycle;
  },
)
  where
    mid : State
    mid = with_cycle z (Some (new_cycle z t mode))

    none : z.cycle ≡ None
    none = none_open z.cycle (subst (λ g. SameCycle g z.cycle) (none_of_all h t own free) s.stands.cycle)

    cycle : StandsCycle o.cycle (seeing (moment z) (new_cycle z t mode))
    cycle = record {
      owner = sym o.owner;
      mode = sym o.mode_is;
      start = λ b. both_ways (is_escaped z b) (among o.cycle.start b) (λ out. (o.start b).1 (here_escaped h z b s.stands out)) (λ i. escaped_here h z b s.stands ((o.start b).0 i));
      condemned = sym o.fresh;
      dark = λ n b i w. was_now mid (new_cycle z t mode) b (of_moment mode mid b (to_moment mode z b (dark b i w)));
    }

pub busy_step : (h : Shared) (z : State) (t : ℕ) (mode : Mode) → Serves h z t → is_busy h t ≡ true → Stepped h z t (call.Begin mode) reply.Busy
busy_step h z t mode s busy = go h.gc.cycle refl busy
  where
    go : (o : Option Collecting) → h.gc.cycle ≡ o → option_map_or (λ g. not (g.owner == t)) o false ≡ true → Stepped h z t (call.Begin mode) reply.Busy
    go None e f = cc (f)
    go (Some g) e f =
        let d = state_cycle g h.gc.cycle z.cycle s.stands.cycle e in
        (z, step_plain z _ z s.running (λ id n. n) refl ((d.0, d.1, λ is. other (g.owner == t) refl f (sym d.2.owner ∙ is)), refl), s.stands)
      where
        other : (b : Bool) → (g.owner == t) ≡ b → not b ≡ true → g.owner ≡ t → ⊥
        other true k n is = cc (n)
        other false k n is = let differ : (g.owner == t) ≡ true = grind (arith, nat_tests) in let no : false ≡ true = sym k ∙ differ in cc (no)

-- a slice
pub slice_stands : (h : Shared) (z : State) (gc : Collector) → (d : Darkens h.gc gc) → ((c : Cycle) → z.cycle ≡ Some c → StandsCycle d.before c → (b : BlockId) → d.before.condemned ≡ None → IsTrue (among d.before.start b) → shade_in d.after b ≢ shade.White → WasAnchored c b) → Stands h z → Stands (with_gc h gc) z
slice_stands h z gc d dark s = record {
  options = s.options;
  blocks = s.blocks;
  roots = s.roots;
  counts = s.counts;
  assocs = s.assocs;
  weak = s.weak;
  cycle =
      let c = state_cycle d.before h.gc.cycle z.cycle s.cycle d.was in
      subst (λ o. SameCycle gc.cycle o) (sym c.1) (subst (λ g. SameCycle g (Some c.0)) (sym (ap (λ (g : Collector). g.cycle) d.is)) record {
        owner = c.2.owner ∙ sym (ap (λ (g : Collecting). g.owner) d.same);
        mode = c.2.mode ∙ sym (ap (λ (g : Collecting). g.mode) d.same);
        start = λ b. c.2.start b ∙ sym (ap (λ (g : Collecting). among g.start b) d.same);
        condemned = c.2.condemned ∙ sym (ap (λ (g : Collecting). g.condemned) d.same);
        dark = λ n b i w. dark c.0 c.1 c.2 b (sym (ap (λ (g : Collecting). g.condemned) d.same) ∙ n) (sym (ap (λ (g : Collecting). among g.start b) d.same) ∙ i) w;
      });
}

-- Condemn
pub condemn_step : (h new : Shared) (z : State) (t : ℕ) (r : WithRoom) → Serves h z t → IsMarking h t → Condemned h r.list new → ((c : Cycle) → z.cycle ≡ Some c → MayCondemn z c r.list) → Stepped new z t call.Condemn (reply.Condemned r)
condemn_step h new z t r s m k may =
    let found = state_cycle m.0 h.gc.cycle z.cycle s.stands.cycle m.1.0 in
    let c : Cycle = found.0 in
    let mid : State = with_condemned z c r.list in
    let same : k.before ≡ m.0 = some_same k.before m.0 (sym k.was ∙ m.1.0) in (
      seen_now mid,
      step_plain z _ (seen_now mid) s.running (λ id n. n) refl (mid, (c, (found.1, found.2.owner ∙ m.1.1), found.2.condemned ∙ m.2, may c found.1, refl), refl),
      subst (λ x. Stands x (seen_now mid)) (sym k.is) record {
        options = s.stands.options;
        blocks = s.stands.blocks;
        roots = s.stands.roots;
        counts = s.stands.counts;
        assocs = s.stands.assocs;
        weak = ap (λ m. retain_keys m (λ l. not (shows_one r.list (get m l)))) s.stands.weak;
        cycle = record {
          owner = found.2.owner ∙ sym (ap (λ (g : Collecting). g.owner) same);
          mode = found.2.mode ∙ sym (ap (λ (g : Collecting). g.mode) same);
          start = λ b. found.2.start b ∙ sym (ap (λ (g : Collecting). among g.start b) same);
          condemned = refl;
          dark = λ n b i w. none_some r.list (sym n);
        };
      },
    )

-- Reclaim
aged : (r n : ℕ) → n ≤ r → min (min (r - n) 3 + 1) 3 ≡ min (r + 1 - n) 3
aged r n l = omega (arith, l)

pub reclaim_step : (h new : Shared) (z : State) (t : ℕ) (gone kept : WithRoom) → Serves h z t → Reclaimed h gone.list new → Reclaims z t gone.list kept.list (record (without z gone.list) { reclaims = z.reclaims + 1; cycle = None }) → Stepped new z t call.Reclaim (reply.Settled gone kept)
reclaim_step h new z t gone kept s k does = (
  mid,
  step_plain z _ mid s.running (λ id n. n) refl (mid, does, refl),
  record {
    options = s.stands.options ∙ sym k.others.0;
    blocks = λ q. k.blocks q ∙ ap (λ o. cond (among gone.list q) None (option_map older o)) (s.stands.blocks q) ∙ kept_on q (among gone.list q) (get z.blocks q) refl ∙ sym (ap (escaped_view (z.reclaims + 1)) (left_get z.blocks (among gone.list) q));
    roots = λ g. ap (λ rs. Rattle.std.specs.Prelude.get_or rs g None) k.others.1 ∙ s.stands.roots g;
    counts = s.stands.counts ∙ sym k.others.2;
    assocs = ap (λ m. retain_keys m (λ p. not (among gone.list p.0))) s.stands.assocs ∙ sym k.assocs;
    weak = ap (λ m. retain_keys m (λ l. not (is_word_of gone.list l))) s.stands.weak ∙ sym k.weak;
    cycle = subst (λ g. SameCycle g None) (sym k.closed) tt;
  },
)
  where
    mid : State
    mid = record (without z gone.list) { reclaims = z.reclaims + 1; cycle = None }

    kept_on : (q : BlockId) (gone : Bool) (o : Option Block) → get z.blocks q ≡ o → cond gone None (option_map older (escaped_view z.reclaims o)) ≡ escaped_view (z.reclaims + 1) (cond gone None o)
    kept_on q true o e = refl
    kept_on q false None e = refl
    kept_on q false (Some b) e = by b.since refl
      where
        by : (v : Option ℕ) → b.since ≡ v → option_map older (escaped_view z.reclaims (Some b)) ≡ escaped_view (z.reclaims + 1) (Some b)
        by None f = rw f refl
        by (Some n) f =
            let l : n ≤ z.reclaims = s.sound.numbers.since q n (ap (λ (o : Option Block). option_and_then (λ (b : Block). b.since) o) e ∙ f) in
            rw f (ap (λ a. Some (record { layout = b.layout; words = b.words; actions = b.actions; finalised = b.finalised; age = a })) (aged z.reclaims n l))
