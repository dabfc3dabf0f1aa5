-- What two blocks lead to, and whether it fits
use Rattle.std.proofs.Common.{◌≡◌, ℕ, ◌+◌, ◌≤◌, ◌<◌, Bool, true, false, not, ◌||◌, List, [], ◌∷◌, Option, Some, None, IfSome, IsTrue, nat_lt, max, refl, sym, ap, subst, ◌∙◌, arith, ◌⊎◌, inl, inr}
use Rattle.std.proofs.lemmas.Bool.Decides.{nat_tests}
use Rattle.std.specs.Prelude.{◌↔◌}
use Rattle.az_base.specs.declared.block_id.BlockId.{BlockId}
use Rattle.az_base.specs.Ids.{among, same_id}
use Rattle.az_base.proofs.Ids.{same_is, same_self}
use Rattle.zone_model.specs.Escape.{Tells, EscOf, with_escaped}
use Rattle.zone_model.specs.Misuses.{is_overfull}
use Rattle.zone_model.specs.Part.{Part, part_of, is_in, EscWithin}
use Rattle.zone_model.specs.Quanta.{quanta_needed}
use Rattle.zone_model.specs.Reach.{WordEdge, Path, Leads}
use Rattle.zone_model.specs.Sound.{Sound}
use Rattle.zone_model.specs.State.{State}
use Rattle.shared_heap.specs.Ready.{Ready, with_room}
use Rattle.block_table.specs.Table.{used_by}
use Rattle.shared_heap.specs.Shared.{Shared}
use Rattle.shared_heap.specs.Stands.{Stands}
use Rattle.shared_heap.proofs.Sums.{full_stands}
use Rattle.local_set.specs.LocalSets.{LocalSet, part_in, blocks_of}
use Rattle.local_set.proofs.Sorting.{listed_distinct}
use Rattle.escape_plan.specs.Planning.{Plan, IsWhole, PlanFits, LedFrom, Plans, firsts, sum_of, lengths_of}
use Rattle.escape_plan.specs.Searching.{each_of}
use Rattle.escape_plan.specs.Together.{Belongs, IsHeapOf, Together}
use Rattle.escape_plan.specs.Escapes.{IsKnown, HasRoom, KeepsRest, Escapes}
use Rattle.escape_plan.proofs.Searching.{in_first, first_in}
use Rattle.escape_plan.proofs.Reaching.{some_reached}
use Rattle.escape_plan.proofs.Sums.{needed_sum, needed_less}
use Rattle.escape_plan.proofs.Belonging.{part_is, led_escapes, escapes_led, whole_sum}

one_of : (b x : BlockId) → (same_id b x || false) ≡ true → b ≡ x
one_of b x h = go (same_id b x) refl h
  where
    go : (s : Bool) → same_id b x ≡ s → (s || false) ≡ true → b ≡ x
    go true e h = same_is b x e
    go false e h = cc

-- what the blocks that are there lead to, one or the other
led_either : (p : Part) (o v : Option BlockId) (c : BlockId) → LedFrom p (firsts o v) c → EscWithin p o c ⊎ EscWithin p v c
led_either p None None c led = let no : false ≡ true = led.1 in cc (no)
led_either p None (Some v) c led = inr (subst (λ x. EscWithin p (Some x) c) (one_of led.0 v led.1) led.2)
led_either p (Some o) None c led = inl (subst (λ x. EscWithin p (Some x) c) (one_of led.0 o led.1) led.2)
led_either p (Some o) (Some v) c led = go (same_id led.0 o) refl led.1
  where
    go : (s : Bool) → same_id led.0 o ≡ s → (s || (same_id led.0 v || false)) ≡ true → EscWithin p (Some o) c ⊎ EscWithin p (Some v) c
    go true e h = inl (subst (λ x. EscWithin p (Some x) c) (same_is led.0 o e) led.2)
    go false e h = inr (subst (λ x. EscWithin p (Some x) c) (one_of led.0 v h) led.2)

or_true : (b : Bool) → (b || true) ≡ true
or_true true = refl
or_true false = refl

led_first : (p : Part) (o v : Option BlockId) (c : BlockId) → EscWithin p o c → LedFrom p (firsts o v) c
led_first p None v c e = absurd e
led_first p (Some o) None c e = (o, ap (λ b. b || false) (same_self o), e)
led_first p (Some o) (Some v) c e = (o, ap (λ b. b || (same_id o v || false)) (same_self o), e)

led_second : (p : Part) (o v : Option BlockId) (c : BlockId) → EscWithin p v c → LedFrom p (firsts o v) c
led_second p o None c e = absurd e
led_second p None (Some v) c e = (v, ap (λ b. b || false) (same_self v), e)
led_second p (Some o) (Some v) c e = (v, ap (λ b. same_id v o || (b || false)) (same_self v) ∙ or_true (same_id v o), e)

path_more : (p : Part) (a : BlockId) (steps : List BlockId) (b c : BlockId) → Path (WordEdge p.blocks) a steps b → WordEdge p.blocks b c → Leads (WordEdge p.blocks) a c
path_more p a [] b c q r = (c ∷ [], (subst (λ x. WordEdge p.blocks x c) (sym q) r, refl))
path_more p a (d ∷ steps) b c q r = let rest = path_more p d steps b c q.1 r in (d ∷ rest.0, (q.0, rest.1))

-- a plan that fits is whole
pub plan_whole : (p : Part) (first : List BlockId) (h : Shared) (plan : Plan) → Plans p first h plan → PlanFits plan h → IsWhole p plan
plan_whole p first h plan plans fits = record {
  ascending = plans.ascending;
  quanta = plans.quanta;
  own = λ c h. (plans.led c h).2.0;
  closed = λ a b here edge own. let led = plans.led a here in plans.whole fits b (led.0, led.1, (own, path_more p led.0 led.2.1.0 a b led.2.1.1 edge));
}

module _ (z : State) (t : ℕ) (sound : Sound z) (o v : Option BlockId) (known_o : IsKnown z t o) (known_v : IsKnown z t v) where
  within_of : (o : Option BlockId) (c : BlockId) → EscWithin (part_of z t) o c → EscOf z o c
  within_of None c e = absurd e
  within_of (Some b) c e = led_escapes z t sound b c e

  of_within : (o : Option BlockId) (c : BlockId) → IsKnown z t o → EscOf z o c → EscWithin (part_of z t) o c
  of_within None c known e = absurd e
  of_within (Some b) c known e = escapes_led z t sound b c (known b refl) e

  -- what is led to is what escapes
  tells_both : (need : BlockId → Bool) → ((c : BlockId) → IsTrue (need c) ↔ LedFrom (part_of z t) (firsts o v) c) → Tells need (λ c. EscOf z o c ⊎ EscOf z v c)
  tells_both need is c = (
    λ h. elim (led_either (part_of z t) o v c ((is c).0 h)) [ inl e ↦ inl (within_of o c e) | inr e ↦ inr (within_of v c e) ],
    λ e. elim e [ inl k ↦ (is c).1 (led_first (part_of z t) o v c (of_within o c known_o k)) | inr k ↦ (is c).1 (led_second (part_of z t) o v c (of_within v c known_v k)) ],
  )

  pub plan_tells : (h : Shared) (plan : Plan) → Plans (part_of z t) (firsts o v) h plan → PlanFits plan h → Tells (among plan.ids) (λ c. EscOf z o c ⊎ EscOf z v c)
  plan_tells h plan plans fits = tells_both (among plan.ids) (λ c. (plans.led c, plans.whole fits c))

  pub plan_fits : (h : Shared) (plan : Plan) → Stands h z → Plans (part_of z t) (firsts o v) h plan → PlanFits plan h → is_overfull z (quanta_needed z (among plan.ids)) ≡ false
  plan_fits h plan s plans fits =
      full_stands h z (quanta_needed z (among plan.ids)) s ∙ ap (λ n. nat_lt h.options.heap_quanta (used_by h.blocks + n)) (whole_sum z t sound plan (plan_whole (part_of z t) (firsts o v) h plan plans fits))
      ∙ below h.options.heap_quanta (used_by h.blocks + plan.quanta) fits
    where
      below : (a b : ℕ) → b ≤ a → nat_lt a b ≡ false
      below a b l = grind (arith, nat_tests)

  pub plan_passes : (h : Shared) (plan : Plan) (need : BlockId → Bool) → Stands h z → Plans (part_of z t) (firsts o v) h plan → (PlanFits plan h → ⊥) → ((c : BlockId) → LedFrom (part_of z t) (firsts o v) c → need c ≡ true) → is_overfull z (quanta_needed z need) ≡ true
  plan_passes h plan need s plans over all =
      let part : quanta_needed z (among plan.ids) ≡ sum_of (part_of z t).blocks plan.ids = needed_sum z t plan.ids (listed_distinct plan.ids plans.ascending) (λ q h. (plans.led q h).2.0) in
      let less : quanta_needed z (among plan.ids) ≤ quanta_needed z need = needed_less z (among plan.ids) need (λ q h. all q (plans.led q h)) in
      full_stands h z (quanta_needed z need) s ∙ above h.options.heap_quanta (used_by h.blocks + plan.quanta) (used_by h.blocks + quanta_needed z need) over (omega (arith, part, less, plans.quanta))
    where
      above : (a b c : ℕ) → (b ≤ a → ⊥) → b ≤ c → nat_lt a c ≡ true
      above a b c over l = go (nat_lt a b) refl
        where
          go : (s : Bool) → nat_lt a b ≡ s → nat_lt a c ≡ true
          go true e = let m : a < b = grind (arith, nat_tests) in let n : a < c = omega (arith, m, l) in grind (arith, nat_tests)
          go false e = absurd (over (grind (arith, nat_tests)))

-- some test tells what two blocks lead to
some_need : (l : LocalSet) (o v : Option BlockId) → (need : BlockId → Bool) × ((c : BlockId) → IsTrue (need c) ↔ LedFrom (part_in l) (firsts o v) c)
some_need l o v =
    let found = some_reached l.blocks (each_of (firsts o v)) in (
      among found.0,
      λ c. (
        λ h. let led = (found.1 c).0 h in (led.1, in_first (firsts o v) led.1 led.2, (led.0, led.3)),
        λ led. (found.1 c).1 (led.2.0, led.0, first_in (firsts o v) led.0 led.1, led.2.1),
      ),
    )

-- the heap is that of a state still where its room alone has changed
pub heap_still : (h k : Shared) (z : State) (r : Ready) (room : List ℕ) → k ≡ record h { ready = r; room = room } → IsHeapOf h z → IsHeapOf k z
heap_still h k z r room same is = subst (λ s. IsHeapOf s z) (sym same) record {
  stands = record { options = is.stands.options; blocks = is.stands.blocks; roots = is.stands.roots; counts = is.stands.counts; assocs = is.stands.assocs; weak = is.stands.weak; cycle = is.stands.cycle };
  holds = is.holds;
  sound = is.sound;
}

pub together_still : (l : LocalSet) (h k : Shared) (z : State) (r : Ready) → k ≡ record h { ready = r; room = [] } → Together l h z → Together l k z
together_still l h k z r same t = record { local = t.local; heap = heap_still h k z r [] same t.heap; room = ap (λ (s : Shared). s.room) same }

pub has_room : (r : Ready) (o v : Option BlockId) → HasRoom (with_room r o v) o v
has_room r o v = record { counts = omega arith; object = first o; value = second v }
  where
    first : (o : Option BlockId) → IfSome o (λ b. (with_room r o v).object ≡ Some b)
    first None = tt
    first (Some b) = refl

    second : (v : Option BlockId) → IfSome v (λ b. (with_room r o v).value ≡ Some b)
    second None = tt
    second (Some b) = refl

pub keeps_rest : (l m : LocalSet) → m ≡ record l { blocks = m.blocks } → KeepsRest l m
keeps_rest l m e = e ∙ (λ i. record l { blocks = m.blocks; published = ap (λ (s : LocalSet). s.published) (sym e) i; changed = ap (λ (s : LocalSet). s.changed) (sym e) i })

-- the answer where the plan fits, and where it doesn't
pub did_escape : (l m : LocalSet) (h g k : Shared) (o v : Option BlockId) (plan : Plan) (r : Ready) (room : List ℕ) → l.waiting ≡ [] → g ≡ record h { ready = r; room = room } → Plans (part_in l) (firsts o v) g plan → PlanFits plan g
    → ((z : State) → Belongs l z → IsHeapOf h z → Together m k (with_escaped z (among plan.ids))) → Escapes l m h k o v true
did_escape l m h g k o v plan r room out same plans fits does = λ z t known_o known_v.
    let is = part_is l z t.local out in
    let p : Plans (part_of z l.thread) (firsts o v) g plan = subst (λ p. Plans p (firsts o v) g plan) is plans in
    let s : IsHeapOf g z = heap_still h g z r room same t.heap in (
      among plan.ids,
      plan_tells z l.thread t.heap.sound o v known_o known_v g plan p fits,
      plan_fits z l.thread t.heap.sound o v known_o known_v g plan s.stands p fits,
      does z t.local t.heap,
    )

pub did_not : (l : LocalSet) (h g k : Shared) (o v : Option BlockId) (plan : Plan) (r : Ready) (room : List ℕ) → l.waiting ≡ [] → g ≡ record h { ready = r; room = room } → Plans (part_in l) (firsts o v) g plan → (PlanFits plan g → ⊥)
    → k ≡ record h { ready = r; room = [] } → Escapes l l h k o v false
did_not l h g k o v plan r room out same plans over after = λ z t known_o known_v.
    let is = part_is l z t.local out in
    let p : Plans (part_of z l.thread) (firsts o v) g plan = subst (λ p. Plans p (firsts o v) g plan) is plans in
    let s : IsHeapOf g z = heap_still h g z r room same t.heap in
    let found = some_need l o v in
    let need = subst (λ (q : Part). (c : BlockId) → IsTrue (found.0 c) ↔ LedFrom q (firsts o v) c) is found.1 in (
      found.0,
      tells_both z l.thread t.heap.sound o v known_o known_v found.0 need,
      plan_passes z l.thread t.heap.sound o v known_o known_v g plan found.0 s.stands p over (λ c led. (need c).1 led),
      together_still l h k z r after t,
    )
