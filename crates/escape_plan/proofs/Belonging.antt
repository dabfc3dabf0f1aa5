-- Where a plan was committed, the set and the heap belong to the state in which its blocks have escaped
use Rattle.std.proofs.Common.{◌≡◌, ℕ, ◌+◌, ◌≤◌, ◌<◌, Bool, true, false, List, [], ◌∷◌, Option, Some, None, IsTrue, is_some, nat_lt, refl, sym, ap, subst, ◌∙◌, arith, ◌⊎◌, inl, inr}
use Rattle.std.proofs.lemmas.Bool.Decides.{nat_tests}
use Rattle.std.specs.FinMap.{contains_key}
use Rattle.az_base.specs.declared.block_id.BlockId.{BlockId}
use Rattle.az_base.specs.declared.options.Options.{Options}
use Rattle.az_base.specs.Ids.{among}
use Rattle.zone_model.specs.declared.entry.Entry.{Entry}
use Rattle.zone_model.specs.Escape.{Tells, EscFrom, EscOf, Esc, with_escaped}
use Rattle.zone_model.specs.LocalSteps.{LocalRun}
use Rattle.zone_model.specs.Misuses.{is_overfull}
use Rattle.zone_model.specs.Part.{Part, part_of, is_in, EscWithin}
use Rattle.zone_model.specs.Quanta.{used_quanta, quanta_needed}
use Rattle.zone_model.specs.Reach.{WordEdge, Path}
use Rattle.zone_model.specs.Sound.{Sound, Knows}
use Rattle.zone_model.specs.State.{State, is_own}
use Rattle.zone_model.proofs.Blocks.{own_inside}
use Rattle.zone_model.proofs.PartNeeds.{in_part, part_path, path_within}
use Rattle.zone_model.proofs.Soundness.{sound_intact, escape_sound}
use Rattle.block_table.specs.Table.{used_by}
use Rattle.shared_heap.specs.Shared.{Shared}
use Rattle.shared_heap.proofs.Sums.{used_stands, full_stands}
use Rattle.shared_heap.proofs.Shut.{holds_its_own}
use Rattle.zone_model.specs.Holds.{word_holds}
use Rattle.local_set.specs.LocalSets.{LocalSet, part_in, held_in, blocks_of}
use Rattle.local_set.specs.Tables.{Distinct}
use Rattle.local_set.proofs.Sorting.{listed_distinct}
use Rattle.escape_plan.specs.Moving.{Agree, CanMove}
use Rattle.escape_plan.specs.Planning.{Plan, IsWhole, PlanFits, LedFrom, Plans, firsts, sum_of, lengths_of}
use Rattle.escape_plan.specs.Together.{Belongs, IsHeapOf, Together}
use Rattle.escape_plan.specs.Escapes.{IsKnown}
use Rattle.escape_plan.proofs.Sums.{needed_sum}

-- where nothing waits, the set has its thread's part of the state
pub part_is : (l : LocalSet) (z : State) → Belongs l z → l.waiting ≡ [] → part_in l ≡ part_of z l.thread
part_is l z b out = subst (λ (es : List Entry). LocalRun (part_of z l.thread) l.thread es (part_in l)) out b.run

pub agrees : (l : LocalSet) (h : Shared) (z : State) → Belongs l z → IsHeapOf h z → l.waiting ≡ [] → Agree l h z
agrees l h z b k out = record { part = part_is l z b out; stands = k.stands; holds = k.holds; own = holds_its_own z k.sound; reached = k.sound.reached }

-- a path between blocks that ends at one that is there stays within what is closed
stays_within : (p : Part) (ids : List BlockId) (a : BlockId) (steps : List BlockId) (q : BlockId) → ((a b : BlockId) → among ids a ≡ true → WordEdge p.blocks a b → is_in p b ≡ true → among ids b ≡ true)
    → Path (WordEdge p.blocks) a steps q → is_in p q ≡ true → (is_in p a ≡ true → among ids a ≡ true) → among ids q ≡ true
stays_within p ids a [] q closed path there begun = subst (λ x. among ids x ≡ true) path (begun (subst (λ x. is_in p x ≡ true) (sym path) there))
stays_within p ids a (b ∷ steps) q closed path there begun = stays_within p ids b steps q closed path.1 there (λ own. closed a b (begun (ap is_some path.0.2)) path.0 own)

module _ (z : State) (t : ℕ) (sound : Sound z) where
  -- what the blocks lead to within the part is what escapes
  pub led_escapes : (b c : BlockId) → EscWithin (part_of z t) (Some b) c → Esc z b c
  led_escapes b c e = (own_inside z t c (sym (in_part z t c) ∙ e.0), (e.1.0, part_path z t b e.1.0 c e.1.1))

  pub escapes_led : (b c : BlockId) → Knows z t b → Esc z b c → EscWithin (part_of z t) (Some b) c
  escapes_led b c known e = let within = path_within z (sound_intact z sound) t b e.1.0 c e.1.1 known e.0 in (in_part z t c ∙ within.1, (e.1.0, within.2))

  -- a whole plan is what its own blocks lead to
  whole_tells : (plan : Plan) → IsWhole (part_of z t) plan → Tells (among plan.ids) (EscFrom z plan.ids)
  whole_tells plan w c = (
    λ h. (c, h, (own_inside z t c (sym (in_part z t c) ∙ w.own c h), ([], refl))),
    λ e.
        let led = escapes_led e.0 c (inr (sym (in_part z t e.0) ∙ w.own e.0 e.1)) e.2 in
        stays_within (part_of z t) plan.ids e.0 led.1.0 c w.closed led.1.1 led.0 (λ own. e.1),
  )

  pub whole_sum : (plan : Plan) → IsWhole (part_of z t) plan → quanta_needed z (among plan.ids) ≡ plan.quanta
  whole_sum plan w = needed_sum z t plan.ids (listed_distinct plan.ids w.ascending) w.own ∙ sym w.quanta

  pub whole_sound : (h : Shared) (plan : Plan) → IsHeapOf h z → IsWhole (part_of z t) plan → PlanFits plan h → Sound (with_escaped z (among plan.ids))
  whole_sound h plan k w fits = escape_sound z plan.ids (among plan.ids) sound (whole_tells plan w) (
      let used : used_quanta z ≡ used_by h.blocks = used_stands h z k.stands in
      let sum : quanta_needed z (among plan.ids) ≡ plan.quanta = whole_sum plan w in
      let most : z.options.heap_quanta ≡ h.options.heap_quanta = ap (λ (o : Options). o.heap_quanta) k.stands.options in
      omega (arith, used, sum, most, fits)
      )

-- the set and the heap after the last block was moved
pub committed : (l m : LocalSet) (h k : Shared) (z : State) (plan : Plan) → Belongs l z → IsHeapOf h z → l.waiting ≡ [] → IsWhole (part_in l) plan → PlanFits plan h → m ≡ record l { blocks = m.blocks }
    → Agree m k (with_escaped z (among plan.ids)) → k.room ≡ [] → Together m k (with_escaped z (among plan.ids))
committed l m h k z plan b is out w fits rest agree room = record {
  local = record {
    options = ap (λ (s : LocalSet). s.options) rest ∙ b.options;
    run = subst (λ (es : List Entry). LocalRun (part_of after m.thread) m.thread es (part_in m)) (sym (ap (λ (s : LocalSet). s.waiting) rest ∙ out)) agree.part;
    published = λ r. ap (λ (s : LocalSet). held_in s.published r) rest ∙ b.published r ∙ ap (λ (s : LocalSet). z.registers s.thread r) (sym rest);
    unchanged = λ q same. ap (λ (p : Part). word_holds p.blocks q) agree.part;
  };
  heap = record { stands = agree.stands; holds = agree.holds; sound = whole_sound z l.thread is.sound h plan is (subst (λ p. IsWhole p plan) (part_is l z b out) w) fits };
  room = room;
}
  where
    after : State
    after = with_escaped z (among plan.ids)

-- the plan's blocks may be moved
pub can_begin : (l : LocalSet) (h : Shared) (plan : Plan) → IsWhole (part_in l) plan → h.room ≡ lengths_of (part_in l).blocks plan.ids → PlanFits plan h → CanMove l h plan.ids
can_begin l h plan w room fits = record {
  distinct = listed_distinct plan.ids w.ascending;
  own = w.own;
  room = room;
  fits = subst (λ n. used_by h.blocks + n ≤ h.options.heap_quanta) w.quanta fits;
}
