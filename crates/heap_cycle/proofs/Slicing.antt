-- The shades that a cycle shows are those of its tables, and what a slice keeps
use Rattle.std.proofs.Common.{◌≡◌, ◌≢◌, ◌≤◌, cond, false, Option, None, Some, IsTrue, count_by, length, slice_get, unwrap_or, refl, sym, ap, subst, ◌∙◌, arith}
use Rattle.std.specs.FinMap.{FinMap, get, retain_keys, get-retain_keys}
use Rattle.az_base.specs.declared.block_id.BlockId.{BlockId}
use Rattle.az_base.specs.Ids.{among, exact_ids, id_cmp}
use Rattle.quantum_space.specs.declared.shade.Shade.{Shade}
use Rattle.quantum_space.specs.declared.shade.Shade.TheVariants as shade
use Rattle.quantum_space.specs.Shapes.{Shape}
use Rattle.quantum_space.proofs.Lists.{count_same, has_among}
use Rattle.gen_marker.specs.declared.scanning.Progress.{Progress}
use Rattle.gen_marker.specs.declared.scanning.Progress.TheVariants as progress
use Rattle.gen_marker.specs.Marking.{Marking, Shut, Spreads, Tracks, blacks, is_black}
use Rattle.gen_marker.specs.Progress.{Ends}
use Rattle.gen_marker.specs.Tight.{Tight}
use Rattle.gen_marker.proofs.Tight.{tight_darker}
use Rattle.zone_model.specs.Room.{WithRoom}
use Rattle.heap_tables.specs.Graphs.{graph_of, shades_of}
use Rattle.heap_tables.specs.Unshaded.{unshaded}
use Rattle.heap_tables.specs.declared.tables.Tables.{Tables}
use Rattle.heap_cycle.specs.Collector.{shade_in}
use Rattle.heap_cycle.specs.Collects.{Collects, KeepsPhase, Marks, collecting, condemned_at, is_old_at, shades_at, start_of}
use Rattle.heap_cycle.specs.Phases.{IsSliced}
use Rattle.heap_cycle.specs.Waiting.{awaits_in}
use Rattle.heap_cycle.specs.declared.open_cycle.OpenCycle.{OpenCycle}
use Rattle.heap_cycle.specs.declared.open_cycle.Phase.{Phase}
use Rattle.heap_cycle.specs.declared.open_cycle.Phase.TheVariants as phase
use Rattle.heap_cycle.proofs.Bare.{cards_unshaded}

-- the shades that are shown are those of the tables
pub shown_shade : (t : Tables) (b : BlockId) → IsTrue (among (start_of t) b) → unwrap_or (get (retain_keys t.blocks.shades (among (start_of t))) b) shade.White ≡ shades_of t b
shown_shade t b i = ap (λ (o : Option Shade). unwrap_or o shade.White) (get-retain_keys t.blocks.shades (among (start_of t)) b (λ k e. ap (among (start_of t)) (sym (exact_ids b k e))) ∙ ap (λ p. cond p (get t.blocks.shades b) None) i)

-- a phase that isn't condemned shows the shades of the start
pub shown_at : (t : Tables) (p : Phase) → condemned_at p ≡ None → shades_at t p ≡ retain_keys t.blocks.shades (among (start_of t))
shown_at t (phase.Marking marker reply kept) e = refl
shown_at t (phase.Settling pass) e = cc (e)

-- of other blocks it shows none
pub shown_past : (t : Tables) (b : BlockId) → among (start_of t) b ≡ false → unwrap_or (get (retain_keys t.blocks.shades (among (start_of t))) b) shade.White ≡ shade.White
shown_past t b i = ap (λ (o : Option Shade). unwrap_or o shade.White) (get-retain_keys t.blocks.shades (among (start_of t)) b (λ k e. ap (among (start_of t)) (sym (exact_ids b k e))) ∙ ap (λ p. cond p (get t.blocks.shades b) None) i)

-- so it is with a cycle that marks
pub marking_shade : (t : Tables) (o : OpenCycle) → condemned_at o.phase ≡ None → (b : BlockId) → IsTrue (among (start_of t) b) → shade_in (collecting t o) b ≡ shades_of t b
marking_shade t o fresh b i = ap (λ (m : FinMap id_cmp Shade). unwrap_or (get m b) shade.White) (shown_at t o.phase fresh) ∙ shown_shade t b i

pub marking_past : (t : Tables) (o : OpenCycle) → condemned_at o.phase ≡ None → (b : BlockId) → among (start_of t) b ≡ false → shade_in (collecting t o) b ≡ shade.White
marking_past t o fresh b i = ap (λ (m : FinMap id_cmp Shade). unwrap_or (get m b) shade.White) (shown_at t o.phase fresh) ∙ shown_past t b i

-- as many blocks of the start are black as in the tables
pub blacks_shown : (t : Tables) (o : OpenCycle) → condemned_at o.phase ≡ None → blacks (start_of t) (shade_in (collecting t o)) ≡ blacks (start_of t) (shades_of t)
blacks_shown t o fresh = count_same (λ b. is_black (shade_in (collecting t o) b)) (λ b. is_black (shades_of t b)) (start_of t) (λ b h. ap is_black (marking_shade t o fresh b (has_among (start_of t) b h)))

-- a slice ends alike in both
pub ends_shown : (p : Progress) (t : Tables) (o : OpenCycle) (all : Type 0) → condemned_at o.phase ≡ None → Ends p (start_of t) (shades_of t) all → Ends p (start_of t) (shade_in (collecting t o)) all
ends_shown progress.Done t o all fresh none = λ b h grey. none b h (sym (marking_shade t o fresh b (has_among (start_of t) b h)) ∙ grey)
ends_shown progress.More t o all fresh some = (record { id = some.0.id; block = some.0.block; grey = marking_shade t o fresh some.0.id (has_among (start_of t) some.0.id some.0.block) ∙ some.0.grey }, some.1)

-- an open cycle that marks on over the tables
module _ (old new : Tables) (before after : OpenCycle) (fresh : condemned_at before.phase ≡ None) (is : IsSliced old new before after) where
  same_start : start_of new ≡ start_of old
  same_start = ap start_of is.tables

  same_cards : new.cards.list ≡ old.cards.list
  same_cards = ap (λ (t : Tables). t.cards.list) is.tables

  -- the tables keep what they have to
  pub sliced_collects : Collects old (Some before) → Collects new (Some after)
  sliced_collects k = record {
    cards = cards_unshaded old new is.tables k.cards;
    old = λ n a i. ap (λ (t : Tables). is_old_at t.blocks.blocks a) is.tables ∙ k.old fresh a (sym (ap (λ l. among l a) same_cards) ∙ i);
    open_cycle = λ c e. subst (λ (x : OpenCycle). KeepsPhase new x x.phase) (some_same after c e) is.marks;
    lent = λ c n room e at.
        let given = k.lent before n room refl (sym (ap (λ (x : OpenCycle). slice_get x.lent.items n) (sym (some_same after c e) ∙ is.cycle)) ∙ at) in
        (given.0, subst (λ l. length l ≤ room.spare) (sym same_start) given.1);
  }
    where
      some_same : (x y : OpenCycle) → Some x ≡ Some y → x ≡ y
      some_same x y e = cc

-- a slice of the marker keeps what the phase keeps
pub marks_on : (old new : Tables) (o p : OpenCycle) (m n : Marking) (reply kept : WithRoom) → Marks old o m reply kept → unshaded new ≡ unshaded old → Tracks n (graph_of new).blocks (shades_of new) → n.mode ≡ m.mode
    → Shut n.mode (graph_of new) (shades_of new) → ((b : BlockId) → shades_of old b ≢ shade.White → shades_of new b ≢ shade.White) → p.mode ≡ o.mode → p.left ≡ o.left → Marks new p n reply kept
marks_on old new o p m n reply kept k same tracks mode shut stays own left = record {
  mode = mode ∙ k.mode ∙ sym own;
  tracks = tracks;
  tight = subst (λ v. Tight v (graph_of new) (shades_of new)) (sym own) tight;
  left =
      let e : count_by (awaits_in new.blocks.blocks) (start_of new) ≡ count_by (awaits_in old.blocks.blocks) (start_of old) = ap (λ (t : Tables). count_by (awaits_in t.blocks.blocks) (start_of t)) same in
      let was = k.left in omega (arith, e, left, was);
  empty = k.empty;
  reply_room = subst (λ l. length l ≤ reply.spare) (sym (ap start_of same)) k.reply_room;
  kept_room = subst (λ l. length l ≤ kept.spare) (sym (ap start_of same)) k.kept_room;
}
  where
    shape : graph_of new ≡ graph_of old
    shape = ap graph_of same

    tight : Tight o.mode (graph_of new) (shades_of new)
    tight =
        tight_darker o.mode (graph_of new) (shades_of old) (shades_of new) stays (subst (λ v. Shut v (graph_of new) (shades_of new)) (mode ∙ k.mode) shut)
        (subst (λ (s : Shape). Tight o.mode s (shades_of old)) (sym shape) k.tight)

-- so the cycle has marked on
pub is_sliced : (old new : Tables) (o : OpenCycle) (m n : Marking) (reply kept : WithRoom) → Collects old (Some o) → o.phase ≡ phase.Marking m reply kept → unshaded new ≡ unshaded old → Tracks n (graph_of new).blocks (shades_of new) → n.mode ≡ m.mode
    → Shut n.mode (graph_of new) (shades_of new) → Spreads m.mode (graph_of old) (shades_of old) (shades_of new) → IsSliced old new o (record o { phase = phase.Marking n reply kept })
is_sliced old new o m n reply kept k is same tracks mode shut spreads = record {
  tables = same;
  cycle = refl;
  marks = marks_on old new o (record o { phase = phase.Marking n reply kept }) m n reply kept marks same tracks mode shut spreads.stays refl refl;
  fresh = refl;
  spreads = subst (λ v. Spreads v (graph_of old) (shades_of old) (shades_of new)) marks.mode spreads;
}
  where
    marks : Marks old o m reply kept
    marks = subst (KeepsPhase old o) is (k.open_cycle o refl)
