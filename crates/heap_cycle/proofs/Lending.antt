-- Lists that an open cycle lends
use Rattle.std.proofs.Common.{◌≡◌, ◌≤◌, ◌++◌, ℕ, zero, suc, List, [], ◌∷◌, Some, length, slice_get, refl, sym, ap, subst, ◌∙◌}
use Rattle.zone_model.specs.Room.{WithRoom}
use Rattle.heap_tables.specs.declared.tables.Tables.{Tables}
use Rattle.heap_cycle.specs.Collects.{Collects, KeepsPhase, Marks, Settles, condemned_at, start_of}
use Rattle.heap_cycle.specs.declared.open_cycle.OpenCycle.{OpenCycle}
use Rattle.heap_cycle.specs.declared.open_cycle.Phase.{Phase}
use Rattle.heap_cycle.specs.declared.open_cycle.Phase.TheVariants as phase

-- what stands in the first of two lists stands at its place in both together
at_front : {X : Type 0} (xs ys : List X) (n : ℕ) (x : X) → slice_get xs n ≡ Some x → slice_get (xs ++ ys) n ≡ Some x
at_front [] ys n x e = cc (e)
at_front (y ∷ xs) ys zero x e = e
at_front (y ∷ xs) ys (suc n) x e = at_front xs ys n x e

-- the last stands at its place
at_end : {X : Type 0} (xs : List X) (x : X) → slice_get (xs ++ x ∷ []) (length xs) ≡ Some x
at_end [] x = refl
at_end (y ∷ xs) x = at_end xs x

-- what a phase keeps doesn't speak of them
keeps_lent : (t : Tables) (o p : OpenCycle) (f : Phase) → p ≡ record o { lent = p.lent } → KeepsPhase t o f → KeepsPhase t p f
keeps_lent t o p (phase.Marking m reply kept) is k = subst (λ (x : OpenCycle). Marks t x m reply kept) (sym is) (record { mode = k.mode; tracks = k.tracks; tight = k.tight; left = k.left; empty = k.empty; reply_room = k.reply_room; kept_room = k.kept_room })
keeps_lent t o p (phase.Settling pass) is k = subst (λ (x : OpenCycle). Settles t x pass) (sym is) (record { ascending = k.ascending; passed = k.passed; within = k.within; scope = k.scope; watched = k.watched; left = k.left })

-- a cycle that has lent its last list
module _ (t : Tables) (before after : OpenCycle) (room : WithRoom) (items : before.lent.items ≡ after.lent.items ++ room ∷ []) (is : after ≡ record before { lent = after.lent }) (k : Collects t (Some before)) where
  -- the list is empty, and has room for the start
  pub lent_one : (room.list ≡ []) × (length (start_of t) ≤ room.spare)
  lent_one = k.lent before (length after.lent.items) room refl (ap (λ l. slice_get l (length after.lent.items)) items ∙ at_end after.lent.items room)

  -- the tables keep with it what they have to
  pub lending_collects : Collects t (Some after)
  lending_collects = record {
    cards = k.cards;
    old = λ n. k.old (ap (λ (o : OpenCycle). condemned_at o.phase) (sym is) ∙ n);
    open_cycle = λ c e. subst (λ (x : OpenCycle). KeepsPhase t x x.phase) (some_same after c e) (subst (KeepsPhase t after) (ap (λ (o : OpenCycle). o.phase) (sym is)) (keeps_lent t before after before.phase is (k.open_cycle before refl)));
    lent = λ c n one e at. k.lent before n one refl (ap (λ l. slice_get l n) items ∙ at_front after.lent.items (room ∷ []) n one (ap (λ (x : OpenCycle). slice_get x.lent.items n) (some_same after c e) ∙ at));
  }
    where
      some_same : (x y : OpenCycle) → Some x ≡ Some y → x ≡ y
      some_same x y e = cc
