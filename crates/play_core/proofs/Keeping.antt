-- Each call of a thread keeps the world
use Rattle.std.proofs.Common.{◌≡◌, ◌==◌, ◌≤◌, ℕ, Bool, true, false, MatchBool, List, [], ◌∷◌, ◌++◌, Some, length, slice_get, slice_set, refl, sym, ap, subst, ◌∙◌, inl, inr, Result, Ok, Err, IfOk, OnErr}
use Rattle.az_base.specs.declared.misuse.NoMemory.{NoMemory}
use Rattle.az_base.specs.declared.options.Options.{Options}
use Rattle.zone_model.specs.declared.call.Call.{Call}
use Rattle.zone_model.specs.declared.entry.Entry.{Entry}
use Rattle.zone_model.specs.declared.entry.Reply.{Reply}
use Rattle.zone_model.specs.Part.{is_local}
use Rattle.local_set.specs.Calls.{Made, Same, entry_of}
use Rattle.local_set.specs.LocalSets.{LocalSet, part_in}
use Rattle.zone_escape.specs.Cores.{CoreShown, IsCore, BelongsTo}
use Rattle.zone_escape.specs.Publications.{Publishes, Flushed, Stepped, Untouched, Refused}
use Rattle.zone_escape.proofs.Belonging.{made_belongs, same_belongs, other_belongs, untouched_belongs}
use Rattle.play_core.specs.Turning.{MakesRoom, Turned, Stopped}
use Rattle.play_core.specs.Worlds.{Ascending}
use Rattle.play_core.specs.Inside.{Keeps}
use Rattle.play_core.proofs.Sets.{apart, threads_set, set_at}

-- what a call leaves of the core, and of what belongs to it
pub record Moves (l m : LocalSet) (k n : CoreShown) : Type 0 where
  pub thread : m.thread ≡ l.thread
  pub options : n.heap.options ≡ k.heap.options
  pub belongs : BelongsTo m n
  pub others : (x : LocalSet) → (l.thread == x.thread) ≡ false → BelongsTo x k → BelongsTo x n

published : (l m : LocalSet) (k n : CoreShown) (es : List Entry) → IsCore k → Publishes l m k n es → Moves l m k n
published l m k n es core p = record {
  thread = p.thread;
  options = p.options;
  belongs = p.belongs;
  others = λ x other b. other_belongs l.thread x k n core p.others other b;
}

-- the same state, and so the same sets
untouched : (l m : LocalSet) (k n : CoreShown) → IsCore k → Untouched l m k n → BelongsTo l k → Moves l m k n
untouched l m k n core u belongs = record {
  thread = ap (λ (x : LocalSet). x.thread) u.local;
  options = u.options;
  belongs = subst (λ x. BelongsTo x n) (sym u.local) (untouched_belongs l k n core u.state belongs);
  others = λ x other b. untouched_belongs x k n core u.state b;
}

nothing_done : (l : LocalSet) (k : CoreShown) → BelongsTo l k → Moves l l k k
nothing_done l k belongs = record { thread = refl; options = refl; belongs = belongs; others = λ x other b. b }

then_made : (l mid m : LocalSet) (k n : CoreShown) (c : Call) (reply : Reply) → Moves l mid k n → Made mid m c reply → Moves l m k n
then_made l mid m k n c reply moves made = record {
  thread = made.thread ∙ moves.thread;
  options = moves.options;
  belongs = made_belongs mid m n c reply moves.belongs made;
  others = moves.others;
}

made_room : (l mid : LocalSet) (k n : CoreShown) → IsCore k → BelongsTo l k → (b : Bool) → MatchBool b (Flushed l mid k n) ((mid ≡ l) × (n ≡ k)) → Moves l mid k n
made_room l mid k n core belongs true flushed = published l mid k n l.waiting core flushed.published
made_room l mid k n core belongs false same = subst (λ (x : LocalSet). Moves l x k n) (sym same.0) (subst (λ (x : CoreShown). Moves l l k x) (sym same.1) (nothing_done l k belongs))

-- a call
pub keeps_turned : (l m : LocalSet) (k n : CoreShown) (c : Call) (reply : Reply) → IsCore k → BelongsTo l k → Turned l m k n c reply → Moves l m k n
keeps_turned l m k n c reply core belongs turned = by (is_local (part_in l) c) turned
  where
    by : (b : Bool) → MatchBool b ((mid : LocalSet) × MakesRoom l mid k n × Made mid m c reply) (Stepped l m k n c reply) → Moves l m k n
    by true h = then_made l h.0 m k n c reply (made_room l h.0 k n core belongs (length l.waiting == l.options.pending) h.1) h.2
    by false h = published l m k n (l.waiting ++ entry_of l.thread c reply ∷ []) core h.published

-- and one for which memory was wanting
pub keeps_stopped : (l m : LocalSet) (k n : CoreShown) → IsCore k → BelongsTo l k → Stopped l m k n → Moves l m k n
keeps_stopped l m k n core belongs s = roomed (by s.1)
  where
    by : Refused l s.0 k n → Moves l s.0 k n
    by (inl u) = untouched l s.0 k n core u belongs
    by (inr f) = published l s.0 k n l.waiting core f.published

    roomed : Moves l s.0 k n → Moves l m k n
    roomed moves = record {
      thread = ap (λ (x : LocalSet). x.thread) s.2 ∙ moves.thread;
      options = moves.options;
      belongs = same_belongs s.0 m n moves.belongs s.2;
      others = moves.others;
    }

-- where only the room had changed before
stopped_from : (l x m : LocalSet) (k n : CoreShown) → Same l x → Stopped x m k n → Stopped l m k n
stopped_from l x m k n same s = by s.1
  where
    by : Refused x s.0 k n → Stopped l m k n
    by (inl u) = (l, inl (record { local = refl; journal = u.journal; owed = u.owed; options = u.options; state = u.state }), s.2 ∙ ap (λ (y : LocalSet). record y { spare = m.spare }) (u.local ∙ same))
    by (inr f) =
        let g = subst (λ y. Flushed y s.0 k n) same f in
        let p = g.published in
        (s.0, inr (record { published = record { journal = p.journal; options = p.options; thread = p.thread; out = p.out; belongs = p.belongs; others = p.others }; part = g.part }), s.2)

pub err_from : (r : Result Reply NoMemory) (l x m : LocalSet) (k n : CoreShown) → Same l x → OnErr r (Stopped x m k n) → OnErr r (Stopped l m k n)
err_from (Ok reply) l x m k n same err = tt
err_from (Err e) l x m k n same err = stopped_from l x m k n same err

-- the world goes on
pub keeps_on : (k n : CoreShown) (locals : List LocalSet) (at : ℕ) (l m : LocalSet) → Keeps k locals → slice_get locals at ≡ Some l → Moves l m k n → Keeps n (slice_set locals at m)
keeps_on k n locals at l m keeps here moves = record {
  ascending = subst Ascending (sym (threads_set locals at l m here moves.thread)) keeps.ascending;
  belongs = λ j x h. elim (set_at locals at j m x h) [
    | inl s ↦ subst (λ y. BelongsTo y n) s.1 moves.belongs
    | inr s ↦ moves.others x (apart locals at j l x keeps.ascending here s.1 s.0) (keeps.belongs j x s.1)
  ];
  pending = subst (λ (o : Options). 1 ≤ o.pending) (sym moves.options) keeps.pending;
}

-- a call, made or refused
pub moves_of : (r : Result Reply NoMemory) (l m : LocalSet) (k n : CoreShown) (c : Call) → IsCore k → BelongsTo l k → IfOk r (λ reply. Turned l m k n c reply) → OnErr r (Stopped l m k n) → Moves l m k n
moves_of (Ok reply) l m k n c core belongs ok err = keeps_turned l m k n c reply core belongs ok
moves_of (Err e) l m k n c core belongs ok err = keeps_stopped l m k n core belongs err
