-- Local calls of a session, and what its part is
use Rattle.std.proofs.Common.{◌≡◌, ℕ, true, false, Bool, List, [], ◌∷◌, ◌++◌, None, Some, Result, Ok, Err, refl, sym, ap, subst, ◌∙◌}
use Rattle.az_base.specs.declared.options.Options.{Options}
use Rattle.az_base.specs.Ids.{among}
use Rattle.atomic_table.specs.Seated.{TableId}
use Rattle.zone_model.specs.declared.call.Call.{Call}
use Rattle.zone_model.specs.declared.entry.Entry.{Entry}
use Rattle.zone_model.specs.declared.entry.Reply.{Reply}
use Rattle.zone_model.specs.LocalSteps.{LocalRun}
use Rattle.zone_model.specs.Part.{Part, part_of, opening_part, PartRun, Solo}
use Rattle.zone_model.specs.State.{State, opening}
use Rattle.zone_model.proofs.PartSteps.{parts_law}
use Rattle.zone_model.proofs.Waiting.{local_run_more, waiting_own}
use Rattle.zone_gate.specs.Shown.{SeatShown, new_seat}
use Rattle.escape_plan.specs.Together.{Belongs}
use Rattle.local_set.specs.declared.errors.LocalErr.{LocalErr}
use Rattle.local_set.specs.declared.errors.LocalErr.TheVariants as err
use Rattle.local_set.specs.Calls.{Answers, Made, Same, entry_of}
use Rattle.zone_model.specs.Holds.{word_holds}
use Rattle.local_set.specs.LocalSets.{LocalSet, part_in, held_in}
use Rattle.zone_escape.specs.Cores.{IsUnused}
use Rattle.zone_escape.proofs.Making.{belongs_now}
use Rattle.auto_zone.specs.Sessions.{AlwaysIn, Always}

-- only the room has changed
pub same_always : (s : SeatShown) (l m : LocalSet) → Same l m → Always s l → Always s m
same_always s l m same a = subst (Always s) (sym same) (record {
  state = a.state;
  ends = a.ends;
  own = a.own;
  thread = a.thread;
  belongs = record { options = a.belongs.options; run = a.belongs.run; published = a.belongs.published; unchanged = a.belongs.unchanged };
  phase = a.phase;
  running = a.running;
})

made_belongs : (l m : LocalSet) (z : State) (c : Call) (r : Reply) → Made l m c r → Belongs l z → Belongs m z
made_belongs l m z c r made b = record {
  options = made.options ∙ b.options;
  run = subst (λ t. LocalRun (part_of z t) t m.waiting (part_in m)) (sym made.thread) (subst (λ (es : List Entry). LocalRun (part_of z l.thread) l.thread es (part_in m)) (sym made.waiting)
      (local_run_more (part_of z l.thread) l.thread l.waiting (part_in l) (entry_of l.thread c r) (part_in m) b.run made.step));
  published = λ r. ap (λ rs. held_in rs r) made.published ∙ b.published r ∙ ap (λ t. z.registers t r) (sym made.thread);
  unchanged = λ q none. made.notes.others q none ∙ b.unchanged q (before q none (among l.changed q) refl) ∙ ap (λ t. word_holds (part_of z t).blocks q) (sym made.thread);
}
  where
    before : (q : _) → among m.changed q ≡ false → (b : Bool) → among l.changed q ≡ b → among l.changed q ≡ false
    before q none true e = let bad : true ≡ false = sym (made.notes.kept q e) ∙ none in cc (bad)
    before q none false e = e

pub answers_always : (s : SeatShown) (l m : LocalSet) (c : Call) (r : Result Reply LocalErr) → Answers l m c r → Always s l → Always s m
answers_always s l m c (Ok reply) made a = record {
  state = a.state;
  ends = a.ends;
  own = a.own;
  thread = made.thread ∙ a.thread;
  belongs = made_belongs l m a.state c reply made a.belongs;
  phase = a.phase;
  running = made.running;
}
answers_always s l m c (Err err.NotLocal) h a = same_always s l m h.1 a
answers_always s l m c (Err err.PendingFull) h a = same_always s l m h.2 a
answers_always s l m c (Err err.NoMemory) h a = same_always s l m h.2 a

part_append : (p : Part) (es : List Entry) (mid : Part) (later : List Entry) (last : Part) → PartRun p es mid → PartRun mid later last → PartRun p (es ++ later) last
part_append p [] mid later last r s = subst (λ q. PartRun q later last) r s
part_append p (e ∷ es) mid later last r s = (r.0, r.1, part_append r.0 es mid later last r.2 s)

-- the part of a session is its own entries' alone
pub always_solo : {P : State → ℕ → Type 0} (s : SeatShown) (l : LocalSet) → AlwaysIn P s l → Solo s.options (s.own ++ l.waiting) (part_in l)
always_solo s l a =
    let front : PartRun (opening_part s.options) s.own (part_of a.state s.thread) = subst (λ es. PartRun (opening_part s.options) es (part_of a.state s.thread)) a.own (parts_law s.options s.seen a.state s.thread a.ends) in
    let back : PartRun (part_of a.state s.thread) l.waiting (part_in l) = subst (λ t. PartRun (part_of a.state t) l.waiting (part_in l)) a.thread (waiting_own (part_of a.state l.thread) l.thread l.waiting (part_in l) a.belongs.run) in
    part_append (opening_part s.options) s.own (part_of a.state s.thread) l.waiting (part_in l) front back

-- a session as it begins
pub new_always : (id : TableId) (o : Options) (t : ℕ) (s : SeatShown) (l : LocalSet) → s ≡ new_seat id o t → IsUnused l o → l.thread ≡ t → Always s l
new_always id o t s l seat unused thread = subst (λ x. Always x l) (sym seat) (record {
  state = opening o;
  ends = refl;
  own = refl;
  thread = thread;
  belongs = belongs_now l (opening o) unused.out (unused.part ∙ sym (parts_law o [] (opening o) l.thread refl)) (λ r. ap (λ rs. held_in rs r) unused.published);
  phase = λ c has. let none : None ≡ Some c = has.0 in cc (none);
  running = ap (λ (p : Part). p.ended) unused.part;
})
