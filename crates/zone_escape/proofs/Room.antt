-- A core whose journal has more room
use Rattle.std.proofs.Common.{◌≡◌, List, [], ◌++◌, refl, sym, ap, subst, ◌∙◌, append-nil, Result, Ok, Err, OnOk, OnErr}
use Rattle.zone_model.specs.declared.entry.Entry.{Entry}
use Rattle.zone_model.specs.History.{Ends}
use Rattle.zone_model.specs.Part.{part_of}
use Rattle.zone_model.specs.State.{State}
use Rattle.zone_history.specs.Journals.{Recorded}
use Rattle.local_set.specs.LocalSets.{LocalSet}
use Rattle.zone_escape.specs.Cores.{CoreShown, IsCoreOf, BelongsTo}
use Rattle.zone_escape.specs.Publications.{Flushed, Untouched}
use Rattle.zone_escape.proofs.Published.{core_once}

abbrev with_journal : CoreShown → Recorded → CoreShown
with_journal k j = record { heap = k.heap; journal = j }

-- it is that of the same state
pub core_still : (k : CoreShown) (j : Recorded) → j.entries ≡ k.journal.entries → j.owed ≡ k.journal.owed → (z : State) → IsCoreOf k z → IsCoreOf (with_journal k j) z
core_still k j same owed z is = record { ends = subst (λ (es : List Entry). Ends k.heap.options es z) (sym same) is.ends; heap = is.heap; range = is.range; room = is.room; owed = owed ∙ is.owed; lists = is.lists }

core_back : (k : CoreShown) (j : Recorded) → j.entries ≡ k.journal.entries → j.owed ≡ k.journal.owed → (z : State) → IsCoreOf (with_journal k j) z → IsCoreOf k z
core_back k j same owed z is = record { ends = subst (λ (es : List Entry). Ends k.heap.options es z) same is.ends; heap = is.heap; range = is.range; room = is.room; owed = sym owed ∙ is.owed; lists = is.lists }

-- where nothing waits, all that waits was published
pub nothing_flushed : (l : LocalSet) (k : CoreShown) (j : Recorded) → j.entries ≡ k.journal.entries → j.owed ≡ k.journal.owed → l.waiting ≡ [] → BelongsTo l k → Flushed l l k (with_journal k j)
nothing_flushed l k j same owed out belongs = record {
  published = record {
    journal = same ∙ sym (append-nil k.journal.entries) ∙ ap (λ (ws : List Entry). k.journal.entries ++ ws) (sym out);
    options = refl;
    thread = refl;
    out = out;
    belongs = λ z is. belongs z (core_back k j same owed z is);
    others = λ z a iz ia u other. sym (ap (λ y. part_of y u) (core_once k z a iz (core_back k j same owed a ia)));
  };
  part = refl;
}

-- and nothing has changed
pub nothing_touched : (l : LocalSet) (k : CoreShown) (j : Recorded) → j.entries ≡ k.journal.entries → j.owed ≡ k.journal.owed → Untouched l l k (with_journal k j)
nothing_touched l k j same owed = record { local = refl; journal = same; owed = owed; options = refl; state = core_still k j same owed }

pub on_ok : {U E : Type 0} {P : Type 0} (r : Result U E) → P → OnOk r P
on_ok (Ok u) p = p
on_ok (Err e) p = tt

pub on_err : {U E : Type 0} {P : Type 0} (r : Result U E) → P → OnErr r P
on_err (Ok u) p = tt
on_err (Err e) p = p
