-- Which sets belong to a core
use Rattle.std.proofs.Common.{◌≡◌, ℕ, Bool, true, false, cond, Option, None, List, refl, sym, ap, subst, ◌∙◌}
use Rattle.std.specs.FinMap.{empty, get-empty, get-retain_keys, same_map}
use Rattle.az_base.specs.declared.block_id.BlockId.{BlockId}
use Rattle.az_base.specs.declared.options.Options.{Options}
use Rattle.az_base.specs.Ids.{among, id_cmp, ids_total, exact_ids}
use Rattle.zone_model.specs.declared.call.Call.{Call}
use Rattle.zone_model.specs.declared.entry.Entry.{Entry}
use Rattle.zone_model.specs.declared.entry.Reply.{Reply}
use Rattle.zone_model.specs.LocalSteps.{LocalRun}
use Rattle.zone_model.specs.Part.{part_of, opening_part}
use Rattle.zone_model.specs.State.{State, Block, opening, is_own}
use Rattle.zone_model.proofs.Waiting.{local_run_more}
use Rattle.local_set.specs.Calls.{Made, Same, entry_of}
use Rattle.zone_model.specs.Holds.{word_holds}
use Rattle.local_set.specs.LocalSets.{LocalSet, part_in, held_in}
use Rattle.escape_plan.specs.Together.{Belongs}
use Rattle.zone_escape.specs.Cores.{CoreShown, IsCore, IsCoreOf, BelongsTo, PartsStay, IsUnused, IsOfOther}
use Rattle.zone_escape.proofs.Making.{belongs_now}
use Rattle.zone_escape.proofs.Published.{core_once}
use Rattle.zone_escape.proofs.Shown.{belongs_still}

-- no thread has a block in the opening state
opened : (o : Options) (t : ℕ) → part_of (opening o) t ≡ opening_part o
opened o t = ap (λ m. record (opening_part o) { blocks = m }) (same_map ids_total exact_ids _ _ (λ q. get-retain_keys empty (is_own (opening o) t) q (λ k e. ap (is_own (opening o) t) (sym (exact_ids q k e))) ∙ ap (λ v. cond (is_own (opening o) t q) v None) (get-empty id_cmp q) ∙ none (is_own (opening o) t q) ∙ sym (get-empty id_cmp q)))
  where
    none : (b : Bool) → cond {A = Option Block} b None None ≡ None
    none true = refl
    none false = refl

pub new_belongs : (l : LocalSet) (k : CoreShown) (o : Options) → IsCoreOf k (opening o) → IsUnused l o → BelongsTo l k
new_belongs l k o new unused = λ z is. subst (Belongs l) (core_once k (opening o) z new is) (belongs_now l (opening o) unused.out (unused.part ∙ sym (opened o l.thread)) (λ r. ap (λ rs. held_in rs r) unused.published))

pub made_belongs : (l m : LocalSet) (k : CoreShown) (c : Call) (r : Reply) → BelongsTo l k → Made l m c r → BelongsTo m k
made_belongs l m k c r belongs made = λ z is.
    let b = belongs z is in
    let t : m.thread ≡ l.thread = made.thread in
    record {
      options = made.options ∙ b.options;
      run = subst (λ t. LocalRun (part_of z t) t m.waiting (part_in m)) (sym t) (subst (λ (es : List Entry). LocalRun (part_of z l.thread) l.thread es (part_in m)) (sym made.waiting) (local_run_more (part_of z l.thread) l.thread l.waiting (part_in l) (entry_of l.thread c r) (part_in m) b.run made.step));
      published = λ r. ap (λ rs. held_in rs r) made.published ∙ b.published r ∙ ap (λ t. z.registers t r) (sym t);
      unchanged = λ q none. made.notes.others q none ∙ b.unchanged q (before q none (among l.changed q) refl) ∙ ap (λ t. word_holds (part_of z t).blocks q) (sym t);
    }
  where
    before : (q : BlockId) → among m.changed q ≡ false → (b : Bool) → among l.changed q ≡ b → among l.changed q ≡ false
    before q none true e = let bad : true ≡ false = sym (made.notes.kept q e) ∙ none in cc (bad)
    before q none false e = e

pub same_belongs : (l m : LocalSet) (k : CoreShown) → BelongsTo l k → Same l m → BelongsTo m k
same_belongs l m k belongs same = subst (λ (x : LocalSet). BelongsTo x k) (sym same) (λ z is. let b = belongs z is in record { options = b.options; run = b.run; published = b.published; unchanged = b.unchanged })

pub other_belongs : (t : ℕ) (l : LocalSet) (k m : CoreShown) → IsCore k → PartsStay t k m → IsOfOther t l → BelongsTo l k → BelongsTo l m
other_belongs t l k m core stay other belongs = λ a is. belongs_still l core.0 a (stay core.0 a core.1 is l.thread other) (belongs core.0 core.1)

pub untouched_belongs : (l : LocalSet) (k m : CoreShown) → IsCore k → ((z : State) → IsCoreOf k z → IsCoreOf m z) → BelongsTo l k → BelongsTo l m
untouched_belongs l k m core same belongs = λ a is. subst (Belongs l) (core_once m core.0 a (same core.0 core.1) is) (belongs core.0 core.1)
