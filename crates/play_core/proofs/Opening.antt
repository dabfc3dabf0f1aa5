-- A world in which nothing has happened
use Rattle.std.proofs.Common.{◌≡◌, ◌==◌, ◌<◌, ◌≤◌, ◌+◌, ℕ, zero, suc, Bool, true, false, cond, not, ◌||◌, List, [], ◌∷◌, ◌++◌, Some, None, find, length, take, take-suc, slice_get, slice_index_or, refl, sym, ap, ap₂, subst, ◌∙◌, arith}
use Rattle.std.specs.List.{list_any}
use Rattle.std.specs.Option.{option_map_or}
use Rattle.az_base.specs.declared.options.Options.{Options}
use Rattle.zone_model.specs.Part.{Part, opening_part}
use Rattle.zone_model.specs.State.{opening}
use Rattle.local_set.specs.LocalSets.{LocalSet, part_in}
use Rattle.zone_escape.specs.Cores.{CoreShown, IsCoreOf, IsUnused}
use Rattle.play_core.specs.Opening.{opening_seen, IsNew, AreNew}
use Rattle.play_core.specs.Worlds.{threads_in, Ascending, part_at, seen, is_running}
use Rattle.play_core.specs.Inside.{Keeps}
use Rattle.zone_escape.proofs.Belonging.{new_belongs}
use Rattle.play_core.proofs.Sets.{is_of, one_set}
use Rattle.play_core.proofs.Stepping.{world_of}

new_more : (o : Options) (ts : List ℕ) (ls : List LocalSet) (t : ℕ) (l : LocalSet) → AreNew o ts ls → IsNew o t l → AreNew o (ts ++ t ∷ []) (ls ++ l ∷ [])
new_more o [] [] t l h k = (k, tt)
new_more o (u ∷ us) (x ∷ xs) t l h k = (h.0, new_more o us xs t l h.1 k)
new_more o [] (x ∷ xs) t l h k = absurd h
new_more o (u ∷ us) [] t l h k = absurd h

-- one more set was made
pub new_next : (o : Options) (ts : List ℕ) (i t : ℕ) (ls : List LocalSet) (l : LocalSet) → i < length ts → t ≡ slice_index_or ts i t → AreNew o (take i ts) ls → IsNew o t l → AreNew o (take (i + 1) ts) (ls ++ l ∷ [])
new_next o ts i t ls l lt is h k =
    let next : i + 1 ≡ suc i = omega arith in
    subst (λ us. AreNew o us (ls ++ l ∷ [])) (sym (ap (λ n. take n ts) next ∙ take-suc ts i t lt ∙ ap (λ u. take i ts ++ u ∷ []) (sym is))) (new_more o (take i ts) ls t l h k)

pub new_threads : (o : Options) (ts : List ℕ) (ls : List LocalSet) → AreNew o ts ls → threads_in ls ≡ ts
new_threads o [] [] h = refl
new_threads o (t ∷ ts) (l ∷ ls) h = ap₂ (λ u us. u ∷ us) h.0.thread (new_threads o ts ls h.1)
new_threads o [] (l ∷ ls) h = absurd h
new_threads o (t ∷ ts) [] h = absurd h

one_of_new : (o : Options) (ts : List ℕ) (ls : List LocalSet) → AreNew o ts ls → (at : ℕ) (l : LocalSet) → slice_get ls at ≡ Some l → IsUnused l o
one_of_new o [] [] h at l here = absurd (none l here)
  where
    none : (l : LocalSet) → None ≡ Some l → ⊥
    none l h = cc (h)
one_of_new o (t ∷ ts) (x ∷ xs) h zero l here = subst (λ y. IsUnused y o) (one_set x l here) h.0.unused
one_of_new o (t ∷ ts) (x ∷ xs) h (suc at) l here = one_of_new o ts xs h.1 at l here
one_of_new o [] (x ∷ xs) h at l here = absurd h
one_of_new o (t ∷ ts) [] h at l here = absurd h

pub keeps_new : (o : Options) (ts : List ℕ) (k : CoreShown) (ls : List LocalSet) → AreNew o ts ls → Ascending ts → IsCoreOf k (opening o) → k.heap.options ≡ o → 1 ≤ o.pending → Keeps k ls
keeps_new o ts k ls new up is options pending = record {
  ascending = subst Ascending (sym (new_threads o ts ls new)) up;
  belongs = λ at l here. new_belongs l k o is (one_of_new o ts ls new at l here);
  pending = subst (λ (p : Options). 1 ≤ p.pending) (sym options) pending;
}

running_new : (o : Options) (ts : List ℕ) (ls : List LocalSet) (t : ℕ) → AreNew o ts ls → option_map_or (λ (l : LocalSet). not l.ended) (find (is_of t) ls) false ≡ list_any (λ u. u == t) ts
running_new o [] [] t h = refl
running_new o (u ∷ us) (x ∷ xs) t h = by (u == t) refl (running_new o us xs t h.1)
  where
    by : (b : Bool) → (u == t) ≡ b → option_map_or (λ (l : LocalSet). not l.ended) (find (is_of t) xs) false ≡ list_any (λ u. u == t) us
        → option_map_or (λ (l : LocalSet). not l.ended) (cond (x.thread == t) (Some x) (find (is_of t) xs)) false ≡ ((u == t) || list_any (λ u. u == t) us)
    by true e rest =
        ap (λ b. option_map_or (λ (l : LocalSet). not l.ended) (cond b (Some x) (find (is_of t) xs)) false) (ap (λ n. n == t) h.0.thread ∙ e)
        ∙ ap (λ (p : Part). not p.ended) h.0.unused.part ∙ sym (ap (λ b. b || list_any (λ u. u == t) us) e)
    by false e rest =
        ap (λ b. option_map_or (λ (l : LocalSet). not l.ended) (cond b (Some x) (find (is_of t) xs)) false) (ap (λ n. n == t) h.0.thread ∙ e)
        ∙ rest ∙ sym (ap (λ b. b || list_any (λ u. u == t) us) e)
running_new o [] (x ∷ xs) t h = absurd h
running_new o (u ∷ us) [] t h = absurd h

-- each of the threads runs, and no other
pub all_run : (o : Options) (ts : List ℕ) (k : CoreShown) (ls : List LocalSet) → AreNew o ts ls → (t : ℕ) → is_running (world_of k ls) t ≡ list_any (λ u. u == t) ts
all_run o ts k ls new t = running_new o ts ls t new

-- what each set shows
each_new : {X : Type 0} (f : LocalSet → X) (d : X) (o : Options) → ((t : ℕ) (l : LocalSet) → IsNew o t l → f l ≡ d) → (ts : List ℕ) (ls : List LocalSet) → AreNew o ts ls → (t : ℕ) → option_map_or f (find (is_of t) ls) d ≡ d
each_new f d o is [] [] h t = refl
each_new f d o is (u ∷ us) (x ∷ xs) h t = by (x.thread == t) (each_new f d o is us xs h.1 t)
  where
    by : (b : Bool) → option_map_or f (find (is_of t) xs) d ≡ d → option_map_or f (cond b (Some x) (find (is_of t) xs)) d ≡ d
    by true rest = is u x h.0
    by false rest = rest
each_new f d o is [] (x ∷ xs) h t = absurd h
each_new f d o is (u ∷ us) [] h t = absurd h

pub seen_new : (o : Options) (ts : List ℕ) (k : CoreShown) (ls : List LocalSet) → AreNew o ts ls → k.heap.options ≡ o → k.journal.entries ≡ [] → seen (world_of k ls) ≡ opening_seen o
seen_new o ts k ls new options entries =
    let waits = each_new (λ l. l.waiting) [] o (λ t l n. n.unused.out) ts ls new in
    let parts : (t : ℕ) → part_at (world_of k ls) t ≡ opening_part o =
    λ t. ap (λ (p : Options). option_map_or part_in (find (is_of t) ls) (opening_part p)) options ∙ each_new part_in (opening_part o) o (λ u l n. n.unused.part) ts ls new t in
    λ i. record { options = options i; queues = record { journal = entries i; waits = λ t. waits t i }; parts = λ t. parts t i }
