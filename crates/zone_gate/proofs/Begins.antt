-- Beginnings of one list, and a thread's entries in them
use Rattle.std.proofs.Common.{◌≡◌, ◌≢◌, ℕ, suc, ◌≤◌, List, [], ◌∷◌, ◌++◌, length, drop, All, Bool, true, false, eqb, leb, refl, ap, sym, ◌∙◌, arith, append_assoc, append-nil, length-append, eq-eqb, ne_eqb, leb-true, leb-false}
use Rattle.std.proofs.lemmas.List.Elements.{filter-append}
use mathlib.Core.List.{IsPrefix}
use Rattle.zone_model.specs.declared.entry.Entry.{Entry}
use Rattle.zone_model.specs.History.{entries_of}
use Rattle.zone_gate.specs.Views.{chosen_list, longer, shorter}

pub prefix_self : {A : Type 0} (xs : List A) → IsPrefix xs xs
prefix_self xs = ([], append-nil xs)

pub prefix_more : {A : Type 0} (xs ys : List A) → IsPrefix xs (xs ++ ys)
prefix_more xs ys = (ys, refl)

pub prefix_trans : {A : Type 0} (xs ys zs : List A) → IsPrefix xs ys → IsPrefix ys zs → IsPrefix xs zs
prefix_trans xs ys zs p q = (p.0 ++ q.0, sym (append_assoc xs p.0 q.0) ∙ (ap (λ w. w ++ q.0) p.1 ∙ q.1))

-- of two beginnings of one list the shorter begins the longer
pub prefix_shorter : {A : Type 0} (xs ys zs : List A) → IsPrefix xs zs → IsPrefix ys zs → length xs ≤ length ys → IsPrefix xs ys
prefix_shorter [] ys zs p q le = (ys, refl)
prefix_shorter (x ∷ xs) [] zs p q le = absurd (omega arith)
prefix_shorter (x ∷ xs) (y ∷ ys) [] p q le = absurd (cc (p.1))
prefix_shorter (x ∷ xs) (y ∷ ys) (z ∷ zs) p q le =
    let heads : x ≡ y = cc (p.1, q.1) in
    let rest = prefix_shorter xs ys zs (p.0, cc (p.1)) (q.0, cc (q.1)) (omega arith) in
    (rest.0, cc (heads, rest.1))

nothing_more : {A : Type 0} (xs ys zs : List A) → xs ≡ (xs ++ ys) ++ zs → xs ≡ xs ++ ys
nothing_more xs [] zs e = sym (append-nil xs)
nothing_more xs (y ∷ ys) zs e = absurd (omega (arith, ap length e ∙ length-append (xs ++ y ∷ ys) zs, length-append xs (y ∷ ys)))

-- a list between two in which a thread has the same entries
pub entries_between : (t : ℕ) (xs ys zs : List Entry) → IsPrefix xs ys → IsPrefix ys zs → entries_of t xs ≡ entries_of t zs → entries_of t xs ≡ entries_of t ys
entries_between t xs ys zs p q e =
    let test : Entry → Bool = λ (x : Entry). eqb x.thread t in
    let first : entries_of t ys ≡ entries_of t xs ++ entries_of t p.0 = ap (entries_of t) (sym p.1) ∙ filter-append test xs p.0 in
    let second : entries_of t zs ≡ entries_of t ys ++ entries_of t q.0 = ap (entries_of t) (sym q.1) ∙ filter-append test ys q.0 in
    nothing_more (entries_of t xs) (entries_of t p.0) (entries_of t q.0) (e ∙ (second ∙ ap (λ (l : List Entry). l ++ entries_of t q.0) first)) ∙ sym first

-- entries of one thread are all of its entries, and none of another's
pub entries_all : (t : ℕ) (es : List Entry) → All (λ e. e.thread ≡ t) es → entries_of t es ≡ es
entries_all t [] h = refl
entries_all t (e ∷ es) h = rw (eq-eqb e.thread t (h 0 e (omega arith))) (ap (λ l. e ∷ l) (entries_all t es (λ k d l. h (suc k) d (omega arith))))

pub entries_none : (t u : ℕ) (es : List Entry) → t ≢ u → All (λ e. e.thread ≡ t) es → entries_of u es ≡ []
entries_none t u [] n h = refl
entries_none t u (e ∷ es) n h = rw (ne_eqb e.thread u (λ i. n (sym (h 0 e (omega arith)) ∙ i))) (entries_none t u es n (λ k d l. h (suc k) d (omega arith)))

pub entries_append : (t : ℕ) (xs ys : List Entry) → entries_of t (xs ++ ys) ≡ entries_of t xs ++ entries_of t ys
entries_append t xs ys = filter-append (λ (x : Entry). eqb x.thread t) xs ys

chosen_list-both : (b : Bool) (xs ys zs : List Entry) → leb (length ys) (length xs) ≡ b → IsPrefix xs zs → IsPrefix ys zs → IsPrefix xs (chosen_list b xs ys) × IsPrefix ys (chosen_list b xs ys) × IsPrefix (chosen_list b xs ys) zs
chosen_list-both true xs ys zs is p q = (prefix_self xs, prefix_shorter ys xs zs q p (leb-true (length ys) (length xs) is), p)
chosen_list-both false xs ys zs is p q = (prefix_shorter xs ys zs p q (let h = leb-false (length ys) (length xs) is in omega arith), prefix_self ys, q)

-- two beginnings of one list begin the longer of them, which begins the list
pub longer_both : (xs ys zs : List Entry) → IsPrefix xs zs → IsPrefix ys zs → IsPrefix xs (longer xs ys) × IsPrefix ys (longer xs ys) × IsPrefix (longer xs ys) zs
longer_both xs ys zs p q = chosen_list-both (leb (length ys) (length xs)) xs ys zs refl p q

shorter_if : (b : Bool) (xs ys : List Entry) → IsPrefix xs (chosen_list b xs ys) → IsPrefix ys (chosen_list b xs ys) → IsPrefix (chosen_list b ys xs) (chosen_list b xs ys)
shorter_if true xs ys p q = q
shorter_if false xs ys p q = p

pub shorter_longer : (xs ys : List Entry) → IsPrefix xs (longer xs ys) → IsPrefix ys (longer xs ys) → IsPrefix (shorter xs ys) (longer xs ys)
shorter_longer xs ys p q = shorter_if (leb (length ys) (length xs)) xs ys p q

drop_front : (xs ys : List Entry) → drop (length xs) (xs ++ ys) ≡ ys
drop_front [] ys = refl
drop_front (x ∷ xs) ys = drop_front xs ys

-- where a list has grown by a thread's entries, its own entries have grown by those
pub own_grows : (t : ℕ) (before after new : List Entry) → after ≡ before ++ new → All (λ e. e.thread ≡ t) new → entries_of t after ≡ entries_of t before ++ drop (length before) after
own_grows t before after new is all =
    ap (entries_of t) is ∙ (entries_append t before new ∙ ap (λ l. entries_of t before ++ l) (entries_all t new all ∙ (sym (drop_front before new) ∙ ap (drop (length before)) (sym is))))
