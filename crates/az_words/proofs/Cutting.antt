-- The first line and the first word, as code finds them from the front.
use Rattle.std.proofs.lemmas.List.{nil_from_length, length-drop, take_all, drop-drop, get_or-drop}
use Rattle.std.proofs.Common.{◌≡◌, sym, ℕ, zero, suc, ◌+◌, ◌-◌, ◌<◌, ◌≤◌, Bool, true, false, eqb, cond, List, [], ◌∷◌, length, take, drop, get_or, refl, ap, ◌∙◌, arith}
use Rattle.std.proofs.lemmas.Bool.{eqb-true, eqb-false, cond-true, cond-false, true≢false}
use Rattle.az_words.specs.Lines.{is_feed, onto_first, lines_of}
use Rattle.az_words.specs.Words.{is_blank, ends_word, words_of}

-- no byte before place n passes
abbrev pub NoneBefore : (ℕ → Bool) → List ℕ → ℕ → Type 0
NoneBefore p bs n = (k : ℕ) → k < n → p (get_or bs k 0) ≡ false

pub line_first : (bs : List ℕ) (n : ℕ) → n < length bs → NoneBefore is_feed bs n → is_feed (get_or bs n 0) ≡ true → lines_of bs ≡ take n bs ∷ lines_of (drop (suc n) bs)
line_first [] n l h e = absurd (omega arith)
line_first (b ∷ bs) zero l h e = cond-true (is_feed b) ([] ∷ lines_of bs) (onto_first b (lines_of bs)) e
line_first (b ∷ bs) (suc n) l h e =
    cond-false (is_feed b) ([] ∷ lines_of bs) (onto_first b (lines_of bs)) (h 0 (omega arith))
    ∙ ap (onto_first b) (line_first bs n (omega arith) (λ k m. h (suc k) (omega arith)) e)

pub line_last : (bs : List ℕ) → 0 < length bs → NoneBefore is_feed bs (length bs) → lines_of bs ≡ bs ∷ []
line_last [] l h = absurd (omega arith)
line_last (b ∷ []) l h = cond-false (is_feed b) ([] ∷ []) (onto_first b []) (h 0 (omega arith))
line_last (b ∷ c ∷ bs) l h =
    cond-false (is_feed b) ([] ∷ lines_of (c ∷ bs)) (onto_first b (lines_of (c ∷ bs))) (h 0 (omega arith))
    ∙ ap (onto_first b) (line_last (c ∷ bs) (omega arith) (λ k m. h (suc k) (omega arith)))

words_go : (x y : ℕ) (bs : List ℕ) → is_blank x ≡ false → is_blank y ≡ false → words_of (x ∷ y ∷ bs) ≡ onto_first x (words_of (y ∷ bs))
words_go x y bs ex ey = cond-false (is_blank x) (words_of (y ∷ bs)) _ ex ∙ cond-false (is_blank y) ((x ∷ []) ∷ words_of (y ∷ bs)) (onto_first x (words_of (y ∷ bs))) ey

words_end : (x y : ℕ) (bs : List ℕ) → is_blank x ≡ false → is_blank y ≡ true → words_of (x ∷ y ∷ bs) ≡ (x ∷ []) ∷ words_of (y ∷ bs)
words_end x y bs ex ey = cond-false (is_blank x) (words_of (y ∷ bs)) _ ex ∙ cond-true (is_blank y) ((x ∷ []) ∷ words_of (y ∷ bs)) (onto_first x (words_of (y ∷ bs))) ey

-- the first run of bytes that are not blank, which ends at place n
pub word_first : (bs : List ℕ) (n : ℕ) → 0 < n → n ≤ length bs → NoneBefore is_blank bs n → (n < length bs → is_blank (get_or bs n 0) ≡ true)
    → words_of bs ≡ take n bs ∷ words_of (drop n bs)
word_first bs zero some l h e = absurd (omega arith)
word_first [] (suc n) some l h e = absurd (omega arith)
word_first (x ∷ []) (suc zero) some l h e = cond-false (is_blank x) [] ((x ∷ []) ∷ []) (h 0 (omega arith))
word_first (x ∷ []) (suc (suc n)) some l h e = absurd (omega arith)
word_first (x ∷ y ∷ bs) (suc zero) some l h e = words_end x y bs (h 0 (omega arith)) (e (omega arith))
word_first (x ∷ y ∷ bs) (suc (suc n)) some l h e =
    words_go x y bs (h 0 (omega arith)) (h 1 (omega arith))
    ∙ ap (onto_first x) (word_first (y ∷ bs) (suc n) (omega arith) (omega arith) (λ k m. h (suc k) (omega arith)) (λ m. e (omega arith)))

pub skip_blanks : (bs : List ℕ) (n : ℕ) → ((k : ℕ) → k < n → is_blank (get_or bs k 0) ≡ true) → words_of bs ≡ words_of (drop n bs)
skip_blanks bs zero h = refl
skip_blanks [] (suc n) h = refl
skip_blanks (b ∷ bs) (suc n) h = cond-true (is_blank b) (words_of bs) _ (h 0 (omega arith)) ∙ skip_blanks bs n (λ k m. h (suc k) (omega arith))

-- the same, at the two parts of a slice that is split at place n
pub line_cut : (bs front back : List ℕ) (n : ℕ) → front ≡ take n bs → back ≡ drop n bs → n ≤ length bs → 1 ≤ length back
    → NoneBefore is_feed bs n → (n < length bs → is_feed (get_or bs n 0) ≡ true) → lines_of bs ≡ front ∷ lines_of (take (length back - 1) (drop 1 back))
line_cut bs front back n f b l some h e =
    let len : length back ≡ length bs - n = ap length b ∙ length-drop n bs in
    let all : take (length back - 1) (drop 1 back) ≡ drop 1 back = take_all (length back - 1) (drop 1 back) (omega (arith, length-drop 1 back)) in
    let one : n + 1 ≡ suc n = omega arith in
    let rest : drop 1 (drop n bs) ≡ drop (suc n) bs = drop-drop 1 n bs ∙ ap (λ k. drop k bs) one in
    line_first bs n (omega arith) h (e (omega arith)) ∙ ap (λ x. x ∷ lines_of (drop (suc n) bs)) (sym f)
    ∙ ap (λ r. front ∷ lines_of r) (sym (all ∙ ap (drop 1) b ∙ rest))

pub line_rest : (bs back : List ℕ) (n : ℕ) → back ≡ drop n bs → n ≤ length bs → length back < 1 → 0 < length bs → NoneBefore is_feed bs n → lines_of bs ≡ bs ∷ lines_of back
line_rest bs [] n b l none some h =
    let len : length bs - n ≡ 0 = sym (length-drop n bs) ∙ ap length (sym b) in
    line_last bs some (λ k m. h k (omega arith))
line_rest bs (x ∷ back) n b l none some h = absurd (omega arith)

pub word_cut : (line rest : List ℕ) (a n : ℕ) → rest ≡ drop a line → ((k : ℕ) → k < a → is_blank (get_or line k 0) ≡ true) → (a < length line → is_blank (get_or line a 0) ≡ false)
    → a ≤ length line → 0 < length rest → n ≤ length rest → NoneBefore is_blank rest n → (n < length rest → is_blank (get_or rest n 0) ≡ true)
    → words_of line ≡ take n rest ∷ words_of (drop n rest)
word_cut line rest a zero r blanks here l some m before at =
    let len : length rest ≡ length line - a = ap length r ∙ length-drop a line in
    let first : get_or rest 0 0 ≡ get_or line a 0 = ap (λ xs. get_or xs 0 0) r ∙ get_or-drop a line 0 0 ∙ ap (λ k. get_or line k 0) (omega arith) in
    absurd (true≢false (sym (at (omega arith)) ∙ ap is_blank first ∙ here (omega arith)))
word_cut line rest a (suc n) r blanks here l some m before at =
    skip_blanks line a blanks ∙ ap words_of (sym r) ∙ word_first rest (suc n) (omega arith) m before at

-- what `is_empty` says
pub some_left : (xs : List ℕ) (b : Bool) → b ≡ eqb (length xs) 0 → b ≡ false → 0 < length xs
some_left xs b e f = let ne : length xs ≡ 0 → ⊥ = eqb-false (length xs) 0 (sym e ∙ f) in omega arith

pub none_left : (xs : List ℕ) (b : Bool) → b ≡ eqb (length xs) 0 → b ≡ true → xs ≡ []
none_left xs b e f = nil_from_length xs (eqb-true (length xs) 0 (sym e ∙ f))

-- the first word begins with the first byte that is not blank
first_of : (b : ℕ) (goes : Bool) (words : List (List ℕ)) → (more : List ℕ) × (left : List (List ℕ)) × cond goes ((b ∷ []) ∷ words) (onto_first b words) ≡ (b ∷ more) ∷ left
first_of b true words = ([], words, refl)
first_of b false [] = ([], [], refl)
first_of b false (word ∷ words) = (word, words, refl)

first_here : (bs : List ℕ) → 1 ≤ length bs → is_blank (get_or bs 0 0) ≡ false → (more : List ℕ) × (left : List (List ℕ)) × words_of bs ≡ (get_or bs 0 0 ∷ more) ∷ left
first_here [] some e = absurd (omega (arith, some))
first_here (b ∷ bs) some e = let first = first_of b (ends_word bs) (words_of bs) in (first.0, first.1, cond-false (is_blank b) (words_of bs) _ e ∙ first.2)

pub first_cut : (line rest : List ℕ) (a : ℕ) → rest ≡ drop a line → ((k : ℕ) → k < a → is_blank (get_or line k 0) ≡ true) → (a < length line → is_blank (get_or line a 0) ≡ false) → a ≤ length line → 1 ≤ length rest
    → (more : List ℕ) × (left : List (List ℕ)) × words_of line ≡ (get_or rest 0 0 ∷ more) ∷ left
first_cut line rest a r blanks here l some =
    let len : length rest ≡ length line - a = ap length r ∙ length-drop a line in
    let first : get_or rest 0 0 ≡ get_or line a 0 = ap (λ xs. get_or xs 0 0) r ∙ get_or-drop a line 0 0 ∙ ap (λ k. get_or line k 0) (omega arith) in
    let is = first_here rest some (ap is_blank first ∙ here (omega arith)) in
    (is.0, is.1, skip_blanks line a blanks ∙ ap words_of (sym r) ∙ is.2)
