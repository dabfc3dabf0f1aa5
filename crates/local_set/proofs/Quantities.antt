-- The quanta of a table's blocks, and in how many of their words a block stands
use Rattle.std.proofs.Common.{◌≡◌, ℕ, ◌+◌, ◌≤◌, true, length, List, [], ◌∷◌, Option, Some, None, slice_get, slice_set, map, replicate, zero, suc, refl, sym, ap, ◌∙◌, arith, not}
use Rattle.std.specs.Option.{option_map_or, unwrap_or}
use Rattle.std.specs.FinMap.{FinMap, get, insert, retain_keys}
use Rattle.az_base.specs.declared.block_id.BlockId.{BlockId}
use Rattle.az_base.specs.declared.word.Word.{Word}
use Rattle.az_base.specs.declared.word.Word.TheVariants as word
use Rattle.az_base.specs.declared.word.Class.{Class}
use Rattle.az_base.specs.declared.word.Class.TheVariants as class
use Rattle.az_base.specs.Ids.{id_cmp, same_id, ids_total, exact_ids}
use Rattle.block_layouts.specs.declared.layout.Layout.{Layout}
use Rattle.block_layouts.specs.declared.layout.Shape.TheVariants as shape
use Rattle.block_layouts.specs.Layouts.{len_of, quanta, first_words, first_word}
use Rattle.zone_model.specs.Maps.{total}
use Rattle.zone_model.proofs.MapLaws.{total-insert, at_value}
use Rattle.zone_model.specs.State.{Block, referent, with_edit}
use Rattle.zone_model.specs.Quanta.{quanta_where}
use Rattle.zone_model.specs.Part.{own_block}
use Rattle.zone_model.proofs.Totals.{total_added}
use Rattle.zone_model.specs.Holds.{one_if, words_to, word_holds}
use Rattle.local_set.specs.WordReferences.{one_if_some, references_in}
use Rattle.local_set.proofs.Tables.{put_back, left_itself}

-- the quanta of the blocks
abbrev pub quanta_in : FinMap id_cmp Block → ℕ
quanta_in m = quanta_where (λ id b. true) m

pub quanta_added : (m : FinMap id_cmp Block) (id : BlockId) (b : Block) → get m id ≡ None → quanta_in (insert m id b) ≡ quanta_in m + quanta (len_of b.layout)
quanta_added m id b none = total_added ids_total exact_ids (λ id (b : Block). quanta (len_of b.layout)) m id b none

pub quanta_removed : (m : FinMap id_cmp Block) (id : BlockId) (b : Block) → get m id ≡ Some b → quanta_in m ≡ quanta_in (retain_keys m (λ q. not (same_id id q))) + quanta (len_of b.layout)
quanta_removed m id b here = ap quanta_in (sym (put_back m id b here)) ∙ quanta_added (retain_keys m (λ q. not (same_id id q))) id b (left_itself m id)

-- an edit that keeps what is summed keeps the sum
sum_edited : (f : BlockId → Block → ℕ) (m : FinMap id_cmp Block) (id : BlockId) (g : Block → Block) → ((b : Block) → f id (g b) ≡ f id b) → total f (with_edit m id g) ≡ total f m
sum_edited f m id g same = go (get m id) refl
  where
    go : (o : Option Block) → get m id ≡ o → total f (option_map_or (λ b. insert m id (g b)) o m) ≡ total f m
    go None e = refl
    go (Some b) e =
        let sum : total f (insert m id (g b)) + at_value (f id) (get m id) ≡ total f m + f id (g b) = total-insert ids_total exact_ids f m id (g b) in
        let was : at_value (f id) (get m id) ≡ f id b = ap (at_value (f id)) e in
        let is : f id (g b) ≡ f id b = same b in
        omega arith

pub quanta_edited : (m : FinMap id_cmp Block) (id : BlockId) (f : Block → Block) → ((b : Block) → (f b).layout ≡ b.layout) → quanta_in (with_edit m id f) ≡ quanta_in m
quanta_edited m id f same = sum_edited (λ id b. quanta (len_of b.layout)) m id f (λ b. ap (λ (l : Layout). quanta (len_of l)) (same b))

-- new words refer to nothing
no_words : (q : BlockId) (n : ℕ) (w : Word) → referent (Some w) ≡ None → words_to q (replicate n w) ≡ 0
no_words q zero w h = refl
no_words q (suc n) w h =
    let rest : words_to q (replicate n w) ≡ 0 = no_words q n w h in
    let none : one_if q (referent (Some w)) ≡ 0 = ap (one_if q) h in
    omega arith

first_refers : (c : Class) → referent (Some (first_word c)) ≡ None
first_refers class.Strong = refl
first_refers class.Weak = refl
first_refers class.Plain = refl

no_first : (q : BlockId) (cs : List Class) → words_to q (map first_word cs) ≡ 0
no_first q [] = refl
no_first q (c ∷ cs) =
    let rest : words_to q (map first_word cs) ≡ 0 = no_first q cs in
    let none : one_if q (referent (Some (first_word c))) ≡ 0 = ap (one_if q) (first_refers c) in
    omega arith

pub first_words_to : (q : BlockId) (l : Layout) → words_to q (first_words l) ≡ 0
first_words_to q (shape.Scanned n) = no_words q n word.Null refl
first_words_to q (shape.Unscanned n) = no_words q n (word.Number 0) refl
first_words_to q (shape.Object cs) = no_first q cs

pub holds_added : (m : FinMap id_cmp Block) (id : BlockId) (b : Block) (q : BlockId) → get m id ≡ None → word_holds (insert m id b) q ≡ word_holds m q + words_to q b.words
holds_added m id b q none = total_added ids_total exact_ids (λ id (b : Block). words_to q b.words) m id b none

-- a new block refers to nothing
pub holds_born : (m : FinMap id_cmp Block) (id : BlockId) (l : Layout) (q : BlockId) → get m id ≡ None → word_holds (insert m id (own_block l)) q ≡ word_holds m q
holds_born m id l q none =
    let sum : word_holds (insert m id (own_block l)) q ≡ word_holds m q + words_to q (first_words l) = holds_added m id (own_block l) q none in
    let no : words_to q (first_words l) ≡ 0 = first_words_to q l in
    omega arith

pub holds_removed : (m : FinMap id_cmp Block) (id : BlockId) (b : Block) (q : BlockId) → get m id ≡ Some b → word_holds m q ≡ word_holds (retain_keys m (λ q. not (same_id id q))) q + words_to q b.words
holds_removed m id b q here = ap (λ n. word_holds n q) (sym (put_back m id b here)) ∙ holds_added (retain_keys m (λ q. not (same_id id q))) id b q (left_itself m id)

-- another word stands at a place
pub words_set : (q : BlockId) (ws : List Word) (at : ℕ) (was now : Word) → slice_get ws at ≡ Some was → words_to q (slice_set ws at now) + one_if q (referent (Some was)) ≡ words_to q ws + one_if q (referent (Some now))
words_set q [] at was now h = cc
words_set q (w ∷ ws) zero was now h =
    let e : one_if q (referent (Some w)) ≡ one_if q (referent (Some was)) = ap (λ o. one_if q (referent o)) h in
    omega arith
words_set q (w ∷ ws) (suc at) was now h =
    let rest : words_to q (slice_set ws at now) + one_if q (referent (Some was)) ≡ words_to q ws + one_if q (referent (Some now)) = words_set q ws at was now h in
    omega arith

-- of how many words that refer to a block there are
pub references_set : (ws : List Word) (at : ℕ) (was now : Word) → slice_get ws at ≡ Some was → references_in (slice_set ws at now) + references_in (was ∷ []) ≡ references_in ws + references_in (now ∷ [])
references_set [] at was now h = cc
references_set (w ∷ ws) zero was now h =
    let e : references_in (w ∷ []) ≡ references_in (was ∷ []) = ap (λ o. references_in (unwrap_or o w ∷ [])) h in
    omega arith
references_set (w ∷ ws) (suc at) was now h =
    let rest : references_in (slice_set ws at now) + references_in (was ∷ []) ≡ references_in ws + references_in (now ∷ []) = references_set ws at was now h in
    omega arith

pub references_there : (ws : List Word) (at : ℕ) (w : Word) → slice_get ws at ≡ Some w → references_in (w ∷ []) ≤ references_in ws
references_there [] at w h = cc
references_there (v ∷ ws) zero w h =
    let e : references_in (v ∷ []) ≡ references_in (w ∷ []) = ap (λ o. references_in (unwrap_or o v ∷ [])) h in
    omega arith
references_there (v ∷ ws) (suc at) w h = let e : references_in (w ∷ []) ≤ references_in ws = references_there ws at w h in omega (arith, e)

pub references_within : (ws : List Word) → references_in ws ≤ length ws
references_within [] = omega arith
references_within (w ∷ ws) = let rest : references_in ws ≤ length ws = references_within ws in one (referent (Some w)) refl rest
  where
    one : (o : Option BlockId) → referent (Some w) ≡ o → references_in ws ≤ length ws → references_in (w ∷ ws) ≤ length (w ∷ ws)
    one None e rest = let none : one_if_some (referent (Some w)) ≡ 0 = ap one_if_some e in omega (arith, none, rest)
    one (Some b) e rest = let some : one_if_some (referent (Some w)) ≡ 1 = ap one_if_some e in omega (arith, some, rest)

-- where none refers to a block, none refers to this one
pub no_references : (q : BlockId) (ws : List Word) → references_in ws ≡ 0 → words_to q ws ≡ 0
no_references q [] h = refl
no_references q (w ∷ ws) h = one (referent (Some w)) refl (no_references q ws)
  where
    one : (o : Option BlockId) → referent (Some w) ≡ o → (references_in ws ≡ 0 → words_to q ws ≡ 0) → words_to q (w ∷ ws) ≡ 0
    one None e rest =
        let none : one_if q (referent (Some w)) ≡ 0 = ap (one_if q) e in
        let others : words_to q ws ≡ 0 = rest (omega (arith, h)) in
        omega arith
    one (Some b) e rest =
        let some : one_if_some (referent (Some w)) ≡ 1 = ap one_if_some e in
        absurd (omega (arith, h, some))

no_references_in : (n : ℕ) (w : Word) → referent (Some w) ≡ None → references_in (replicate n w) ≡ 0
no_references_in zero w h = refl
no_references_in (suc n) w h =
    let none : one_if_some (referent (Some w)) ≡ 0 = ap one_if_some h in
    let rest : references_in (replicate n w) ≡ 0 = no_references_in n w h in
    omega arith

no_first_references : (cs : List Class) → references_in (map first_word cs) ≡ 0
no_first_references [] = refl
no_first_references (c ∷ cs) =
    let none : one_if_some (referent (Some (first_word c))) ≡ 0 = ap one_if_some (first_refers c) in
    let rest : references_in (map first_word cs) ≡ 0 = no_first_references cs in
    omega arith

-- no word of a new block refers to a block
pub first_references : (l : Layout) → references_in (first_words l) ≡ 0
first_references (shape.Scanned n) = no_references_in n word.Null refl
first_references (shape.Unscanned n) = no_references_in n (word.Number 0) refl
first_references (shape.Object cs) = no_first_references cs

pub holds_edited : (m : FinMap id_cmp Block) (id : BlockId) (b : Block) (at : ℕ) (was now : Word) (q : BlockId) → get m id ≡ Some b → slice_get b.words at ≡ Some was
    → word_holds (with_edit m id (λ b. record b { words = slice_set b.words at now })) q + one_if q (referent (Some was)) ≡ word_holds m q + one_if q (referent (Some now))
holds_edited m id b at was now q here there =
    let edit : Block → Block = λ b. record b { words = slice_set b.words at now } in
    let f : BlockId → Block → ℕ = λ id b. words_to q b.words in
    let is : word_holds (with_edit m id edit) q ≡ total f (insert m id (edit b)) = ap (λ (o : Option Block). total f (option_map_or (λ x. insert m id (edit x)) o m)) here in
    let sum : total f (insert m id (edit b)) + at_value (f id) (get m id) ≡ total f m + f id (edit b) = total-insert ids_total exact_ids f m id (edit b) in
    let old : at_value (f id) (get m id) ≡ words_to q b.words = ap (at_value (f id)) here in
    let set : words_to q (slice_set b.words at now) + one_if q (referent (Some was)) ≡ words_to q b.words + one_if q (referent (Some now)) = words_set q b.words at was now there in
    omega arith

-- a word of the block stands among the words of all
pub holds_there : (m : FinMap id_cmp Block) (id : BlockId) (b : Block) (q : BlockId) → get m id ≡ Some b → words_to q b.words ≤ word_holds m q
holds_there m id b q here = let e : word_holds m q ≡ word_holds (retain_keys m (λ q. not (same_id id q))) q + words_to q b.words = holds_removed m id b q here in omega arith

pub refers_there : (ws : List Word) (at : ℕ) (b : BlockId) (w : Word) → slice_get ws at ≡ Some w → one_if b (referent (Some w)) ≤ words_to b ws
refers_there [] at b w h = cc
refers_there (v ∷ ws) zero b w h = let e : one_if b (referent (Some v)) ≡ one_if b (referent (Some w)) = ap (λ o. one_if b (referent o)) h in omega arith
refers_there (v ∷ ws) (suc at) b w h = let e : one_if b (referent (Some w)) ≤ words_to b ws = refers_there ws at b w h in omega (arith, e)
