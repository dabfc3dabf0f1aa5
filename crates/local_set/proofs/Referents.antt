-- The blocks to which words refer
use Rattle.az_base.proofs.Ids.{among_cases, same_is, same_self, same_turned}
use Rattle.std.proofs.Common.{◌≡◌, ℕ, ◌+◌, ◌<◌, Bool, true, false, cond, ◌||◌, List, [], ◌∷◌, ◌++◌, take, Option, Some, None, slice_get, refl, sym, ap, subst, ◌∙◌, arith, inl, inr}
use Rattle.std.specs.List.{cons_option}
use Rattle.std.specs.FinMap.{get}
use Rattle.az_base.specs.declared.block_id.BlockId.{BlockId}
use Rattle.az_base.specs.declared.word.Word.{Word}
use Rattle.az_base.specs.Ids.{among, same_id}
use Rattle.zone_model.specs.State.{Block, referent}
use Rattle.local_set.specs.LocalSets.{Table, blocks_of}
use Rattle.zone_model.specs.Holds.{one_if, words_to}
use Rattle.local_set.specs.Counting.{list_of, referents}
use Rattle.local_set.specs.Tables.{NotesReferents}
use Rattle.local_set.proofs.Lists.{next_taken, among_before, among_behind}

pub joined : (xs ys zs : List BlockId) → (xs ++ ys) ++ zs ≡ xs ++ (ys ++ zs)
joined [] ys zs = refl
joined (x ∷ xs) ys zs = ap (λ l. x ∷ l) (joined xs ys zs)

one_more : (ws : List Word) (w : Word) → referents (ws ++ w ∷ []) ≡ referents ws ++ list_of (referent (Some w))
one_more [] w = go (referent (Some w))
  where
    go : (o : Option BlockId) → cons_option o [] ≡ list_of o
    go None = refl
    go (Some b) = refl
one_more (v ∷ ws) w = go (referent (Some v)) (one_more ws w)
  where
    go : (o : Option BlockId) → referents (ws ++ w ∷ []) ≡ referents ws ++ list_of (referent (Some w)) → cons_option o (referents (ws ++ w ∷ [])) ≡ cons_option o (referents ws) ++ list_of (referent (Some w))
    go None h = h
    go (Some b) h = ap (λ l. b ∷ l) h

pub next_referents : (ws : List Word) (i : ℕ) (w : Word) → slice_get ws i ≡ Some w → referents (take i ws) ++ list_of (referent (Some w)) ≡ referents (take (i + 1) ws)
next_referents ws i w h = sym (one_more (take i ws) w) ∙ ap referents (next_taken ws i w h)

-- a block to which a word refers is among these
pub referred_among : (q : BlockId) (ws : List Word) → 0 < words_to q ws → among (referents ws) q ≡ true
referred_among q [] h = absurd (omega (arith, h))
referred_among q (w ∷ ws) h = go (referent (Some w)) refl (referred_among q ws)
  where
    one : (b : BlockId) (t : Bool) → referent (Some w) ≡ Some b → same_id q b ≡ t → (0 < words_to q ws → among (referents ws) q ≡ true) → (t || among (referents ws) q) ≡ true
    one b true e t rest = refl
    one b false e t rest = rest (let none : one_if q (referent (Some w)) ≡ 0 = ap (one_if q) e ∙ ap (λ t. cond t 1 0) (same_turned b q ∙ t) in omega (arith, none, h))

    go : (o : Option BlockId) → referent (Some w) ≡ o → (0 < words_to q ws → among (referents ws) q ≡ true) → among (referents (w ∷ ws)) q ≡ true
    go None e rest = ap (λ (o : Option BlockId). among (cons_option o (referents ws)) q) e ∙ rest (let none : one_if q (referent (Some w)) ≡ 0 = ap (one_if q) e in omega (arith, none, h))
    go (Some b) e rest = ap (λ (o : Option BlockId). among (cons_option o (referents ws)) q) e ∙ one b (same_id q b) e refl rest

-- the referents of one block were noted
pub one_noted : (old new : Table) (id : BlockId) (b : Block) (ws : List Word) → get (blocks_of old.list) id ≡ Some b → ws ≡ b.words → new.changed ≡ old.changed ++ referents ws → NotesReferents old new (id ∷ [])
one_noted old new id b ws here words is = record {
  kept = λ q h. ap (λ l. among l q) is ∙ among_before old.changed (referents ws) q h;
  more = λ i q k this there refers.
      let same : i ≡ id = same_is i id (alone (same_id i id) this) in
      let block : b ≡ k = some_block b k (sym here ∙ ap (get (blocks_of old.list)) (sym same) ∙ there) in
      ap (λ l. among l q) is ∙ among_behind old.changed (referents ws) q (referred_among q ws (subst (λ (l : List Word). 0 < words_to q l) (sym (words ∙ ap (λ (x : Block). x.words) block)) refers));
}
  where
    alone : (t : Bool) → (t || false) ≡ true → t ≡ true
    alone true h = refl
    alone false h = h

    some_block : (a b : Block) → Some a ≡ Some b → a ≡ b
    some_block a b h = cc

-- none was to be noted
pub none_noted : (old : Table) → NotesReferents old old []
none_noted old = record { kept = λ q h. h; more = λ id q b this. cc }

-- one block more
pub more_noted : (old mid new : Table) (ids : List BlockId) (id : BlockId) → mid.list ≡ old.list → NotesReferents old mid ids → NotesReferents mid new (id ∷ []) → NotesReferents old new (ids ++ id ∷ [])
more_noted old mid new ids id same was now = record {
  kept = λ q h. now.kept q (was.kept q h);
  more = λ i q b this there refers. elim (among_cases ids id i this) [
    | inl before ↦ now.kept q (was.more i q b before there refers)
    | inr here ↦ now.more i q b (ap (λ x. among (x ∷ []) i) (sym here) ∙ itself i) (ap (λ es. get (blocks_of es) i) same ∙ there) refers
  ];
}
  where
    itself : (i : BlockId) → among (i ∷ []) i ≡ true
    itself i = ap (λ t. t || false) (same_self i)

pub ends_itself : (xs : List BlockId) → xs ≡ xs ++ []
ends_itself [] = refl
ends_itself (x ∷ xs) = ap (λ l. x ∷ l) (ends_itself xs)
