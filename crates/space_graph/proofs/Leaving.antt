-- Graphs from which blocks go
use Rattle.std.proofs.Common.{◌≡◌, ◌≢◌, ◌⊎◌, inl, inr, ℕ, zero, suc, ◌+◌, ◌*◌, ◌<◌, ◌≤◌, Bool, true, false, cond, List, [], ◌∷◌, ◌++◌, Option, Some, None, MatchOption, get_or, set, slice_get, take, length, refl, sym, ap, ◌∙◌, subst, arith}
use Rattle.std.specs.Option.{option_map_or}
use Rattle.std.specs.Map.{keys_of}
use Rattle.az_base.specs.declared.block_id.BlockId.{BlockId}
use Rattle.az_base.specs.declared.word.Word.{Word}
use Rattle.az_base.specs.declared.word.Word.TheVariants as plain
use Rattle.az_base.specs.Ids.{among, id_eq}
use Rattle.az_base.proofs.Ids.{among_cases, eq_is, eq_self}
use Rattle.block_layouts.specs.declared.layout.Layout.{Layout}
use Rattle.block_layouts.specs.Layouts.{len_of}
use Rattle.quantum_space.specs.declared.placed.PlacedWord.{PlacedWord}
use Rattle.quantum_space.specs.declared.placed.PlacedWord.TheVariants as word
use Rattle.quantum_space.specs.declared.spot.Spot.{Spot}
use Rattle.quantum_space.specs.declared.spot.Kind.{Kind}
use Rattle.quantum_space.specs.declared.spot.Kind.TheVariants as kind
use Rattle.quantum_space.specs.PlacedWords.{known, spot_at, unplaced, word_of}
use Rattle.quantum_space.specs.Regions.{no_id}
use Rattle.quantum_space.specs.Shapes.{Once}
use Rattle.quantum_space.proofs.Runs.{below_or}
use Rattle.block_space.specs.Spaces.{IsRight, IsWhole, Space', region}
use Rattle.block_space.specs.Marking.{HasBlockIn, HasBlockLessIn, IsSameIn, IsUnknown, id_in, layout_in, len_in, with_word_in, word_in}
use Rattle.block_space.proofs.Keeping.{stored_block}
use Rattle.block_space.proofs.Unmarked.{unmarked_referred}
use Rattle.space_graph.specs.Graphs.{Graph', IsForgotten, IsGoneFrom, IsGraph, IsTakenOut, KnowsLess, KnowsNothing, known_id, spot_for, with_space}
use Rattle.space_graph.proofs.Comings.{has_put}
use Rattle.space_graph.proofs.Positions.{all_first, found_has, key_count}
use Rattle.space_graph.proofs.Steps.{rest_same, word_byte}
use Rattle.space_graph.proofs.Visits.{rights}

-- one word of a list
set_cases : (ws : List PlacedWord) (n k : ℕ) (w : PlacedWord) → (get_or (set ws n w) k word.Null ≡ w) ⊎ (get_or (set ws n w) k word.Null ≡ get_or ws k word.Null)
set_cases [] zero k w = inr refl
set_cases [] (suc n) k w = inr refl
set_cases (x ∷ ws) zero zero w = inl refl
set_cases (x ∷ ws) zero (suc k) w = inr refl
set_cases (x ∷ ws) (suc n) zero w = inr refl
set_cases (x ∷ ws) (suc n) (suc k) w = set_cases ws n k w

set_here : (ws : List PlacedWord) (n : ℕ) (w : PlacedWord) → (get_or (set ws n w) n word.Null ≡ w) ⊎ (get_or (set ws n w) n word.Null ≡ word.Null)
set_here [] zero w = inr refl
set_here [] (suc n) w = inr refl
set_here (x ∷ ws) zero w = inl refl
set_here (x ∷ ws) (suc n) w = set_here ws n w

-- one word of a space
word_cases : (s : Space') (x : Spot) (i : ℕ) (w : PlacedWord) (y : Spot) (j : ℕ) → (word_in (with_word_in s x i w) y j ≡ w) ⊎ (word_in (with_word_in s x i w) y j ≡ word_in s y j)
word_cases s x i w y j = go x.kind y.kind x.at y.at
  where
    go : (k m : Kind) (a b : ℕ) → (word_in (with_word_in s (spot_at k a) i w) (spot_at m b) j ≡ w) ⊎ (word_in (with_word_in s (spot_at k a) i w) (spot_at m b) j ≡ word_in s (spot_at m b) j)
    go kind.Small kind.Small a b = set_cases s.small.words (a * s.small.width + i) (b * s.small.width + j) w
    go kind.Small kind.Medium a b = inr refl
    go kind.Medium kind.Small a b = inr refl
    go kind.Medium kind.Medium a b = set_cases s.medium.words (a * s.medium.width + i) (b * s.medium.width + j) w

word_here : (s : Space') (x : Spot) (i : ℕ) (w : PlacedWord) → (word_in (with_word_in s x i w) x i ≡ w) ⊎ (word_in (with_word_in s x i w) x i ≡ word.Null)
word_here s x i w = go x.kind x.at
  where
    go : (k : Kind) (a : ℕ) → (word_in (with_word_in s (spot_at k a) i w) (spot_at k a) i ≡ w) ⊎ (word_in (with_word_in s (spot_at k a) i w) (spot_at k a) i ≡ word.Null)
    go kind.Small a = set_here s.small.words (a * s.small.width + i) w
    go kind.Medium a = set_here s.medium.words (a * s.medium.width + i) w

known_unplaced : (v : Word) → known_id (unplaced v) ≡ None
known_unplaced plain.Null = refl
known_unplaced (plain.Block id) = refl
known_unplaced (plain.Number n) = refl

word_again : (v : Word) → word_of (unplaced v) ≡ v
word_again plain.Null = refl
word_again (plain.Block id) = refl
word_again (plain.Number n) = refl

pub less_word : (s : Space') (x : Spot) (i : ℕ) (v : Word) (y : Spot) (j : ℕ) (b : BlockId) → known_id (word_in (with_word_in s x i (unplaced v)) y j) ≡ Some b → known_id (word_in s y j) ≡ Some b
less_word s x i v y j b h = elim (word_cases s x i (unplaced v) y j) [
  | inl e ↦ (let none : known_id (word_in (with_word_in s x i (unplaced v)) y j) ≡ None = ap known_id e ∙ known_unplaced v in let no : None ≡ Some b = sym none ∙ h in cc)
  | inr e ↦ ap known_id (sym e) ∙ h
]

-- words that know less
pub less_itself : (g : Graph') → KnowsLess g g
less_itself g = record { rest = refl; bytes = λ x. refl; less = λ y i b h. h }

pub less_more : (a b c : Graph') → KnowsLess a b → KnowsLess b c → KnowsLess a c
less_more a b c e f = record { rest = f.rest ∙ e.rest; bytes = λ x. f.bytes x ∙ e.bytes x; less = λ y i q h. e.less y i q (f.less y i q h) }

none_is : (o : Option BlockId) → ((b : BlockId) → o ≢ Some b) → o ≡ None
none_is None f = refl
none_is (Some b) f = absurd (f b refl)

pub nothing_kept : (a b : Graph') (x : Spot) (n : ℕ) → KnowsLess a b → KnowsNothing a.space x n → KnowsNothing b.space x n
nothing_kept a b x n k none i l = none_is (known_id (word_in b.space x i)) (λ q h. (let was = k.less x i q h in let is = none i l in let no : None ≡ Some q = sym is ∙ was in cc))

pub none_of_none : (s : Space') (x : Spot) → KnowsNothing s x 0
none_of_none s x i l = absurd (omega (arith, l))

-- the word that is written knows nothing
pub word_forgot : (g new : Graph') (x : Spot) (i : ℕ) (v : Word) → v ≡ word_of (word_in g.space x i) → new ≡ with_space g (with_word_in g.space x i (unplaced v)) → KnowsLess g new
word_forgot g new x i v is e = subst (λ (y : Graph'). KnowsLess g y) (sym e) (record {
  rest = rest_same g (with_word_in g.space x i (unplaced v)) (unmarked_referred g.space x i (unplaced v) (word_again v ∙ is));
  bytes = λ y. word_byte g.space x i (unplaced v) y;
  less = λ y j b h. less_word g.space x i v y j b h;
})

pub nothing_next : (g new : Graph') (x : Spot) (i : ℕ) (v : Word) → KnowsLess g new → new ≡ with_space g (with_word_in g.space x i (unplaced v)) → KnowsNothing g.space x i → KnowsNothing new.space x (i + 1)
nothing_next g new x i v less e none j l = elim (below_or j i) [
  | inl b ↦ nothing_kept g new x i less none j b
  | inr b ↦ (let same : i ≡ j = omega (arith, l, b) in
      subst (λ n. known_id (word_in new.space x n) ≡ None) same
      (ap (λ (y : Graph'). known_id (word_in y.space x i)) e ∙ elim (word_here g.space x i (unplaced v)) [ inl f ↦ ap known_id f ∙ known_unplaced v | inr f ↦ ap known_id f ]))
]

-- of all blocks of a list
pub all_nothing : (g cur new : Graph') (ids : List BlockId) (id : BlockId) → KnowsLess cur new → ((x : Spot) → spot_for g.rows id ≡ Some x → KnowsNothing new.space x (len_in g.space x))
    → ((a : BlockId) (x : Spot) → among ids a ≡ true → spot_for g.rows a ≡ Some x → KnowsNothing cur.space x (len_in g.space x))
    → (a : BlockId) (x : Spot) → among (ids ++ id ∷ []) a ≡ true → spot_for g.rows a ≡ Some x → KnowsNothing new.space x (len_in g.space x)
all_nothing g cur new ids id less here none a x h at = elim (among_cases ids id a h) [
  | inl f ↦ nothing_kept cur new x (len_in g.space x) less (none a x f at)
  | inr e ↦ here x (subst (λ q. spot_for g.rows q ≡ Some x) e at)
]

pub take_next : (ids : List BlockId) (n : ℕ) (id : BlockId) → slice_get ids n ≡ Some id → take n ids ++ id ∷ [] ≡ take (n + 1) ids
take_next ids n id e = let one : suc n ≡ n + 1 = omega arith in go ids n e ∙ ap (λ k. take k ids) one
  where
    go : (ids : List BlockId) (n : ℕ) → slice_get ids n ≡ Some id → take n ids ++ id ∷ [] ≡ take (suc n) ids
    go [] n e = cc
    go (x ∷ ids) zero e = ap (λ y. y ∷ []) (ap (λ (o : Option BlockId). elim o [ None ↦ id | Some z ↦ z ]) (sym e))
    go (x ∷ ids) (suc n) e = ap (λ l. x ∷ l) (go ids n e)

pub take_whole : (ids : List BlockId) (n : ℕ) → length ids ≤ n → take n ids ≡ ids
take_whole [] zero l = refl
take_whole [] (suc n) l = refl
take_whole (x ∷ ids) zero l = absurd (omega (arith, l))
take_whole (x ∷ ids) (suc n) l = ap (λ l. x ∷ l) (take_whole ids n (omega (arith, l)))

-- what a word knows is right
some_spot : (x y : Spot) → Some x ≡ Some y → x ≡ y
some_spot x y e = ap (λ (o : Option Spot). elim o [ None ↦ x | Some z ↦ z ]) e

begun_there : (o : Option Layout) (n id : BlockId) → MatchOption o ⊥ (λ l. n ≡ id) → n ≡ id
begun_there None n id h = absurd h
begun_there (Some l) n id h = h

knows_id : (s : Space') (w : PlacedWord) (x : Spot) → IsRight s.small.layouts s.medium.layouts s.small.ids s.medium.ids w → known w ≡ Some x → known_id w ≡ Some (id_in s x)
knows_id s word.Null x r e = cc
knows_id s (word.Block id) x r e = cc
knows_id s (word.InSmall id at) x r e = ap (λ q. Some q) (sym (begun_there (get_or s.small.layouts at None) (get_or s.small.ids at no_id) id r) ∙ ap (id_in s) (some_spot (spot_at kind.Small at) x e))
knows_id s (word.InMedium id at) x r e = ap (λ q. Some q) (sym (begun_there (get_or s.medium.layouts at None) (get_or s.medium.ids at no_id) id r) ∙ ap (id_in s) (some_spot (spot_at kind.Medium at) x e))
knows_id s (word.Number n) x r e = cc

stored_len : (s : Space') (y : Spot) (o : Layout) (i : ℕ) → layout_in s y ≡ Some o → i < len_of o → i < len_in s y
stored_len s y o i e l = subst (λ (m : Option Layout). i < option_map_or len_of m 0) (sym e) l

pub unknown_spot : (g : Graph') (x : Spot) (id : BlockId) → IsWhole g.space → id_in g.space x ≡ id → IsForgotten g id → IsUnknown g.space x
unknown_spot g x id whole its forgotten y o i e d l h =
    forgotten y o i e l (knows_id g.space (word_in g.space y i) x (rights g.space y i whole (stored_len g.space y o i e l)) h ∙ ap (λ q. Some q) its)

-- a block less
pub none_gone : (rows : List (BlockId × Spot)) (s : Space') (id : BlockId) → spot_for rows id ≡ None → IsGoneFrom rows s id s
none_gone rows s id none = record {
  others = λ y o d e. record { layout = e; id = refl; byte = refl; words = λ i l. refl };
  only = λ y o e. e;
  gone = λ y e. (let no : None ≡ Some y = sym none ∙ e in cc);
  spare = refl;
}

pub one_gone : (rows : List (BlockId × Spot)) (s : Space') (id : BlockId) (x : Spot) (new : Space') → spot_for rows id ≡ Some x → HasBlockLessIn s new x → IsGoneFrom rows s id new
one_gone rows s id x new at less = record {
  others = λ y o d e. less.others y o (λ f. d (at ∙ ap (λ z. Some z) (sym f))) e;
  only = less.only;
  gone = λ y e. subst (λ (z : Spot). layout_in new z ≡ None) (some_spot x y (sym at ∙ e)) less.gone;
  spare = less.spare;
}

-- it may go
pub may_go : (v g : Graph') → v ≡ g → IsGraph v → IsWhole v.space → (id : BlockId) → IsForgotten g id → (x : Spot) → spot_for v.rows id ≡ Some x → HasBlockIn v.space x × IsUnknown v.space x
may_go v g is inv whole id forgotten x e =
    let t = inv.there id x e in
    (t.0, unknown_spot v x id whole t.1 (subst (λ (y : Graph'). IsForgotten y id) (sym is) forgotten))

module _ (v : Graph') (inv : IsGraph v) (id : BlockId) (rows : List (BlockId × Spot)) (new : Space') (n : ℕ) (once : Once (keys_of rows)) (fewer : length rows ≤ length v.rows)
    (out : (q : BlockId) → spot_for rows q ≡ cond (id_eq id q) None (spot_for v.rows q)) (all : n ≡ length rows) (gone : IsGoneFrom v.rows v.space id new) where
  was : (q : BlockId) (y : Spot) → spot_for rows q ≡ Some y → (id_eq id q ≡ false) × (spot_for v.rows q ≡ Some y)
  was q y e = go (id_eq id q) refl (sym (out q) ∙ e)
    where
      go : (b : Bool) → id_eq id q ≡ b → cond b None (spot_for v.rows q) ≡ Some y → (id_eq id q ≡ false) × (spot_for v.rows q ≡ Some y)
      go true f h = cc
      go false f h = (f, h)

  there : (q : BlockId) (y : Spot) → spot_for rows q ≡ Some y → HasBlockIn new y × (id_in new y ≡ q)
  there q y e =
      let b = was q y e in
      let t = inv.there q y b.1 in
      let st = stored_block (region v.space y.kind) y.at t.0 in
      let other : spot_for v.rows id ≢ Some y = λ f. (let same : id ≡ q = sym (inv.there id y f).1 ∙ t.1 in let yes : id_eq id q ≡ true = subst (λ z. id_eq id z ≡ true) same (eq_self id) in let no : true ≡ false = sym yes ∙ b.0 in cc) in
      let o = gone.others y st.0 other st.1 in
      (has_put new y st.0 o.layout, o.id ∙ t.1)

  stays : (y : Spot) (l : Layout) → layout_in new y ≡ Some l → spot_for v.rows id ≢ Some y
  stays y l e f = (let no : None ≡ Some l = sym (gone.gone y f) ∙ e in cc)

  same : (y : Spot) (l : Layout) → layout_in new y ≡ Some l → IsSameIn v.space new y l
  same y l e = gone.others y l (stays y l e) (gone.only y l e)

  back : (y : Spot) (l : Layout) → layout_in new y ≡ Some l → spot_for rows (id_in new y) ≡ Some y
  back y l e =
      let q = id_in v.space y in
      let at : spot_for v.rows q ≡ Some y = inv.back y l (gone.only y l e) in
      ap (spot_for rows) (same y l e).id ∙ out q ∙ go (id_eq id q) refl at
    where
      go : (b : Bool) → id_eq id (id_in v.space y) ≡ b → spot_for v.rows (id_in v.space y) ≡ Some y → cond b None (spot_for v.rows (id_in v.space y)) ≡ Some y
      go true f at = absurd (stays y l e (ap (spot_for v.rows) (eq_is id (id_in v.space y) f) ∙ at))
      go false f at = at

  pub graph_out : IsGraph (record { rows = rows; space = new; began = n; anchors = v.anchors; remembered = v.remembered })
  graph_out = record {
    once = once;
    few = (let f = inv.few in omega (arith, f, fewer));
    began = omega (arith, all);
    there = there;
    back = back;
    used = λ y l e. subst (λ b. 128 ≤ b) (sym (same y l e).byte) (inv.used y l (gone.only y l e));
    white = λ y l e w. all_first (keys_of rows) n (id_in new y) (let k = key_count rows in omega (arith, all, k)) (found_has rows (id_in new y) y (back y l e));
  }

-- the same for a graph whose fields make up its value
pub taken_out : (v g : Graph') → v ≡ g → (id : BlockId) (rows : List (BlockId × Spot)) (new : Space') (n : ℕ) → length rows ≤ length v.rows → ((q : BlockId) → spot_for rows q ≡ cond (id_eq id q) None (spot_for v.rows q)) → n ≡ length rows → IsGoneFrom v.rows v.space id new
    → IsTakenOut g id (record { rows = rows; space = new; began = n; anchors = v.anchors; remembered = v.remembered })
taken_out v g is id rows new n fewer out all gone = subst (λ (y : Graph'). IsTakenOut y id (record { rows = rows; space = new; began = n; anchors = v.anchors; remembered = v.remembered })) is (record {
  rows = out;
  others = gone.others;
  only = gone.only;
  gone = gone.gone;
  began = all;
  spare = gone.spare;
  fewer = fewer;
})
