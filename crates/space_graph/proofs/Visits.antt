-- Visits by quantum are visits of the graph
use Rattle.std.proofs.Common.{◌≡◌, ◌≢◌, ℕ, zero, suc, ◌+◌, ◌*◌, ◌%◌, ◌<◌, ◌≤◌, ◌&&◌, ◌++◌, Bool, true, false, List, [], ◌∷◌, Option, Some, None, MatchOption, IsTrue, if◌then◌else◌, refl, sym, ap, ◌∙◌, subst, arith, get_or, get_or-set_same, get_or-set_other, length, inl, inr, ◌⊎◌}
use Rattle.std.specs.Bool.{⊤}
use Rattle.std.specs.Option.{option_map_or}
use Rattle.az_base.specs.declared.action.Mode.{Mode}
use Rattle.az_base.specs.declared.action.Mode.TheVariants as mode
use Rattle.az_base.specs.declared.block_id.BlockId.{BlockId}
use Rattle.az_base.specs.Ids.{same_id}
use Rattle.az_base.proofs.Ids.{same_is, same_self}
use Rattle.block_layouts.specs.declared.layout.Layout.{Layout}
use Rattle.block_layouts.specs.Layouts.{len_of}
use Rattle.quantum_space.specs.declared.placed.PlacedWord.{PlacedWord}
use Rattle.quantum_space.specs.declared.placed.PlacedWord.TheVariants as word
use Rattle.quantum_space.specs.declared.shade.Shade.{Shade}
use Rattle.quantum_space.specs.declared.shade.Shade.TheVariants as shade
use Rattle.quantum_space.specs.declared.spot.Spot.{Spot}
use Rattle.quantum_space.specs.declared.spot.Kind.{Kind}
use Rattle.quantum_space.specs.declared.spot.Kind.TheVariants as kind
use Rattle.quantum_space.specs.AdminBytes.{shade_of}
use Rattle.quantum_space.specs.PlacedWords.{spot_at, word_of}
use Rattle.quantum_space.specs.Regions.{no_id, with_byte}
use Rattle.quantum_space.specs.Shapes.{Has, Puts, Shades, Shape, Stack, Visits, VisitsAll, WithShade, is_taken, is_unmarked}
use Rattle.quantum_space.proofs.Runs.{below_or}
use Rattle.block_space.specs.Spaces.{AreRight, IsRight, IsWhole, Space', region, with_region}
use Rattle.block_space.specs.Marking.{HasBlockIn, HasSameBlocks, IsGreyed, VisitsWord, VisitsWords, byte_in, ends_from, ends_in, id_in, is_white_byte, layout_in, len_in, shade_told, shaded, takes_byte, unmarked, with_byte_in, word_in}
use Rattle.block_space.proofs.Keeping.{stored_block}
use Rattle.block_space.proofs.Marks.{noted_same, same_itself, same_more, visited_same}
use Rattle.block_space.proofs.Unmarked.{byte_unmarked, unmarked_words, word_unmarked, young_unmarked}
use Rattle.space_graph.specs.Graphs.{Follows, Graph', IsGraph, begun, plain_shape, shades_of, shape_of, spot_for, with_space}

-- bytes
inside : (bs : List ℕ) (at : ℕ) → 0 < get_or bs at 0 → at < length bs
inside [] at l = absurd (omega (arith, l))
inside (b ∷ bs) zero l = omega arith
inside (b ∷ bs) (suc at) l = let r = inside bs at l in omega (arith, r)

pub byte_here : (s : Space') (x : Spot) (b : ℕ) → 0 < byte_in s x → byte_in (with_byte_in s x b) x ≡ b
byte_here s x b l = go x.kind x.at l
  where
    go : (k : Kind) (at : ℕ) → 0 < get_or (region s k).map.bytes at 0 → get_or (region (with_region s k (with_byte (region s k) at b)) k).map.bytes at 0 ≡ b
    go kind.Small at l = get_or-set_same s.small.map.bytes at b 0 (inside s.small.map.bytes at l)
    go kind.Medium at l = get_or-set_same s.medium.map.bytes at b 0 (inside s.medium.map.bytes at l)

pub byte_there : (s : Space') (x y : Spot) (b : ℕ) → y ≢ x → byte_in (with_byte_in s x b) y ≡ byte_in s y
byte_there s x y b d = go y.kind x.kind y.at x.at d
  where
    go : (j k : Kind) (a c : ℕ) → spot_at j a ≢ spot_at k c → get_or (region (with_region s k (with_byte (region s k) c b)) j).map.bytes a 0 ≡ get_or (region s j).map.bytes a 0
    go kind.Small kind.Small a c d = get_or-set_other s.small.map.bytes c a b 0 (λ e. d (ap (spot_at kind.Small) e))
    go kind.Small kind.Medium a c d = refl
    go kind.Medium kind.Small a c d = refl
    go kind.Medium kind.Medium a c d = get_or-set_other s.medium.map.bytes c a b 0 (λ e. d (ap (spot_at kind.Medium) e))

-- two quanta are one, or not
nat_or : (a b : ℕ) → (a ≡ b) ⊎ (a ≢ b)
nat_or a b = elim (below_or a b) [
  | inl l ↦ inr (λ e. omega (arith, e, l))
  | inr l ↦ elim (below_or b a) [ inl k ↦ inr (λ e. omega (arith, e, k)) | inr k ↦ inl (omega (arith, l, k)) ]
]

abbrev of_kind_small : Spot → ℕ
of_kind_small x = elim x.kind [ kind.Small ↦ 0 | kind.Medium ↦ 1 ]

pub spot_or : (x y : Spot) → (x ≡ y) ⊎ (x ≢ y)
spot_or x y = go x.kind y.kind x.at y.at
  where
    go : (j k : Kind) (a b : ℕ) → (spot_at j a ≡ spot_at k b) ⊎ (spot_at j a ≢ spot_at k b)
    go kind.Small kind.Small a b = elim (nat_or a b) [ inl e ↦ inl (ap (spot_at kind.Small) e) | inr d ↦ inr (λ e. d (ap (λ (x : Spot). x.at) e)) ]
    go kind.Small kind.Medium a b = inr (λ e. (let f : zero ≡ suc zero = ap of_kind_small e in omega (arith, f)))
    go kind.Medium kind.Small a b = inr (λ e. (let f : suc zero ≡ zero = ap of_kind_small e in omega (arith, f)))
    go kind.Medium kind.Medium a b = elim (nat_or a b) [ inl e ↦ inl (ap (spot_at kind.Medium) e) | inr d ↦ inr (λ e. d (ap (λ (x : Spot). x.at) e)) ]

-- shades that bytes tell
pub shade_shaded : (c : Shade) (b : ℕ) → shade_told (shaded c b) ≡ c
shade_shaded shade.White b = let e : shaded shade.White b % 4 ≡ 0 = omega arith in ap shade_of e
shade_shaded shade.Grey b = let e : shaded shade.Grey b % 4 ≡ 1 = omega arith in ap shade_of e
shade_shaded shade.Black b = let e : shaded shade.Black b % 4 ≡ 2 = omega arith in ap shade_of e

pub shaded_used : (c : Shade) (b : ℕ) → 128 ≤ b → 128 ≤ shaded c b
shaded_used shade.White b l = omega (arith, l)
shaded_used shade.Grey b l = omega (arith, l)
shaded_used shade.Black b l = omega (arith, l)

white_is : (c : Shade) → is_unmarked c ≡ true → c ≡ shade.White
white_is shade.White e = refl
white_is shade.Grey e = cc
white_is shade.Black e = cc

and_left : (a b : Bool) → (a && b) ≡ true → a ≡ true
and_left true b e = refl
and_left false b e = cc

and_right : (a b : Bool) → (a && b) ≡ true → b ≡ true
and_right true b e = e
and_right false b e = cc

-- blocks that stay
pub has_same : (s new : Space') (x : Spot) → HasSameBlocks s new → HasBlockIn s x → HasBlockIn new x
has_same s new x e h = subst (λ (ls : List (Option Layout)). MatchOption (get_or ls x.at None) ⊥ (λ l. ⊤)) (sym (e.layouts x.kind)) h

pub id_same : (s new : Space') (x : Spot) → HasSameBlocks s new → id_in new x ≡ id_in s x
id_same s new x e = ap (λ (is : List BlockId). get_or is x.at no_id) (e.ids x.kind)

pub layout_same : (s new : Space') (x : Spot) → HasSameBlocks s new → layout_in new x ≡ layout_in s x
layout_same s new x e = ap (λ (ls : List (Option Layout)). get_or ls x.at None) (e.layouts x.kind)

-- a graph one of whose blocks has another byte
module _ (g : Graph') (inv : IsGraph g) (x : Spot) (has : HasBlockIn g.space x) where
  stored : (l : Layout) × (layout_in g.space x ≡ Some l)
  stored = stored_block (region g.space x.kind) x.at has

  pub row_of : (id : BlockId) → id_in g.space x ≡ id → spot_for g.rows id ≡ Some x
  row_of id e = subst (λ q. spot_for g.rows q ≡ Some x) e (inv.back x stored.0 stored.1)

  pub byte_used : 128 ≤ byte_in g.space x
  byte_used = inv.used x stored.0 stored.1

  pub graph_with : (b : ℕ) → 128 ≤ b → (is_unmarked (shade_told b) ≡ true → Has (begun g) (id_in g.space x)) → IsGraph (with_space g (with_byte_in g.space x b))
  graph_with b used white = record {
    once = inv.once;
    few = inv.few;
    began = inv.began;
    there = λ id y e. (let h = inv.there id y e in (has_same g.space new y same h.0, id_same g.space new y same ∙ h.1));
    back = λ y l e. subst (λ q. spot_for g.rows q ≡ Some y) (sym (id_same g.space new y same)) (inv.back y l (sym (layout_same g.space new y same) ∙ e));
    used = λ y l e. by_spot (λ n. 128 ≤ n) y used (λ d. inv.used y l (sym (layout_same g.space new y same) ∙ e));
    white = λ y l e. by_white y l (sym (layout_same g.space new y same) ∙ e);
  }
    where
      new : Space'
      new = with_byte_in g.space x b

      same : HasSameBlocks g.space new
      same = noted_same g.space x b

      here : byte_in new x ≡ b
      here = byte_here g.space x b (omega (arith, byte_used))

      by_spot : (P : ℕ → Type 0) (y : Spot) → P b → (y ≢ x → P (byte_in g.space y)) → P (byte_in new y)
      by_spot P y p q = elim (spot_or y x) [
        | inl e ↦ subst (λ (z : Spot). P (byte_in new z)) (sym e) (subst P (sym here) p)
        | inr d ↦ subst P (sym (byte_there g.space x y b d)) (q d)
      ]

      by_white : (y : Spot) (l : Layout) → layout_in g.space y ≡ Some l → is_unmarked (shade_told (byte_in new y)) ≡ true → Has (begun g) (id_in new y)
      by_white y l e w = elim (spot_or y x) [
        | inl f ↦ subst (Has (begun g)) (sym (id_same g.space new y same ∙ ap (id_in g.space) f)) (white (subst (λ n. is_unmarked (shade_told n) ≡ true) here (subst (λ (z : Spot). is_unmarked (shade_told (byte_in new z)) ≡ true) f w)))
        | inr d ↦ subst (Has (begun g)) (sym (id_same g.space new y same)) (inv.white y l e (subst (λ n. is_unmarked (shade_told n) ≡ true) (byte_there g.space x y b d) w))
      ]

  pub shades_with : (id : BlockId) (c : Shade) → id_in g.space x ≡ id → WithShade (shades_of g) id c (shades_of (with_space g (with_byte_in g.space x (shaded c (byte_in g.space x)))))
  shades_with id c its q = go (same_id id q) refl
    where
      b : ℕ
      b = shaded c (byte_in g.space x)

      new : Space'
      new = with_byte_in g.space x b

      told : (o : Option Spot) → spot_for g.rows q ≡ o → same_id id q ≡ false → option_map_or (λ y. shade_told (byte_in new y)) o shade.White ≡ option_map_or (λ y. shade_told (byte_in g.space y)) o shade.White
      told None e f = refl
      told (Some y) e f =
          let apart : y ≢ x = λ s. (let same : id ≡ q = sym its ∙ ap (id_in g.space) (sym s) ∙ (inv.there q y e).1 in let t = subst (λ i. same_id id i ≡ true) same (same_self id) in cc) in
          ap shade_told (byte_there g.space x y b apart)

      go : (t : Bool) → same_id id q ≡ t → shades_of (with_space g new) q ≡ (if t then c else shades_of g q)
      go true e =
          let same : id ≡ q = same_is id q e in
          ap (λ o. option_map_or (λ y. shade_told (byte_in new y)) o shade.White) (row_of q (its ∙ same))
          ∙ ap shade_told (byte_here g.space x b (omega (arith, byte_used))) ∙ shade_shaded c (byte_in g.space x)
      go false e = told (spot_for g.rows q) refl e

  -- what the modes take
  pub taken_is : (m : Mode) (id : BlockId) → id_in g.space x ≡ id → is_taken m (shape_of g) id ≡ takes_byte m (byte_in g.space x)
  taken_is mode.Full id its = refl
  taken_is mode.Young id its =
      ap (λ o. option_map_or (λ y. takes_byte mode.Young (byte_in (unmarked g.space) y)) o false) (row_of id its)
      ∙ ap (takes_byte mode.Young) (byte_unmarked g.space x) ∙ young_unmarked (byte_in g.space x)

  pub shade_is : (id : BlockId) → id_in g.space x ≡ id → shades_of g id ≡ shade_told (byte_in g.space x)
  shade_is id its = ap (λ o. option_map_or (λ y. shade_told (byte_in g.space y)) o shade.White) (row_of id its)

  module _ (m : Mode) (id : BlockId) (its : id_in g.space x ≡ id) (is_new : Bool) (new : Space') (greyed : IsGreyed m g.space x is_new new) where
    pub visit_spot : Visits m (shape_of g) id is_new (shades_of g) (shades_of (with_space g new))
    visit_spot = record { greyed = turned; same = stays; passed = passed }
      where
        byte : ℕ
        byte = byte_in g.space x

        turned : is_new ≡ true → Has (begun g) id × IsTrue (is_taken m (shape_of g) id) × (shades_of g id ≡ shade.White) × WithShade (shades_of g) id shade.Grey (shades_of (with_space g new))
        turned e =
            let t : is_white_byte m byte ≡ true = sym greyed.told ∙ e in
            let white = and_left (is_unmarked (shade_told byte)) (takes_byte m byte) t in
            let changed : new ≡ with_byte_in g.space x (shaded shade.Grey byte) = subst (λ b. new ≡ (if b then with_byte_in g.space x (shaded shade.Grey byte) else g.space)) e greyed.changed in (
              subst (Has (begun g)) its (inv.white x stored.0 stored.1 white),
              taken_is m id its ∙ and_right (is_unmarked (shade_told byte)) (takes_byte m byte) t,
              shade_is id its ∙ white_is (shade_told byte) white,
              subst (λ (s : Space'). WithShade (shades_of g) id shade.Grey (shades_of (with_space g s))) (sym changed) (shades_with id shade.Grey its),
            )

        unchanged : is_new ≡ false → new ≡ g.space
        unchanged e = subst (λ b. new ≡ (if b then with_byte_in g.space x (shaded shade.Grey byte) else g.space)) e greyed.changed

        stays : is_new ≡ false → (q : BlockId) → shades_of (with_space g new) q ≡ shades_of g q
        stays e q = ap (λ (s : Space'). shades_of (with_space g s) q) (unchanged e)

        passed : is_new ≡ false → Has (begun g) id → IsTrue (is_taken m (shape_of g) id) → shades_of g id ≢ shade.White
        passed e h t w =
            let f : is_white_byte m byte ≡ false = sym greyed.told ∙ e in
            let u : is_unmarked (shade_told byte) ≡ true = ap is_unmarked (sym (shade_is id its) ∙ w) in
            let k : takes_byte m byte ≡ true = sym (taken_is m id its) ∙ t in
            let both : is_white_byte m byte ≡ true = ap (λ a. a && takes_byte m byte) u ∙ k in
            (let no : true ≡ false = sym both ∙ f in cc)

    pub graph_greyed : IsGraph (with_space g new)
    graph_greyed = go is_new greyed.changed
      where
        go : (t : Bool) → new ≡ (if t then with_byte_in g.space x (shaded shade.Grey (byte_in g.space x)) else g.space) → IsGraph (with_space g new)
        go true e = subst (λ (s : Space'). IsGraph (with_space g s)) (sym e) (graph_with (shaded shade.Grey (byte_in g.space x)) (shaded_used shade.Grey (byte_in g.space x) byte_used)
            (λ w. (let v : is_unmarked shade.Grey ≡ true = ap is_unmarked (sym (shade_shaded shade.Grey (byte_in g.space x))) ∙ w in cc)))
        go false e = subst (λ (s : Space'). IsGraph (with_space g s)) (sym e) inv

-- visits along words
pub visits_append : (m : Mode) (s : Shape) (xs ys : List BlockId) (f : Shades) (g : Stack) (mid : Shades) (on : Stack) (after : Shades) (onto : Stack)
    → VisitsAll m s xs f g mid on → VisitsAll m s ys mid on after onto → VisitsAll m s (xs ++ ys) f g after onto
visits_append m s [] ys f g mid on after onto v w =
    subst (λ (k : Stack). VisitsAll m s ys f k after onto) v.1 (subst (λ (k : Shades). VisitsAll m s ys k on after onto) v.0 w)
visits_append m s (x ∷ xs) ys f g mid on after onto v w = (v.0, v.1, v.2, visits_append m s xs ys v.0 v.1 mid on after onto v.3 w)

append_all : (xs ys zs : List BlockId) → (xs ++ ys) ++ zs ≡ xs ++ (ys ++ zs)
append_all [] ys zs = refl
append_all (x ∷ xs) ys zs = ap (λ l. x ∷ l) (append_all xs ys zs)

append_none : (xs : List BlockId) → xs ++ [] ≡ xs
append_none [] = refl
append_none (z ∷ zs) = ap (λ l. z ∷ l) (append_none zs)

pub ends_split : (s : Space') (x : Spot) (i n k : ℕ) → ends_from s x i (n + k) ≡ ends_from s x i n ++ ends_from s x (i + n) k
ends_split s x i zero k = let d : 0 + k ≡ k = omega arith in let e : i ≡ i + 0 = omega arith in ap (ends_from s x i) d ∙ ap (λ j. ends_from s x j k) e
ends_split s x i (suc n) k =
    let d : suc n + k ≡ suc (n + k) = omega arith in
    let e : suc i + n ≡ i + suc n = omega arith in
    ap (ends_from s x i) d
    ∙ ap (λ l. ends_in (word_of (word_in s x i)) ++ l) (ends_split s x (suc i) n k ∙ ap (λ j. ends_from s x (suc i) n ++ ends_from s x j k) e)
    ∙ sym (append_all (ends_in (word_of (word_in s x i))) (ends_from s x (suc i) n) (ends_from s x (i + suc n) k))

pub ends_more : (s : Space') (x : Spot) (i n : ℕ) → ends_from s x i (suc n) ≡ ends_from s x i n ++ ends_in (word_of (word_in s x (i + n)))
ends_more s x i n =
    let e : suc n ≡ n + 1 = omega arith in
    ap (ends_from s x i) e ∙ ends_split s x i n 1 ∙ ap (λ l. ends_from s x i n ++ l) (append_none (ends_in (word_of (word_in s x (i + n)))))

-- a word that is right about where its block lies
abbrev pub RightIn : Space' → PlacedWord → Type 0
RightIn s w = IsRight s.small.layouts s.medium.layouts s.small.ids s.medium.ids w

parts : (o : Option Layout) (n id : BlockId) → MatchOption o ⊥ (λ l. n ≡ id) → (MatchOption o ⊥ (λ l. ⊤)) × (n ≡ id)
parts None n id h = absurd h
parts (Some l) n id h = (tt, h)

right_same : (s new : Space') (w : PlacedWord) → HasSameBlocks s new → RightIn s w → RightIn new w
right_same s new w e r =
    subst (λ (ls : List (Option Layout)). IsRight ls new.medium.layouts new.small.ids new.medium.ids w) (sym (e.layouts kind.Small))
    (subst (λ (ls : List (Option Layout)). IsRight s.small.layouts ls new.small.ids new.medium.ids w) (sym (e.layouts kind.Medium))
    (subst (λ (is : List BlockId). IsRight s.small.layouts s.medium.layouts is new.medium.ids w) (sym (e.ids kind.Small))
    (subst (λ (is : List BlockId). IsRight s.small.layouts s.medium.layouts s.small.ids is w) (sym (e.ids kind.Medium)) r)))

-- one word
module _ (m : Mode) (g : Graph') (inv : IsGraph g) (stack : Stack) (new : Space') (onto : Stack) where
  visit_known : (x : Spot) (id : BlockId) → HasBlockIn g.space x × (id_in g.space x ≡ id) → (is_new : Bool) → IsGreyed m g.space x is_new new → Puts id is_new stack onto
      → VisitsAll m (shape_of g) (id ∷ []) (shades_of g) stack (shades_of (with_space g new)) onto × IsGraph (with_space g new)
  visit_known x id there is_new greyed puts = (
    (shades_of (with_space g new), onto, record { is_new = is_new; visits = visit_spot g inv x there.0 m id there.1 is_new new greyed; puts = puts }, (refl, refl)),
    graph_greyed g inv x there.0 m id there.1 is_new new greyed,
  )

  pub visit_word : (w : PlacedWord) → RightIn g.space w → VisitsWord m w g.space stack new onto
      → VisitsAll m (shape_of g) (ends_in (word_of w)) (shades_of g) stack (shades_of (with_space g new)) onto × IsGraph (with_space g new)
  visit_word word.Null right v = ((ap (λ (s : Space'). shades_of (with_space g s)) v.0, v.1), subst (λ (s : Space'). IsGraph (with_space g s)) (sym v.0) inv)
  visit_word (word.Block id) right v = absurd v
  visit_word (word.InSmall id at) right v = visit_known (spot_at kind.Small at) id (parts (get_or g.space.small.layouts at None) (get_or g.space.small.ids at no_id) id right) v.is_new v.greyed v.puts
  visit_word (word.InMedium id at) right v = visit_known (spot_at kind.Medium at) id (parts (get_or g.space.medium.layouts at None) (get_or g.space.medium.ids at no_id) id right) v.is_new v.greyed v.puts
  visit_word (word.Number n) right v = ((ap (λ (s : Space'). shades_of (with_space g s)) v.0, v.1), subst (λ (s : Space'). IsGraph (with_space g s)) (sym v.0) inv)

-- so many words
pub words_same : (m : Mode) (x : Spot) (from n : ℕ) (s : Space') (g : Stack) (new : Space') (onto : Stack) → VisitsWords m x from n s g new onto → HasSameBlocks s new
words_same m x from zero s g new onto v = subst (λ (y : Space'). HasSameBlocks s y) (sym v.0) (same_itself s)
words_same m x from (suc n) s g new onto v = same_more s v.0 new (words_same m x from n s g v.0 v.1 v.2) (visited_same m (word_in s x (from + n)) v.0 v.1 new onto v.3)

pub visit_words : (m : Mode) (g : Graph') (inv : IsGraph g) (x : Spot) (from n : ℕ) (stack : Stack) (new : Space') (onto : Stack)
    → ((i : ℕ) → from ≤ i → i < from + n → RightIn g.space (word_in g.space x i)) → VisitsWords m x from n g.space stack new onto
    → Follows m x from n g stack (with_space g new) onto × IsGraph (with_space g new)
visit_words m g inv x from zero stack new onto right v = ((ap (λ (s : Space'). shades_of (with_space g s)) v.0, v.1), subst (λ (s : Space'). IsGraph (with_space g s)) (sym v.0) inv)
visit_words m g inv x from (suc n) stack new onto right v =
    let before = visit_words m g inv x from n stack v.0 v.1 (λ i k l. right i k (omega (arith, l))) v.2 in
    let w = word_in g.space x (from + n) in
    let last = visit_word m (with_space g v.0) before.1 v.1 new onto w (right_same g.space v.0 w (words_same m x from n g.space stack v.0 v.1 v.2) (right (from + n) (omega arith) (omega arith))) v.3 in
    let shape : shape_of (with_space g v.0) ≡ shape_of g = ap (λ (s : Space'). plain_shape (with_space g s)) (unmarked_words m x from n g.space stack v.0 v.1 v.2) in
    let ends : ends_from (unmarked g.space) x from (suc n) ≡ ends_from (unmarked g.space) x from n ++ ends_in (word_of w) =
    ends_more (unmarked g.space) x from n ∙ ap (λ y. ends_from (unmarked g.space) x from n ++ ends_in y) (word_unmarked g.space x (from + n)) in
    let now : VisitsAll m (shape_of g) (ends_in (word_of w)) (shades_of (with_space g v.0)) v.1 (shades_of (with_space g new)) onto =
    subst (λ (s : Shape). VisitsAll m s (ends_in (word_of w)) (shades_of (with_space g v.0)) v.1 (shades_of (with_space g new)) onto) shape last.0 in (
      subst (λ (l : List BlockId). VisitsAll m (shape_of g) l (shades_of g) stack (shades_of (with_space g new)) onto) (sym ends)
          (visits_append m (shape_of g) (ends_from (unmarked g.space) x from n) (ends_in (word_of w)) (shades_of g) stack (shades_of (with_space g v.0)) v.1 (shades_of (with_space g new)) onto before.0 now),
      last.1,
    )

-- each word of a block is right
pub rights : (s : Space') (x : Spot) (i : ℕ) → IsWhole s → i < len_in s x → RightIn s (word_in s x i)
rights s x i whole lt = go x.kind x.at (layout_in s x) refl lt
  where
    by_kind : (k : Kind) → AreRight (region s k) s.small s.medium
    by_kind kind.Small = whole.small
    by_kind kind.Medium = whole.medium

    go : (k : Kind) (at : ℕ) (o : Option Layout) → get_or (region s k).layouts at None ≡ o → i < option_map_or len_of o 0 → RightIn s (get_or (region s k).words (at * (region s k).width + i) word.Null)
    go k at None e l = absurd (omega (arith, l))
    go k at (Some y) e l = by_kind k at y e i l
