-- Steps of a collection over the graph, whose fields make up its value
use Rattle.std.proofs.Common.{◌^◌, nat_lt, if◌then◌else◌, ◌≡◌, ◌≢◌, ℕ, zero, suc, ◌+◌, ◌-◌, ◌<◌, ◌≤◌, ◌++◌, Bool, true, false, List, [], ◌∷◌, Option, Some, None, MatchOption, length, refl, sym, ap, ◌∙◌, subst, arith, get_or, slice_get}
use Rattle.std.specs.Option.{option_map_or}
use Rattle.std.specs.Map.{keys_of}
use Rattle.az_base.specs.declared.action.Mode.{Mode}
use Rattle.az_base.specs.declared.block_id.BlockId.{BlockId}
use Rattle.az_base.specs.declared.word.Word.{Word}
use Rattle.az_base.specs.declared.word.Word.TheVariants as plain
use Rattle.block_layouts.specs.declared.layout.Layout.{Layout}
use Rattle.quantum_space.specs.declared.placed.PlacedWord.{PlacedWord}
use Rattle.quantum_space.specs.declared.placed.PlacedWord.TheVariants as placed
use Rattle.std.specs.Bool.{⊤}
use Rattle.block_layouts.specs.Layouts.{len_of}
use Rattle.quantum_space.specs.declared.shade.Shade.{Shade}
use Rattle.quantum_space.specs.declared.spot.Spot.{Spot}
use Rattle.quantum_space.specs.declared.spot.Kind.{Kind}
use Rattle.quantum_space.specs.declared.spot.Kind.TheVariants as kind
use Rattle.quantum_space.specs.PlacedWords.{knowing, in_kind, word_of}
use Rattle.quantum_space.specs.Regions.{no_id, with_word}
use Rattle.quantum_space.specs.Shapes.{Has, Puts, Shades, Stack, Visits, VisitsAll, WithShade, is_unmarked}
use Rattle.block_space.specs.Spaces.{IsWhole, Space', region, with_region}
use Rattle.block_space.specs.Marking.{HasBlockIn, IsGreyed, IsLost, VisitsFrom, byte_in, ends_from, ends_in, id_in, layout_in, len_in, shade_told, shaded, unmarked, with_byte_in, with_word_in, word_in}
use Rattle.block_space.proofs.Marks.{same_word}
use Rattle.block_space.proofs.Unmarked.{layout_unmarked, len_unmarked, unmarked_greyed, unmarked_referred, unmarked_shaded, unmarked_words, word_unmarked}
use Rattle.space_graph.specs.Graphs.{Follows, FollowsFrom, Graph', IsGraph, begun, edges_of, plain_shape, rest_of, shades_of, shape_of, spot_for, with_space}
use Rattle.space_graph.proofs.Positions.{first_all, none_has}
use Rattle.space_graph.proofs.Visits.{byte_used, ends_split, graph_greyed, graph_with, rights, shaded_used, shades_with, visit_spot, visit_words, visits_append, words_same}

-- the rest stays where what marking leaves of the space does
pub rest_same : (g : Graph') (new : Space') → unmarked new ≡ unmarked g.space → rest_of (with_space g new) ≡ rest_of g
rest_same g new e = ap (λ (s : Space'). with_space g s) e

-- another shade
pub record Shaded (v g : Graph') (id : BlockId) (c : Shade) (new : Space') : Type 0 where
  pub graph : IsGraph (with_space v new)
  pub shade : WithShade (shades_of g) id c (shades_of (with_space v new))
  pub rest : rest_of (with_space v new) ≡ rest_of g

pub shade_step : (v g : Graph') → v ≡ g → IsGraph v → (x : Spot) (id : BlockId) (c : Shade) (new : Space') → HasBlockIn g.space x → id_in g.space x ≡ id → Has (begun g) id → new ≡ with_byte_in v.space x (shaded c (byte_in v.space x))
    → Shaded v g id c new
shade_step v g is inv x id c new has its from e =
    let there = subst (λ (y : Graph'). HasBlockIn y.space x) (sym is) has in
    let same = subst (λ (y : Graph'). id_in y.space x ≡ id) (sym is) its in
    let began = subst (λ (y : Graph'). Has (begun y) (id_in v.space x)) (sym is) (subst (Has (begun g)) (sym same) from) in
    let b = byte_in v.space x in
    subst (λ (s : Space'). Shaded v g id c s) (sym e) (record {
      graph = graph_with v inv x there (shaded c b) (shaded_used c b (byte_used v inv x there)) (λ w. began);
      shade = subst (λ (y : Graph'). WithShade (shades_of y) id c (shades_of (with_space v (with_byte_in v.space x (shaded c b))))) is (shades_with v inv x there id c same);
      rest = rest_same v (with_byte_in v.space x (shaded c b)) (unmarked_shaded v.space x c) ∙ ap rest_of is;
    })

-- a visit
pub record Visited (v g : Graph') (m : Mode) (id : BlockId) (is_new : Bool) (new : Space') : Type 0 where
  pub graph : IsGraph (with_space v new)
  pub visits : Visits m (shape_of g) id is_new (shades_of g) (shades_of (with_space v new))
  pub rest : rest_of (with_space v new) ≡ rest_of g

pub visit_step : (v g : Graph') → v ≡ g → IsGraph v → (x : Spot) (id : BlockId) (m : Mode) (is_new : Bool) (new : Space') → HasBlockIn g.space x → id_in g.space x ≡ id → IsGreyed m v.space x is_new new
    → Visited v g m id is_new new
visit_step v g is inv x id m is_new new has its greyed =
    let there = subst (λ (y : Graph'). HasBlockIn y.space x) (sym is) has in
    let same = subst (λ (y : Graph'). id_in y.space x ≡ id) (sym is) its in
    record {
      graph = graph_greyed v inv x there m id same is_new new greyed;
      visits = subst (λ (y : Graph'). Visits m (shape_of y) id is_new (shades_of y) (shades_of (with_space v new))) is (visit_spot v inv x there m id same is_new new greyed);
      rest = rest_same v new (unmarked_greyed m v.space x is_new new greyed) ∙ ap rest_of is;
    }

-- words, up to one that is lost
pub record Followed (v g : Graph') (m : Mode) (x : Spot) (from : ℕ) (stack : Stack) (new : Space') (onto : Stack) (result : Option ℕ) : Type 0 where
  pub graph : IsGraph (with_space v new)
  pub follows : FollowsFrom m x from g stack (with_space v new) onto result
  pub rest : rest_of (with_space v new) ≡ rest_of g

pub follow_step : (v g : Graph') → v ≡ g → IsGraph v → IsWhole v.space → (m : Mode) (x : Spot) (from : ℕ) (stack : Stack) (new : Space') (onto : Stack) (result : Option ℕ) → VisitsFrom m x from v.space stack new onto result
    → Followed v g m x from stack new onto result
follow_step v g is inv whole m x from stack new onto None h =
    let both = visit_words m v inv x from (len_in v.space x - from) stack new onto (λ i k l. rights v.space x i whole (omega (arith, k, l))) h in
    record {
      graph = both.1;
      follows = subst (λ (y : Graph'). FollowsFrom m x from y stack (with_space v new) onto None) is both.0;
      rest = rest_same v new (unmarked_words m x from (len_in v.space x - from) v.space stack new onto h) ∙ ap rest_of is;
    }
follow_step v g is inv whole m x from stack new onto (Some j) h =
    let both = visit_words m v inv x from (j - from) stack new onto (λ i k l. rights v.space x i whole (omega (arith, l, h.0, h.1))) h.3 in
    let same = words_same m x from (j - from) v.space stack new onto h.3 in
    record {
      graph = both.1;
      follows = subst (λ (y : Graph'). FollowsFrom m x from y stack (with_space v new) onto (Some j)) is (h.0, h.1, subst IsLost (sym (same_word v.space new x j same)) h.2, both.0);
      rest = rest_same v new (unmarked_words m x from (j - from) v.space stack new onto h.3) ∙ ap rest_of is;
    }

-- a word that knows more
module _ (s : Space') (x : Spot) (i : ℕ) (w : PlacedWord) where
  pub word_byte : (y : Spot) → byte_in (with_word_in s x i w) y ≡ byte_in s y
  word_byte y = go x.kind y.kind
    where
      go : (k j : Kind) → get_or (region (with_region s k (with_word (region s k) x.at i w)) j).map.bytes y.at 0 ≡ get_or (region s j).map.bytes y.at 0
      go kind.Small kind.Small = refl
      go kind.Small kind.Medium = refl
      go kind.Medium kind.Small = refl
      go kind.Medium kind.Medium = refl

  pub word_layout : (y : Spot) → layout_in (with_word_in s x i w) y ≡ layout_in s y
  word_layout y = go x.kind y.kind
    where
      go : (k j : Kind) → get_or (region (with_region s k (with_word (region s k) x.at i w)) j).layouts y.at None ≡ get_or (region s j).layouts y.at None
      go kind.Small kind.Small = refl
      go kind.Small kind.Medium = refl
      go kind.Medium kind.Small = refl
      go kind.Medium kind.Medium = refl

  pub word_id : (y : Spot) → id_in (with_word_in s x i w) y ≡ id_in s y
  word_id y = go x.kind y.kind
    where
      go : (k j : Kind) → get_or (region (with_region s k (with_word (region s k) x.at i w)) j).ids y.at no_id ≡ get_or (region s j).ids y.at no_id
      go kind.Small kind.Small = refl
      go kind.Small kind.Medium = refl
      go kind.Medium kind.Small = refl
      go kind.Medium kind.Medium = refl

pub graph_word : (v : Graph') → IsGraph v → (x : Spot) (i : ℕ) (w : PlacedWord) → IsGraph (with_space v (with_word_in v.space x i w))
graph_word v inv x i w = record {
  once = inv.once;
  few = inv.few;
  began = inv.began;
  there = λ id y e. (let h = inv.there id y e in (subst (λ (o : Option Layout). MatchOption o ⊥ (λ l. ⊤)) (sym (word_layout v.space x i w y)) h.0, word_id v.space x i w y ∙ h.1));
  back = λ y l e. subst (λ q. spot_for v.rows q ≡ Some y) (sym (word_id v.space x i w y)) (inv.back y l (sym (word_layout v.space x i w y) ∙ e));
  used = λ y l e. subst (λ n. 128 ≤ n) (sym (word_byte v.space x i w y)) (inv.used y l (sym (word_layout v.space x i w y) ∙ e));
  white = λ y l e f. subst (Has (begun v)) (sym (word_id v.space x i w y)) (inv.white y l (sym (word_layout v.space x i w y) ∙ e) (ap (λ n. is_unmarked (shade_told n)) (sym (word_byte v.space x i w y)) ∙ f));
}

pub word_step : (v g : Graph') → v ≡ g → IsGraph v → (x : Spot) (i : ℕ) (w : PlacedWord) (new : Space') → new ≡ with_word_in v.space x i w → IsGraph (with_space v new)
word_step v g is inv x i w new e = subst (λ (s : Space'). IsGraph (with_space v s)) (sym e) (graph_word v inv x i w)

known_word : (id : BlockId) (x : Spot) → word_of (knowing id x) ≡ plain.Block id
known_word id x = go (nat_lt x.at (2 ^ 32)) x.kind
  where
    go : (b : Bool) (k : Kind) → word_of (if b then in_kind k id x.at else placed.Block id) ≡ plain.Block id
    go true kind.Small = refl
    go true kind.Medium = refl
    go false k = refl

pub record Referred (v g : Graph') (new : Space') : Type 0 where
  pub graph : IsGraph (with_space v new)
  pub rest : rest_of (with_space v new) ≡ rest_of g

pub refer_step : (v g : Graph') → v ≡ g → IsGraph v → (x : Spot) (i : ℕ) (to : Spot) (new : Space') → word_of (word_in g.space x i) ≡ plain.Block (id_in g.space to) → new ≡ with_word_in v.space x i (knowing (id_in v.space to) to) → Referred v g new
refer_step v g is inv x i to new same e =
    let w = knowing (id_in v.space to) to in
    let f = subst (λ (y : Graph'). word_of (word_in y.space x i) ≡ plain.Block (id_in y.space to)) (sym is) same in
    subst (λ (s : Space'). Referred v g s) (sym e) (record {
      graph = graph_word v inv x i w;
      rest = rest_same v (with_word_in v.space x i w) (unmarked_referred v.space x i w (known_word (id_in v.space to) to ∙ sym f)) ∙ ap rest_of is;
    })

-- what the rest tells of the blocks
pub layout_rest : (a b : Graph') (x : Spot) → rest_of a ≡ rest_of b → layout_in a.space x ≡ layout_in b.space x
layout_rest a b x e = sym (layout_unmarked a.space x) ∙ ap (λ (g : Graph'). layout_in g.space x) e ∙ layout_unmarked b.space x

pub has_rest : (a b : Graph') (x : Spot) → rest_of a ≡ rest_of b → HasBlockIn b.space x → HasBlockIn a.space x
has_rest a b x e h = subst (λ (o : Option Layout). MatchOption o ⊥ (λ l. ⊤)) (sym (layout_rest a b x e)) h

pub len_rest : (a b : Graph') (x : Spot) → rest_of a ≡ rest_of b → len_in a.space x ≡ len_in b.space x
len_rest a b x e = ap (λ (o : Option Layout). option_map_or len_of o 0) (layout_rest a b x e)

pub follows_rest : (m : Mode) (a b : Graph') (x : Spot) (i n : ℕ) (f : Shades) (g : Stack) (after : Shades) (onto : Stack) → rest_of a ≡ rest_of b
    → VisitsAll m (shape_of a) (ends_from (unmarked a.space) x i n) f g after onto → VisitsAll m (shape_of b) (ends_from (unmarked b.space) x i n) f g after onto
follows_rest m a b x i n f g after onto e v = subst (λ (y : Graph'). VisitsAll m (plain_shape y) (ends_from y.space x i n) f g after onto) e v

-- words follow words
pub follows_on : (m : Mode) (g mid new : Graph') (x : Spot) (i n k : ℕ) (s on onto : Stack) → rest_of mid ≡ rest_of g → Follows m x i n g s mid on → Follows m x (i + n) k mid on new onto → Follows m x i (n + k) g s new onto
follows_on m g mid new x i n k s on onto e v w =
    subst (λ (l : List BlockId). VisitsAll m (shape_of g) l (shades_of g) s (shades_of new) onto) (sym (ends_split (unmarked g.space) x i n k))
    (visits_append m (shape_of g) (ends_from (unmarked g.space) x i n) (ends_from (unmarked g.space) x (i + n) k) (shades_of g) s (shades_of mid) on (shades_of new) onto v
    (follows_rest m mid g x (i + n) k (shades_of mid) on (shades_of new) onto e w))

-- one word that refers to a block
pub ends_one : (s : Space') (x : Spot) (i : ℕ) (id : BlockId) → word_of (word_in s x i) ≡ plain.Block id → ends_from (unmarked s) x i 1 ≡ id ∷ []
ends_one s x i id e = ap (λ w. ends_in w ++ []) (word_unmarked s x i ∙ e)

pub follows_one : (m : Mode) (g new : Graph') (x : Spot) (i : ℕ) (id : BlockId) (is_new : Bool) (s onto : Stack) → word_of (word_in g.space x i) ≡ plain.Block id → Visits m (shape_of g) id is_new (shades_of g) (shades_of new) → Puts id is_new s onto → Follows m x i 1 g s new onto
follows_one m g new x i id is_new s onto e v p =
    subst (λ (l : List BlockId). VisitsAll m (shape_of g) l (shades_of g) s (shades_of new) onto) (sym (ends_one g.space x i id e))
    (shades_of new, onto, record { is_new = is_new; visits = v; puts = p }, (refl, refl))

pub visits_none : (m : Mode) (g : Graph') (id : BlockId) → spot_for g.rows id ≡ None → Visits m (shape_of g) id false (shades_of g) (shades_of g)
visits_none m g id e = record {
  greyed = λ i. (let no : false ≡ true = i in cc);
  same = λ i q. refl;
  passed = λ i h t w. none_has g.rows id e (first_all (keys_of g.rows) g.began id h);
}

pub puts_none : (id : BlockId) (s : Stack) → Puts id false s s
puts_none id s = record { room = refl; put = λ i l. (let no : false ≡ true = i in cc); same = λ i. refl }

-- the edges of a block that is there
pub edges_all : (g : Graph') (id : BlockId) (x : Spot) → spot_for g.rows id ≡ Some x → edges_of (rest_of g) id 0 ≡ ends_from (unmarked g.space) x 0 (len_in g.space x)
edges_all g id x e =
    let all : len_in (unmarked g.space) x - 0 ≡ len_in g.space x = (let l = len_unmarked g.space x in omega (arith, l)) in
    ap (λ o. option_map_or (λ y. ends_from (unmarked g.space) y 0 (len_in (unmarked g.space) y - 0)) o []) e ∙ ap (ends_from (unmarked g.space) x 0) all

pub edges_at : (g : Graph') (id : BlockId) (x : Spot) (place : ℕ) → spot_for g.rows id ≡ Some x → edges_of (rest_of g) id place ≡ ends_from (unmarked g.space) x place (len_in g.space x - place)
edges_at g id x place e =
    ap (λ o. option_map_or (λ y. ends_from (unmarked g.space) y place (len_in (unmarked g.space) y - place)) o []) e
    ∙ ap (λ n. ends_from (unmarked g.space) x place (n - place)) (len_unmarked g.space x)

pub edges_none : (g : Graph') (id : BlockId) (place : ℕ) → spot_for g.rows id ≡ None → edges_of (rest_of g) id place ≡ []
edges_none g id place e = ap (λ o. option_map_or (λ y. ends_from (unmarked g.space) y place (len_in (unmarked g.space) y - place)) o []) e

pub ends_past : (s : Space') (x : Spot) (i n : ℕ) → n ≡ 0 → ends_from s x i n ≡ []
ends_past s x i n e = ap (ends_from s x i) e

pub ends_word : (s : Space') (x : Spot) (i n : ℕ) (w : Word) → i < n → word_of (word_in s x i) ≡ w → ends_from (unmarked s) x i (n - i) ≡ ends_in w ++ ends_from (unmarked s) x (i + 1) (n - (i + 1))
ends_word s x i n w l e =
    let k : n - i ≡ suc (n - (i + 1)) = omega (arith, l) in
    let j : suc i ≡ i + 1 = omega arith in
    ap (ends_from (unmarked s) x i) k ∙ ap (λ v. ends_in v ++ ends_from (unmarked s) x (suc i) (n - (i + 1))) (word_unmarked s x i ∙ e)
    ∙ ap (λ m. ends_in w ++ ends_from (unmarked s) x m (n - (i + 1))) j

pub no_end : (w : Word) → ((id : BlockId) → w ≢ plain.Block id) → ends_in w ≡ []
no_end plain.Null d = refl
no_end (plain.Block id) d = absurd (d id refl)
no_end (plain.Number n) d = refl

-- reading a list item by item
pub at_front : (xs ys : List BlockId) (x : BlockId) (n : ℕ) → length xs ≡ n → slice_get (xs ++ x ∷ ys) n ≡ Some x
at_front [] ys x zero e = refl
at_front [] ys x (suc n) e = absurd (omega (arith, e))
at_front (z ∷ xs) ys x zero e = absurd (omega (arith, e))
at_front (z ∷ xs) ys x (suc n) e = at_front xs ys x n (omega (arith, e))

pub past_front : (xs : List BlockId) (n : ℕ) → length xs ≤ n → slice_get (xs ++ []) n ≡ None
past_front [] n e = refl
past_front (z ∷ xs) zero e = absurd (omega (arith, e))
past_front (z ∷ xs) (suc n) e = past_front xs n (omega (arith, e))

pub one_longer : (xs : List BlockId) (x : BlockId) → length (xs ++ x ∷ []) ≡ length xs + 1
one_longer [] x = refl
one_longer (z ∷ xs) x = let e = one_longer xs x in omega (arith, e)
