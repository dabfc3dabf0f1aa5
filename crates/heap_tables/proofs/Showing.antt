-- The tables' graph and a state for which they stand
use Rattle.std.proofs.Common.{◌≡◌, ℕ, zero, suc, ◌<◌, nat_lt, min, Bool, true, false, cond, List, [], ◌∷◌, Option, Some, None, map, is_some, slice_get, unwrap_or, get_or, option_and_then, IfSome, ◌||◌, take, refl, sym, ap, ◌∙◌, subst, ◌⊎◌, inl, inr, IsTrue, IsSome, arith, ◌-◌}
use Rattle.std.proofs.lemmas.Bool.Decides.{nat_tests}
use Rattle.std.proofs.lemmas.Option.{get_or_from_slice_get}
use Rattle.std.specs.Cmp.{nat_cmp_total}
use Rattle.std.specs.List.{list_any}
use Rattle.std.specs.Option.{option_map_or}
use Rattle.std.specs.FinMap.{FinMap, get, entries, retain_keys, get-retain_keys}
use Rattle.std.specs.declared.cmp.Ordering.TheVariants.{Equal}
use Rattle.az_base.specs.declared.action.Mode.{Mode}
use Rattle.az_base.specs.declared.block_id.BlockId.{BlockId}
use Rattle.az_base.specs.declared.word.Word.TheVariants as word
use Rattle.az_base.specs.Ids.{id_cmp, same_id}
use Rattle.az_base.specs.Places.{pair_cmp, pairs_total, exact_pair}
use Rattle.assoc_refs.specs.Table.{pairs_of}
use Rattle.quantum_space.specs.Shapes.{Has, edges, anchors}
use Rattle.quantum_space.proofs.Lists.{among_has, has_among, same_is, itself}
use Rattle.zone_model.specs.State.{State, Block, is_escaped, count_of}
use Rattle.zone_model.specs.Reach.{Edge, IsHeld, is_young}
use Rattle.block_table.specs.Holds.{Holds, is_held_by, times}
use Rattle.block_table.specs.Stored.{HeapBlock}
use Rattle.cycle_laws.specs.Shown.{Shows, FromUnescaped}
use Rattle.block_table.specs.Places.{somes, in_word}
use Rattle.block_table.specs.Table.{words_in, is_held_in}
use Rattle.heap_tables.specs.declared.tables.Tables.{Tables}
use Rattle.heap_tables.specs.Standing.{AreTables, HoldsTell, TablesStand, escaped_view, held, kept_of}
use Rattle.heap_tables.specs.Graphs.{graph_of, value_of, late_places, if_held_in, some_block}
use Rattle.heap_tables.proofs.Places.{in_either, in_first, in_second, place_in, in_place, word_in, in_words, made_in}
use Rattle.heap_tables.proofs.Entries.{In, entry_get, get_entry}

true_or_not : (t : Bool) → (t ≡ true) ⊎ (t ≡ false)
true_or_not true = inl refl
true_or_not false = inr refl

-- the block of the state that the heap keeps
record Kin (z : State) (id : BlockId) (k : HeapBlock) : Type 0 where
  pub block : Block
  pub here : get z.blocks id ≡ Some block
  pub words : block.words ≡ k.words

kin : (t : Tables) (z : State) (id : BlockId) (k : HeapBlock) → TablesStand t z → get t.blocks.blocks id ≡ Some k → Kin z id k
kin t z id k s is = go (get z.blocks id) refl (sym (s.blocks id) ∙ is)
  where
    escaped : (b : Block) → get z.blocks id ≡ Some b → (o : Option ℕ) → b.since ≡ o → kept_of z.reclaims b ≡ Some k → Kin z id k
    escaped b e None f g = let none : None ≡ Some k = rw f at g in cc
    escaped b e (Some n) f g = let kept = rw f at g in record { block = b; here = e; words = ap (λ (o : Option HeapBlock). elim o [ None ↦ b.words | Some k ↦ k.words ]) kept }

    go : (o : Option Block) → get z.blocks id ≡ o → escaped_view z.reclaims o ≡ Some k → Kin z id k
    go None e f = cc
    go (Some b) e f = escaped b e b.since refl f

-- the heap keeps exactly the escaped blocks
kept_alike : (t : Tables) (z : State) (id : BlockId) → TablesStand t z → is_some (get t.blocks.blocks id) ≡ is_escaped z id
kept_alike t z id s = ap is_some (s.blocks id) ∙ go (get z.blocks id)
  where
    since : (b : Block) (o : Option ℕ) → b.since ≡ o → is_some (kept_of z.reclaims b) ≡ is_some b.since
    since b None e = rw e refl
    since b (Some n) e = rw e refl

    go : (o : Option Block) → is_some (escaped_view z.reclaims o) ≡ is_some (option_and_then (λ (b : Block). b.since) o)
    go None = refl
    go (Some b) = since b b.since refl

young_alike : (t : Tables) (z : State) (id : BlockId) → TablesStand t z → option_map_or (λ (k : HeapBlock). nat_lt k.age 3) (get t.blocks.blocks id) false ≡ is_young z id
young_alike t z id s = ap (λ (o : Option HeapBlock). option_map_or (λ (k : HeapBlock). nat_lt k.age 3) o false) (s.blocks id) ∙ go (get z.blocks id)
  where
    since : (b : Block) (o : Option ℕ) → b.since ≡ o → option_map_or (λ (k : HeapBlock). nat_lt k.age 3) (kept_of z.reclaims b) false ≡ option_map_or (λ n. nat_lt (min (z.reclaims - n) 3) 3) b.since false
    since b None e = rw e refl
    since b (Some n) e = rw e refl

    go : (o : Option Block) → option_map_or (λ (k : HeapBlock). nat_lt k.age 3) (escaped_view z.reclaims o) false ≡ option_map_or (λ n. nat_lt (min (z.reclaims - n) 3) 3) (option_and_then (λ (b : Block). b.since) o) false
    go None = refl
    go (Some b) = since b b.since refl

in_mapped : {X Y : Type 0} (f : X → Y) (xs : List X) (y : Y) → In (map f xs) y → (x : X) × In xs x × (f x ≡ y)
in_mapped f [] y h = absurd h
in_mapped f (x ∷ xs) y (inl e) = (x, inl refl, e)
in_mapped f (x ∷ xs) y (inr h) = let r = in_mapped f xs y h in (r.0, inr r.1, r.2)

mapped_in : {X Y : Type 0} (f : X → Y) (xs : List X) (x : X) → In xs x → In (map f xs) (f x)
mapped_in f [] x h = absurd h
mapped_in f (y ∷ xs) x (inl e) = inl (ap f e)
mapped_in f (y ∷ xs) x (inr h) = inr (mapped_in f xs x h)

made_has : {X : Type 0} (f : X → Option BlockId) (xs : List X) (x : X) (b : BlockId) → In xs x → f x ≡ Some b → Has (somes (map f xs)) b
made_has f [] x b h e = absurd h
made_has f (y ∷ xs) x b (inl s) e = rw (ap f s ∙ e) (inl refl)
made_has f (y ∷ xs) x b (inr h) e = go (f y) (made_has f xs x b h e)
  where
    go : (o : Option BlockId) → Has (somes (map f xs)) b → Has (somes (o ∷ map f xs)) b
    go None k = k
    go (Some c) k = inr k

has_in : (xs : List BlockId) (b : BlockId) → Has xs b → In xs b
has_in [] b h = h
has_in (x ∷ xs) b (inl e) = inl e
has_in (x ∷ xs) b (inr h) = inr (has_in xs b h)

in_has : (xs : List BlockId) (b : BlockId) → In xs b → Has xs b
in_has [] b h = h
in_has (x ∷ xs) b (inl e) = inl e
in_has (x ∷ xs) b (inr h) = inr (in_has xs b h)

front_in : (xs : List BlockId) (m : ℕ) (b : BlockId) → Has (take m xs) b → Has xs b
front_in [] zero b h = h
front_in [] (suc m) b h = h
front_in (x ∷ xs) zero b h = absurd h
front_in (x ∷ xs) (suc m) b (inl e) = inl e
front_in (x ∷ xs) (suc m) b (inr h) = inr (front_in xs m b h)

module _ (assocs : FinMap pair_cmp BlockId) (a : BlockId) where
  mine : BlockId × ℕ → Bool
  mine p = same_id a p.0

  alike : (q x : BlockId × ℕ) → pair_cmp q x ≡ Equal → same_id a x.0 ≡ same_id a q.0
  alike q x e = ap (λ (p : BlockId × ℕ). same_id a p.0) (sym (exact_pair q x e))

  -- a value of the object
  pub value_edge : (b : BlockId) → Has (somes (map value_of (pairs_of assocs a))) b → (key : ℕ) × (get assocs (a, key) ≡ Some b)
  value_edge b h =
      let x = made_in value_of (pairs_of assocs a) In (λ y ys. inl refl) (λ y w ys k. inr k) b h in
      let e = in_mapped _ (entries (retain_keys assocs (λ p. same_id a p.0))) x.0 x.1 in
      let got = entry_get pairs_total (retain_keys assocs (λ p. same_id a p.0)) e.0 e.1 in
      go e.0 (same_id a e.0.0.0) refl (sym (get-retain_keys assocs (λ p. same_id a p.0) e.0.0 (alike e.0.0)) ∙ got) (ap (λ (y : _). y.1) e.2 ∙ unsome x.2)
    where
      unsome : {c d : BlockId} → Some c ≡ Some d → c ≡ d
      unsome {c} e = ap (λ o. unwrap_or o c) e

      go : (e : (BlockId × ℕ) × BlockId) (t : Bool) → same_id a e.0.0 ≡ t → cond (same_id a e.0.0) (get assocs e.0) None ≡ Some e.1 → e.1 ≡ b → (key : ℕ) × (get assocs (a, key) ≡ Some b)
      go e true s g v = let is = rw s at g in (e.0.1, ap (λ x. get assocs (x, e.0.1)) (same_is a e.0.0 s) ∙ is ∙ ap (λ x. Some x) v)
      go e false s g v = let is = rw s at g in cc

  pub edge_value : (key : ℕ) (b : BlockId) → get assocs (a, key) ≡ Some b → Has (somes (map value_of (pairs_of assocs a))) b
  edge_value key b e =
      let got : get (retain_keys assocs (λ p. same_id a p.0)) (a, key) ≡ Some b = get-retain_keys assocs (λ p. same_id a p.0) (a, key) (alike (a, key)) ∙ rw (itself a) e in
      let x = get_entry pairs_total (retain_keys assocs (λ p. same_id a p.0)) (a, key) b got in
      made_has value_of (pairs_of assocs a) _ b (mapped_in _ (entries (retain_keys assocs (λ p. same_id a p.0))) x.0 x.1) (ap (λ y. Some y) x.3)

-- a place of the roots
root_place : (rs : List (Option BlockId)) (g : ℕ) (b : BlockId) → get_or rs g None ≡ Some b → slice_get rs g ≡ Some (Some b)
root_place [] g b e = cc
root_place (r ∷ rs) zero b e = ap (λ o. Some o) e
root_place (r ∷ rs) (suc g) b e = root_place rs g b e

-- a positive count
count_there : (o : Option ℕ) → 0 < unwrap_or o 0 → is_some o ≡ true
count_there None h = absurd (omega (arith, h))
count_there (Some n) h = refl

count_positive : (o : Option ℕ) → is_some o ≡ true → IfSome o (λ n. 0 < n) → 0 < unwrap_or o 0
count_positive None e h = cc
count_positive (Some n) e h = h

-- a block that some thread holds
some_held : (es : List (ℕ × ℕ)) → list_any (λ n. nat_lt 0 n) (map (λ (e : ℕ × ℕ). e.1) es) ≡ true → (e : ℕ × ℕ) × In es e × (0 < e.1)
some_held [] h = cc
some_held (x ∷ es) h = elim (true_or_not (nat_lt 0 x.1)) [
  | inl t ↦ (x, inl refl, (let p : 0 < x.1 = grind (arith, nat_tests, t) in p))
  | inr f ↦ (let r = some_held es (sym (ap (λ b. b || list_any (λ n. nat_lt 0 n) (map (λ (e : ℕ × ℕ). e.1) es)) f) ∙ h) in (r.0, inr r.1, r.2))
]

held_some : (es : List (ℕ × ℕ)) (e : ℕ × ℕ) → In es e → 0 < e.1 → list_any (λ n. nat_lt 0 n) (map (λ (e : ℕ × ℕ). e.1) es) ≡ true
held_some [] e i h = absurd i
held_some (x ∷ es) e (inl s) h =
    let p : nat_lt 0 e.1 ≡ true = grind (arith, nat_tests, h) in
    ap (λ (y : ℕ × ℕ). nat_lt 0 y.1 || list_any (λ n. nat_lt 0 n) (map (λ (e : ℕ × ℕ). e.1) es)) s ∙ ap (λ b. b || list_any (λ n. nat_lt 0 n) (map (λ (e : ℕ × ℕ). e.1) es)) p
held_some (x ∷ es) e (inr i) h = ap (λ b. nat_lt 0 x.1 || b) (held_some es e i h) ∙ or_true (nat_lt 0 x.1)
  where
    or_true : (b : Bool) → (b || true) ≡ true
    or_true true = refl
    or_true false = refl

held_by : (m : Holds) → is_held_by m ≡ true → (u : ℕ) × (0 < times m u)
held_by m h =
    let e = some_held (entries m) h in
    let got : get m e.0.0 ≡ Some e.0.1 = entry_get nat_cmp_total m e.0 e.1 in
    let same : times m e.0.0 ≡ e.0.1 = ap (λ o. unwrap_or o 0) got in
    (e.0.0, omega (arith, same, e.2))

by_held : (m : Holds) (u : ℕ) → 0 < times m u → is_held_by m ≡ true
by_held m u h = go (get m u) refl
  where
    go : (o : Option ℕ) → get m u ≡ o → is_held_by m ≡ true
    go None e = let none : times m u ≡ 0 = ap (λ o. unwrap_or o 0) e in absurd (omega (arith, none, h))
    go (Some n) e =
        let same : times m u ≡ n = ap (λ o. unwrap_or o 0) e in
        let x = get_entry nat_cmp_total m u n e in
        held_some (entries m) x.0 x.1 (omega (arith, same, h, x.3))

module _ (m : Mode) (t : Tables) (z : State) (are : AreTables t) (stands : TablesStand t z) (tell : HoldsTell t z) where
  words_of_state : (a : BlockId) (i : ℕ) (b : BlockId) → slice_get (words_in t.blocks.blocks a) i ≡ Some (word.Block b) → Edge z a b
  words_of_state a i b e = go (get t.blocks.blocks a) refl e
    where
      go : (o : Option HeapBlock) → get t.blocks.blocks a ≡ o → slice_get (option_map_or (λ (k : HeapBlock). k.words) (get t.blocks.blocks a) []) i ≡ Some (word.Block b) → Edge z a b
      go None f g = let none : slice_get [] i ≡ Some (word.Block b) = rw f at g in cc
      go (Some k) f g = let k2 = kin t z a k stands f in inl (k2.block, i, k2.here, ap (λ ws. slice_get ws i) k2.words ∙ (rw f at g))

  real : (a b : BlockId) → Has (edges (graph_of t) a) b → Edge z a b
  real a b e = elim (in_either (map in_word (words_in t.blocks.blocks a)) (map value_of (pairs_of t.assocs.pairs a)) b e) [
    | inl w ↦ (let i = word_in (words_in t.blocks.blocks a) b w in words_of_state a i.0 b i.1)
    | inr v ↦ (let k = value_edge t.assocs.pairs a b v in inr (k.0, ap (λ x. get x (a, k.0)) stands.assocs ∙ k.1))
  ]

  full : (a b : BlockId) → IsTrue (is_escaped z a) → Edge z a b → Has (edges (graph_of t) a) b
  full a b esc (inl (block, i, here, at)) = go (get t.blocks.blocks a) refl (kept_alike t z a stands ∙ esc)
    where
      go : (o : Option HeapBlock) → get t.blocks.blocks a ≡ o → is_some (get t.blocks.blocks a) ≡ true → Has (edges (graph_of t) a) b
      go None f g = let no : false ≡ true = rw f at g in cc
      go (Some k) f g =
          let k2 = kin t z a k stands f in
          let same : Some k2.block ≡ Some block = sym k2.here ∙ here in
          let words : words_in t.blocks.blocks a ≡ block.words = ap (λ (o : Option HeapBlock). option_map_or (λ (k : HeapBlock). k.words) o []) f ∙ sym k2.words ∙ ap (λ (o : Option Block). option_map_or (λ (x : Block). x.words) o k2.block.words) same in
          in_first (map in_word (words_in t.blocks.blocks a)) (map value_of (pairs_of t.assocs.pairs a)) b (in_words (words_in t.blocks.blocks a) b i (ap (λ ws. slice_get ws i) words ∙ at))
  full a b esc (inr (key, at)) = in_second (map in_word (words_in t.blocks.blocks a)) (map value_of (pairs_of t.assocs.pairs a)) b (edge_value t.assocs.pairs a key b (ap (λ x. get x (a, key)) (sym stands.assocs) ∙ at))

  in_order : (b : BlockId) → IsTrue (is_escaped z b) → Has t.blocks.order b
  in_order b esc = (are.blocks.order b).1 (go (get t.blocks.blocks b) (kept_alike t z b stands ∙ esc))
    where
      go : (o : Option HeapBlock) → is_some o ≡ true → IsSome o
      go None e = cc
      go (Some k) e = refl

  escaped : (a : BlockId) → Has (take t.blocks.began t.blocks.order) a → IsTrue (is_escaped z a)
  escaped a i = sym (kept_alike t z a stands) ∙ go (get t.blocks.blocks a) ((are.blocks.order a).0 (front_in t.blocks.order t.blocks.began a i))
    where
      go : (o : Option HeapBlock) → IsSome o → is_some o ≡ true
      go None e = cc
      go (Some k) e = refl

  -- a thread holds the block
  holds_it : (b : BlockId) (u : ℕ) → 0 < held t u b → is_held_in t.blocks.holds b ≡ true
  holds_it b u h = go (get t.blocks.holds b) h
    where
      go : (o : Option Holds) → 0 < option_map_or (λ (m : Holds). times m u) o 0 → option_map_or is_held_by o false ≡ true
      go None h = absurd (omega (arith, h))
      go (Some n) h = by_held n u h

  it_holds : (b : BlockId) → is_held_in t.blocks.holds b ≡ true → (u : ℕ) × (0 < held t u b)
  it_holds b h = go (get t.blocks.holds b) h
    where
      go : (o : Option Holds) → option_map_or is_held_by o false ≡ true → (u : ℕ) × (0 < option_map_or (λ (m : Holds). times m u) o 0)
      go None h = cc
      go (Some n) h = held_by n h

  known : (b : BlockId) → IsTrue (is_escaped z b) → (u : ℕ) × (0 < held t u b) → Has (anchors (graph_of t)) b
  known b esc u = in_second t.roots (late_places t) b (in_second (map some_block t.counts.order) (map (if_held_in t.blocks.holds) t.blocks.order) b
      (made_has (if_held_in t.blocks.holds) t.blocks.order b b (has_in t.blocks.order b (in_order b esc)) (ap (λ c. cond c (Some b) None) (holds_it b u.0 u.1))))

  at_root : (g : ℕ) (b : BlockId) → z.roots g ≡ Some b → Has (anchors (graph_of t)) b
  at_root g b e = in_first t.roots (late_places t) b (in_place t.roots b g (root_place t.roots g b (stands.roots g ∙ e)))

  counted : (b : BlockId) → 0 < count_of z b → Has (anchors (graph_of t)) b
  counted b c =
      let here : 0 < unwrap_or (get t.counts.counts b) 0 = subst (λ (x : FinMap id_cmp ℕ). 0 < unwrap_or (get x b) 0) stands.counts c in
      in_second t.roots (late_places t) b (in_first (map some_block t.counts.order) (map (if_held_in t.blocks.holds) t.blocks.order) b
      (made_has some_block t.counts.order b b (has_in t.counts.order b (among_has t.counts.order b (are.counted.counted b ∙ count_there (get t.counts.counts b) here))) refl))

  held_anchor : (b : BlockId) → IsTrue (is_escaped z b) → IsHeld z b → Has (anchors (graph_of t)) b
  held_anchor b esc (inl r) = known b esc (tell.register b r esc)
  held_anchor b esc (inr (inl (g, e))) = at_root g b e
  held_anchor b esc (inr (inr c)) = counted b c

  anchor : (b : BlockId) → Has (anchors (graph_of t)) b → IsHeld z b ⊎ FromUnescaped z b
  anchor b a = elim (in_either t.roots (late_places t) b a) [
    | inl r ↦ (let i = place_in t.roots b r in inl (inr (inl (i.0, sym (stands.roots i.0) ∙ get_or_from_slice_get t.roots i.0 (Some b) None i.1))))
    | inr k ↦ elim (in_either (map some_block t.counts.order) (map (if_held_in t.blocks.holds) t.blocks.order) b k) [
      | inl c ↦ (let x = made_in some_block t.counts.order In (λ y ys. inl refl) (λ y w ys k. inr k) b c in
          let there : Has t.counts.order b = subst (Has t.counts.order) (ap (λ o. unwrap_or o b) x.2) (in_has t.counts.order x.0 x.1) in
          inl (inr (inr (subst (λ (x : FinMap id_cmp ℕ). 0 < unwrap_or (get x b) 0) (sym stands.counts) (count_positive (get t.counts.counts b) (sym (are.counted.counted b) ∙ has_among t.counts.order b there) (are.positive b))))))
      | inr g ↦ (let x = made_in (if_held_in t.blocks.holds) t.blocks.order In (λ y ys. inl refl) (λ y w ys k. inr k) b g in by_hold x.0 (is_held_in t.blocks.holds x.0) refl x.2)
    ]
  ]
    where
      by_hold : (x : BlockId) (u : Bool) → is_held_in t.blocks.holds x ≡ u → if_held_in t.blocks.holds x ≡ Some b → IsHeld z b ⊎ FromUnescaped z b
      by_hold x true e f = let same : Some x ≡ Some b = sym (ap (λ c. cond c (Some x) None) e) ∙ f in let one : x ≡ b = ap (λ o. unwrap_or o x) same in let u = it_holds x e in tell.holds u.0 b (subst (λ y. 0 < held t u.0 y) one u.1)
      by_hold x false e f = let none : None ≡ Some b = sym (ap (λ c. cond c (Some x) None) e) ∙ f in cc

  pub shows : Shows m z (graph_of t)
  shows = record {
    real = real;
    full = full;
    escaped = escaped;
    young = λ a i. young_alike t z a stands;
    held = λ b i sc k. held_anchor b (escaped b i) k;
    below = λ b i sc f. known b (escaped b i) (tell.below b f (escaped b i));
    anchor = anchor;
  }
