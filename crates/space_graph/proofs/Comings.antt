-- Graphs to which blocks come
use Rattle.std.proofs.Common.{◌≡◌, ◌≢◌, ℕ, ◌+◌, ◌*◌, ◌/◌, ◌%◌, ◌<◌, ◌≤◌, ◌^◌, ◌++◌, ◌&&◌, nat_lt, if◌then◌else◌, Bool, true, false, List, [], ◌∷◌, Option, Some, None, Result, Ok, Err, MatchOption, take, drop, get_or, slice_get, length, refl, sym, ap, ◌∙◌, subst, arith, inl, inr}
use Rattle.std.specs.Bool.{⊤}
use Rattle.std.specs.Map.{keys_of}
use Rattle.std.specs.Result.{OnOk, OnErr}
use Rattle.az_base.specs.declared.block_id.BlockId.{BlockId}
use Rattle.az_base.specs.declared.misuse.NoMemory.{NoMemory}
use Rattle.block_layouts.specs.declared.layout.Layout.{Layout}
use Rattle.quantum_space.specs.declared.placed.PlacedWord.{PlacedWord}
use Rattle.quantum_space.specs.declared.placed.PlacedWord.TheVariants as word
use Rattle.quantum_space.specs.declared.shade.Shade.TheVariants as shade
use Rattle.quantum_space.specs.declared.spot.Spot.{Spot}
use Rattle.quantum_space.specs.declared.spot.Kind.{Kind}
use Rattle.quantum_space.specs.declared.spot.Kind.TheVariants as kind
use Rattle.quantum_space.specs.AdminBytes.{aged, begins_block, shade_of}
use Rattle.quantum_space.specs.Regions.{Region', no_id, with_byte, with_word}
use Rattle.quantum_space.specs.Shapes.{Has, Once, is_unmarked}
use Rattle.quantum_space.proofs.Lists.{once_push}
use Rattle.block_space.specs.Spaces.{IsRenotedSpace, IsRoomierSpace, Space', region, with_region, with_spare}
use Rattle.block_space.specs.Marking.{HasBlockIn, HasBlockMoreIn, HasSameBlocks, byte_in, id_in, layout_in, shade_told, shaded, with_byte_in, with_word_in}
use Rattle.block_space.proofs.Keeping.{stored_block}
use Rattle.block_space.proofs.Marks.{noted_same, same_word}
use Rattle.space_graph.specs.Graphs.{Graph', HasRoom, IsAlike, IsGraph, IsPut, begun, rest_of, spot_for, with_space}
use Rattle.space_graph.proofs.Positions.{all_first, first_more, found_back, found_has, found_last, found_still, key_count, keys_more, none_has, rows_longer}
use Rattle.space_graph.proofs.Visits.{byte_here, byte_there, id_same, layout_same, shade_shaded, shaded_used}

-- no block
pub none_graph : (rows : List (BlockId × Spot)) (s : Space') (anchors remembered : List BlockId) → rows ≡ [] → ((x : Spot) → layout_in s x ≡ None)
    → IsGraph (record { rows = rows; space = s; began = 0; anchors = anchors; remembered = remembered })
none_graph rows s anchors remembered e none = record {
  once = subst (λ (es : List (BlockId × Spot)). Once (keys_of es)) (sym e) tt;
  few = (let n : length rows ≡ 0 = ap length e in omega (arith, n));
  began = omega arith;
  there = λ id x h. (let g : spot_for [] id ≡ Some x = ap (λ (es : List (BlockId × Spot)). spot_for es id) (sym e) ∙ h in cc);
  back = λ x l h. (let n = none x in cc);
  used = λ x l h. (let n = none x in cc);
  white = λ x l h. (let n = none x in cc);
}

-- all blocks are those of the next cycle
pub all_begun : (g : Graph') (n : ℕ) → IsGraph g → n ≡ length g.rows → IsGraph (record { rows = g.rows; space = g.space; began = n; anchors = g.anchors; remembered = g.remembered })
all_begun g n inv e = record {
  once = inv.once;
  few = inv.few;
  began = omega (arith, e);
  there = inv.there;
  back = inv.back;
  used = inv.used;
  white = λ x l h w. all_first (keys_of g.rows) n (id_in g.space x) (let k = key_count g.rows in omega (arith, e, k)) (found_has g.rows (id_in g.space x) x (inv.back x l h));
}

-- what is noted and written leaves what is to come
pub spare_byte : (s : Space') (x : Spot) (b : ℕ) → (with_byte_in s x b).spare ≡ s.spare
spare_byte s x b = go x.kind
  where
    go : (k : Kind) → (with_region s k (with_byte (region s k) x.at b)).spare ≡ s.spare
    go kind.Small = refl
    go kind.Medium = refl

pub spare_word : (s : Space') (x : Spot) (i : ℕ) (w : PlacedWord) → (with_word_in s x i w).spare ≡ s.spare
spare_word s x i w = go x.kind
  where
    go : (k : Kind) → (with_region s k (with_word (region s k) x.at i w)).spare ≡ s.spare
    go kind.Small = refl
    go kind.Medium = refl

-- the same blocks in another space
pub alike_graph : (g : Graph') (s : Space') → IsGraph g → IsAlike g.space s → IsGraph (with_space g s)
alike_graph g s inv same = record {
  once = inv.once;
  few = inv.few;
  began = inv.began;
  there = λ id x e. (let h = inv.there id x e in (subst (λ (o : Option Layout). MatchOption o ⊥ (λ l. ⊤)) (sym (same.layouts x)) h.0, same.ids x ∙ h.1));
  back = λ x l e. subst (λ q. spot_for g.rows q ≡ Some x) (sym (same.ids x)) (inv.back x l (sym (same.layouts x) ∙ e));
  used = λ x l e. subst (λ n. 128 ≤ n) (sym (same.bytes x)) (inv.used x l (sym (same.layouts x) ∙ e));
  white = λ x l e w. subst (Has (begun g)) (sym (same.ids x)) (inv.white x l (sym (same.layouts x) ∙ e) (ap (λ n. is_unmarked (shade_told n)) (sym (same.bytes x)) ∙ w));
}

pub alike_more : (a b c : Space') → IsAlike a b → IsAlike b c → IsAlike a c
alike_more a b c e f = record { layouts = λ x. f.layouts x ∙ e.layouts x; ids = λ x. f.ids x ∙ e.ids x; bytes = λ x. f.bytes x ∙ e.bytes x; words = λ x i. f.words x i ∙ e.words x i }

pub alike_itself : (a : Space') → IsAlike a a
alike_itself a = record { layouts = λ x. refl; ids = λ x. refl; bytes = λ x. refl; words = λ x i. refl }

pub roomier_alike : (a b : Space') → IsRoomierSpace a b → IsAlike a b
roomier_alike a b e = record {
  layouts = λ x. (e.each x.kind).layouts x.at;
  ids = λ x. (e.each x.kind).ids x.at;
  bytes = λ x. (e.each x.kind).bytes x.at;
  words = λ x i. (e.each x.kind).words (x.at * (region b x.kind).width + i) ∙ ap (λ n. get_or (region a x.kind).words (x.at * n + i) word.Null) (e.each x.kind).width;
}

-- other blocks to come
spared : (s : Space') (ns : List ℕ) (k : Kind) → region (with_spare s ns) k ≡ region s k
spared s ns kind.Small = refl
spared s ns kind.Medium = refl

pub spare_alike : (s : Space') (ns : List ℕ) → IsAlike s (with_spare s ns)
spare_alike s ns = record {
  layouts = λ x. ap (λ (r : Region'). get_or r.layouts x.at None) (spared s ns x.kind);
  ids = λ x. ap (λ (r : Region'). get_or r.ids x.at no_id) (spared s ns x.kind);
  bytes = λ x. ap (λ (r : Region'). get_or r.map.bytes x.at 0) (spared s ns x.kind);
  words = λ x i. ap (λ (r : Region'). get_or r.words (x.at * r.width + i) word.Null) (spared s ns x.kind);
}

-- a block more, made black
pub put_black : (s mid new : Space') (id : BlockId) (l : Layout) (x : Spot) → HasBlockMoreIn s mid id l x → mid.spare ≡ drop 1 s.spare → new ≡ with_byte_in mid x (shaded shade.Black (byte_in mid x)) → IsPut s new id l x
put_black s mid new id l x more left e = subst (λ (y : Space'). IsPut s y id l x) (sym e) (record {
  fresh = more.fresh;
  layout = layout_same mid to x same ∙ more.layout;
  its_id = id_same mid to x same ∙ more.its_id;
  used = subst (λ n. 128 ≤ n) (sym here) (shaded_used shade.Black (byte_in mid x) (let b = more.byte in omega (arith, b)));
  black = ap shade_told here ∙ shade_shaded shade.Black (byte_in mid x);
  byte = here ∙ ap (shaded shade.Black) more.byte;
  others = λ y o h. (let q = more.others y o h in record {
    layout = layout_same mid to y same ∙ q.layout;
    id = id_same mid to y same ∙ q.id;
    byte = byte_there mid x y byte (apart y o h) ∙ q.byte;
    words = λ i l. same_word mid to y i same ∙ q.words i l;
  });
  only = λ y o h. more.only y o (sym (layout_same mid to y same) ∙ h);
  spare = spare_byte mid x byte ∙ left;
})
  where
    byte : ℕ
    byte = shaded shade.Black (byte_in mid x)

    to : Space'
    to = with_byte_in mid x byte

    same : HasSameBlocks mid to
    same = noted_same mid x byte

    here : byte_in to x ≡ byte
    here = byte_here mid x byte (let b = more.byte in omega (arith, b))

    apart : (y : Spot) (o : Layout) → layout_in s y ≡ Some o → y ≢ x
    apart y o h f = (let n : layout_in s y ≡ None = ap (layout_in s) f ∙ more.fresh in cc)

pub has_put : (s : Space') (x : Spot) (l : Layout) → layout_in s x ≡ Some l → HasBlockIn s x
has_put s x l e = subst (λ (o : Option Layout). MatchOption o ⊥ (λ l. ⊤)) (sym e) tt

-- the graph with a block more
pub graph_more : (g : Graph') (rows : List (BlockId × Spot)) (new : Space') (id : BlockId) (l : Layout) (x : Spot) → IsGraph g → length g.rows + 1 < 2 ^ 32 → spot_for g.rows id ≡ None → rows ≡ g.rows ++ (id, x) ∷ [] → IsPut g.space new id l x
    → IsGraph (record { rows = rows; space = new; began = g.began; anchors = g.anchors; remembered = g.remembered })
graph_more g rows new id l x inv few none e put =
    subst (λ (es : List (BlockId × Spot)). IsGraph (record { rows = es; space = new; began = g.began; anchors = g.anchors; remembered = g.remembered })) (sym e) (record {
      once = subst Once (sym (keys_more g.rows id x)) (once_push (keys_of g.rows) id inv.once (none_has g.rows id none));
      few = (let n = rows_longer g.rows id x in omega (arith, few, n));
      began = (let n = rows_longer g.rows id x in omega (arith, inv.began, n));
      there = there;
      back = λ y o h. elim (put.only y o h) [
        | inl s ↦ subst (λ (z : Spot). spot_for more (id_in new z) ≡ Some z) (sym s) (ap (spot_for more) put.its_id ∙ found_last g.rows id x none)
        | inr s ↦ ap (spot_for more) (put.others y o s).id ∙ found_still g.rows id (id_in g.space y) x y (inv.back y o s)
      ];
      used = λ y o h. elim (put.only y o h) [
        | inl s ↦ subst (λ (z : Spot). 128 ≤ byte_in new z) (sym s) put.used
        | inr s ↦ subst (λ n. 128 ≤ n) (sym (put.others y o s).byte) (inv.used y o s)
      ];
      white = λ y o h w. subst (λ (ks : List BlockId). Has ks (id_in new y)) (sym (ap (take g.began) (keys_more g.rows id x) ∙ first_more (keys_of g.rows) id g.began (let k = key_count g.rows in omega (arith, k, inv.began))))
          (elim (put.only y o h) [
            | inl s ↦ absurd (let b : is_unmarked shade.Black ≡ true = ap is_unmarked (sym put.black ∙ ap (λ (z : Spot). shade_told (byte_in new z)) (sym s)) ∙ w in cc)
            | inr s ↦ subst (Has (begun g)) (sym (put.others y o s).id) (inv.white y o s (ap (λ n. is_unmarked (shade_told n)) (sym (put.others y o s).byte) ∙ w))
          ]);
    })
  where
    more : List (BlockId × Spot)
    more = g.rows ++ (id, x) ∷ []

    there : (q : BlockId) (y : Spot) → spot_for (g.rows ++ (id, x) ∷ []) q ≡ Some y → HasBlockIn new y × (id_in new y ≡ q)
    there q y h = elim (found_back g.rows id q x y h) [
      | inl s ↦ (let b = inv.there q y s in
          let st = stored_block (region g.space y.kind) y.at b.0 in
          let o = put.others y st.0 st.1 in
          (has_put new y st.0 o.layout, o.id ∙ b.1))
      | inr s ↦ subst (λ (z : Spot). HasBlockIn new z × (id_in new z ≡ q)) s.1 (has_put new x l put.layout, put.its_id ∙ sym s.0)
    ]

-- the same for a graph whose fields make up its value
pub rows_alike : (v g : Graph') → v ≡ g → IsGraph v → (rows : List (BlockId × Spot)) (s : Space') → rows ≡ v.rows → IsAlike v.space s → IsGraph (record { rows = rows; space = s; began = v.began; anchors = v.anchors; remembered = v.remembered })
rows_alike v g is inv rows s e same =
    subst (λ (es : List (BlockId × Spot)). IsGraph (record { rows = es; space = s; began = v.began; anchors = v.anchors; remembered = v.remembered })) (sym e) (alike_graph v s inv same)

pub rows_more : (v g : Graph') → v ≡ g → IsGraph v → (rows : List (BlockId × Spot)) (new : Space') (id : BlockId) (l : Layout) (x : Spot) → length v.rows + 1 < 2 ^ 32 → spot_for g.rows id ≡ None → rows ≡ v.rows ++ (id, x) ∷ [] → IsPut v.space new id l x
    → IsGraph (record { rows = rows; space = new; began = v.began; anchors = v.anchors; remembered = v.remembered })
rows_more v g is inv rows new id l x few none e put = graph_more v rows new id l x inv few (ap (λ (y : Graph'). spot_for y.rows id) is ∙ none) e put

-- all blocks are older
module _ (s new : Space') (e : IsRenotedSpace aged s new) where
  pub aged_layout : (x : Spot) → layout_in new x ≡ layout_in s x
  aged_layout x = ap (λ (r : Region'). get_or r.layouts x.at None) (e.each x.kind).rest

  aged_id : (x : Spot) → id_in new x ≡ id_in s x
  aged_id x = ap (λ (r : Region'). get_or r.ids x.at no_id) (e.each x.kind).rest

  pub aged_byte : (x : Spot) → byte_in new x ≡ aged (byte_in s x)
  aged_byte x = (e.each x.kind).map.bytes x.at

  older_byte : (b : Bool) (n : ℕ) → 128 ≤ n → (128 ≤ (if b then n + 4 else n)) × (shade_told (if b then n + 4 else n) ≡ shade_told n)
  older_byte true n l = (omega (arith, l), (let m : (n + 4) % 4 ≡ n % 4 = omega arith in ap shade_of m))
  older_byte false n l = (l, refl)

  pub aged_graph : (g : Graph') → g.space ≡ s → IsGraph g → IsGraph (with_space g new)
  aged_graph g is inv = go (subst (λ (y : Space'). IsGraph (with_space g y)) is inv)
    where
      go : IsGraph (with_space g s) → IsGraph (with_space g new)
      go inv = record {
        once = inv.once;
        few = inv.few;
        began = inv.began;
        there = λ id x h. (let t = inv.there id x h in (subst (λ (o : Option Layout). MatchOption o ⊥ (λ l. ⊤)) (sym (aged_layout x)) t.0, aged_id x ∙ t.1));
        back = λ x l h. subst (λ q. spot_for g.rows q ≡ Some x) (sym (aged_id x)) (inv.back x l (sym (aged_layout x) ∙ h));
        used = λ x l h. subst (λ n. 128 ≤ n) (sym (aged_byte x)) (older_byte (begins_block (byte_in s x) && nat_lt ((byte_in s x / 4) % 8) 3) (byte_in s x) (inv.used x l (sym (aged_layout x) ∙ h))).0;
        white = λ x l h w. (let b = sym (aged_layout x) ∙ h in
            let told = (older_byte (begins_block (byte_in s x) && nat_lt ((byte_in s x / 4) % 8) 3) (byte_in s x) (inv.used x l b)).1 in
            subst (Has (begun g)) (sym (aged_id x)) (inv.white x l b (ap is_unmarked (sym told) ∙ ap (λ n. is_unmarked (shade_told n)) (sym (aged_byte x)) ∙ w)));
      }

-- room for what is to come
pub room_none : (rows : List (BlockId × Spot)) (spare : List ℕ) (room : ℕ) → length rows < 2 ^ 32 → spare ≡ [] → HasRoom rows spare room
room_none rows spare room few e = (let n : length spare ≡ 0 = ap length e in record { fits = omega (arith, n); few = omega (arith, n, few) })

-- the same blocks are to come
pub room_same : (rows : List (BlockId × Spot)) (spare left : List ℕ) (room : ℕ) → left ≡ spare → HasRoom rows spare room → HasRoom rows left room
room_same rows spare left room e h = subst (λ (l : List ℕ). HasRoom rows l room) (sym e) h

-- what marking leaves of a graph has them too
pub room_rest : (v g : Graph') (new : Space') (room : ℕ) → v ≡ g → rest_of (with_space v new) ≡ rest_of g → HasRoom v.rows v.space.spare room → HasRoom v.rows new.spare room
room_rest v g new room is rest h = room_same v.rows v.space.spare new.spare room (ap (λ (y : Graph'). y.space.spare) rest ∙ sym (ap (λ (y : Graph'). y.space.spare) is)) h

-- one has come
pub room_less : (rows more : List (BlockId × Spot)) (spare left : List ℕ) (room now n : ℕ) (id : BlockId) (x : Spot) → more ≡ rows ++ (id, x) ∷ [] → slice_get spare 0 ≡ Some n → left ≡ drop 1 spare → room ≤ now + 1 → HasRoom rows spare room → HasRoom more left now
room_less rows more [] left room now n id x e at d r h = cc
room_less rows more (k ∷ spare) left room now n id x e at d r h =
    let a : length more ≡ length rows + 1 = ap length e ∙ rows_longer rows id x in
    let b : length left ≡ length spare = ap length d in
    record { fits = (let i = h.fits in omega (arith, b, r, i)); few = (let i = h.few in omega (arith, a, b, i)) }

-- room for one
pub one_left : (rows : List (BlockId × Spot)) (spare : List ℕ) (room n : ℕ) → slice_get spare 0 ≡ Some n → HasRoom rows spare room → (0 < room) × (length rows + 1 < 2 ^ 32)
one_left rows [] room n e h = cc
one_left rows (k ∷ spare) room n e h = ((let i = h.fits in omega (arith, i)), (let i = h.few in omega (arith, i)))

-- one has gone
pub room_fewer : (rows less : List (BlockId × Spot)) (spare left : List ℕ) (room now : ℕ) → length less ≤ length rows → left ≡ spare → room ≤ now → HasRoom rows spare room → HasRoom less left now
room_fewer rows less spare left room now l e r h =
    let a : length left ≡ length spare = ap length e in
    record { fits = (let i = h.fits in omega (arith, a, r, i)); few = (let i = h.few in omega (arith, a, l, i)) }

-- more are to come
pub room_more : (r : Result (Unit {0}) NoMemory) (rows now : List (BlockId × Spot)) (spare left lengths : List ℕ) (room most : ℕ) → OnOk r (left ≡ spare ++ lengths) → OnErr r (left ≡ spare) → now ≡ rows
    → room ≤ most → length spare + length lengths ≤ most → length rows + (length spare + length lengths) < 2 ^ 32 → HasRoom rows spare room → HasRoom now left most
room_more (Ok u) rows now spare left lengths room most ok err e k fits few h =
    let a : length left ≡ length spare + length lengths = ap length ok ∙ both spare lengths in
    let b : length now ≡ length rows = ap length e in
    record { fits = omega (arith, a, fits); few = omega (arith, a, b, few) }
  where
    both : (xs ys : List ℕ) → length (xs ++ ys) ≡ length xs + length ys
    both [] ys = omega arith
    both (x ∷ xs) ys = let r = both xs ys in omega (arith, r)
room_more (Err u) rows now spare left lengths room most ok err e k fits few h =
    let a : length left ≡ length spare = ap length err in
    let b : length now ≡ length rows = ap length e in
    record { fits = (let i = h.fits in omega (arith, a, k, i)); few = (let i = h.few in omega (arith, a, b, i)) }
