-- Blocks in a space grow older
use Rattle.std.proofs.Common.{◌≡◌, ℕ, suc, ◌+◌, ◌*◌, ◌/◌, ◌%◌, min, List, [], ◌∷◌, Some, None, get_or, slice_get, refl, sym, ap, ◌∙◌, subst, arith}
use Rattle.std.specs.Option.{option_map_or, unwrap_or}
use Rattle.az_base.specs.declared.block_id.BlockId.{BlockId}
use Rattle.block_layouts.specs.declared.layout.Shape.TheVariants as layout
use Rattle.block_layouts.specs.Layouts.{len_of}
use Rattle.quantum_space.specs.declared.admin.Admin.{Admin}
use Rattle.quantum_space.specs.declared.spot.Spot.{Spot}
use Rattle.quantum_space.specs.declared.placed.PlacedWord.TheVariants as word
use Rattle.quantum_space.specs.AdminBytes.{admin_of, aged as aged_byte, with_age}
use Rattle.quantum_space.specs.Regions.{IsFirstByte, Region'}
use Rattle.quantum_space.proofs.Noting.{aged_tells}
use Rattle.block_space.specs.Spaces.{IsRenotedSpace, Space', region}
use Rattle.block_space.specs.Maps.{IsSound}
use Rattle.block_space.specs.Marking.{HasBlockIn, byte_in, layout_in, len_in, unmarked, unshaded, word_in}
use Rattle.block_space.proofs.Keeping.{stored_block}
use Rattle.block_space.proofs.Unmarked.{byte_unmarked}
use Rattle.space_graph.specs.Graphs.{Graph', IsGraph, with_space}
use Rattle.space_graph.proofs.Positions.{row_found}
use Rattle.block_table.specs.Lying.{AreLying, Kept', block_in, entries_of, kept_for, lying_table, row_in, rows_in, words_at, words_from}
use Rattle.block_table.specs.Stored.{HeapBlock, IsWhole, older, older_row}
use Rattle.block_table.specs.Table.{IsKept, aged, table_of}
use Rattle.block_table.proofs.Ageing.{aged_kept}
use Rattle.block_table.proofs.Alike.{same_words}
use Rattle.block_table.proofs.Lying.{all_unmarked}
use Rattle.block_table.proofs.Told.{layout_same}

module _ (s z : Space') (sound : IsSound s) (e : IsRenotedSpace aged_byte s z) where
  layouts : (x : Spot) → layout_in z x ≡ layout_in s x
  layouts x = ap (λ (r : Region'). get_or r.layouts x.at None) (e.each x.kind).rest

  words : (x : Spot) (i : ℕ) → word_in z x i ≡ word_in s x i
  words x i = ap (λ (r : Region'). get_or r.words (x.at * r.width + i) word.Null) (e.each x.kind).rest

  bytes : (x : Spot) → byte_in z x ≡ aged_byte (byte_in s x)
  bytes x = (e.each x.kind).map.bytes x.at

  first : (x : Spot) → HasBlockIn s x → IsFirstByte (byte_in s x)
  first x has = (let b = stored_block (region s x.kind) x.at has in ((sound.regions x.kind).blocks x.at b.0 b.1).begins)

  told : (x : Spot) → HasBlockIn s x → admin_of (byte_in z x) ≡ with_age (admin_of (byte_in s x)) (min 3 ((byte_in s x / 4) % 8 + 1))
  told x has = ap admin_of (bytes x) ∙ aged_tells (byte_in s x) (first x has)

  age_is : (x : Spot) → HasBlockIn s x → (byte_in (unmarked z) x / 4) % 8 ≡ min ((byte_in (unmarked s) x / 4) % 8 + 1) 3
  age_is x has =
      let a : (byte_in z x / 4) % 8 ≡ min 3 ((byte_in s x / 4) % 8 + 1) = ap (λ (n : Admin). n.age) (told x has) in
      let b : unshaded (byte_in z x) / 4 ≡ byte_in z x / 4 = omega arith in
      let c : unshaded (byte_in s x) / 4 ≡ byte_in s x / 4 = omega arith in
      let d : min 3 ((byte_in s x / 4) % 8 + 1) ≡ min ((byte_in s x / 4) % 8 + 1) 3 = omega arith in
      ap (λ n. (n / 4) % 8) (byte_unmarked z x) ∙ ap (λ n. n % 8) b ∙ a ∙ d ∙ ap (λ n. min (n % 8 + 1) 3) (sym c) ∙ ap (λ n. min ((n / 4) % 8 + 1) 3) (sym (byte_unmarked s x))

  words_same : (x : Spot) → words_at z x ≡ words_at s x
  words_same x = ap (words_from z x 0) (ap (λ o. option_map_or len_of o 0) (layouts x)) ∙ same_words s z x 0 (len_in s x) (λ k a b. words x k)

  pub older_block : (x : Spot) (k : Kept') → HasBlockIn s x → block_in (unmarked z) x k ≡ older (block_in (unmarked s) x k)
  older_block x k has = λ i. record {
    layout = (layout_same z x ∙ ap (λ o. unwrap_or o (layout.Scanned 0)) (layouts x) ∙ sym (layout_same s x)) i;
    words = (all_unmarked z x ∙ words_same x ∙ sym (all_unmarked s x)) i;
    actions = k.actions;
    finalised = k.finalised;
    age = age_is x has i;
  }

  older_one : (x : Spot) (k : Kept') → HasBlockIn s x → row_in (unmarked z) z x k ≡ older_row (row_in (unmarked s) s x k)
  older_one x k has = λ i. record {
    kept = older_block x k has i;
    holds = k.holds;
    shade = ap (λ (n : Admin). n.shade) (told x has) i;
  }

  older_rows : (ks : List (BlockId × Kept')) (rs : List (BlockId × Spot)) → ((n : ℕ) (r : BlockId × Spot) → slice_get rs n ≡ Some r → HasBlockIn s r.1) → rows_in (unmarked z) z ks rs ≡ aged (rows_in (unmarked s) s ks rs)
  older_rows ks [] there = refl
  older_rows ks (r ∷ rs) there =
      ap (λ y. (r.0, y) ∷ rows_in (unmarked z) z ks rs) (older_one r.1 (kept_for ks r.0) (there 0 r refl))
      ∙ ap (λ l. (r.0, older_row (row_in (unmarked s) s r.1 (kept_for ks r.0))) ∷ l) (older_rows ks rs (λ n q h. there (suc n) q h))

pub all_there : (g : Graph') → IsGraph g → (n : ℕ) (r : BlockId × Spot) → slice_get g.rows n ≡ Some r → HasBlockIn g.space r.1
all_there g inv n r h = (inv.there r.0 r.1 (row_found g.rows n r.0 r.1 inv.once h)).0

pub aged_entries : (g : Graph') (z : Space') (ks : List (BlockId × Kept')) → IsGraph g → IsSound g.space → IsRenotedSpace aged_byte g.space z → entries_of (with_space g z) ks ≡ aged (entries_of g ks)
aged_entries g z ks inv sound e = older_rows g.space z sound e ks g.rows (all_there g inv)

older_whole : (k : HeapBlock) → IsWhole k → IsWhole (older k)
older_whole k w = record { words = w.words; actions = w.actions; age = omega arith }

pub aged_lying : (g : Graph') (z : Space') (ks : List (BlockId × Kept')) (used room : ℕ) → IsGraph g → IsSound g.space → IsRenotedSpace aged_byte g.space z → AreLying g ks used room → AreLying (with_space g z) ks used room
aged_lying g z ks used room inv sound e lying = record {
  same = lying.same;
  whole = λ q x h. subst IsWhole (sym (older_block g.space z sound e x (kept_for ks q) (inv.there q x h).0)) (older_whole (block_in (unmarked g.space) x (kept_for ks q)) (lying.whole q x h));
  kept = subst (λ es. IsKept es g.began used z.spare room) (sym (aged_entries g z ks inv sound e))
      (subst (λ ns. IsKept (aged (entries_of g ks)) g.began used ns room) (sym e.spare) (aged_kept (entries_of g ks) g.began used room room g.space.spare refl lying.kept));
}

pub aged_lying_table : (g : Graph') (z : Space') (ks : List (BlockId × Kept')) → IsGraph g → IsSound g.space → IsRenotedSpace aged_byte g.space z → lying_table (with_space g z) ks ≡ table_of (aged (entries_of g ks)) g.began g.space.spare
aged_lying_table g z ks inv sound e = ap (λ es. table_of es g.began z.spare) (aged_entries g z ks inv sound e) ∙ ap (λ ns. table_of (aged (entries_of g ks)) g.began ns) e.spare
