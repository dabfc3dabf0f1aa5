-- Blocks that are the same in two spaces
use Rattle.std.proofs.Common.{◌≡◌, ℕ, zero, suc, ◌+◌, ◌*◌, ◌/◌, ◌%◌, ◌<◌, ◌≤◌, ◌^◌, List, [], ◌∷◌, length, refl, sym, ap, ◌∙◌, subst, arith}
use Rattle.std.specs.Option.{option_map_or, unwrap_or}
use Rattle.az_base.specs.declared.block_id.BlockId.{BlockId}
use Rattle.block_layouts.specs.declared.layout.Shape.TheVariants as layout
use Rattle.block_layouts.specs.Layouts.{len_of}
use Rattle.quantum_space.specs.declared.spot.Spot.{Spot}
use Rattle.quantum_space.specs.PlacedWords.{word_of}
use Rattle.block_space.specs.Spaces.{Space'}
use Rattle.block_space.specs.Marking.{len_in, shade_told, unmarked, unshaded, word_in}
use Rattle.block_space.proofs.Unmarked.{byte_unmarked}
use Rattle.space_graph.specs.Graphs.{Graph', IsAlike, with_space}
use Rattle.block_table.specs.Lying.{AreLying, IsSameSpot, Kept', block_in, entries_of, kept_for, lying_table, row_in, rows_in, words_from}
use Rattle.block_table.specs.Stored.{IsWhole}
use Rattle.block_table.specs.Table.{IsKept, table_of}
use Rattle.block_table.proofs.Lying.{all_unmarked, long_rows}
use Rattle.block_table.proofs.Told.{layout_same}

pub same_words : (s z : Space') (x : Spot) (i n : ℕ) → ((k : ℕ) → i ≤ k → k < i + n → word_in z x k ≡ word_in s x k) → words_from z x i n ≡ words_from s x i n
same_words s z x i zero same = refl
same_words s z x i (suc n) same =
    ap (λ w. word_of w ∷ words_from z x (suc i) n) (same i (omega arith) (omega arith))
    ∙ ap (λ l. word_of (word_in s x i) ∷ l) (same_words s z x (suc i) n (λ k a b. same k (omega (arith, a)) (omega (arith, b))))

-- its row is the same
pub same_block : (s z : Space') (x : Spot) (k : Kept') → IsSameSpot s z x → block_in (unmarked z) x k ≡ block_in (unmarked s) x k
same_block s z x k e = λ i. record {
  layout = (layout_same z x ∙ ap (λ o. unwrap_or o (layout.Scanned 0)) e.layout ∙ sym (layout_same s x)) i;
  words = (all_unmarked z x ∙ e.words ∙ sym (all_unmarked s x)) i;
  actions = k.actions;
  finalised = k.finalised;
  age = ap (λ b. (b / 4) % 8) (byte_unmarked z x ∙ ap unshaded e.byte ∙ sym (byte_unmarked s x)) i;
}

pub same_row : (s z : Space') (x : Spot) (k : Kept') → IsSameSpot s z x → row_in (unmarked z) z x k ≡ row_in (unmarked s) s x k
same_row s z x k e = λ i. record {
  kept = same_block s z x k e i;
  holds = k.holds;
  shade = ap shade_told e.byte i;
}

pub same_rows : (s z : Space') (ks : List (BlockId × Kept')) → ((x : Spot) → IsSameSpot s z x) → (rs : List (BlockId × Spot)) → rows_in (unmarked z) z ks rs ≡ rows_in (unmarked s) s ks rs
same_rows s z ks same [] = refl
same_rows s z ks same (e ∷ rs) =
    ap (λ r. (e.0, r) ∷ rows_in (unmarked z) z ks rs) (same_row s z e.1 (kept_for ks e.0) (same e.1))
    ∙ ap (λ l. (e.0, row_in (unmarked s) s e.1 (kept_for ks e.0)) ∷ l) (same_rows s z ks same rs)

len_alike : (s z : Space') (x : Spot) → IsAlike s z → len_in z x ≡ len_in s x
len_alike s z x e = ap (λ o. option_map_or len_of o 0) (e.layouts x)

pub alike_spots : (s z : Space') → IsAlike s z → (x : Spot) → IsSameSpot s z x
alike_spots s z e x = record {
  layout = e.layouts x;
  byte = e.bytes x;
  words = ap (words_from z x 0) (len_alike s z x e) ∙ same_words s z x 0 (len_in s x) (λ k a b. e.words x k);
}

-- in a space with the same blocks
pub alike_entries : (g : Graph') (z : Space') (ks : List (BlockId × Kept')) → IsAlike g.space z → entries_of (with_space g z) ks ≡ entries_of g ks
alike_entries g z ks e = same_rows g.space z ks (alike_spots g.space z e) g.rows

pub alike_table : (g : Graph') (z : Space') (ks : List (BlockId × Kept')) → IsAlike g.space z → lying_table (with_space g z) ks ≡ table_of (entries_of g ks) g.began z.spare
alike_table g z ks e = ap (λ es. table_of es g.began z.spare) (alike_entries g z ks e)

pub alike_lying : (g : Graph') (z : Space') (ks : List (BlockId × Kept')) (used room more : ℕ) → IsAlike g.space z → length z.spare ≤ more → length g.rows + length z.spare < 2 ^ 32 → used + 2048 * length z.spare < 2 ^ 64 → AreLying g ks used room → AreLying (with_space g z) ks used more
alike_lying g z ks used room more e fits few sum inv = record {
  same = inv.same;
  whole = λ q x h. subst IsWhole (sym (same_block g.space z x (kept_for ks q) (alike_spots g.space z e x))) (inv.whole q x h);
  kept = subst (λ es. IsKept es g.began used z.spare more) (sym (alike_entries g z ks e)) (record {
    used = inv.kept.used;
    began = inv.kept.began;
    room = fits;
    few = (let l = long_rows (unmarked g.space) g.space ks g.rows in omega (arith, l, few));
    sum = sum;
  });
}
