-- Cycles begin over blocks in a space, and room is taken
use Rattle.std.proofs.Common.{◌≡◌, ℕ, ◌+◌, ◌*◌, ◌<◌, ◌≤◌, ◌^◌, ◌++◌, List, [], ◌∷◌, Some, Result, Ok, Err, is_some, length, sym, ap, ◌∙◌, subst, arith}
use Rattle.std.specs.Result.{OnOk, OnErr}
use Rattle.az_base.specs.declared.block_id.BlockId.{BlockId}
use Rattle.az_base.specs.declared.misuse.NoMemory.{NoMemory}
use Rattle.block_space.specs.Marking.{unmarked}
use Rattle.space_graph.specs.Graphs.{Graph', IsRoomy, spot_for, with_space}
use Rattle.block_table.specs.Lying.{AreLying, Kept', entries_of, lying_table, rows_in}
use Rattle.block_table.specs.Table.{IsKept, Table, no_blocks, table_of}
use Rattle.block_table.proofs.Comings.{empty_kept}
use Rattle.std.specs.Map.{lookup}
use Rattle.az_base.specs.Ids.{id_eq}
use Rattle.block_table.proofs.Alike.{alike_lying, alike_table}
use Rattle.block_table.proofs.Lying.{long_rows}

-- with other blocks at Begin
pub begun_kept : (g : Graph') (ks : List (BlockId × Kept')) (used room : ℕ) → AreLying g ks used room → IsKept (entries_of g ks) (length g.rows) used g.space.spare room
begun_kept g ks used room inv = record {
  used = inv.kept.used;
  began = (let l = long_rows (unmarked g.space) g.space ks g.rows in omega (arith, l));
  room = inv.kept.room;
  few = inv.kept.few;
  sum = inv.kept.sum;
}

pub begun_lying : (g : Graph') (ks : List (BlockId × Kept')) (used room : ℕ) → AreLying g ks used room → AreLying (record { rows = g.rows; space = g.space; began = length g.rows; anchors = g.anchors; remembered = g.remembered }) ks used room
begun_lying g ks used room inv = record { same = inv.same; whole = inv.whole; kept = begun_kept g ks used room inv }

-- room for more in the table
pub roomier : (g : Graph') (ks ls : List (BlockId × Kept')) (used room more : ℕ) → ls ≡ ks → room ≤ more → AreLying g ks used room → AreLying g ls used more
roomier g ks ls used room more same le inv = subst (λ (l : List (BlockId × Kept')). AreLying g l used more) (sym same) (record {
  same = inv.same;
  whole = inv.whole;
  kept = record { used = inv.kept.used; began = inv.kept.began; room = (let h = inv.kept.room in omega (arith, h, le)); few = inv.kept.few; sum = inv.kept.sum };
})

both : (xs ys : List ℕ) → length (xs ++ ys) ≡ length xs + length ys
both [] ys = omega arith
both (x ∷ xs) ys = let r = both xs ys in omega (arith, r)

-- room in the space, which was taken or refused
pub reserved_lying : (r : Result (Unit {0}) NoMemory) (g new : Graph') (ks : List (BlockId × Kept')) (lengths : List ℕ) (used room : ℕ) → IsRoomy g new → OnOk r (new.space.spare ≡ g.space.spare ++ lengths) → OnErr r (new.space.spare ≡ g.space.spare)
    → length g.space.spare + length lengths ≤ room → length g.rows + (length g.space.spare + length lengths) < 2 ^ 32 → used + 2048 * (length g.space.spare + length lengths) < 2 ^ 64 → AreLying g ks used room → AreLying new ks used room
reserved_lying r g new ks lengths used room roomy ok err fits few sum inv = subst (λ (y : Graph'). AreLying y ks used room) (sym roomy.rest) (go r ok err)
  where
    go : (r : Result (Unit {0}) NoMemory) → OnOk r (new.space.spare ≡ g.space.spare ++ lengths) → OnErr r (new.space.spare ≡ g.space.spare) → AreLying (with_space g new.space) ks used room
    go (Ok u) ok err =
        let n : length new.space.spare ≡ length g.space.spare + length lengths = ap length ok ∙ both g.space.spare lengths in
        alike_lying g new.space ks used room room roomy.space (omega (arith, n, fits)) (omega (arith, n, few)) (omega (arith, n, sum)) inv
    go (Err e) ok err =
        let n : length new.space.spare ≡ length g.space.spare = ap length err in
        alike_lying g new.space ks used room room roomy.space (omega (arith, n, fits)) (omega (arith, n, few)) (omega (arith, n, sum)) inv

pub reserved_table : (t : Table) (g new : Graph') (ks ls : List (BlockId × Kept')) (spare : List ℕ) → lying_table g ks ≡ t → ls ≡ ks → IsRoomy g new → new.space.spare ≡ spare → lying_table new ls ≡ (let y : Table = record t { room = spare } in y)
reserved_table t g new ks ls spare is same roomy e =
    ap (λ (l : List (BlockId × Kept')). lying_table new l) same ∙ ap (λ (y : Graph'). lying_table y ks) roomy.rest ∙ alike_table g new.space ks roomy.space
    ∙ ap (λ ns. table_of (entries_of g ks) g.began ns) e ∙ ap (λ (x : Table). let y : Table = record x { room = spare } in y) is

-- no block

no_entries : (g : Graph') (ks : List (BlockId × Kept')) → g.rows ≡ [] → entries_of g ks ≡ []
no_entries g ks e = ap (λ rs. rows_in (unmarked g.space) g.space ks rs) e

pub empty_table : (g : Graph') (ks : List (BlockId × Kept')) → g.rows ≡ [] → g.began ≡ 0 → g.space.spare ≡ [] → lying_table g ks ≡ no_blocks
empty_table g ks rows began spare = ap (λ es. table_of es g.began g.space.spare) (no_entries g ks rows) ∙ ap (λ n. table_of [] n g.space.spare) began ∙ ap (λ ns. table_of [] 0 ns) spare

pub empty_lying : (g : Graph') (ks : List (BlockId × Kept')) (room : ℕ) → g.rows ≡ [] → g.began ≡ 0 → g.space.spare ≡ [] → ks ≡ [] → AreLying g ks 0 room
empty_lying g ks room rows began spare none = record {
  same = λ q. ap (λ (l : List (BlockId × Kept')). is_some (lookup (id_eq q) l)) none ∙ sym (ap (λ rs. is_some (spot_for rs q)) rows);
  whole = λ q x e. (let h : spot_for [] q ≡ Some x = ap (λ rs. spot_for rs q) (sym rows) ∙ e in cc);
  kept = subst (λ n. IsKept (entries_of g ks) n 0 g.space.spare room) (sym began) (empty_kept (entries_of g ks) room g.space.spare (no_entries g ks rows) spare);
}
