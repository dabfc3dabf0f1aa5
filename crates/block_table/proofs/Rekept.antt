-- Something else is kept of a block in a space
use Rattle.std.proofs.Common.{◌≡◌, ℕ, ◌≤◌, Bool, true, false, cond, List, Some, length, is_some, refl, sym, ap, ◌∙◌, subst}
use Rattle.std.specs.Option.{option_map, unwrap_or}
use Rattle.std.specs.Map.{keys_of, lookup}
use Rattle.az_base.specs.declared.action.Action.{Action}
use Rattle.az_base.specs.declared.block_id.BlockId.{BlockId}
use Rattle.az_base.specs.Ids.{id_eq}
use Rattle.az_base.proofs.Ids.{eq_is}
use Rattle.quantum_space.specs.declared.spot.Spot.{Spot}
use Rattle.block_space.specs.Marking.{unmarked}
use Rattle.space_graph.specs.Graphs.{Graph', spot_for}
use Rattle.block_table.specs.Lying.{AreLying, Kept', entries_of, kept_for, nothing_kept, row_in}
use Rattle.block_table.specs.Stored.{Row}
use Rattle.block_table.proofs.Edits.{still_kept}
use Rattle.block_table.proofs.Lying.{kept_found, keys_rows, long_rows, row_for, row_there}

module _ (g : Graph') (ks ls : List (BlockId × Kept')) (id : BlockId) (k now : Kept') (x : Spot) (at : spot_for g.rows id ≡ Some x) (there : Some k ≡ lookup (id_eq id) ks)
    (edited : (q : BlockId) → lookup (id_eq q) ls ≡ cond (id_eq id q) (Some now) (lookup (id_eq q) ks)) where
  abbrev was_row : Row
  was_row = row_in (unmarked g.space) g.space x k

  abbrev now_row : Row
  now_row = row_in (unmarked g.space) g.space x now

  pub was_there : Some was_row ≡ lookup (id_eq id) (entries_of g ks)
  was_there = ap (λ (k : Kept'). Some (row_in (unmarked g.space) g.space x k)) (sym (kept_found ks id k there)) ∙ row_there g ks id x at

  kept_at : (q : BlockId) (b : Bool) → id_eq id q ≡ b → kept_for ls q ≡ cond b now (kept_for ks q)
  kept_at q true e = ap (λ o. unwrap_or o nothing_kept) (edited q ∙ ap (λ b. cond b (Some now) (lookup (id_eq q) ks)) e)
  kept_at q false e = ap (λ o. unwrap_or o nothing_kept) (edited q ∙ ap (λ b. cond b (Some now) (lookup (id_eq q) ks)) e)

  pub row_edited : (q : BlockId) → lookup (id_eq q) (entries_of g ls) ≡ cond (id_eq id q) (Some now_row) (lookup (id_eq q) (entries_of g ks))
  row_edited q = row_for (unmarked g.space) g.space ls g.rows q ∙ go (id_eq id q) refl
    where
      go : (b : Bool) → id_eq id q ≡ b → option_map (λ y. row_in (unmarked g.space) g.space y (kept_for ls q)) (spot_for g.rows q) ≡ cond b (Some now_row) (lookup (id_eq q) (entries_of g ks))
      go true e =
          ap (λ k. option_map (λ y. row_in (unmarked g.space) g.space y k) (spot_for g.rows q)) (kept_at q true e)
          ∙ ap (option_map (λ y. row_in (unmarked g.space) g.space y now)) (ap (spot_for g.rows) (sym (eq_is id q e)) ∙ at)
      go false e = ap (λ k. option_map (λ y. row_in (unmarked g.space) g.space y k) (spot_for g.rows q)) (kept_at q false e) ∙ sym (row_for (unmarked g.space) g.space ks g.rows q)

  pub same_keys_kept : keys_of (entries_of g ls) ≡ keys_of (entries_of g ks)
  same_keys_kept = keys_rows (unmarked g.space) g.space ls g.rows ∙ sym (keys_rows (unmarked g.space) g.space ks g.rows)

  pub rekept_lying : (used room more : ℕ) → now.actions ≡ k.actions → more ≡ room → AreLying g ks used room → AreLying g ls used more
  rekept_lying used room more acts spare inv = record {
    same = λ q. found q (id_eq id q) refl ∙ inv.same q;
    whole = λ q y e. (let w = inv.whole q y e in record { words = w.words; actions = subst (λ (l : List Action). length l ≤ 8) (sym (actions_at q (id_eq id q) refl)) w.actions; age = w.age });
    kept = still_kept (entries_of g ks) (entries_of g ls) id was_row now_row was_there row_edited same_keys_kept refl (long_rows (unmarked g.space) g.space ls g.rows ∙ sym (long_rows (unmarked g.space) g.space ks g.rows)) spare inv.kept;
  }
    where
      found : (q : BlockId) (b : Bool) → id_eq id q ≡ b → is_some (lookup (id_eq q) ls) ≡ is_some (lookup (id_eq q) ks)
      found q true e = ap is_some (edited q ∙ ap (λ b. cond b (Some now) (lookup (id_eq q) ks)) e) ∙ ap is_some there ∙ ap (λ i. is_some (lookup (id_eq i) ks)) (eq_is id q e)
      found q false e = ap is_some (edited q ∙ ap (λ b. cond b (Some now) (lookup (id_eq q) ks)) e)

      actions_at : (q : BlockId) (b : Bool) → id_eq id q ≡ b → (kept_for ls q).actions ≡ (kept_for ks q).actions
      actions_at q true e = ap (λ (k : Kept'). k.actions) (kept_at q true e) ∙ acts ∙ ap (λ (k : Kept'). k.actions) (sym (kept_found ks id k there)) ∙ ap (λ i. (kept_for ks i).actions) (eq_is id q e)
      actions_at q false e = ap (λ (k : Kept'). k.actions) (kept_at q false e)
