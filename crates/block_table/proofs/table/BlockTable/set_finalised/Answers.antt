use Rattle.std.proofs.Common.{sym, ap, ◌∙◌, is_some, true}
use Rattle.block_table.specs.Lying.{Kept', row_in}
use Rattle.block_space.specs.Marking.{unmarked}
use Rattle.block_table.specs.Stored.{HeapBlock}
use Rattle.block_table.proofs.Edits.{blocks_edited}
use Rattle.block_table.proofs.Found.{no_block_edited}
use Rattle.block_table.proofs.Rekept.{rekept_lying, row_edited, same_keys_kept, was_there}
use Rattle.block_table.proofs.Told.{block_none, no_spot, spot_kept}
use Rattle.block_table.proofs.table.BlockTable.set_finalised.Goals as goal

pub returns : goal.returns
returns c =
    let g = c.self.inside.graph in
    let ks = c.self.inside.kept.entries in
    let k = c.in-Some.kept.now in
    let now = c.set_finalised.new.self in
    let w = c.get_mut.follows.holds now in
    let s = spot_kept _ g ks c.self.view_is _ _ c.self.invariant c.args.id k c.in-Some.ensures.value in
    let edited = (w.3 (ap is_some (sym c.in-Some.ensures.value))).0 in
    blocks_edited _ _ c.args.id _ _ (was_there g ks _ c.args.id k now s.0 (sym s.1) c.in-Some.ensures.value edited) (row_edited g ks _ c.args.id k now s.0 (sym s.1) c.in-Some.ensures.value edited) (same_keys_kept g ks _ c.args.id k now s.0 (sym s.1) c.in-Some.ensures.value edited)
    c.self.view_is (λ (b : HeapBlock). let r : HeapBlock = record b { finalised = true } in r) (ap (λ (k : Kept'). row_in (unmarked g.space) g.space s.0 k) c.set_finalised.ensures)

pub invariant_of-self-2 : goal.invariant_of-self-2
invariant_of-self-2 c =
    let g = c.self.inside.graph in
    let ks = c.self.inside.kept.entries in
    let k = c.in-Some.kept.now in
    let now = c.set_finalised.new.self in
    let w = c.get_mut.follows.holds now in
    let s = spot_kept _ g ks c.self.view_is _ _ c.self.invariant c.args.id k c.in-Some.ensures.value in
    let edited = (w.3 (ap is_some (sym c.in-Some.ensures.value))).0 in
    rekept_lying g ks _ c.args.id k now s.0 (sym s.1) c.in-Some.ensures.value edited _ _ _ (ap (λ (k : Kept'). k.actions) c.set_finalised.ensures) w.6 c.self.invariant

pub returns-in_default : goal.returns-in_default
returns-in_default c =
    let n = no_spot _ c.self.inside.graph c.self.inside.kept.entries c.self.view_is _ _ c.self.invariant c.args.id c.in_default.ensures.value in
    rw c.get_mut.follows.holds-at-none (c.self.view_is ∙ no_block_edited c.args.self.now c.args.id (λ (k : HeapBlock). let r : HeapBlock = record k { finalised = true } in r) (block_none _ c.self.inside.graph c.self.inside.kept.entries c.self.view_is c.args.id n))
