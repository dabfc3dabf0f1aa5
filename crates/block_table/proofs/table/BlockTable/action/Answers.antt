use Rattle.std.proofs.Common.{sym, ap, ◌∙◌, subst, slice_get, option_and_then, IfSome}
use Rattle.block_table.specs.Stored.{HeapBlock, IsWhole}
use Rattle.block_table.proofs.Told.{block_none, block_there, kept_there, no_spot, spot_kept, whole_there}
use Rattle.block_table.proofs.table.BlockTable.action.Goals as goal

pub returns-in-Some-clause-action : goal.returns-in-Some-clause-action
returns-in-Some-clause-action c =
    let b = kept_there _ c.self.inside.graph c.self.inside.kept.entries c.self.view_is _ _ c.self.invariant c.args.id c.in-Some.kept.now c.in-Some.ensures.value in
    c.action.ensures.action ∙ sym (ap (option_and_then (λ (k : HeapBlock). slice_get k.actions c.args.n)) b.1)

pub returns-in-Some-clause-whole : goal.returns-in-Some-clause-whole
returns-in-Some-clause-whole c =
    let s = spot_kept _ c.self.inside.graph c.self.inside.kept.entries c.self.view_is _ _ c.self.invariant c.args.id c.in-Some.kept.now c.in-Some.ensures.value in
    subst (λ o. IfSome o IsWhole) (sym (block_there _ c.self.inside.graph c.self.inside.kept.entries c.self.view_is c.args.id s.0 s.1))
    (whole_there _ c.self.inside.graph c.self.inside.kept.entries c.self.view_is _ _ c.self.invariant c.args.id s.0 s.1)

pub returns-in-None-clause-action : goal.returns-in-None-clause-action
returns-in-None-clause-action c =
    let n = no_spot _ c.self.inside.graph c.self.inside.kept.entries c.self.view_is _ _ c.self.invariant c.args.id c.in-None.ensures.value in
    sym (ap (option_and_then (λ (k : HeapBlock). slice_get k.actions c.args.n)) (block_none _ c.self.inside.graph c.self.inside.kept.entries c.self.view_is c.args.id n))

pub returns-in-None-clause-whole : goal.returns-in-None-clause-whole
returns-in-None-clause-whole c =
    let n = no_spot _ c.self.inside.graph c.self.inside.kept.entries c.self.view_is _ _ c.self.invariant c.args.id c.in-None.ensures.value in
    subst (λ o. IfSome o IsWhole) (sym (block_none _ c.self.inside.graph c.self.inside.kept.entries c.self.view_is c.args.id n)) tt
