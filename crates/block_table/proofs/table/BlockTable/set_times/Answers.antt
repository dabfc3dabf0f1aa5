use Rattle.std.proofs.Common.{◌≡◌, ap, ◌∙◌, sym, subst, is_some, Result, Ok, Err, IsOk, MatchOption, ◌⊎◌, ◌<◌}
use Rattle.std.specs.Result.{OnOk, OnErr}
use Rattle.std.specs.FinMap.{get, empty}
use Rattle.block_space.specs.Marking.{unmarked}
use Rattle.block_table.specs.Holds.{Holds, times, with_times}
use Rattle.block_table.specs.Lying.{Kept', entries_of, row_in}
use Rattle.block_table.specs.Stored.{Row}
use Rattle.block_table.specs.Table.{Table}
use Rattle.block_table.proofs.Edits.{holds_edited, nothing_edited}
use Rattle.block_table.proofs.Found.{no_holds_edited}
use Rattle.block_table.proofs.Rekept.{rekept_lying, row_edited, same_keys_kept, was_there}
use Rattle.block_table.proofs.Results.{on_ok, on_err}
use Rattle.block_table.proofs.Tables.{same_keys}
use Rattle.block_table.proofs.Told.{held_there, holds_none, no_spot, spot_kept}
use Rattle.block_table.proofs.table.BlockTable.set_times.Goals as goal

same_actions : (r : Result (Unit {0}) Rattle.az_base.specs.declared.misuse.NoMemory.NoMemory) (now was : Kept') (n : Holds) → OnOk r (now ≡ record was { holds = n }) → OnErr r (now ≡ was) → now.actions ≡ was.actions
same_actions (Ok u) now was n ok err = ap (λ (k : Kept'). k.actions) ok
same_actions (Err e) now was n ok err = ap (λ (k : Kept'). k.actions) err

pub returns-in_default-clause-keys : goal.returns-in_default-clause-keys
returns-in_default-clause-keys c = ap (λ (t : Table). is_some (get t.holds c.args.id)) (sym c.self.view_is) ∙ same_keys (λ (r : Row). r.holds) (λ (r : Row). r.kept) (entries_of c.self.inside.graph c.self.inside.kept.entries) c.args.id ∙ ap (λ (t : Table). is_some (get t.blocks c.args.id)) c.self.view_is

pub returns-clause-keys : goal.returns-clause-keys
returns-clause-keys c = ap (λ (t : Table). is_some (get t.holds c.args.id)) (sym c.self.view_is) ∙ same_keys (λ (r : Row). r.holds) (λ (r : Row). r.kept) (entries_of c.self.inside.graph c.self.inside.kept.entries) c.args.id ∙ ap (λ (t : Table). is_some (get t.blocks c.args.id)) c.self.view_is

pub returns-in_default-clause-ok : goal.returns-in_default-clause-ok
returns-in_default-clause-ok c =
    let n = no_spot _ c.self.inside.graph c.self.inside.kept.entries c.self.view_is _ _ c.self.invariant c.args.id c.in_default.ensures.value in
    rw c.get_mut.follows.holds-at-none (c.self.view_is ∙ no_holds_edited c.args.self.now c.args.id (λ (m : Holds). with_times m c.args.t c.args.n) (holds_none _ c.self.inside.graph c.self.inside.kept.entries c.self.view_is c.args.id n))

pub returns-clause-ok : goal.returns-clause-ok
returns-clause-ok c =
    let g = c.self.inside.graph in
    let ks = c.self.inside.kept.entries in
    let k = c.in-Some.kept.now in
    let now = c.set_times.new.self in
    let w = c.get_mut.follows.holds now in
    let s = spot_kept _ g ks c.self.view_is _ _ c.self.invariant c.args.id k c.in-Some.ensures.value in
    let edited = (w.3 (ap is_some (sym c.in-Some.ensures.value))).0 in
    on_ok c.set_times.result (λ e. holds_edited _ _ c.args.id _ _ (was_there g ks _ c.args.id k now s.0 (sym s.1) c.in-Some.ensures.value edited) (row_edited g ks _ c.args.id k now s.0 (sym s.1) c.in-Some.ensures.value edited) (same_keys_kept g ks _ c.args.id k now s.0 (sym s.1) c.in-Some.ensures.value edited)
    c.self.view_is (λ (m : Holds). with_times m c.args.t c.args.n) (ap (λ (k : Kept'). row_in (unmarked g.space) g.space s.0 k) e)) c.set_times.ensures.ok

pub returns-clause-err : goal.returns-clause-err
returns-clause-err c =
    let g = c.self.inside.graph in
    let ks = c.self.inside.kept.entries in
    let k = c.in-Some.kept.now in
    let now = c.set_times.new.self in
    let w = c.get_mut.follows.holds now in
    let s = spot_kept _ g ks c.self.view_is _ _ c.self.invariant c.args.id k c.in-Some.ensures.value in
    let edited = (w.3 (ap is_some (sym c.in-Some.ensures.value))).0 in
    on_err c.set_times.result (λ e. nothing_edited _ _ c.args.id _ _ (was_there g ks _ c.args.id k now s.0 (sym s.1) c.in-Some.ensures.value edited) (row_edited g ks _ c.args.id k now s.0 (sym s.1) c.in-Some.ensures.value edited) (same_keys_kept g ks _ c.args.id k now s.0 (sym s.1) c.in-Some.ensures.value edited)
    c.self.view_is (ap (λ (k : Kept'). row_in (unmarked g.space) g.space s.0 k) e)) c.set_times.ensures.err

pub returns-clause-sure : goal.returns-clause-sure
returns-clause-sure c = subst (λ o. MatchOption o (IsOk c.set_times.result) (λ (m : Holds). (c.args.n ≡ 0) ⊎ ((0 < times m c.args.t) ⊎ (m ≡ empty)) → IsOk c.set_times.result))
    (sym (held_there _ c.self.inside.graph c.self.inside.kept.entries c.self.view_is _ _ c.self.invariant c.args.id c.in-Some.kept.now c.in-Some.ensures.value)) c.set_times.ensures.sure

pub invariant_of-self-2 : goal.invariant_of-self-2
invariant_of-self-2 c =
    let g = c.self.inside.graph in
    let ks = c.self.inside.kept.entries in
    let k = c.in-Some.kept.now in
    let now = c.set_times.new.self in
    let w = c.get_mut.follows.holds now in
    let s = spot_kept _ g ks c.self.view_is _ _ c.self.invariant c.args.id k c.in-Some.ensures.value in
    let edited = (w.3 (ap is_some (sym c.in-Some.ensures.value))).0 in
    rekept_lying g ks _ c.args.id k now s.0 (sym s.1) c.in-Some.ensures.value edited _ _ _ (same_actions c.set_times.result _ _ _ c.set_times.ensures.ok c.set_times.ensures.err) w.6 c.self.invariant
