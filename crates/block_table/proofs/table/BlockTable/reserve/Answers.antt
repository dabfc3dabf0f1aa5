use Rattle.std.proofs.Common.{◌≡◌, ◌++◌, length, ap, ◌∙◌, arith}
use Rattle.block_space.specs.Spaces.{Space'}
use Rattle.block_table.specs.Table.{Table}
use Rattle.block_table.proofs.Begun.{reserved_lying, reserved_table, roomier}
use Rattle.block_table.proofs.Results.{on_err, on_ok}
use Rattle.block_table.proofs.table.BlockTable.reserve.Goals as goal

pub invariant_of-self : goal.invariant_of-self
invariant_of-self c = roomier c.self.inside.graph c.self.inside.kept.entries _ _ _ _ c.reserve.ensures.entries c.reserve.ensures.room.0 c.self.invariant

pub invariant_of-self-2 : goal.invariant_of-self-2
invariant_of-self-2 c =
    let g = c.self.inside.graph in
    let come : c.to_come.result ≡ length g.space.spare = c.to_come.ensures ∙ ap (λ (s : Space'). length s.spare) c.space.ensures in
    reserved_lying c.reserve-2.result g c.reserve-2.new.self _ c.args.lengths.now _ _ c.reserve-2.ensures.same c.reserve-2.ensures.ok c.reserve-2.ensures.err
    (omega (arith, come, c.saturating_add-more.ensures, c.in_ok-reserve.ensures.ok, c.if-self-more.false, c.len.ensures, c.saturating_add.ensures, c.if-saturating_add.false))
    (omega (arith, come, c.saturating_add-more.ensures, c.len.ensures, c.saturating_add.ensures, c.if-saturating_add.false))
    (omega (arith, come, c.saturating_add-more.ensures, c.if-self-more.false, c.len.ensures, c.saturating_add.ensures, c.if-saturating_add.false))
    (roomier g c.self.inside.kept.entries _ _ _ _ c.reserve.ensures.entries c.reserve.ensures.room.0 c.self.invariant)

pub returns-clause-ok : goal.returns-clause-ok
returns-clause-ok c = on_ok c.reserve-2.result (λ e. reserved_table c.args.self.now c.self.inside.graph c.reserve-2.new.self c.self.inside.kept.entries _ _ c.self.view_is c.reserve.ensures.entries c.reserve-2.ensures.same (e ∙ ap (λ (t : Table). t.room ++ c.args.lengths.now) c.self.view_is)) c.reserve-2.ensures.ok

pub returns-clause-err : goal.returns-clause-err
returns-clause-err c = on_err c.reserve-2.result (λ e. reserved_table c.args.self.now c.self.inside.graph c.reserve-2.new.self c.self.inside.kept.entries _ _ c.self.view_is c.reserve.ensures.entries c.reserve-2.ensures.same (e ∙ ap (λ (t : Table). t.room) c.self.view_is)) c.reserve-2.ensures.err
