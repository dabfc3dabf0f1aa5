use Rattle.std.proofs.Common.{ap, ◌∙◌, sym, Some, is_some, arith, ◌+◌, ◌<◌, ◌^◌}
use Rattle.std.proofs.lemmas.Result.{err_from_is_err_and}
use Rattle.assoc_refs.specs.Table.{Associated}
use Rattle.assoc_refs.proofs.Keeping.{wider-shown, wider-table, ready-table}
use Rattle.assoc_refs.proofs.assocs.Assocs.reserve_one.Goals as goal

pub returns-in_err-reserve_one-2-clause-err : goal.returns-in_err-reserve_one-2-clause-err
returns-in_err-reserve_one-2-clause-err c =
    let there = sym c.in-Some.ensures.value in
    let written = c.get_mut.follows.holds c.reserve_one-2.new.self in
    let failed = err_from_is_err_and c.from_residual-in_err-reserve_one-2.result c.from_residual-in_err-reserve_one-2.ensures.1 in
    rw failed.1 (ap (λ p. let a : Associated = record { pairs = p; ready = c.self.inside.ready } in a)
    (wider-shown c.self.inside.lists c.self.inside.blank c.self.inside.total _ c.self.invariant c.args.object (c.get_mut.follows.lender c.reserve_one-2.new.self) written.4 c.in-Some.list.now c.reserve_one-2.new.self there (written.3 (ap is_some there)).0 c.reserve_one-2.ensures.values)
    ∙ c.self.view_is)

pub invariant_of-self-in_err-reserve_one-2 : goal.invariant_of-self-in_err-reserve_one-2
invariant_of-self-in_err-reserve_one-2 c =
    let there = sym c.in-Some.ensures.value in
    let written = c.get_mut.follows.holds c.reserve_one-2.new.self in
    wider-table c.self.inside.lists c.self.inside.blank c.self.inside.total _ c.self.invariant c.args.object (c.get_mut.follows.lender c.reserve_one-2.new.self) written.4 c.in-Some.list.now c.reserve_one-2.new.self there (written.3 (ap is_some there)).0 c.reserve_one-2.ensures.values
    written.6 c.reserve_one-2.ensures.spare

pub returns-clause-ok : goal.returns-clause-ok
returns-clause-ok c =
    let there = sym c.in-Some.ensures.value in
    let written = c.get_mut.follows.holds c.reserve_one-2.new.self in
    ap (λ p. let a : Associated = record { pairs = p; ready = Some c.args.object } in a)
    (wider-shown c.self.inside.lists c.self.inside.blank c.self.inside.total _ c.self.invariant c.args.object (c.get_mut.follows.lender c.reserve_one-2.new.self) written.4 c.in-Some.list.now c.reserve_one-2.new.self there (written.3 (ap is_some there)).0 c.reserve_one-2.ensures.values
    ∙ ap (λ (a : Associated). a.pairs) c.self.view_is)

pub invariant_of-self-2 : goal.invariant_of-self-2
invariant_of-self-2 c =
    let there = sym c.in-Some.ensures.value in
    let written = c.get_mut.follows.holds c.reserve_one-2.new.self in
    let fits : c.self.inside.total + 1 < 2 ^ 64 = omega (arith, c.if-self.false, c.self.ranges) in
    ready-table c.self.inside.lists c.self.inside.blank c.self.inside.total _ c.self.invariant c.args.object (c.get_mut.follows.lender c.reserve_one-2.new.self) written.4 c.reserve_one-2.new.self
    (wider-table c.self.inside.lists c.self.inside.blank c.self.inside.total _ c.self.invariant c.args.object (c.get_mut.follows.lender c.reserve_one-2.new.self) written.4 c.in-Some.list.now c.reserve_one-2.new.self there (written.3 (ap is_some there)).0 c.reserve_one-2.ensures.values
    written.6 c.reserve_one-2.ensures.spare)
    (written.3 (ap is_some there)).1 c.in_ok-reserve_one-2.ensures.ok fits
