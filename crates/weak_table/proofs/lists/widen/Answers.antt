use Rattle.std.proofs.Common.{ap, ◌∙◌, sym, subst, is_some, arith, length}
use Rattle.weak_table.specs.Lists.{IsRoomy}
use Rattle.weak_table.proofs.Roomy.{roomy-none, roomy-all, roomy-with, none_of}
use Rattle.weak_table.proofs.lists.widen.Goals as goal

pub returns-then-not-contains_key-clause-ok : goal.returns-then-not-contains_key-clause-ok
returns-then-not-contains_key-clause-ok c =
    roomy-none c.args.lists.now.entries c.args.lists.now.entries c.in-Some.group (none_of _ (sym c.contains_key.ensures ∙ c.if-not-contains_key.true)) (subst (λ t. IsRoomy t c.args.lists.now.entries) c.in-Some.is c.requires)

pub returns-clause-ok : goal.returns-clause-ok
returns-clause-ok c =
    let there = sym c.in-Some-get_mut.ensures.value in
    let written = c.get_mut.follows.holds c.reserve.new.self in
    let room = c.in_ok-reserve.ensures.ok in
    roomy-all c.args.lists.now.entries (c.get_mut.follows.lender c.reserve.new.self).entries c.in-Some.group c.reserve.new.self (written.3 (ap is_some there)).0 (omega (arith, room))
    (subst (λ t. IsRoomy t c.args.lists.now.entries) c.in-Some.is c.requires)

pub returns-clause-err : goal.returns-clause-err
returns-clause-err c =
    let there = sym c.in-Some-get_mut.ensures.value in
    let written = c.get_mut.follows.holds c.reserve.new.self in
    let room = c.in_ok-reserve.ensures.ok in
    roomy-with c.args.lists.now.entries (c.get_mut.follows.lender c.reserve.new.self).entries c.in-Some.group c.args.tight c.reserve.new.self (written.3 (ap is_some there)).0 (λ _. omega (arith, room)) c.requires

pub returns-in_err-reserve-clause-err : goal.returns-in_err-reserve-clause-err
returns-in_err-reserve-clause-err c =
    let there = sym c.in-Some-get_mut.ensures.value in
    let written = c.get_mut.follows.holds c.reserve.new.self in
    roomy-with c.args.lists.now.entries (c.get_mut.follows.lender c.reserve.new.self).entries c.in-Some.group c.args.tight c.reserve.new.self (written.3 (ap is_some there)).0
    (λ t. let h = c.requires c.in-Some.group c.in-Some-get_mut.list.now there t in let items = c.reserve.ensures.items in let grows = c.reserve.ensures.capacity in omega (arith, h, grows, ap length items)) c.requires
