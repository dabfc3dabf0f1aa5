use Rattle.std.proofs.Common.{◌≡◌, ap, ◌∙◌, arith, length, rules}
use Rattle.assoc_refs.specs.Values.{Values, nth_pair}
use Rattle.assoc_refs.proofs.Places.{nth-there, nth-past}
use Rattle.assoc_refs.proofs.pairs.Pairs.nth.Goals as goal

pub returns-then-n-len-clause-value : goal.returns-then-n-len-clause-value
returns-then-n-len-clause-value c =
    let n : c.len.result ≡ length c.self.inside.list.items = search rules in
    nth-past c.self.inside.list.items c.args.n c.self.invariant (omega (arith, n)) ∙ ap (λ (v : Values). nth_pair v c.args.n) c.self.view_is

pub returns-clause-value : goal.returns-clause-value
returns-clause-value c =
    let n : c.len.result ≡ length c.self.inside.list.items = search rules in
    nth-there c.self.inside.list.items c.args.n c.index.result.now c.self.invariant (omega (arith, n)) c.index.ensures ∙ ap (λ (v : Values). nth_pair v c.args.n) c.self.view_is
