use Rattle.std.proofs.Common.{◌≡◌, ap, ◌∙◌, length, rules}
use Rattle.std.specs.FinMap.{len}
use Rattle.assoc_refs.specs.Values.{Values}
use Rattle.assoc_refs.proofs.Places.{map-length}
use Rattle.assoc_refs.proofs.pairs.Pairs.len.Goals as goal

pub returns : goal.returns
returns c =
    let n : c.len.result ≡ length c.self.inside.list.items = search rules in
    n ∙ map-length c.self.inside.list.items c.self.invariant ∙ ap (λ (v : Values). len v.values) c.self.view_is
