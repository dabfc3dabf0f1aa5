use Rattle.std.proofs.Common.{sym, ◌∙◌}
use Rattle.zone_escape.proofs.Exposed.{known_out, seen_already}
use Rattle.zone_escape.proofs.exposing.expose.Goals as goal

pub returns-then-not-is_own-clause-ok : goal.returns-then-not-is_own-clause-ok
returns-then-not-is_own-clause-ok c =
    let l = c.args.local.now in
    let h = c.args.heap.now in
    seen_already l h c.args.value (λ z t known. known_out l h z c.args.value (sym c.is_own.ensures ∙ c.if-not-is_own.true) c.requires.out t known)
