use Rattle.std.proofs.Common.{◌≡◌, ap, ◌∙◌, sym, subst, arith, ◌<◌, ◌≤◌, Some, length}
use Rattle.std.proofs.lemmas.Grind.{common_steps}
use Rattle.assoc_refs.proofs.Places.{numbered-item, numbered-length, the_key}
use Rattle.assoc_refs.proofs.pairs.find.Goals as goal

pub returns-then-eq : goal.returns-then-eq
returns-then-eq c =
    let x = c.index-list-place.result in
    let here : c.place_of-place.result < length c.args.list.now = omega (arith, c.place_of-place.ensures.within) in
    let same : x.0.0 ≡ c.args.key.0 = grind (arith, common_steps) in
    (c.place_of-place.ensures.place, x.1, numbered-item c.args.list.now c.place_of-place.result x here c.index-list-place.is ∙ ap (λ k. Some (k, x.1)) same)

pub returns : goal.returns
returns c =
    let x = c.index-list-place.result in
    let here : c.place_of-place.result < length c.args.list.now = omega (arith, c.place_of-place.ensures.within) in
    let other : x.0.0 ≡ c.args.key.0 → ⊥ = λ e. grind (arith, common_steps) in (
      c.place_of-place.ensures.place,
      subst (λ n. c.place_of-place.result ≤ n) (sym (numbered-length c.args.list.now)) c.place_of-place.ensures.within,
      λ v at. other (the_key (x.0.0, x.1) c.args.key.0 v (sym (numbered-item c.args.list.now c.place_of-place.result x here c.index-list-place.is) ∙ at)),
    )
