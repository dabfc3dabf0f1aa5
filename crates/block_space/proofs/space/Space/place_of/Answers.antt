use Rattle.std.proofs.Common.{◌/◌, ◌%◌, ◌<◌, ◌∙◌, ap, subst, sym, get_or, length}
use Rattle.block_space.specs.Spaces.{Space', size_of, spot_of}
use Rattle.block_space.specs.Tables.{numbers}
use Rattle.block_space.proofs.Referring.{at_place, index_there, place_is}
use Rattle.block_space.proofs.space.Space.place_of.Goals as goal

pub number-requires : goal.number-requires
number-requires c =
    let s = c.args.self.now in
    let k = c.args.spot.kind in
    subst (λ (v : Space'). c.args.spot.at / c.size_of-size.result < length (numbers v.table k)) (sym c.self.view_is)
    (subst (λ n. c.args.spot.at / n < length (numbers s.table k)) (sym c.size_of-size.ensures) (index_there s k c.args.spot.at c.is_sound.ensures c.requires))

pub returns : goal.returns
returns c =
    let s = c.args.self.now in
    let k = c.args.spot.kind in
    let at = c.args.spot.at in
    let number = c.number.ensures ∙ ap (λ (v : Space'). get_or (numbers v.table k) (at / c.size_of-size.result) 0) c.self.view_is ∙ ap (λ n. get_or (numbers s.table k) (at / n) 0) c.size_of-size.ensures in
    ap (λ z. spot_of s (at_place z (at % c.size_of-size.result))) number ∙ ap (λ n. spot_of s (at_place (get_or (numbers s.table k) (at / size_of k) 0) (at % n))) c.size_of-size.ensures ∙ place_is s k at c.is_sound.ensures c.requires
