use Rattle.std.proofs.Common.{ap, ◌∙◌, refl}
use Rattle.std.specs.List.{IsDistinct}
use Rattle.std.specs.Map.{keys_of}
use Rattle.std.specs.FinMap.{len}
use Rattle.weak_table.specs.Grouped.{Grouped}
use Rattle.weak_table.proofs.SameKeys.{to_locs}
use Rattle.weak_table.proofs.Grouping.{groups-len}
use Rattle.weak_table.proofs.groups.Groups.len.Goals as goal

pub returns : goal.returns
returns c =
    c.len.ensures.len
    ∙ groups-len c.self.inside.places.entries (to_locs (λ e. IsDistinct e (keys_of c.self.inside.places.entries)) c.len.ensures.unique (λ v w. refl) (λ v d j. refl) (λ b i w. refl) (λ b i d j. refl))
    ∙ ap (λ (g : Grouped). len g.groups) c.self.view_is
