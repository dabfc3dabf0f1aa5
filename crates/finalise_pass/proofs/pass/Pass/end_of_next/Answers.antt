use Rattle.std.proofs.Common.{◌∙◌, refl, sym}
use Rattle.finalise_pass.proofs.Searching.{none_next, skip_next, stop_here}
use Rattle.finalise_pass.proofs.pass.Pass.end_of_next.Goals as goal

pub returns-then-awaits_at : goal.returns-then-awaits_at
returns-then-awaits_at g c =
    let i = c.loop-place.invariant in
    let here = stop_here _ _ c.loop-place.place (sym c.if-awaits_at.ensures) in
    record { id = here.id; found = i.further ∙ here.found; past = record { place = c.loop-place.place; count = refl; is = here.is; before = i.before } }

pub loop-place-preserved : goal.loop-place-preserved
loop-place-preserved g c =
    let i = c.loop-place.invariant in
    let fails = sym c.if-awaits_at.ensures in
    record { further = i.further ∙ skip_next _ _ c.loop-place.place fails; before = λ h. none_next _ _ c.loop-place.place (i.before h) fails }
