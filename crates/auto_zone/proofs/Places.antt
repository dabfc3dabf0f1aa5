-- Seats that keep their place are seats of the same gate
use Rattle.std.proofs.Common.{◌∙◌, refl}
use Rattle.zone_gate.specs.Shown.{GateShown, SeatShown, IsSeatOf}
use Rattle.auto_zone.specs.Sessions.{SamePlace}

pub same_seat : (g : GateShown) (s u : SeatShown) → IsSeatOf g s → SamePlace s u → IsSeatOf g u
same_seat g s u of place = (place.gate ∙ of.0, place.options ∙ of.1)

pub place_same : (s : SeatShown) → SamePlace s s
place_same s = record { gate = refl; options = refl; thread = refl }

pub place_on : (s t u : SeatShown) → SamePlace s t → SamePlace t u → SamePlace s u
place_on s t u a b = record { gate = b.gate ∙ a.gate; options = b.options ∙ a.options; thread = b.thread ∙ a.thread }
