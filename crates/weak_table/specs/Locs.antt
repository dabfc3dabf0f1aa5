-- Weak locations that have something
use Rattle.std.specs.Prelude.{◌≡◌, cond, List, Option}
use Rattle.std.specs.Map.{lookup}
use Rattle.az_base.specs.declared.weak_loc.WeakLoc.{WeakLoc}
pub use Rattle.az_base.specs.Codes.{coded_loc}
use Rattle.az_base.specs.Places.{loc_eq}

-- the location has this now, or nothing, and the others what they had
abbrev pub Puts : {X : Type 0} → WeakLoc → Option X → List (WeakLoc × X) → List (WeakLoc × X) → Type 0
Puts l x es fs = (q : WeakLoc) → lookup (loc_eq q) fs ≡ cond (loc_eq l q) x (lookup (loc_eq q) es)
