-- The thread's own cycle, as a heap tells it: by its owner, and by whether it is condemned
use Rattle.std.proofs.Common.{◌≡◌, ℕ, ◌==◌, Bool, true, false, not, List, Option, Some, None, is_some, refl, sym, ap, ◌∙◌, IsTrue, eqb-true}
use Rattle.std.specs.Option.{option_map}
use Rattle.az_base.specs.declared.block_id.BlockId.{BlockId}
use Rattle.heap_cycle.specs.Collector.{Collecting}

-- what is told of a cycle
abbrev pub told : Option Collecting → Option (ℕ × Bool)
told o = option_map (λ (g : Collecting). (g.owner, is_some g.condemned)) o

some_of : {X : Type 0} (o : Option X) → is_some o ≡ true → (x : X) × (o ≡ Some x)
some_of None e = cc
some_of (Some x) e = (x, refl)

none_of : {X : Type 0} (o : Option X) → is_some o ≡ false → o ≡ None
none_of None e = refl
none_of (Some x) e = cc

is_false : (b : Bool) → IsTrue (not b) → b ≡ false
is_false true h = cc
is_false false h = refl

-- a cycle that is told is open
opened : (o : Option Collecting) (p : ℕ × Bool) → told o ≡ Some p → (g : Collecting) × (o ≡ Some g) × (g.owner ≡ p.0) × (is_some g.condemned ≡ p.1)
opened None p e = cc
opened (Some g) p e =
    let same : (g.owner, is_some g.condemned) ≡ p = ap (λ (q : Option (ℕ × Bool)). elim q [ None ↦ p | Some x ↦ x ]) e in
    (g, refl, ap (λ (q : ℕ × Bool). q.0) same, ap (λ (q : ℕ × Bool). q.1) same)

pub marks : (o : Option Collecting) (p : ℕ × Bool) (t : ℕ) → told o ≡ Some p → (p.0 == t) ≡ true → IsTrue (not p.1) → (g : Collecting) × ((o ≡ Some g) × (g.owner ≡ t)) × (g.condemned ≡ None)
marks o p t e own white =
    let g = opened o p e in
    (g.0, (g.1, g.2 ∙ eqb-true p.0 t own), none_of g.0.condemned (g.3 ∙ is_false p.1 white))

pub settles : (o : Option Collecting) (p : ℕ × Bool) (t : ℕ) → told o ≡ Some p → (p.0 == t) ≡ true → p.1 ≡ true → (g : Collecting) × (r : List BlockId) × ((o ≡ Some g) × (g.owner ≡ t)) × (g.condemned ≡ Some r)
settles o p t e own condemned =
    let g = opened o p e in
    let r = some_of g.0.condemned (g.3 ∙ condemned) in
    (g.0, r.0, (g.1, g.2 ∙ eqb-true p.0 t own), r.1)
