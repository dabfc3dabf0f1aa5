use Rattle.std.proofs.Common.{◌≡◌, ◌∙◌, ℕ, List, None, ap, sym, subst, get_or}
use Rattle.quantum_space.specs.declared.placed.PlacedWord.{PlacedWord}
use Rattle.quantum_space.specs.declared.placed.PlacedWord.TheVariants as word
use Rattle.quantum_space.specs.PlacedWords.{known}
use Rattle.quantum_space.specs.Regions.{Region'}
use Rattle.quantum_space.proofs.region.Region.knows_none.Goals as goal

pub returns-clause-exact : goal.returns-clause-exact
returns-clause-exact c = λ h.
    (let e = ap (λ (v : Region'). v.words) (sym c.self.view_is) ∙ sym c.deref.ensures.value in
    c.none_known.ensures.exact (subst (λ (ws : List PlacedWord). (k : ℕ) → known (get_or ws k word.Null) ≡ None) e h))
