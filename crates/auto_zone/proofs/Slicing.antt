-- What a slice of marking tells of the shades
use Rattle.std.proofs.Common.{◌≡◌, ◌≤◌, ◌+◌, ◌-◌, ℕ, Bool, true, false, cond, List, [], ◌∷◌, Option, None, Some, IfSome, inl, inr, true≢false, refl, subst, ◌∙◌, arith}
use Rattle.std.proofs.lemmas.List.Sums.{sum_by-cons}
use Rattle.az_base.specs.declared.block_id.BlockId.{BlockId}
use Rattle.quantum_space.specs.declared.shade.Shade.{Shade}
use Rattle.quantum_space.specs.declared.shade.Shade.TheVariants as shade
use Rattle.quantum_space.specs.Shapes.{Shades}
use Rattle.gen_marker.specs.declared.scanning.Progress.{Progress}
use Rattle.gen_marker.specs.declared.scanning.Progress.TheVariants as progress
use Rattle.gen_marker.specs.Marking.{NoGrey}
use Rattle.gen_marker.specs.Progress.{Ends}
use Rattle.heap_cycle.specs.Collector.{Collecting, shade_in}
use Rattle.shared_heap.specs.Cycles.{marked_by}
use Rattle.auto_zone.specs.Shown.{is_grey, greys}

-- where no block is grey, none is counted
not_grey : (f : Shade) → ¬ (f ≡ shade.Grey) → is_grey f ≡ false
not_grey shade.White h = refl
not_grey shade.Grey h = absurd (h refl)
not_grey shade.Black h = refl

none_grey : (blocks : List BlockId) (f : Shades) → NoGrey blocks f → greys blocks f ≡ 0
none_grey [] f h = refl
none_grey (b ∷ bs) f h = sum_by-cons (λ c. cond (is_grey (f c)) 1 0) b bs ∙ not_counted (is_grey (f b)) (greys bs f) (not_grey (f b) (h b (inl refl))) (none_grey bs f (λ c i. h c (inr i)))
  where
    not_counted : (t : Bool) (n : ℕ) → t ≡ false → n ≡ 0 → cond t 1 0 + n ≡ 0
    not_counted true n off none = absurd (true≢false off)
    not_counted false n off none = omega (arith, none)

-- nor in the open cycle
pub done_grey : (all : Type 0) (o : Option Collecting) (p : Progress) → IfSome o (λ g. Ends p g.start (shade_in g) all) → p ≡ progress.Done → marked_by (λ g. greys g.start (shade_in g)) o ≡ 0
done_grey all None p h is = refl
done_grey all (Some g) p h is = by g.condemned
  where
    by : (o : Option (List BlockId)) → marked_by (λ (x : Collecting). greys x.start (shade_in x)) (Some (record g { condemned = o })) ≡ 0
    by None = none_grey g.start (shade_in g) (subst (λ q. Ends q g.start (shade_in g) all) is h)
    by (Some r) = refl

pub scanned_within : (s t a b budget : ℕ) → s ≡ 0 → t + a ≡ s + b → t ≤ s + budget → b - a ≤ budget
scanned_within s t a b budget start ticks within = omega (arith, start, ticks, within)
