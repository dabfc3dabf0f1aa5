-- What visits do to the table
use Rattle.std.proofs.Common.{◌≡◌, Bool, List, [], ◌∷◌, ◌++◌, refl, sym, ap, ◌∙◌, subst}
use Rattle.az_base.specs.declared.action.Mode.{Mode}
use Rattle.az_base.specs.declared.action.Mode.TheVariants as mode
use Rattle.az_base.specs.declared.block_id.BlockId.{BlockId}
use Rattle.quantum_space.specs.Shapes.{Has, Shades, Shape, Stack, Visits, VisitsAll, VisitsOnto, is_taken}

-- a visit reads of a graph its blocks and which are young, and nothing else
pub taken_alike : (m : Mode) (s z : Shape) (id : BlockId) → s.young ≡ z.young → is_taken m s id ≡ is_taken m z id
taken_alike mode.Full s z id e = refl
taken_alike mode.Young s z id e = ap (λ (f : BlockId → Bool). f id) e

pub visits_alike : (m : Mode) (s z : Shape) (id : BlockId) (is_new : Bool) (old new : Shades) → s.blocks ≡ z.blocks → s.young ≡ z.young → Visits m s id is_new old new → Visits m z id is_new old new
visits_alike m s z id is_new old new blocks young v = record {
  greyed = λ e. (let g = v.greyed e in (subst (λ (l : List BlockId). Has l id) blocks g.0, sym (taken_alike m s z id young) ∙ g.1, g.2, g.3));
  same = v.same;
  passed = λ e h t. v.passed e (subst (λ (l : List BlockId). Has l id) (sym blocks) h) (taken_alike m s z id young ∙ t);
}

pub onto_alike : (m : Mode) (s z : Shape) (id : BlockId) (f : Shades) (g : Stack) (after : Shades) (onto : Stack) → s.blocks ≡ z.blocks → s.young ≡ z.young → VisitsOnto m s id f g after onto → VisitsOnto m z id f g after onto
onto_alike m s z id f g after onto blocks young v = record { is_new = v.is_new; visits = visits_alike m s z id v.is_new f after blocks young v.visits; puts = v.puts }

pub all_alike : (m : Mode) (s z : Shape) (xs : List BlockId) (f : Shades) (g : Stack) (after : Shades) (onto : Stack) → s.blocks ≡ z.blocks → s.young ≡ z.young → VisitsAll m s xs f g after onto → VisitsAll m z xs f g after onto
all_alike m s z [] f g after onto blocks young v = v
all_alike m s z (x ∷ xs) f g after onto blocks young v = (v.0, v.1, onto_alike m s z x f g v.0 v.1 blocks young v.2, all_alike m s z xs v.0 v.1 after onto blocks young v.3)

-- visits to two lists, one after the other
pub visits_both : (m : Mode) (s : Shape) (xs ys : List BlockId) (f : Shades) (g : Stack) (mid : Shades) (on : Stack) (after : Shades) (onto : Stack)
    → VisitsAll m s xs f g mid on → VisitsAll m s ys mid on after onto → VisitsAll m s (xs ++ ys) f g after onto
visits_both m s [] ys f g mid on after onto v w =
    subst (λ (k : Stack). VisitsAll m s ys f k after onto) v.1 (subst (λ (k : Shades). VisitsAll m s ys k on after onto) v.0 w)
visits_both m s (x ∷ xs) ys f g mid on after onto v w = (v.0, v.1, v.2, visits_both m s xs ys v.0 v.1 mid on after onto v.3 w)
