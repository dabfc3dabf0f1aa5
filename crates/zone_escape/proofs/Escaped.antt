-- What is known after an escape of two blocks: where they fit, and where they don't
use Rattle.std.proofs.Common.{◌≡◌, ◌⊎◌, Bool, true, false, cond, Option, Some, None, IfSome, IsSome, sym, subst}
use Rattle.std.specs.FinMap.{get}
use Rattle.az_base.specs.declared.block_id.BlockId.{BlockId}
use Rattle.az_base.specs.declared.misuse.Misuse.TheVariants as misuse
use Rattle.zone_model.specs.Escape.{EscOf, Tells, with_escaped}
use Rattle.zone_model.specs.Misuses.{is_overfull}
use Rattle.zone_model.specs.Quanta.{quanta_needed}
use Rattle.zone_model.specs.State.{State}
use Rattle.shared_heap.specs.Holding.{IsShared}
use Rattle.shared_heap.specs.Shared.{Shared}
use Rattle.shared_heap.specs.Stands.{EscapedClosed}
use Rattle.shared_heap.proofs.Shut.{closed}
use Rattle.shared_heap.proofs.Stepping.{none_escape}
use Rattle.local_set.specs.LocalSets.{LocalSet}
use Rattle.escape_plan.specs.Escapes.{Escapes, IsKnown}
use Rattle.escape_plan.specs.Together.{Together}
use Rattle.zone_escape.proofs.Needs.{first_out, second_out}
use Rattle.zone_escape.proofs.Shown.{is_out, is_shared, all_in_heap, full_if, fits_if}

-- the block, if there is one, is the heap's: nothing escapes by it any more, and it is shared
pub record IsOut (g : Shared) (y : State) (v : Option BlockId) : Type 0 where
  pub here : IfSome v (λ b. IsSome (get g.blocks b))
  pub none : (o : Option BlockId) → v ≡ o → (q : BlockId) → EscOf y o q → ⊥
  pub shared : (o : Option BlockId) → v ≡ o → IsShared y o

-- all to which the two lead has escaped
pub record HasEscaped (m : LocalSet) (g : Shared) (z : State) (a v : Option BlockId) : Type 0 where
  pub need : BlockId → Bool
  pub tells : Tells need (λ c. EscOf z a c ⊎ EscOf z v c)
  pub right : cond (is_overfull z (quanta_needed z need)) (Some misuse.ZoneFull) None ≡ None
  pub together : Together m g (with_escaped z need)
  pub shut : EscapedClosed (with_escaped z need)
  pub object : IsOut g (with_escaped z need) a
  pub value : IsOut g (with_escaped z need) v

-- it doesn't fit
pub record IsTooMuch (m : LocalSet) (g : Shared) (z : State) (a v : Option BlockId) : Type 0 where
  pub need : BlockId → Bool
  pub tells : Tells need (λ c. EscOf z a c ⊎ EscOf z v c)
  pub wrong : cond (is_overfull z (quanta_needed z need)) (Some misuse.ZoneFull) None ≡ Some misuse.ZoneFull
  pub together : Together m g z

out_is : (m : LocalSet) (g : Shared) (y : State) (v : Option BlockId) → Together m g y → is_out y v → IsOut g y v
out_is m g y v t out =
    let here = all_in_heap g y v t.heap.stands out in
    record {
      here = here;
      none = λ o same q e. none_escape g y v t.heap.stands (closed y t.heap.sound) here q (subst (λ x. EscOf y x q) (sym same) e);
      shared = λ o same. is_shared y o (subst (λ x. is_out y x) same out);
    }

module _ (l m : LocalSet) (h g : Shared) (a v : Option BlockId) (fit : Bool) (does : Escapes l m h g a v fit) (z : State) (t : Together l h z) (known_a : IsKnown z l.thread a) (known_v : IsKnown z l.thread v) where
  pub has_escaped : fit ≡ true → HasEscaped m g z a v
  has_escaped fits =
      let e = does z t known_a known_v in
      let y = with_escaped z e.0 in
      let together = subst (λ b. Together m g (cond b y z)) fits e.3 in
      record {
        need = e.0;
        tells = e.1;
        right = fits_if (is_overfull z (quanta_needed z e.0)) fit e.2 fits;
        together = together;
        shut = closed y together.heap.sound;
        object = out_is m g y a together (first_out z l.thread e.0 a v known_a e.1);
        value = out_is m g y v together (second_out z l.thread e.0 a v known_v e.1);
      }

  pub is_too_much : fit ≡ false → IsTooMuch m g z a v
  is_too_much over =
      let e = does z t known_a known_v in
      record {
        need = e.0;
        tells = e.1;
        wrong = full_if (is_overfull z (quanta_needed z e.0)) fit e.2 over;
        together = subst (λ b. Together m g (cond b (with_escaped z e.0) z)) over e.3;
      }
