-- A store keeps that no black block has an edge to a white one, where its value is enlivened
use Rattle.std.proofs.Common.{◌≡◌, refl, sym, ap, ◌∙◌, subst, inl, inr, IsTrue}
use Rattle.az_base.specs.declared.block_id.BlockId.{BlockId}
use Rattle.az_base.specs.declared.action.Mode.{Mode}
use Rattle.az_base.specs.declared.action.Mode.TheVariants as mode
use Rattle.quantum_space.specs.declared.shade.Shade.TheVariants as shade
use Rattle.quantum_space.specs.Shapes.{Shape, Shades, Has}
use Rattle.gen_marker.specs.Marking.{Shut, Enlivens, in_scope}
use Rattle.gen_marker.specs.Closure.{Stored}
use Rattle.quantum_space.proofs.Lists.{same_or_not}
use Rattle.gen_marker.proofs.Marks.{white_or_not}

same_scope : (m : Mode) (s t : Shape) (b x : BlockId) → Stored s t b → in_scope m t x ≡ in_scope m s x
same_scope mode.Full s t b x d = refl
same_scope mode.Young s t b x d = d.young x

pub store_shut : (m : Mode) (s t : Shape) (b : BlockId) (old new : Shades) → Stored s t b → Shut m s old → Enlivens t.blocks b old new → Shut m t new
store_shut m s t b old new d shut en = record {
  closed = λ x y hx hy black edge scope. elim (same_or_not y b) [
    | inl e ↦ elim (white_or_not (old b)) [
      | inl w ↦ λ v. (let grey = en.greyed (subst (Has t.blocks) e hy) w in let k : shade.White ≡ shade.Grey = sym v ∙ ap new e ∙ grey in cc)
      | inr k ↦ λ v. k (sym (en.dark k) ∙ sym (ap new e) ∙ v)
    ]
    | inr n ↦ elim (d.edge x y edge) [
      | inr e ↦ absurd (n.0 e)
      | inl was ↦ λ v. shut.closed x y (subst (λ l. Has l x) d.blocks hx) (subst (λ l. Has l y) d.blocks hy) (was_black x hx black) was (subst (λ z. IsTrue z) (same_scope m s t b y d) scope) (sym (en.others y n.0) ∙ v)
    ]
  ];
}
  where
    was_black : (x : BlockId) → Has t.blocks x → new x ≡ shade.Black → old x ≡ shade.Black
    was_black x h k = elim (same_or_not x b) [
      | inr n ↦ sym (en.others x n.0) ∙ k
      | inl e ↦ elim (white_or_not (old b)) [
        | inr dk ↦ ap old e ∙ sym (en.dark dk) ∙ sym (ap new e) ∙ k
        | inl w ↦ (let grey = en.greyed (subst (Has t.blocks) e h) w in let j : shade.Black ≡ shade.Grey = sym k ∙ ap new e ∙ grey in cc)
      ]
    ]
