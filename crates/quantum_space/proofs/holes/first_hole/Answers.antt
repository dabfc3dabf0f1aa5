use Rattle.std.proofs.Common.{◌≡◌, ◌<◌, ◌≤◌, ◌+◌, ℕ, sym, subst, arith, get_or}
use Rattle.quantum_space.specs.Holes.{IsHole}
use Rattle.quantum_space.proofs.Runs.{none_up_to, free_more}
use Rattle.quantum_space.proofs.holes.first_hole.Goals.{then-bytes-at-ne0, else-bytes-at-ne0+else-at-begin}
use Rattle.quantum_space.proofs.holes.first_hole.Goals as goal

pub loop-at-preserved : goal.loop-at-preserved
loop-at-preserved c =
    let i = c.loop-at.invariant in
    let m = c.args.bytes.now in
    let at = c.loop-at.at in
    elim c.if-bytes-at-ne0.branch [
      | then-bytes-at-ne0 w ↦ record {
        after = omega (arith, w.begin-is, i.after, i.ordered);
        ordered = omega (arith, w.begin-is);
        short = omega (arith, w.begin-is, c.requires.some);
        free = λ q l k. absurd (omega (arith, w.begin-is, l, k));
        before = subst (λ (b : ℕ). (p : ℕ) → c.args.from ≤ p → p < b → ¬ IsHole m p c.args.len) (sym w.begin-is) (none_up_to m c.args.len c.args.from c.loop-at.begin at i.before i.short w.if-bytes-at-ne0.true);
      }
      | else-bytes-at-ne0+else-at-begin w ↦ record {
        after = omega (arith, w.begin-is, i.after);
        ordered = omega (arith, w.begin-is, i.ordered);
        short = omega (arith, w.begin-is, i.short, i.ordered, w.if-at-begin.false);
        free = subst (λ (b : ℕ). (q : ℕ) → b ≤ q → q < at + 1 → get_or m q 0 ≡ 0) (sym w.begin-is) (free_more m c.loop-at.begin at i.free w.if-bytes-at-ne0.false);
        before = subst (λ (b : ℕ). (p : ℕ) → c.args.from ≤ p → p < b → ¬ IsHole m p c.args.len) (sym w.begin-is) i.before;
      }
    ]
