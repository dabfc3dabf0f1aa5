-- Numbers of threads are told apart
use Rattle.std.proofs.Common.{◌≡◌, ℕ, ◌==◌, ◌∙◌, arith}
use Rattle.std.proofs.lemmas.Bool.Decides.{nat_tests}
use Rattle.std.proofs.lemmas.Grind.{common_steps}
use Rattle.std.specs.Ordering.{eq_by_cmp, is_eq, nat_cmp}
use Rattle.std.specs.Cmp.{nat_cmp_total, eq_by_cmp_equiv}

tested : (q k : ℕ) → eq_by_cmp nat_cmp q k ≡ (q == k)
tested q k = grind (arith, nat_tests, common_steps)

-- the two tests of threads
pub tied : (q k : ℕ) → is_eq (nat_cmp q k) ≡ (k == q)
tied q k = (eq_by_cmp_equiv nat_cmp_total).symm q k ∙ tested k q
