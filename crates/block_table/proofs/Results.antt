-- What a fact of an answer becomes
use Rattle.std.proofs.Common.{Result, Ok, Err}
use Rattle.std.specs.Result.{OnOk, OnErr}

module _ {A E P Q : Type 0} where
  pub on_ok : (r : Result A E) → (P → Q) → OnOk r P → OnOk r Q
  on_ok (Ok a) f p = f p
  on_ok (Err e) f p = tt

  pub on_err : (r : Result A E) → (P → Q) → OnErr r P → OnErr r Q
  on_err (Ok a) f p = tt
  on_err (Err e) f p = f p
