-- A text is read in one way.
use Rattle.std.proofs.Common.{◌≡◌, ◌⊎◌, ℕ, inl, inr, List, Result, Ok, Err, refl, sym, ◌∙◌}
use Rattle.heap_script.specs.declared.script.Script.{Script}
use Rattle.heap_script.specs.Refusals.{Refusal}
use Rattle.heap_script.specs.Scripts.{IsOnlyScript, IsOnlyRefusal}
use Rattle.heap_script.specs.Laws.{ScriptsAreRead, ScriptsAreRefused}
use Rattle.heap_script.specs.Reading.Scripts.{script_of}
use Rattle.heap_script.proofs.Steps.{ok_same, ok_is_not_err}

err_same : {A E : Type 0} (a b : E) → ◌≡◌ {A = Result A E} (Err a) (Err b) → a ≡ b
err_same a b e = cc

read_as : (scripts : ScriptsAreRead) → (refusals : ScriptsAreRefused) → (bytes : List ℕ) (read : Result Script Refusal) → script_of bytes ≡ read
    → ((script : Script) × IsOnlyScript bytes script) ⊎ ((refusal : Refusal) × IsOnlyRefusal bytes refusal)
read_as scripts refusals bytes (Ok script) e = inl (
  script,
  record {
    is = (scripts bytes script).0 e;
    only = λ other h. ok_same other script (sym ((scripts bytes other).1 h) ∙ e);
    not_refused = λ refusal h. ok_is_not_err script refusal (sym e ∙ (refusals bytes refusal).1 h);
  },
)
read_as scripts refusals bytes (Err refusal) e = inr (
  refusal,
  record {
    is = (refusals bytes refusal).0 e;
    only = λ other h. err_same {A = Script} other refusal (sym ((refusals bytes other).1 h) ∙ e);
    no_script = λ script h. ok_is_not_err script refusal (sym ((scripts bytes script).1 h) ∙ e);
  },
)

pub one_reading : (scripts : ScriptsAreRead) → (refusals : ScriptsAreRefused) → (bytes : List ℕ) → ((script : Script) × IsOnlyScript bytes script) ⊎ ((refusal : Refusal) × IsOnlyRefusal bytes refusal)
one_reading scripts refusals bytes = read_as scripts refusals bytes (script_of bytes) refl
