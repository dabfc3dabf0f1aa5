-- The bytes alone determine the status
use Rattle.std.proofs.Common.{◌≡◌, ◌≢◌, ◌≤◌, ◌+◌, ℕ, List, [], ◌++◌, length, Option, Some, None, Result, Ok, Err, OnOk, inl, inr, refl, sym, ap, subst, ◌∙◌, append-nil, length-append, arith}
use Rattle.std.specs.Io.KnownBytes.{Consumes}
use Rattle.az_outside.specs.Bytes.{Takes}
use Rattle.az_outside.specs.Causes.{Rose}
use Rattle.heap_script.specs.declared.cause.Cause.{Cause}
use Rattle.heap_script.specs.Laws.{ScriptsAreRead, ScriptsAreRefused}
use Rattle.heap_script.specs.Reading.Scripts.{script_of}
use Rattle.zone_commands.specs.declared.status.Status.{Status}
use Rattle.zone_commands.specs.declared.status.Status.TheVariants as status
use Rattle.zone_commands.specs.declared.status.Stop.{Stop}
use Rattle.zone_commands.specs.declared.status.Stop.TheVariants as stops
use Rattle.zone_commands.specs.Answers.{GaveAll, IsPlayed, IsRun, ForScripts, Written, WrittenPart, Refuses, IfRefused, Told, Ended, IsAnswerTo}

-- all that was given was read
all_given : (given bytes : List ℕ) (new : Option (List ℕ)) → GaveAll (Some given) new bytes → given ≡ bytes
all_given given bytes None gave = absurd gave.consumed
all_given given bytes (Some left) gave = gave.consumed ∙ ap (λ l. bytes ++ l) gave.end ∙ append-nil bytes

pub answer_done : (Of : List ℕ → List ℕ → Type 0) → ForScripts Of → ScriptsAreRead → ScriptsAreRefused → (limit : ℕ) (given : List ℕ) (old new : Option (List ℕ)) (grew : List ℕ → Type 0) → old ≡ Some given → Written Of limit old new grew → IsAnswerTo limit given status.Done
answer_done Of scripts reads refuses limit given old new grew is p =
    let same : given ≡ p.bytes = all_given given p.bytes new (rw is at p.read) in
    let many : length given ≡ length p.bytes = ap length same in
    let script = scripts p.bytes p.text p.made in record {
      long = λ l. absurd (omega (arith, l, many, p.short));
      played = λ script short said. refl;
      refused = λ refusal short said. let no : Ok script.0 ≡ Err refusal = sym ((reads p.bytes script.0).1 script.1) ∙ ap script_of (sym same) ∙ (refuses given refusal).1 said in cc (no);
    }

pub answer_refused : ScriptsAreRead → ScriptsAreRefused → (limit : ℕ) (given : List ℕ) (old new : Option (List ℕ)) (cause : Cause) (line : ℕ) → old ≡ Some given → Refuses limit old new cause line → IsAnswerTo limit given status.ScriptRefused
answer_refused reads refuses limit given old new cause line is p =
    let same : given ≡ p.bytes = all_given given p.bytes new (rw is at p.read) in
    let many : length given ≡ length p.bytes = ap length same in record {
      long = λ l. absurd (omega (arith, l, many, p.short));
      played = λ script short said. let no : Ok script ≡ Err (record { cause = cause; line = line }) = sym ((reads given script).1 said) ∙ ap script_of same ∙ (refuses p.bytes (record { cause = cause; line = line })).1 p.parsed in cc (no);
      refused = λ refusal short said. refl;
    }

pub answer_long : (limit : ℕ) (given : List ℕ) (old new : Option (List ℕ)) → old ≡ Some given → Takes (limit + 1) old new → IsAnswerTo limit given status.TooLong
answer_long limit given old new is p =
    let more : limit + 1 ≤ length given = taken p.taken new (rw is at p.consumed) p.many in record {
      long = λ l. refl;
      played = λ script short said. absurd (omega (arith, more, short));
      refused = λ refusal short said. absurd (omega (arith, more, short));
    }
  where
    taken : (front : List ℕ) (new : Option (List ℕ)) → Consumes (Some given) new front → length front ≡ limit + 1 → limit + 1 ≤ length given
    taken front None c many = absurd c
    taken front (Some left) c many = let sum : length given ≡ length front + length left = ap length c ∙ length-append front left in omega (arith, sum, many)

pub play_scripts : ForScripts IsPlayed
play_scripts bytes text p = (p.script, p.parsed)

pub run_scripts : ForScripts IsRun
run_scripts bytes text p = (p.script, p.parsed)

-- how a command ended, by what stopped it, and what was said of that
module _ (Of : List ℕ → List ℕ → Type 0) (scripts : ForScripts Of) (reads : ScriptsAreRead) (refuses : ScriptsAreRefused) (limit : ℕ) (old new : Option (List ℕ)) (reads_old reads_new : ℕ) (grew : List ℕ → Type 0) (writes_old writes_new : ℕ) (said : List ℕ → Type 0) (says_old says_new : ℕ) where
  pub ended_by : (r : Result Unit Stop) (s : Status) → OnOk r (Written Of limit old new grew)
      → IfRefused r (λ cause line. Refuses limit old new cause line × grew [])
      → (r ≡ Err stops.ReadFault → Rose reads_old reads_new × grew [])
      → (r ≡ Err stops.TooLong → Takes (limit + 1) old new × grew [])
      → (r ≡ Err stops.WriteFault → Rose writes_old writes_new × WrittenPart Of old new grew)
      → (r ≡ Err stops.NoMemory → grew [])
      → Told r s said says_old says_new → Ended Of limit s old new reads_old reads_new grew writes_old writes_new said says_old says_new
  ended_by (Ok u) s done refused read long write memory told = record {
    done = λ e. (done, told.1);
    refused = λ e. absurd (cc (told.0, e));
    read = λ e. absurd (cc (told.0, e));
    too_long = λ e. absurd (cc (told.0, e));
    write = λ e. absurd (cc (told.0, e));
    memory = λ e. absurd (cc (told.0, e));
    complete = λ given is r w. inl (subst (IsAnswerTo limit given) (sym told.0) (answer_done Of scripts reads refuses limit given old new grew is done));
  }
  ended_by (Err (stops.Refused cause line)) s done refused read long write memory (inl told) = record {
    done = λ e. absurd (cc (told.0, e));
    refused = λ e. (cause, line, refused.0, refused.1, told.1);
    read = λ e. absurd (cc (told.0, e));
    too_long = λ e. absurd (cc (told.0, e));
    write = λ e. absurd (cc (told.0, e));
    memory = λ e. absurd (cc (told.0, e));
    complete = λ given is r w. inl (subst (IsAnswerTo limit given) (sym told.0) (answer_refused reads refuses limit given old new cause line is refused.0));
  }
  ended_by (Err (stops.Refused cause line)) s done refused read long write memory (inr told) = record {
    done = λ e. absurd (cc (told.0, e));
    refused = λ e. absurd (cc (told.0, e));
    read = λ e. absurd (cc (told.0, e));
    too_long = λ e. absurd (cc (told.0, e));
    write = λ e. absurd (cc (told.0, e));
    memory = λ e. (refused.1, told.1);
    complete = λ given is r w. inr told.0;
  }
  ended_by (Err stops.ReadFault) s done refused read long write memory told = record {
    done = λ e. absurd (cc (told.0, e));
    refused = λ e. absurd (cc (told.0, e));
    read = λ e. ((read refl).0, (read refl).1, told.1);
    too_long = λ e. absurd (cc (told.0, e));
    write = λ e. absurd (cc (told.0, e));
    memory = λ e. absurd (cc (told.0, e));
    complete = λ given is r w. absurd (r (read refl).0);
  }
  ended_by (Err stops.WriteFault) s done refused read long write memory told = record {
    done = λ e. absurd (cc (told.0, e));
    refused = λ e. absurd (cc (told.0, e));
    read = λ e. absurd (cc (told.0, e));
    too_long = λ e. absurd (cc (told.0, e));
    write = λ e. ((write refl).0, (write refl).1, told.1);
    memory = λ e. absurd (cc (told.0, e));
    complete = λ given is r w. absurd (w (write refl).0);
  }
  ended_by (Err stops.NoMemory) s done refused read long write memory told = record {
    done = λ e. absurd (cc (told.0, e));
    refused = λ e. absurd (cc (told.0, e));
    read = λ e. absurd (cc (told.0, e));
    too_long = λ e. absurd (cc (told.0, e));
    write = λ e. absurd (cc (told.0, e));
    memory = λ e. (memory refl, told.1);
    complete = λ given is r w. inr told.0;
  }
  ended_by (Err stops.TooLong) s done refused read long write memory told = record {
    done = λ e. absurd (cc (told.0, e));
    refused = λ e. absurd (cc (told.0, e));
    read = λ e. absurd (cc (told.0, e));
    too_long = λ e. ((long refl).0, (long refl).1, told.1);
    write = λ e. absurd (cc (told.0, e));
    memory = λ e. absurd (cc (told.0, e));
    complete = λ given is r w. inl (subst (IsAnswerTo limit given) (sym told.0) (answer_long limit given old new is (long refl).0));
  }

-- no such status is Usage
pub not_usage : (r : Result Unit Stop) (s : Status) (said : List ℕ → Type 0) (before now : ℕ) → Told r s said before now → s ≢ status.Usage
not_usage (Ok u) s said before now told e = absurd (cc (told.0, e))
not_usage (Err (stops.Refused cause line)) s said before now (inl told) e = absurd (cc (told.0, e))
not_usage (Err (stops.Refused cause line)) s said before now (inr told) e = absurd (cc (told.0, e))
not_usage (Err stops.ReadFault) s said before now told e = absurd (cc (told.0, e))
not_usage (Err stops.WriteFault) s said before now told e = absurd (cc (told.0, e))
not_usage (Err stops.NoMemory) s said before now told e = absurd (cc (told.0, e))
not_usage (Err stops.TooLong) s said before now told e = absurd (cc (told.0, e))
