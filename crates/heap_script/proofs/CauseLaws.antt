-- What a call line that is refused has, and what it has not
use Rattle.std.proofs.Common.{◌≡◌, ℕ, inl, inr, List, [], ◌∷◌, Option, Some, None, Result, Ok, Err, refl, sym, ap, ◌∙◌, subst}
use Rattle.az_words.specs.Laws.{NumbersAreRead}
use Rattle.call_words.specs.Names.{name_text, name_of}
use Rattle.call_words.specs.Laws.{NamesAreRead, ArgumentsAreRead}
use Rattle.call_words.specs.Reading.Words.{thread_of}
use Rattle.call_words.specs.Reading.Calls.{next_as, act_at}
use Rattle.heap_script.specs.declared.cause.Cause.{Cause}
use Rattle.heap_script.specs.declared.cause.Cause.TheVariants.{NoThread, NoCall, WrongArgument, TooManyArguments}
use Rattle.heap_script.specs.declared.line.Line.{Line}
use Rattle.heap_script.specs.Lines.{LineAt}
use Rattle.heap_script.specs.Refusals.{HasThread, HasCall, LineCause}
use Rattle.heap_script.specs.Reading.Scripts.{◌>>=◌, or_cause, no_more, line_at, line_of}
use Rattle.heap_script.proofs.Steps.{or_ok, or_err, bind_err, next_some, next_none, ok_is_not_err, whole_ok, whole_err}
use Rattle.heap_script.proofs.LineLaws.{named_ok, named_from, line_at_ok, line_at_from}

-- what each cause says of the words of a call line
Says : List (List ℕ) → Cause → Type 0
Says words NoThread = ¬ HasThread words
Says words NoCall = HasThread words × ¬ HasCall words
Says words WrongArgument = HasCall words
Says words TooManyArguments = LineCause words TooManyArguments
Says words _ = ⊥

said : (words : List (List ℕ)) (c d : Cause) → c ≡ d → Says words c → Says words d
said words c d e h = subst (Says words) e h

tail_same : (a b : List ℕ) (xs ys : List (List ℕ)) → a ∷ xs ≡ b ∷ ys → xs ≡ ys
tail_same a b xs ys e = cc

is_none_and_some : {A : Type 0} {o : Option A} {x : A} → o ≡ None → o ≡ Some x → ⊥
is_none_and_some e f = cc

-- where no front of the words was read as a call line
at_says : (numbers : NumbersAreRead) → (names : NamesAreRead) → (arguments : ArgumentsAreRead) → (words : List (List ℕ)) (d : Cause) → line_at words ≡ Err d → Says words d
unfolding line_at thread_of Says
at_says numbers names arguments words d e =
    elim (bind_err (or_cause NoThread (next_as thread_of words)) _ d e) [
      | inl h ↦
          (let p = or_err NoThread d (next_as thread_of words) h in
          said words NoThread d p.0 (λ has. next_none thread_of words p.1 has.0 has.1 has.2 has.3 ((numbers 1 16 has.0 has.2).1 has.4)))
      | inr a ↦
          (let t = next_some thread_of words a.0 (or_ok NoThread (next_as thread_of words) a.0 a.1) in
          let number = (numbers 1 16 t.0 a.0.0).0 t.2 in
          elim (bind_err (or_cause NoCall (next_as name_of a.0.1)) _ d a.2) [
            | inl h ↦
                (let p = or_err NoCall d (next_as name_of a.0.1) h in
                said words NoCall d p.0 (
                  (t.0, a.0.1, a.0.0, t.1, number),
                  λ has. is_none_and_some p.1 (ap (next_as name_of) (tail_same t.0 has.0 a.0.1 (name_text has.2 ∷ has.1) (sym t.1 ∙ has.4)) ∙ named_from names has.2 has.1),
                ))
            | inr b ↦
                (let named = named_ok names a.0.1 b.0 (or_ok NoCall (next_as name_of a.0.1) b.0 b.1) in
                let has : HasCall words = (t.0, b.0.1, b.0.0, a.0.0, t.1 ∙ ap (λ ws. t.0 ∷ ws) named, number) in
                elim (bind_err (or_cause WrongArgument (act_at 8 b.0.0 b.0.1)) _ d b.2) [
                  | inl h ↦ said words WrongArgument d (or_err WrongArgument d (act_at 8 b.0.0 b.0.1) h).0 has
                  | inr k ↦ absurd (ok_is_not_err _ d k.2)
                ])
          ])
    ]

says : (numbers : NumbersAreRead) → (names : NamesAreRead) → (arguments : ArgumentsAreRead) → (words : List (List ℕ)) (d : Cause) → line_of words ≡ Err d → Says words d
unfolding line_of Says
says numbers names arguments words d e =
    elim (whole_err (line_at words) d e) [
      | inl h ↦ at_says numbers names arguments words d h
      | inr m ↦ said words TooManyArguments d m.0 (m.1, m.2, m.3, line_at_ok numbers names arguments words (m.1, m.2 ∷ m.3) m.4)
    ]

-- where a call line begins the words, only what is left may be wrong
left_over : (numbers : NumbersAreRead) → (names : NamesAreRead) → (arguments : ArgumentsAreRead) → (words : List (List ℕ)) (line : Line) (left : List (List ℕ)) → LineAt words line left → line_of words ≡ (no_more left >>= λ end. Ok line)
unfolding line_of
left_over numbers names arguments words line left h = rw (line_at_from numbers names arguments words line left h) refl

is_too_many : (numbers : NumbersAreRead) → (names : NamesAreRead) → (arguments : ArgumentsAreRead) → (words : List (List ℕ)) → LineCause words TooManyArguments → line_of words ≡ Err TooManyArguments
unfolding no_more
is_too_many numbers names arguments words h = left_over numbers names arguments words h.0 (h.1 ∷ h.2) h.3

not_wrong : (left : List (List ℕ)) (line : Line) → ◌≡◌ {A = Result Line Cause} (no_more left >>= λ end. Ok line) (Err WrongArgument) → ⊥
unfolding no_more
not_wrong [] line e = cc
not_wrong (word ∷ words) line e = cc

call_has_thread : (words : List (List ℕ)) → HasCall words → HasThread words
call_has_thread words h = (h.0, name_text h.2 ∷ h.1, h.3, h.4, h.5)

line_has_call : (words : List (List ℕ)) (line : Line) (left : List (List ℕ)) → LineAt words line left → HasCall words
line_has_call words line left h = (h.first, h.others, h.name, line.thread, h.spelled, h.thread)

-- what was read, and what that says
Outcome : List (List ℕ) → Result Line Cause → Type 0
Outcome words (Ok line) = LineAt words line []
Outcome words (Err d) = Says words d

outcome : (numbers : NumbersAreRead) → (names : NamesAreRead) → (arguments : ArgumentsAreRead) → (words : List (List ℕ)) (read : Result Line Cause) → line_of words ≡ read → Outcome words read
unfolding Outcome line_of
outcome numbers names arguments words (Ok line) e = line_at_ok numbers names arguments words (line, []) (whole_ok (line_at words) line e)
outcome numbers names arguments words (Err d) e = says numbers names arguments words d e

thread_missing : (words : List (List ℕ)) (read : Result Line Cause) → Outcome words read → ¬ HasThread words → read ≡ Err NoThread
unfolding Outcome Says
thread_missing words (Ok line) h none = absurd (none (call_has_thread words (line_has_call words line [] h)))
thread_missing words (Err NoThread) h none = refl
thread_missing words (Err NoCall) h none = absurd (none h.0)
thread_missing words (Err WrongArgument) h none = absurd (none (call_has_thread words h))
thread_missing words (Err TooManyArguments) h none = absurd (none (call_has_thread words (line_has_call words h.0 (h.1 ∷ h.2) h.3)))
thread_missing words (Err d) h none = absurd h

call_missing : (words : List (List ℕ)) (read : Result Line Cause) → Outcome words read → HasThread words → ¬ HasCall words → read ≡ Err NoCall
unfolding Outcome Says
call_missing words (Ok line) h has none = absurd (none (line_has_call words line [] h))
call_missing words (Err NoThread) h has none = absurd (h has)
call_missing words (Err NoCall) h has none = refl
call_missing words (Err WrongArgument) h has none = absurd (none h)
call_missing words (Err TooManyArguments) h has none = absurd (none (line_has_call words h.0 (h.1 ∷ h.2) h.3))
call_missing words (Err d) h has none = absurd h

argument_wrong : (words : List (List ℕ)) (read : Result Line Cause) → Outcome words read → HasCall words → ((line : Line) (left : List (List ℕ)) → ¬ LineAt words line left) → read ≡ Err WrongArgument
unfolding Outcome Says
argument_wrong words (Ok line) h has none = absurd (none line [] h)
argument_wrong words (Err NoThread) h has none = absurd (h (call_has_thread words has))
argument_wrong words (Err NoCall) h has none = absurd (h.1 has)
argument_wrong words (Err WrongArgument) h has none = refl
argument_wrong words (Err TooManyArguments) h has none = absurd (none h.0 (h.1 ∷ h.2) h.3)
argument_wrong words (Err d) h has none = absurd h

pub refused_ok : (numbers : NumbersAreRead) → (names : NamesAreRead) → (arguments : ArgumentsAreRead) → (words : List (List ℕ)) (cause : Cause) → line_of words ≡ Err cause → LineCause words cause
unfolding Says
refused_ok numbers names arguments words NoThread e = says numbers names arguments words NoThread e
refused_ok numbers names arguments words NoCall e = says numbers names arguments words NoCall e
refused_ok numbers names arguments words WrongArgument e = (says numbers names arguments words WrongArgument e, λ line left h. not_wrong left line (sym (left_over numbers names arguments words line left h) ∙ e))
refused_ok numbers names arguments words TooManyArguments e = says numbers names arguments words TooManyArguments e
refused_ok numbers names arguments words cause e = says numbers names arguments words cause e

pub refused_from : (numbers : NumbersAreRead) → (names : NamesAreRead) → (arguments : ArgumentsAreRead) → (words : List (List ℕ)) (cause : Cause) → LineCause words cause → line_of words ≡ Err cause
refused_from numbers names arguments words NoThread h = thread_missing words (line_of words) (outcome numbers names arguments words (line_of words) refl) h
refused_from numbers names arguments words NoCall h = call_missing words (line_of words) (outcome numbers names arguments words (line_of words) refl) h.0 h.1
refused_from numbers names arguments words WrongArgument h = argument_wrong words (line_of words) (outcome numbers names arguments words (line_of words) refl) h.0 h.1
refused_from numbers names arguments words TooManyArguments h = is_too_many numbers names arguments words h
refused_from numbers names arguments words cause h = absurd h
