-- What is read is a call line of the grammar, and each call line of the grammar is read.
use Rattle.std.proofs.Common.{◌≡◌, ℕ, List, [], ◌∷◌, Some, Ok, refl, ap, ◌∙◌, subst}
use Rattle.az_words.specs.Laws.{NumbersAreRead}
use Rattle.call_words.specs.declared.names.CallName.{CallName}
use Rattle.call_words.specs.Names.{name_text, name_of}
use Rattle.call_words.specs.Laws.{NamesAreRead, ArgumentsAreRead}
use Rattle.call_words.specs.Reading.Words.{thread_of}
use Rattle.call_words.specs.Reading.Calls.{next_as, act_at}
use Rattle.heap_script.specs.declared.cause.Cause.TheVariants.{NoThread, NoCall, WrongArgument}
use Rattle.heap_script.specs.declared.line.Line.{Line}
use Rattle.heap_script.specs.Lines.{LineAt, IsLine}
use Rattle.heap_script.specs.Reading.Scripts.{or_cause, no_more, line_at, line_of}
use Rattle.heap_script.proofs.Steps.{or_ok, bind_ok, ok_same, next_some, whole_ok}

-- a call that is named
pub named_ok : (names : NamesAreRead) → (words : List (List ℕ)) (x : CallName × List (List ℕ)) → next_as name_of words ≡ Some x → words ≡ name_text x.0 ∷ x.1
named_ok names words x e =
    let p = next_some name_of words x e in
    p.1 ∙ ap (λ w. w ∷ x.1) ((names p.0 x.0).0 p.2)

pub named_from : (names : NamesAreRead) → (name : CallName) (others : List (List ℕ)) → next_as name_of (name_text name ∷ others) ≡ Some (name, others)
unfolding next_as
named_from names name others = rw ((names (name_text name) name).1 refl) refl

pub line_at_ok : (numbers : NumbersAreRead) → (names : NamesAreRead) → (arguments : ArgumentsAreRead) → (words : List (List ℕ)) (x : Line × List (List ℕ)) → line_at words ≡ Ok x → LineAt words x.0 x.1
unfolding line_at thread_of
line_at_ok numbers names arguments words x e =
    let a = bind_ok (or_cause NoThread (next_as thread_of words)) _ x e in
    let t = next_some thread_of words a.0 (or_ok NoThread (next_as thread_of words) a.0 a.1) in
    let b = bind_ok (or_cause NoCall (next_as name_of a.0.1)) _ x a.2 in
    let n = named_ok names a.0.1 b.0 (or_ok NoCall (next_as name_of a.0.1) b.0 b.1) in
    let d = bind_ok (or_cause WrongArgument (act_at 8 b.0.0 b.0.1)) _ x b.2 in
    let P : Line × List (List ℕ) → Type 0 = λ y. LineAt words y.0 y.1 in
    let start : P (record { thread = a.0.0; act = d.0.0 }, d.0.1) =
    record {
      first = t.0;
      name = b.0.0;
      others = b.0.1;
      spelled = t.1 ∙ ap (λ ws. t.0 ∷ ws) n;
      thread = (numbers 1 16 t.0 a.0.0).0 t.2;
      asks = (arguments 8 b.0.0 b.0.1 d.0.0 d.0.1).0 (or_ok WrongArgument (act_at 8 b.0.0 b.0.1) d.0 d.1);
    } in
    subst P (ok_same _ x d.2) start

pub line_at_from : (numbers : NumbersAreRead) → (names : NamesAreRead) → (arguments : ArgumentsAreRead) → (words : List (List ℕ)) (line : Line) (left : List (List ℕ)) → LineAt words line left → line_at words ≡ Ok (line, left)
unfolding line_at thread_of next_as
line_at_from numbers names arguments words line left h =
    rw (
      h.spelled,
      (numbers 1 16 h.first line.thread).1 h.thread,
      named_from names h.name h.others,
      (arguments 8 h.name h.others line.act left).1 h.asks,
    ) refl

pub line_ok : (numbers : NumbersAreRead) → (names : NamesAreRead) → (arguments : ArgumentsAreRead) → (words : List (List ℕ)) (line : Line) → line_of words ≡ Ok line → IsLine words line
unfolding line_of
line_ok numbers names arguments words line e = line_at_ok numbers names arguments words (line, []) (whole_ok (line_at words) line e)

pub line_from : (numbers : NumbersAreRead) → (names : NamesAreRead) → (arguments : ArgumentsAreRead) → (words : List (List ℕ)) (line : Line) → IsLine words line → line_of words ≡ Ok line
unfolding line_of no_more
line_from numbers names arguments words line h = rw (line_at_from numbers names arguments words line [] h) refl
