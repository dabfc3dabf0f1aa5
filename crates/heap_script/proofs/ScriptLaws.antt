-- What is read is a script of the grammar, and each script of the grammar is read.
use Rattle.std.proofs.Common.{◌≡◌, ℕ, ◌+◌, ◌≤◌, Bool, true, false, cond, nat_lt, List, [], ◌∷◌, length, codes, Option, Some, None, Result, Ok, Err, refl, sym, ap, ◌∙◌, subst, arith}
use Rattle.std.specs.List.{All}
use Rattle.std.specs.Str.{bytes_eq, is_utf8}
use Rattle.std.proofs.lemmas.Bool.{le-ltb}
use Rattle.std.proofs.lemmas.List.Elements.{All-nil, All-cons, All-head, All-tail}
use Rattle.std.proofs.lemmas.Slice.Eq.{bytes_eq-Decides}
use Rattle.std.proofs.lemmas.Str.{is_utf8-from_IsUtf8}
use Rattle.az_words.specs.Lines.{lines_of}
use Rattle.az_words.specs.Words.{words_of}
use Rattle.az_words.specs.Numerals.{numeral_of, number_in}
use Rattle.call_words.specs.Reading.Words.{thread_of}
use Rattle.call_words.specs.Reading.Calls.{next_as}
use Rattle.heap_script.specs.declared.cause.Cause.TheVariants.{NoThread}
use Rattle.heap_script.specs.declared.entries.Entry.{Entry}
use Rattle.heap_script.specs.declared.entries.Entry.TheVariants as entry
use Rattle.heap_script.specs.declared.line.Line.{Line}
use Rattle.heap_script.specs.declared.script.Script.{Script}
use Rattle.heap_script.specs.Lines.{IsFit, is_skipped, IsEntry, called_after, AreEntries, SayLines}
use Rattle.heap_script.specs.Refusals.{option_words, after_option}
use Rattle.heap_script.specs.Scripts.{calls_of, IsScript}
use Rattle.heap_script.specs.Reading.Scripts.{line_at, line_of, entry_by, entry_at, entry_of, at_line, entries_from, script_from, script_of}
use Rattle.heap_script.specs.Laws.{LinesAreRead, OptionsAreRead}
use Rattle.heap_script.proofs.Steps.{bind_ok, ok_same, ok_is_not_err, some_same}
use Rattle.heap_script.proofs.EntrySteps.{Shown, entry_ok, at_line_ok}

pub entry_from : (n : ℕ) (called : Bool) (bytes : List ℕ) → IsFit bytes → n ≤ 65536 → entry_of n called bytes ≡ entry_at called (words_of bytes)
unfolding entry_of
entry_from n called bytes fit few =
    let text : is_utf8 bytes ≡ true = is_utf8-from_IsUtf8 bytes fit.text in
    let short : nat_lt 8192 (length bytes) ≡ false = le-ltb 8192 (length bytes) fit.short in
    let small : nat_lt 65536 n ≡ false = le-ltb 65536 n few in
    rw (text, short, small) refl

-- the word option, where words come after it
option_by : (first : List ℕ) (more others : List (List ℕ)) (b : Bool) → bytes_eq first (codes "option") ≡ b → cond b (Some more) None ≡ Some others → first ∷ more ≡ codes "option" ∷ others
option_by first more others true is e = ap (λ w. w ∷ more) ((bytes_eq-Decides first (codes "option")).0 is) ∙ ap (λ ws. codes "option" ∷ ws) (some_same more others e)
option_by first more others false is e = cc

option_front : (words others : List (List ℕ)) → option_words words ≡ Some others → words ≡ codes "option" ∷ others
option_front [] others e = cc
option_front (first ∷ more) others e = option_by first more others (bytes_eq first (codes "option")) refl e

pub after_ok : (called : Bool) (words others : List (List ℕ)) → after_option called words ≡ Some others → (called ≡ false) × (words ≡ codes "option" ∷ others)
unfolding after_option
after_ok false words others e = (refl, option_front words others e)
after_ok true words others e = cc

-- option is no thread
no_thread : thread_of (codes "option") ≡ None
unfolding thread_of number_in numeral_of
no_thread = refl

no_thread_line : (others : List (List ℕ)) → line_of (codes "option" ∷ others) ≡ Err NoThread
unfolding line_of line_at next_as
no_thread_line others = rw no_thread refl

no_option_line : (others : List (List ℕ)) (line : Line) → line_of (codes "option" ∷ others) ≡ Ok line → ⊥
no_option_line others line e = ok_is_not_err line NoThread (sym e ∙ no_thread_line others)

calls_by : (called : Bool) (words : List (List ℕ)) (line : Line) (o : Option (List (List ℕ))) → after_option called words ≡ o → line_of words ≡ Ok line → o ≡ None
calls_by called words line None a e = refl
calls_by called words line (Some others) a e = absurd (no_option_line others line (ap line_of (sym (after_ok called words others a).1) ∙ e))

entry_says : (law : LinesAreRead) → (options : OptionsAreRead) → (called : Bool) (words : List (List ℕ)) (e : Entry) → Shown called words e → IsEntry called words e
entry_says law options called words entry.Nothing h = h
entry_says law options called words (entry.Set set) h =
    let a = after_ok called words h.1 h.2 in
    (a.0, h.1, a.1, (options h.1 set).0 h.3)
entry_says law options called words (entry.Call line) h = (h.0, (law words line).0 h.2)

option_at : (others : List (List ℕ)) → after_option false (codes "option" ∷ others) ≡ Some others
unfolding after_option
option_at others = refl

not_skipped : (others : List (List ℕ)) → is_skipped (codes "option" ∷ others) ≡ false
unfolding is_skipped
not_skipped others = refl

-- what the words say is read
said_at : (law : LinesAreRead) → (options : OptionsAreRead) → (called : Bool) (words : List (List ℕ)) (e : Entry) → IsEntry called words e → entry_at called words ≡ Ok e
unfolding entry_by
said_at law options called words entry.Nothing h = rw h refl
said_at law options called words (entry.Set set) h =
    ap (λ o. entry_at o words) h.0 ∙ ap (entry_at false) h.2 ∙ rw (not_skipped h.1, option_at h.1, (options h.1 set).1 h.3) refl
said_at law options called words (entry.Call line) h =
    let read = (law words line).1 h.1 in
    rw (h.0, calls_by called words line (after_option called words) refl read, read) refl

-- the lines from here on are read
record Read (n : ℕ) (called : Bool) (pieces : List (List ℕ)) (entries : List Entry) : Type 0 where
  few : n ≤ 65537 → n + length pieces ≤ 65537
  fit : All IsFit pieces
  says : AreEntries called pieces entries

lines_ok : (law : LinesAreRead) → (options : OptionsAreRead) → (n : ℕ) (called : Bool) (pieces : List (List ℕ)) (entries : List Entry) → entries_from n called pieces ≡ Ok entries → Read n called pieces entries
unfolding entries_from
lines_ok law options n called [] entries e =
    let none : AreEntries called [] [] = tt in
    record { few = λ h. omega arith; fit = All-nil IsFit; says = subst (AreEntries called []) (ok_same _ entries e) none }
lines_ok law options n called (piece ∷ pieces) entries e =
    let a = bind_ok (at_line n (entry_of n called piece)) _ entries e in
    let b = bind_ok (entries_from (n + 1) (called_after called a.0) pieces) _ entries a.2 in
    let first = entry_ok n called piece a.0 (at_line_ok n (entry_of n called piece) a.0 a.1) in
    let rec = lines_ok law options (n + 1) (called_after called a.0) pieces b.0 b.1 in
    let small : n ≤ 65536 = first.few in
    let counted : n + 1 + length pieces ≤ 65537 = rec.few (omega arith) in
    let says : AreEntries called (piece ∷ pieces) (a.0 ∷ b.0) = (entry_says law options called (words_of piece) a.0 first.says, rec.says) in
    record { few = λ h. omega arith; fit = All-cons IsFit piece pieces first.fit rec.fit; says = subst (AreEntries called (piece ∷ pieces)) (ok_same _ entries b.2) says }

pub said_ok : (law : LinesAreRead) → (options : OptionsAreRead) → (pieces : List (List ℕ)) (entries : List Entry) → entries_from 1 false pieces ≡ Ok entries → SayLines pieces entries
said_ok law options pieces entries e =
    let read = lines_ok law options 1 false pieces entries e in
    let counted : 1 + length pieces ≤ 65537 = read.few (omega arith) in
    record { few = omega arith; fit = read.fit; says = read.says }

pub script_ok : (law : LinesAreRead) → (options : OptionsAreRead) → (bytes : List ℕ) (script : Script) → script_of bytes ≡ Ok script → IsScript bytes script
unfolding script_of
script_ok law options bytes script e =
    let a = bind_ok (entries_from 1 false (lines_of bytes)) _ script e in
    subst (IsScript bytes) (ok_same _ script a.2) (record { entries = a.0; said = said_ok law options (lines_of bytes) a.0 a.1; options = refl; lines = refl })

-- reading goes on after a line that says this
pub goes_on : (n : ℕ) (called : Bool) (piece : List ℕ) (pieces : List (List ℕ)) (e : Entry) (entries : List Entry) → entry_of n called piece ≡ Ok e
    → entries_from (n + 1) (called_after called e) pieces ≡ Ok entries → entries_from n called (piece ∷ pieces) ≡ Ok (e ∷ entries)
unfolding entries_from
goes_on n called piece pieces e entries first others = rw (first, others) refl

lines_read : (law : LinesAreRead) → (options : OptionsAreRead) → (n : ℕ) (called : Bool) (pieces : List (List ℕ)) (entries : List Entry) → n + length pieces ≤ 65537 → All IsFit pieces
    → AreEntries called pieces entries → entries_from n called pieces ≡ Ok entries
unfolding entries_from
lines_read law options n called [] [] few fit says = refl
lines_read law options n called [] (e ∷ entries) few fit says = absurd says
lines_read law options n called (piece ∷ pieces) [] few fit says = absurd says
lines_read law options n called (piece ∷ pieces) (e ∷ entries) few fit says =
    goes_on n called piece pieces e entries (entry_from n called piece (All-head IsFit piece pieces fit) (omega arith) ∙ said_at law options called (words_of piece) e says.0)
    (lines_read law options (n + 1) (called_after called e) pieces entries (omega arith) (All-tail IsFit piece pieces fit) says.1)

pub said_from : (law : LinesAreRead) → (options : OptionsAreRead) → (pieces : List (List ℕ)) (entries : List Entry) → SayLines pieces entries → entries_from 1 false pieces ≡ Ok entries
said_from law options pieces entries h = lines_read law options 1 false pieces entries (omega (arith, h.few)) h.fit h.says

pub script_from_lines : (law : LinesAreRead) → (options : OptionsAreRead) → (bytes : List ℕ) (script : Script) → IsScript bytes script → script_of bytes ≡ Ok script
unfolding script_of
script_from_lines law options bytes script h =
    let same : script_from h.entries ≡ script = ap (λ o. record { options = o; lines = calls_of h.entries }) (sym h.options) ∙ ap (λ ls. record { options = script.options; lines = ls }) (sym h.lines) in
    rw (said_from law options (lines_of bytes) h.entries h.said) (ap {B = Result Script _} Ok same)
