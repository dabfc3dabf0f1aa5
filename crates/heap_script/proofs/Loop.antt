-- Reading lines one after the other, as a loop does
use Rattle.std.proofs.Common.{◌≡◌, ℕ, ◌+◌, Bool, List, [], ◌∷◌, ◌++◌, Result, Ok, Err, refl, sym, ap, ◌∙◌, append_assoc, append-nil}
use Rattle.az_base.specs.declared.options.Options.{Options}
use Rattle.az_base.specs.OptionRanges.{usual_options}
use Rattle.az_words.specs.Lines.{lines_of}
use Rattle.heap_script.specs.declared.entries.Entry.{Entry}
use Rattle.heap_script.specs.declared.entries.Entry.TheVariants as entry
use Rattle.heap_script.specs.declared.line.Line.{Line}
use Rattle.heap_script.specs.declared.script.Script.{Script}
use Rattle.heap_script.specs.declared.cause.Cause.{Cause}
use Rattle.heap_script.specs.declared.cause.LineErr.{LineErr}
use Rattle.heap_script.specs.declared.cause.LineErr.TheVariants as errors
use Rattle.heap_script.specs.Causes.{err_at}
use Rattle.heap_script.specs.Lines.{called_after}
use Rattle.heap_script.specs.Refusals.{Refusal}
use Rattle.heap_script.specs.Scripts.{with_entry, options_after, onto_calls, calls_of, is_called}
use Rattle.heap_script.specs.Reading.Scripts.{◌>>=◌, Gives, entry_of, entries_from, script_of, IsRead}

-- a script of these options and these lines, and then what is still read
abbrev pub going_on : Options → List Line → List Entry → Script
going_on o front entries = record { options = options_after o entries; lines = front ++ calls_of entries }

abbrev pub with_front : Options → List Line → Result (List Entry) Refusal → Result Script Refusal
with_front o front read = read >>= λ entries. Ok (going_on o front entries)

-- what was read so far, and what is read of the rest
unfoldable pub total : Options → List Line → ℕ → List (List ℕ) → Result Script Refusal
total o front n lines = with_front o front (entries_from n (is_called front) lines)

-- the call lines with one line more
abbrev pub with_call : List Line → Entry → List Line
with_call front (entry.Call line) = front ++ line ∷ []
with_call front e = front

called_grows : (front : List Line) (e : Entry) → called_after (is_called front) e ≡ is_called (with_call front e)
called_grows [] entry.Nothing = refl
called_grows [] (entry.Set set) = refl
called_grows [] (entry.Call line) = refl
called_grows (x ∷ front) entry.Nothing = refl
called_grows (x ∷ front) (entry.Set set) = refl
called_grows (x ∷ front) (entry.Call line) = refl

lines_grow : (front : List Line) (e : Entry) (lines : List Line) → front ++ onto_calls e lines ≡ with_call front e ++ lines
lines_grow front entry.Nothing lines = refl
lines_grow front (entry.Set set) lines = refl
lines_grow front (entry.Call line) lines = sym (append_assoc front (line ∷ []) lines)

grown : (o : Options) (front : List Line) (e : Entry) (entries : List Entry) → going_on o front (e ∷ entries) ≡ going_on (with_entry o e) (with_call front e) entries
grown o front e entries = ap (λ lines. record { options = options_after (with_entry o e) entries; lines = lines }) (lines_grow front e (calls_of entries))

regroup : (o : Options) (front : List Line) (e : Entry) (read : Result (List Entry) Refusal)
    → with_front o front (read >>= λ entries. Ok (e ∷ entries)) ≡ with_front (with_entry o e) (with_call front e) read
regroup o front e (Ok entries) = ap {B = Result Script Refusal} Ok (grown o front e entries)
regroup o front e (Err r) = refl

says : (o : Options) (front : List Line) (n : ℕ) (line : List ℕ) (lines : List (List ℕ)) (e : Entry) → entry_of n (is_called front) line ≡ Ok e
    → total o front n (line ∷ lines) ≡ total (with_entry o e) (with_call front e) (n + 1) lines
unfolding total entries_from
says o front n line lines e is = rw (is, called_grows front e) (regroup o front e (entries_from (n + 1) (is_called (with_call front e)) lines))

stops : (o : Options) (front : List Line) (n : ℕ) (line : List ℕ) (lines : List (List ℕ)) (cause : Cause) → entry_of n (is_called front) line ≡ Err cause
    → total o front n (line ∷ lines) ≡ Err (record { cause = cause; line = n })
unfolding total entries_from
stops o front n line lines cause e = rw e refl

is_done : (o : Options) (front : List Line) (n : ℕ) → total o front n [] ≡ Ok (record { options = o; lines = front })
unfolding total entries_from
is_done o front n = ap {B = Result Script Refusal} (λ lines. Ok (record { options = o; lines = lines })) (append-nil front)

-- at the start nothing was read
pub at_start : (bytes : List ℕ) → total usual_options [] 1 (lines_of bytes) ≡ script_of bytes
unfolding total script_of
at_start bytes = refl

-- the same at the rest of the bytes, whose first line was cut off
pub says_at : (o : Options) (front : List Line) (n : ℕ) (lines here : List (List ℕ)) (line : List ℕ) (e : Entry) (whole : Result Script Refusal) → here ≡ line ∷ lines
    → entry_of n (is_called front) line ≡ Ok e → total o front n here ≡ whole → total (with_entry o e) (with_call front e) (n + 1) lines ≡ whole
says_at o front n lines here line e whole cut is so_far = sym (says o front n line lines e is) ∙ ap (total o front n) (sym cut) ∙ so_far

pub stops_at : (o : Options) (front : List Line) (n : ℕ) (lines here : List (List ℕ)) (line : List ℕ) (cause : Cause) (whole : Result Script Refusal) → here ≡ line ∷ lines
    → entry_of n (is_called front) line ≡ Err cause → total o front n here ≡ whole → whole ≡ Err (record { cause = cause; line = n })
stops_at o front n lines here line cause whole cut e so_far = sym so_far ∙ ap (total o front n) cut ∙ stops o front n line lines cause e

pub ends_at : (o : Options) (front : List Line) (n : ℕ) (here : List (List ℕ)) (whole : Result Script Refusal) → here ≡ [] → total o front n here ≡ whole
    → whole ≡ Ok (record { options = o; lines = front })
ends_at o front n here whole cut so_far = sym so_far ∙ ap (total o front n) cut ∙ is_done o front n

-- what the error of a line says of the whole
pub errs_at : (o : Options) (front : List Line) (n : ℕ) (lines here : List (List ℕ)) (line : List ℕ) (err : LineErr) (called : Bool) (bytes : List ℕ) → here ≡ line ∷ lines
    → is_called front ≡ called → Gives {X = Entry} (Err err) (entry_of n called line) → total o front n here ≡ script_of bytes → IsRead bytes (Err (err_at n err))
errs_at o front n lines here line (errors.Cause cause) called bytes cut is e so_far =
    stops_at o front n lines here line cause (script_of bytes) cut (ap (λ t. entry_of n t line) is ∙ e) so_far
errs_at o front n lines here line errors.NoMemory called bytes cut is e so_far = tt
