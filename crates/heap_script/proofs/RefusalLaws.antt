-- Bytes are refused at their first line that has a cause.
use Rattle.std.proofs.Common.{◌≡◌, ℕ, ◌+◌, Bool, true, false, cond, not, nat_lt, suc, List, [], ◌∷◌, ◌++◌, length, Option, Some, None, Result, Ok, Err, ◌⊎◌, inl, inr, refl, sym, ap, ◌∙◌, subst, arith}
use Rattle.std.specs.Str.{IsUtf8, is_utf8}
use Rattle.std.proofs.lemmas.Bool.{ltb-true, ltb-false, lt-ltb, le-ltb, false_from_ne_true}
use Rattle.std.proofs.lemmas.Str.{IsUtf8-from_is_utf8, is_utf8-from_IsUtf8}
use Rattle.az_words.specs.Lines.{lines_of}
use Rattle.az_words.specs.Words.{words_of}
use Rattle.heap_script.specs.declared.cause.Cause.{Cause}
use Rattle.heap_script.specs.declared.cause.Cause.TheVariants.{NotText, LineTooLong, TooManyLines, NoThread, NoCall, WrongArgument, TooManyArguments}
use Rattle.heap_script.specs.declared.entries.Entry.{Entry}
use Rattle.heap_script.specs.declared.entries.Entry.TheVariants as entry
use Rattle.heap_script.specs.declared.line.Line.{Line}
use Rattle.heap_script.specs.declared.setting.Setting.{Setting}
use Rattle.heap_script.specs.Lines.{IsFit, is_skipped, called_after}
use Rattle.heap_script.specs.Refusals.{after_option, CauseBy, SaysWords, HasCause, Refusal}
use Rattle.heap_script.specs.Scripts.{calls_of, is_called, IsRefused}
use Rattle.heap_script.specs.Reading.Scripts.{◌>>=◌, line_of, setting_of, entry_by, entry_at, entry_of, at_line, entries_from, script_of}
use Rattle.heap_script.specs.Laws.{LinesAreRead, LinesAreRefused, OptionsAreRead, OptionsAreRefused}
use Rattle.heap_script.proofs.Steps.{bind_ok, bind_err, ok_same, ok_is_not_err}
use Rattle.heap_script.proofs.EntrySteps.{not_not, at_line_ok}
use Rattle.heap_script.proofs.ScriptLaws.{entry_from, said_ok, said_from, goes_on}

-- whether a call line came, once these lines have come too
came_after : Bool → List Entry → Bool
came_after true entries = true
came_after false entries = is_called (calls_of entries)

after_more : (called : Bool) (e : Entry) (entries : List Entry) → came_after (called_after called e) entries ≡ came_after called (e ∷ entries)
unfolding came_after
after_more true entry.Nothing entries = refl
after_more true (entry.Set set) entries = refl
after_more true (entry.Call line) entries = refl
after_more false entry.Nothing entries = refl
after_more false (entry.Set set) entries = refl
after_more false (entry.Call line) entries = refl

-- the lines before are read, and this one has a cause
record Stops (n : ℕ) (called : Bool) (pieces : List (List ℕ)) (refusal : Refusal) : Type 0 where
  before : List (List ℕ)
  line : List ℕ
  after : List (List ℕ)
  entries : List Entry
  cut : pieces ≡ before ++ line ∷ after
  number : refusal.line ≡ length before + n
  said : entries_from n called before ≡ Ok entries
  cause : entry_of refusal.line (came_after called entries) line ≡ Err refusal.cause

at_line_err : {A : Type 0} (n : ℕ) (r : Result A Cause) (refusal : Refusal) → at_line n r ≡ Err refusal → (r ≡ Err refusal.cause) × (refusal.line ≡ n)
at_line_err n (Ok x) refusal e = cc
at_line_err n (Err c) refusal e = (cc, cc)

nothing_after : (called : Bool) → came_after called [] ≡ called
unfolding came_after
nothing_after true = refl
nothing_after false = refl

stops_here : (n : ℕ) (called : Bool) (piece : List ℕ) (pieces : List (List ℕ)) (refusal : Refusal) → (entry_of n called piece ≡ Err refusal.cause) × (refusal.line ≡ n) → Stops n called (piece ∷ pieces) refusal
unfolding entries_from
stops_here n called piece pieces refusal h =
    record {
      before = [];
      line = piece;
      after = pieces;
      entries = [];
      cut = refl;
      number = omega (arith, h.1);
      said = refl;
      cause = rw (h.1, nothing_after called) h.0;
    }

stops_later : (n : ℕ) (called : Bool) (piece : List ℕ) (pieces : List (List ℕ)) (refusal : Refusal) (e : Entry) → entry_of n called piece ≡ Ok e
    → Stops (n + 1) (called_after called e) pieces refusal → Stops n called (piece ∷ pieces) refusal
stops_later n called piece pieces refusal e first h =
    record {
      before = piece ∷ h.before;
      line = h.line;
      after = h.after;
      entries = e ∷ h.entries;
      cut = ap (λ ps. piece ∷ ps) h.cut;
      number = omega (arith, h.number);
      said = goes_on n called piece h.before e h.entries first h.said;
      cause = ap (λ t. entry_of refusal.line t h.line) (sym (after_more called e h.entries)) ∙ h.cause;
    }

stops_ok : (n : ℕ) (called : Bool) (pieces : List (List ℕ)) (refusal : Refusal) → entries_from n called pieces ≡ Err refusal → Stops n called pieces refusal
unfolding entries_from
stops_ok n called [] refusal e = absurd (ok_is_not_err {A = List Entry} [] refusal e)
stops_ok n called (piece ∷ pieces) refusal e =
    elim (bind_err (at_line n (entry_of n called piece)) _ refusal e) [
      | inl h ↦ stops_here n called piece pieces refusal (at_line_err n (entry_of n called piece) refusal h)
      | inr a ↦
          elim (bind_err (entries_from (n + 1) (called_after called a.0) pieces) _ refusal a.2) [
            | inl h ↦ stops_later n called piece pieces refusal a.0 (at_line_ok n (entry_of n called piece) a.0 a.1) (stops_ok (n + 1) (called_after called a.0) pieces refusal h)
            | inr b ↦ absurd (ok_is_not_err _ refusal b.2)
          ]
    ]

stops_from : (n : ℕ) (called : Bool) (before : List (List ℕ)) (line : List ℕ) (after : List (List ℕ)) (entries : List Entry) (cause : Cause) → entries_from n called before ≡ Ok entries
    → entry_of (length before + n) (came_after called entries) line ≡ Err cause → entries_from n called (before ++ line ∷ after) ≡ Err (record { cause = cause; line = length before + n })
unfolding entries_from
stops_from n called [] line after entries cause said here =
    let none : entries ≡ [] = sym (ok_same [] entries said) in
    let count : n ≡ length {A = List ℕ} [] + n = omega arith in
    let here' : entry_of n called line ≡ Err cause =
    ap (λ m. entry_of m called line) count ∙ ap (λ t. entry_of (length {A = List ℕ} [] + n) t line) (sym (ap (came_after called) none ∙ nothing_after called)) ∙ here in
    rw here' (ap (λ m. Err (record { cause = cause; line = m })) count)
stops_from n called (piece ∷ before) line after entries cause said here =
    let a = bind_ok (at_line n (entry_of n called piece)) _ entries said in
    let b = bind_ok (entries_from (n + 1) (called_after called a.0) before) _ entries a.2 in
    let all : a.0 ∷ b.0 ≡ entries = ok_same _ entries b.2 in
    let count : length before + (n + 1) ≡ suc (length before) + n = omega arith in
    let here' : entry_of (length before + (n + 1)) (came_after (called_after called a.0) b.0) line ≡ Err cause =
    ap (λ m. entry_of m (came_after (called_after called a.0) b.0) line) count ∙ ap (λ t. entry_of (suc (length before) + n) t line) (after_more called a.0 b.0 ∙ ap (came_after called) all) ∙ here in
    let rest = stops_from (n + 1) (called_after called a.0) before line after b.0 cause b.1 here' in
    rw (a.1, rest) (ap (λ m. Err (record { cause = cause; line = m })) count)

-- an error came from the first choice, or from what follows it
either : {A : Type 0} (b : Bool) (c d : Cause) (r : Result A Cause) → cond b (Err c) r ≡ Err d → ((b ≡ true) × (d ≡ c)) ⊎ ((b ≡ false) × (r ≡ Err d))
either true c d r e = inl (refl, cc)
either false c d r e = inr (refl, e)

-- a line with words that has a cause was no comment
unshown : (b : Bool) (read : Result Entry Cause) (d : Cause) → cond b (Ok entry.Nothing) read ≡ Err d → (b ≡ false) × (read ≡ Err d)
unshown true read d e = cc
unshown false read d e = (refl, e)

set_err : (read : Result Setting Cause) (d : Cause) → (read >>= λ set. Ok (entry.Set set)) ≡ Err d → read ≡ Err d
set_err (Ok set) d e = cc
set_err (Err c) d e = cc

call_err : (read : Result Line Cause) (d : Cause) → (read >>= λ line. Ok (entry.Call line)) ≡ Err d → read ≡ Err d
call_err (Ok line) d e = cc
call_err (Err c) d e = cc

by_ok : (law : LinesAreRefused) → (options : OptionsAreRefused) → (words : List (List ℕ)) (o : Option (List (List ℕ))) (c : Cause) → entry_by words o ≡ Err c → CauseBy words o c
unfolding entry_by
by_ok law options words (Some others) c e = (options others c).0 (set_err (setting_of others) c e)
by_ok law options words None c e = (law words c).0 (call_err (line_of words) c e)

by_from : (law : LinesAreRefused) → (options : OptionsAreRefused) → (words : List (List ℕ)) (o : Option (List (List ℕ))) (c : Cause) → CauseBy words o c → entry_by words o ≡ Err c
unfolding entry_by
by_from law options words (Some others) c h = rw ((options others c).1 h) refl
by_from law options words None c h = rw ((law words c).1 h) refl

caused : (n : ℕ) (called : Bool) (line : List ℕ) (c d : Cause) → d ≡ c → HasCause n called line c → HasCause n called line d
caused n called line c d e h = subst (HasCause n called line) (sym e) h

no_whole : (words : List (List ℕ)) (o : Option (List (List ℕ))) → (CauseBy words o NotText → ⊥) × (CauseBy words o LineTooLong → ⊥) × (CauseBy words o TooManyLines → ⊥)
no_whole words (Some others) = (λ h. h, λ h. h, λ h. h)
no_whole words None = (λ h. h, λ h. h, λ h. h)

-- a cause of the words
of_words : (n : ℕ) (called : Bool) (line : List ℕ) (c : Cause) → SaysWords n line → CauseBy (words_of line) (after_option called (words_of line)) c → HasCause n called line c
of_words n called line NotText s h = absurd ((no_whole (words_of line) (after_option called (words_of line))).0 h)
of_words n called line LineTooLong s h = absurd ((no_whole (words_of line) (after_option called (words_of line))).1 h)
of_words n called line TooManyLines s h = absurd ((no_whole (words_of line) (after_option called (words_of line))).2 h)
of_words n called line NoThread s h = (s, h)
of_words n called line NoCall s h = (s, h)
of_words n called line WrongArgument s h = (s, h)
of_words n called line TooManyArguments s h = (s, h)

is_text_by : (line : List ℕ) → not (is_utf8 line) ≡ false → IsUtf8 line
is_text_by line e = IsUtf8-from_is_utf8 line (not_not (is_utf8 line) e)

no_text : (b : Bool) → not b ≡ true → b ≡ true → ⊥
no_text true e f = cc
no_text false e f = cc

cause_ok : (law : LinesAreRefused) → (options : OptionsAreRefused) → (n : ℕ) (called : Bool) (line : List ℕ) (c : Cause) → entry_of n called line ≡ Err c → HasCause n called line c
unfolding entry_of
cause_ok law options n called line c e =
    elim (either (not (is_utf8 line)) NotText c _ e) [
      | inl h ↦ caused n called line NotText c h.1 (λ text. no_text (is_utf8 line) h.0 (is_utf8-from_IsUtf8 line text))
      | inr a ↦
          elim (either (nat_lt 8192 (length line)) LineTooLong c _ a.1) [
            | inl h ↦ caused n called line LineTooLong c h.1 (is_text_by line a.0, ltb-true 8192 (length line) h.0)
            | inr b ↦
                (let fit : IsFit line = record { text = is_text_by line a.0; short = ltb-false 8192 (length line) b.0 } in
                elim (either (nat_lt 65536 n) TooManyLines c _ b.1) [
                  | inl h ↦ caused n called line TooManyLines c h.1 (fit, ltb-true 65536 n h.0)
                  | inr d ↦
                      (let s = unshown (is_skipped (words_of line)) (entry_by (words_of line) (after_option called (words_of line))) c d.1 in
                      of_words n called line c (record { fit = fit; few = ltb-false 65536 n d.0; says = s.0 }) (by_ok law options (words_of line) (after_option called (words_of line)) c s.1))
                ])
          ]
    ]

-- a cause of the words is that of the line
from_words : (law : LinesAreRefused) → (options : OptionsAreRefused) → (n : ℕ) (called : Bool) (line : List ℕ) (c : Cause) → SaysWords n line
    → CauseBy (words_of line) (after_option called (words_of line)) c → entry_of n called line ≡ Err c
from_words law options n called line c s h =
    let read = by_from law options (words_of line) (after_option called (words_of line)) c h in
    let says : entry_at called (words_of line) ≡ Err c = rw s.says read in
    entry_from n called line s.fit s.few ∙ says

cause_from : (law : LinesAreRefused) → (options : OptionsAreRefused) → (n : ℕ) (called : Bool) (line : List ℕ) (c : Cause) → HasCause n called line c → entry_of n called line ≡ Err c
unfolding entry_of
cause_from law options n called line NotText h =
    let text : is_utf8 line ≡ false = false_from_ne_true (is_utf8 line) (λ e. h (IsUtf8-from_is_utf8 line e)) in
    rw text refl
cause_from law options n called line LineTooLong h =
    let text : is_utf8 line ≡ true = is_utf8-from_IsUtf8 line h.0 in
    let long : nat_lt 8192 (length line) ≡ true = lt-ltb 8192 (length line) h.1 in
    rw (text, long) refl
cause_from law options n called line TooManyLines h =
    let text : is_utf8 line ≡ true = is_utf8-from_IsUtf8 line h.0.text in
    let short : nat_lt 8192 (length line) ≡ false = le-ltb 8192 (length line) h.0.short in
    let many : nat_lt 65536 n ≡ true = lt-ltb 65536 n h.1 in
    rw (text, short, many) refl
cause_from law options n called line NoThread h = from_words law options n called line NoThread h.0 h.1
cause_from law options n called line NoCall h = from_words law options n called line NoCall h.0 h.1
cause_from law options n called line WrongArgument h = from_words law options n called line WrongArgument h.0 h.1
cause_from law options n called line TooManyArguments h = from_words law options n called line TooManyArguments h.0 h.1

of_stops : (law : LinesAreRead) → (refusals : LinesAreRefused) → (options : OptionsAreRead) → (wrong : OptionsAreRefused) → (bytes : List ℕ) (refusal : Refusal) → Stops 1 false (lines_of bytes) refusal → IsRefused bytes refusal
unfolding came_after
of_stops law refusals options wrong bytes refusal h =
    record {
      before = h.before;
      line = h.line;
      after = h.after;
      entries = h.entries;
      cut = h.cut;
      number = h.number;
      said = said_ok law options h.before h.entries h.said;
      cause = cause_ok refusals wrong refusal.line (is_called (calls_of h.entries)) h.line refusal.cause h.cause;
    }

pub refusal_ok : (law : LinesAreRead) → (refusals : LinesAreRefused) → (options : OptionsAreRead) → (wrong : OptionsAreRefused) → (bytes : List ℕ) (refusal : Refusal) → script_of bytes ≡ Err refusal → IsRefused bytes refusal
unfolding script_of
refusal_ok law refusals options wrong bytes refusal e =
    elim (bind_err (entries_from 1 false (lines_of bytes)) _ refusal e) [
      | inl h ↦ of_stops law refusals options wrong bytes refusal (stops_ok 1 false (lines_of bytes) refusal h)
      | inr a ↦ absurd (ok_is_not_err _ refusal a.2)
    ]

pub refusal_from : (law : LinesAreRead) → (refusals : LinesAreRefused) → (options : OptionsAreRead) → (wrong : OptionsAreRefused) → (bytes : List ℕ) (refusal : Refusal) → IsRefused bytes refusal → script_of bytes ≡ Err refusal
unfolding script_of came_after
refusal_from law refusals options wrong bytes refusal h =
    let called = is_called (calls_of h.entries) in
    let said : entries_from 1 false h.before ≡ Ok h.entries = said_from law options h.before h.entries h.said in
    let here : entry_of refusal.line called h.line ≡ Err refusal.cause = cause_from refusals wrong refusal.line called h.line refusal.cause h.cause in
    let here' : entry_of (length h.before + 1) called h.line ≡ Err refusal.cause = ap (λ m. entry_of m called h.line) (sym h.number) ∙ here in
    let all : entries_from 1 false (lines_of bytes) ≡ Err (record { cause = refusal.cause; line = length h.before + 1 }) =
    ap (entries_from 1 false) h.cut ∙ stops_from 1 false h.before h.line h.after h.entries refusal.cause said here' in
    rw all (ap (λ m. Err (record { cause = refusal.cause; line = m })) (sym h.number))
