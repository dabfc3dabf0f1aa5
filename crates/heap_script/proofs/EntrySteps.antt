-- What a line was read as
use Rattle.std.proofs.Common.{◌≡◌, ℕ, ◌≤◌, Bool, true, false, cond, List, length, Option, Some, None, Result, Ok, Err, refl, subst, not, nat_lt}
use Rattle.std.specs.Str.{is_utf8}
use Rattle.std.proofs.lemmas.Bool.{ltb-false}
use Rattle.std.proofs.lemmas.Str.{IsUtf8-from_is_utf8}
use Rattle.az_words.specs.Words.{words_of}
use Rattle.heap_script.specs.declared.cause.Cause.{Cause}
use Rattle.heap_script.specs.declared.cause.Cause.TheVariants.{NotText, LineTooLong, TooManyLines}
use Rattle.heap_script.specs.declared.entries.Entry.{Entry}
use Rattle.heap_script.specs.declared.entries.Entry.TheVariants as entry
use Rattle.heap_script.specs.Lines.{IsFit, is_skipped}
use Rattle.heap_script.specs.Refusals.{after_option}
use Rattle.heap_script.specs.Reading.Scripts.{line_of, setting_of, entry_by, entry_of, at_line}
use Rattle.heap_script.proofs.Steps.{passed, bind_ok, ok_same}

-- what the words of a line were read as
abbrev pub Shown : Bool → List (List ℕ) → Entry → Type 0
Shown called words entry.Nothing = is_skipped words ≡ true
Shown called words (entry.Set set) = (is_skipped words ≡ false) × (others : List (List ℕ)) × (after_option called words ≡ Some others) × (setting_of others ≡ Ok set)
Shown called words (entry.Call line) = (is_skipped words ≡ false) × (after_option called words ≡ None) × (line_of words ≡ Ok line)

shown_by : (called : Bool) (words : List (List ℕ)) (b : Bool) (o : Option (List (List ℕ))) (e : Entry) → is_skipped words ≡ b → after_option called words ≡ o
    → cond b (Ok entry.Nothing) (entry_by words o) ≡ Ok e → Shown called words e
unfolding entry_by
shown_by called words true o e s a h = subst (Shown called words) (ok_same entry.Nothing e h) s
shown_by called words false (Some others) e s a h =
    let r = bind_ok (setting_of others) _ e h in
    let start : Shown called words (entry.Set r.0) = (s, others, a, r.1) in
    subst (Shown called words) (ok_same _ e r.2) start
shown_by called words false None e s a h =
    let r = bind_ok (line_of words) _ e h in
    let start : Shown called words (entry.Call r.0) = (s, a, r.1) in
    subst (Shown called words) (ok_same _ e r.2) start

-- a line that isn't refused
pub record Passes (n : ℕ) (called : Bool) (bytes : List ℕ) (e : Entry) : Type 0 where
  pub fit : IsFit bytes
  pub few : n ≤ 65536
  pub says : Shown called (words_of bytes) e

pub not_not : (b : Bool) → not b ≡ false → b ≡ true
not_not true e = refl
not_not false e = cc

pub entry_ok : (n : ℕ) (called : Bool) (bytes : List ℕ) (e : Entry) → entry_of n called bytes ≡ Ok e → Passes n called bytes e
unfolding entry_of
entry_ok n called bytes e h =
    let a = passed (not (is_utf8 bytes)) NotText _ _ h in
    let b = passed (nat_lt 8192 (length bytes)) LineTooLong _ _ a.1 in
    let c = passed (nat_lt 65536 n) TooManyLines _ _ b.1 in
    record {
      fit = record { text = IsUtf8-from_is_utf8 bytes (not_not (is_utf8 bytes) a.0); short = ltb-false 8192 (length bytes) b.0 };
      few = ltb-false 65536 n c.0;
      says = shown_by called (words_of bytes) (is_skipped (words_of bytes)) (after_option called (words_of bytes)) e refl refl c.1;
    }

pub at_line_ok : {A : Type 0} (n : ℕ) (r : Result A Cause) (x : A) → at_line n r ≡ Ok x → r ≡ Ok x
at_line_ok n (Ok y) x e = cc
at_line_ok n (Err d) x e = cc
