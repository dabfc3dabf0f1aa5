-- The words that are written of a reply, and of a line, are read as they were
use Rattle.std.proofs.Common.{◌≡◌, ℕ, suc, ◌<◌, ◌≤◌, true, false, List, [], ◌∷◌, ◌++◌, length, map, Option, Some, None, refl, sym, ap, ◌∙◌, subst, arith, codes, append-nil}
use Rattle.std.specs.List.{list_all}
use Rattle.std.specs.Char.{is_ascii_digit}
use Rattle.std.specs.Fmt.{decimal}
use Rattle.std.specs.Str.{bytes_eq}
use Rattle.std.proofs.lemmas.Bool.{and_parts, le-leb, ne_eqb}
use Rattle.std.proofs.lemmas.Fmt.{decimal_nonempty}
use Rattle.az_base.specs.declared.block_id.BlockId.{BlockId}
use Rattle.az_base.specs.declared.misuse.Misuse.{Misuse}
use Rattle.az_base.specs.declared.misuse.Misuse.TheVariants as misuse
use Rattle.az_base.specs.Texts.{id_text}
use Rattle.az_words.specs.Numerals.{number_in}
use Rattle.az_words.specs.Laws.{NumbersAreRead}
use Rattle.az_words.proofs.NameLaws.{among_ok}
use Rattle.call_words.specs.Laws.{ArgumentsAreRead}
use Rattle.call_words.specs.Reading.Words.{thread_of, block_of}
use Rattle.call_words.specs.Reading.Calls.{next_as}
use Rattle.call_words.proofs.WordLaws.{id_from_parts}
use Rattle.zone_model.specs.declared.entry.Entry.{Entry}
use Rattle.zone_model.specs.declared.entry.Reply.{Reply}
use Rattle.zone_model.specs.declared.entry.Reply.TheVariants as reply
use Rattle.zone_model.specs.declared.entry.Stats.{Stats}
use Rattle.zone_model.specs.Bare.{bare_reply, bare_entry}
use Rattle.history_text.specs.declared.lines.HistoryLine.{HistoryLine}
use Rattle.history_text.specs.declared.lines.HistoryLine.TheVariants as line
use Rattle.call_words.specs.declared.options.OptionName.{OptionName}
use Rattle.call_words.specs.declared.options.OptionName.TheVariants as option
use Rattle.history_text.specs.declared.lines.Setting.{Setting}
use Rattle.history_text.specs.declared.names.ReplyName.{ReplyName}
use Rattle.history_text.specs.declared.names.ReplyName.TheVariants as names
use Rattle.call_words.specs.Options.{option_of, option_text, option_words, least}
use Rattle.history_text.specs.Names.{reply_name_of, reply_name_text}
use Rattle.call_words.specs.Ranges.{IsNumber, IsThread, IsId, IsSpelled}
use Rattle.history_text.specs.Ranges.{AreIds, AreStats, IsReply, IsEntry}
use Rattle.history_text.specs.Lines.{most, IsSetting, IsRanged, CanBeSpelled, setting_words, line_words, bare_line}
use Rattle.history_text.specs.Words.{ids_words, stats_words, reply_words, entry_words, end_words}
use Rattle.history_text.specs.Reading.{fixed_at, number_at, named_at, stats_at, ids_at, list_at, settled_by, misuse_of, reply_by, plain_reply, reply_of, entry_of, setting_to, setting_of, end_of, line_of}
use Rattle.call_words.proofs.OptionNames.{option_from}
use Rattle.call_words.proofs.WrittenNumbers.{decimal_in, decimal_digits, id_spelled, id_in}
use Rattle.history_text.proofs.ReadAgain.{call_again}

-- numbers
number_is : NumbersAreRead → (n : ℕ) → IsNumber n → number_in 0 18446744073709551615 (decimal n) ≡ Some n
number_is numbers n h = (numbers 0 18446744073709551615 (decimal n) n).1 (decimal_in 0 18446744073709551615 n (omega arith) h (omega arith))

next_number_is : NumbersAreRead → (n : ℕ) (left : List (List ℕ)) → IsNumber n → number_at (decimal n ∷ left) ≡ Some (n, left)
unfolding next_as
next_number_is numbers n left h = rw (number_is numbers n h) refl

thread_is : NumbersAreRead → (t : ℕ) (left : List (List ℕ)) → IsThread t → next_as thread_of (decimal t ∷ left) ≡ Some (t, left)
unfolding next_as thread_of
thread_is numbers t left h = rw ((numbers 1 16 (decimal t) t).1 (decimal_in 1 16 t h.0 h.1 (omega arith))) refl

id_read : NumbersAreRead → (id : BlockId) → IsId id → block_of (id_text id) ≡ Some id
id_read numbers id h = id_from_parts numbers (id_text id) id (id_in id h)

next_id_is : NumbersAreRead → (id : BlockId) (left : List (List ℕ)) → IsId id → next_as block_of (id_text id ∷ left) ≡ Some (id, left)
unfolding next_as
next_id_is numbers id left h = rw (id_read numbers id h) refl

-- words that begin with a digit
BeginsWithDigit : List ℕ → Type 0
BeginsWithDigit [] = ⊥
BeginsWithDigit (b ∷ bs) = is_ascii_digit b ≡ true

begins_by : (ds : List ℕ) → 0 < length ds → list_all is_ascii_digit ds ≡ true → (rest : List ℕ) → BeginsWithDigit (ds ++ rest)
unfolding BeginsWithDigit
begins_by [] l h rest = absurd (omega arith)
begins_by (b ∷ ds) l h rest = (and_parts (is_ascii_digit b) (list_all is_ascii_digit ds) h).0

decimal_begins : (n : ℕ) (rest : List ℕ) → IsNumber n → BeginsWithDigit (decimal n ++ rest)
decimal_begins n rest h = begins_by (decimal n) (decimal_nonempty n (omega arith)) (decimal_digits n (omega arith)) rest

number_begins : (n : ℕ) → IsNumber n → BeginsWithDigit (decimal n)
number_begins n h = subst BeginsWithDigit (append-nil (decimal n)) (decimal_begins n [] h)

id_begins : (id : BlockId) → IsId id → BeginsWithDigit (id_text id)
id_begins id h = subst BeginsWithDigit (sym (id_spelled id)) (decimal_begins id.thread (46 ∷ decimal id.serial) (omega (arith, h.0.1)))

no_letter : (name : ReplyName) → BeginsWithDigit (reply_name_text name) → ⊥
unfolding BeginsWithDigit
no_letter names.Done h = cc
no_letter names.Null h = cc
no_letter names.Busy h = cc
no_letter names.Begun h = cc
no_letter names.Condemned h = cc
no_letter names.Finalised h = cc
no_letter names.Reclaimed h = cc
no_letter names.Stats h = cc
no_letter names.Misuse h = cc

is_name : (word : List ℕ) (name : ReplyName) → reply_name_of word ≡ Some name → word ≡ reply_name_text name
unfolding reply_name_of
is_name word name e = among_ok reply_name_text (names.Done ∷ names.Null ∷ names.Busy ∷ names.Begun ∷ names.Condemned ∷ names.Finalised ∷ names.Reclaimed ∷ names.Stats ∷ names.Misuse ∷ []) word name e

no_name : (word : List ℕ) → BeginsWithDigit word → reply_name_of word ≡ None
no_name word h = by_name (reply_name_of word) refl
  where
    by_name : (o : Option ReplyName) → reply_name_of word ≡ o → reply_name_of word ≡ None
    by_name None e = e
    by_name (Some name) e = absurd (no_letter name (subst BeginsWithDigit (is_name word name e) h))

-- an id is no number
not_all : (front back : List ℕ) → list_all is_ascii_digit (front ++ 46 ∷ back) ≡ true → ⊥
not_all [] back h = cc
not_all (b ∷ front) back h = not_all front back (and_parts (is_ascii_digit b) (list_all is_ascii_digit (front ++ 46 ∷ back)) h).1

dotted : (id : BlockId) → list_all is_ascii_digit (id_text id) ≡ true → ⊥
dotted id h = not_all (decimal id.thread) (decimal id.serial) (sym (ap (list_all is_ascii_digit) (id_spelled id)) ∙ h)

not_number : NumbersAreRead → (id : BlockId) → number_in 0 18446744073709551615 (id_text id) ≡ None
not_number numbers id = by_number (number_in 0 18446744073709551615 (id_text id)) refl
  where
    by_number : (o : Option ℕ) → number_in 0 18446744073709551615 (id_text id) ≡ o → number_in 0 18446744073709551615 (id_text id) ≡ None
    by_number None e = e
    by_number (Some n) e = absurd (dotted id ((numbers 0 18446744073709551615 (id_text id) n).0 e).numeral.digits)

-- a word that begins with a digit isn't one that begins with another byte
other_first : (word text : List ℕ) (c : ℕ) → BeginsWithDigit word → is_ascii_digit c ≡ false → bytes_eq word (c ∷ text) ≡ false
unfolding BeginsWithDigit
other_first [] text c h e = absurd h
other_first (b ∷ word) text c h e = rw (ne_eqb b c (λ same. digit_both b c same h e)) refl
  where
    digit_both : (b c : ℕ) → b ≡ c → is_ascii_digit b ≡ true → is_ascii_digit c ≡ false → ⊥
    digit_both b c same h e = let k : true ≡ false = sym h ∙ ap is_ascii_digit same ∙ e in cc

-- lists of ids, up to what ends them
IsEnd : List (List ℕ) → Type 0
IsEnd [] = Unit {0}
IsEnd (word ∷ words) = word ≡ codes "kept"

ids_end : (left : List (List ℕ)) → IsEnd left → ids_at left ≡ Some ([], left)
unfolding IsEnd
ids_end [] h = refl
ids_end (word ∷ words) h = subst (λ w. ids_at (w ∷ words) ≡ Some ([], w ∷ words)) (sym h) refl

ids_are : NumbersAreRead → (ids : List BlockId) (left : List (List ℕ)) → AreIds ids → IsEnd left → ids_at (map id_text ids ++ left) ≡ Some (ids, left)
ids_are numbers [] left h e = ids_end left e
ids_are numbers (id ∷ ids) left h e =
    let first = h 0 id (omega arith) in
    rw (other_first (id_text id) _ 107 (id_begins id first) refl, id_read numbers id first, ids_are numbers ids left (λ k d l. h (suc k) d (omega arith)) e) refl

list_is : NumbersAreRead → (ids : List BlockId) (left : List (List ℕ)) → AreIds ids → IsEnd left → list_at (ids_words ids ++ left) ≡ Some (ids, left)
unfolding list_at ids_words
list_is numbers [] left h e = refl
list_is numbers (id ∷ ids) left h e = rw (other_first (id_text id) _ 110 (id_begins id (h 0 id (omega arith))) refl) (ids_are numbers (id ∷ ids) left h e)

-- statistics
named_is : NumbersAreRead → (name : List ℕ) (n : ℕ) (left : List (List ℕ)) → bytes_eq name name ≡ true → IsNumber n → named_at name (name ∷ decimal n ∷ left) ≡ Some (n, left)
unfolding named_at fixed_at
named_is numbers name n left same h = rw same (next_number_is numbers n left h)

stats_are : NumbersAreRead → (s : Stats) (left : List (List ℕ)) → AreStats s
    → stats_at (decimal s.blocks ∷ codes "quanta" ∷ decimal s.quanta ∷ codes "retained" ∷ decimal s.retained ∷ codes "weak" ∷ decimal s.weak ∷ codes "assocs" ∷ decimal s.assocs ∷ left) ≡ Some (s, left)
unfolding stats_at
stats_are numbers s left h = rw (
  next_number_is numbers s.blocks _ h.0,
  named_is numbers (codes "quanta") s.quanta _ refl h.1,
  named_is numbers (codes "retained") s.retained _ refl h.2,
  named_is numbers (codes "weak") s.weak _ refl h.3,
  named_is numbers (codes "assocs") s.assocs left refl h.4,
) refl

-- misuses
misuse_again : NumbersAreRead → (m : Misuse) → reply_of (reply_words (reply.Misuse m)) ≡ Some (reply.Misuse m)
unfolding reply_of reply_words reply_name_of reply_by misuse_of
misuse_again numbers misuse.NullBlock = rw (next_number_is numbers 1 _ (omega arith)) refl
misuse_again numbers misuse.NoWord = rw (next_number_is numbers 2 _ (omega arith)) refl
misuse_again numbers misuse.WrongClass = rw (next_number_is numbers 3 _ (omega arith)) refl
misuse_again numbers misuse.OverRelease = rw (next_number_is numbers 4 _ (omega arith)) refl
misuse_again numbers misuse.CountFull = rw (next_number_is numbers 5 _ (omega arith)) refl
misuse_again numbers misuse.SerialsUsed = rw (next_number_is numbers 6 _ (omega arith)) refl
misuse_again numbers misuse.ZoneFull = rw (next_number_is numbers 7 _ (omega arith)) refl
misuse_again numbers misuse.NotHeld = rw (next_number_is numbers 8 _ (omega arith)) refl

one_list : NumbersAreRead → (ids : List BlockId) → AreIds ids → list_at (ids_words ids) ≡ Some (ids, [])
unfolding IsEnd
one_list numbers ids h = ap list_at (sym (append-nil (ids_words ids))) ∙ list_is numbers ids [] h tt

is_end : (words : List (List ℕ)) → IsEnd (codes "kept" ∷ words)
unfolding IsEnd
is_end words = refl

settled_one : (gone : List BlockId) → settled_by gone [] ≡ Some (reply.Reclaimed (record { list = gone; spare = 0 }))
unfolding settled_by
settled_one gone = refl

settled_two : NumbersAreRead → (gone kept : List BlockId) → AreIds kept
    → settled_by gone (codes "kept" ∷ ids_words kept) ≡ Some (reply.Settled (record { list = gone; spare = 0 }) (record { list = kept; spare = 0 }))
unfolding settled_by
settled_two numbers gone kept h = rw (one_list numbers kept h) refl

-- a reply that is one word, which begins with a digit
plain : (word : List ℕ) → BeginsWithDigit word → reply_of (word ∷ []) ≡ plain_reply (number_in 0 18446744073709551615 word) (word ∷ [])
unfolding reply_of
plain word h = rw (no_name word h) refl

id_again : NumbersAreRead → (id : BlockId) → IsId id → reply_of (id_text id ∷ []) ≡ Some (reply.Block (Some id))
unfolding plain_reply
id_again numbers id h = plain (id_text id) (id_begins id h) ∙ rw (not_number numbers id, next_id_is numbers id [] h) refl

number_again : NumbersAreRead → (n : ℕ) → IsNumber n → reply_of (decimal n ∷ []) ≡ Some (reply.Number n)
unfolding plain_reply
number_again numbers n h = plain (decimal n) (number_begins n h) ∙ rw (number_is numbers n h) refl

stats_again : NumbersAreRead → (s : Stats) → AreStats s → reply_of (stats_words s) ≡ Some (reply.Stats s)
unfolding reply_of stats_words reply_name_of reply_by
stats_again numbers s h = rw (stats_are numbers s [] h) refl

pub reply_again : NumbersAreRead → (r : Reply) → IsReply r → reply_of (reply_words r) ≡ Some (bare_reply r)
unfolding reply_of reply_words reply_name_of reply_by
reply_again numbers reply.Done h = refl
reply_again numbers (reply.Block None) h = refl
reply_again numbers (reply.Block (Some id)) h = id_again numbers id h
reply_again numbers (reply.Number n) h = number_again numbers n h
reply_again numbers reply.Busy h = refl
reply_again numbers reply.Begun h = refl
reply_again numbers (reply.Condemned r) h = rw (one_list numbers r.list h) refl
reply_again numbers (reply.Finalised id) h = rw (next_id_is numbers id [] h) refl
reply_again numbers (reply.Reclaimed gone) h = rw (one_list numbers gone.list h) (settled_one gone.list)
reply_again numbers (reply.Settled gone kept) h = rw (list_is numbers gone.list (codes "kept" ∷ ids_words kept.list) h.0 (is_end (ids_words kept.list))) (settled_two numbers gone.list kept.list h.1)
reply_again numbers (reply.Stats s) h = stats_again numbers s h
reply_again numbers (reply.Misuse m) h = misuse_again numbers m

-- an entry
equals_is : (left : List (List ℕ)) → fixed_at (codes "=") (codes "=" ∷ left) ≡ Some (tt, left)
unfolding fixed_at
equals_is left = refl

pub entry_again : NumbersAreRead → ArgumentsAreRead → (e : Entry) → IsEntry e → IsSpelled e.call → entry_of (entry_words e) ≡ Some (bare_entry e)
unfolding entry_of entry_words
entry_again numbers asks e h s = rw (
  thread_is numbers e.thread _ h.thread,
  call_again asks e.call (reply_words e.reply) h.call s,
  equals_is (reply_words e.reply),
  reply_again numbers e.reply h.reply,
) refl

-- an option
in_range : (name : OptionName) (n : ℕ) → least name ≤ n → n ≤ most name → setting_to name n ≡ Some (record { name = name; number = n })
in_range name n l h = rw (le-leb (least name) n l, le-leb n (most name) h) refl

below_all : (name : OptionName) (n : ℕ) → n ≤ most name → n ≤ 18446744073709551615
below_all option.Heap n h = omega arith
below_all option.Local n h = omega arith
below_all option.Serials n h = omega arith
below_all option.Counts n h = omega arith
below_all option.Pending n h = omega arith

option_is : (name : OptionName) (left : List (List ℕ)) → next_as option_of (option_text name ∷ left) ≡ Some (name, left)
unfolding next_as
option_is name left = rw (option_from name) refl

setting_again : NumbersAreRead → (s : Setting) → IsSetting s → line_of (setting_words s) ≡ Some (line.Setting s)
unfolding line_of setting_words option_words setting_of
setting_again numbers s h = rw (option_is s.name (decimal s.number ∷ []), next_number_is numbers s.number [] (below_all s.name s.number h.1), in_range s.name s.number h.0 h.1) refl

end_again : NumbersAreRead → (count : ℕ) (s : Stats) → IsNumber count → AreStats s → line_of (end_words count s) ≡ Some (line.End count s)
unfolding line_of end_words end_of stats_words fixed_at
end_again numbers count s h hs = rw (named_is numbers (codes "entries") count _ refl h, stats_are numbers s [] hs) refl

Begun : List (List ℕ) → Type 0
Begun [] = ⊥
Begun (word ∷ words) = BeginsWithDigit word

thread_begins : (e : Entry) → IsEntry e → Begun (entry_words e)
unfolding entry_words Begun
thread_begins e h = number_begins e.thread (omega (arith, h.thread.1))

entry_by_words : (e : Entry) (words : List (List ℕ)) → entry_of words ≡ Some e → Begun words → line_of words ≡ Some (line.Entry e)
unfolding line_of Begun
entry_by_words e [] read b = absurd b
entry_by_words e (word ∷ words) read b = rw (other_first word _ 111 b refl, other_first word _ 101 b refl, read) refl

entry_line : NumbersAreRead → ArgumentsAreRead → (e : Entry) → IsEntry e → IsSpelled e.call → line_of (entry_words e) ≡ Some (line.Entry (bare_entry e))
entry_line numbers asks e h s = entry_by_words (bare_entry e) (entry_words e) (entry_again numbers asks e h s) (thread_begins e h)

-- what is written of a line is read as this line
pub line_again : NumbersAreRead → ArgumentsAreRead → (h : HistoryLine) → IsRanged h → CanBeSpelled h → line_of (line_words h) ≡ Some (bare_line h)
unfolding line_words
line_again numbers asks (line.Setting s) r p = setting_again numbers s r
line_again numbers asks (line.Entry e) r p = entry_line numbers asks e r p
line_again numbers asks (line.End count s) r p = end_again numbers count s r.0 r.1
