-- Lines have one text, and texts one line
use Rattle.std.proofs.Common.{◌≡◌, ℕ, ◌≤◌, suc, Bool, true, not, List, [], ◌∷◌, ◌++◌, map, Option, Some, None, Err, refl, sym, ap, ◌∙◌, arith, codes}
use Rattle.std.specs.List.{list_all}
use Rattle.std.proofs.lemmas.Bool.{and_parts}
use Rattle.std.specs.Fmt.{decimal}
use Rattle.az_base.specs.declared.block_id.BlockId.{BlockId}
use Rattle.az_base.specs.declared.misuse.Misuse.{Misuse}
use Rattle.az_base.specs.declared.misuse.Misuse.TheVariants as misuse
use Rattle.az_base.specs.Texts.{id_text, misuse_name}
use Rattle.az_words.specs.Lines.{is_feed}
use Rattle.az_words.specs.Words.{words_of}
use Rattle.az_words.specs.Laws.{NumbersAreRead}
use Rattle.call_words.specs.Laws.{ArgumentsAreRead}
use Rattle.zone_model.specs.declared.call.Call.{Call}
use Rattle.zone_model.specs.declared.act.Act.TheVariants as act
use Rattle.zone_model.specs.declared.entry.Entry.{Entry}
use Rattle.zone_model.specs.declared.entry.Reply.{Reply}
use Rattle.zone_model.specs.declared.entry.Reply.TheVariants as reply
use Rattle.zone_model.specs.declared.entry.Stats.{Stats}
use Rattle.history_text.specs.declared.lines.HistoryLine.{HistoryLine}
use Rattle.history_text.specs.declared.lines.HistoryLine.TheVariants as line
use Rattle.call_words.specs.declared.options.OptionName.{OptionName}
use Rattle.call_words.specs.declared.options.OptionName.TheVariants as option
use Rattle.call_words.specs.Spacing.{spaced, IsPlain, ArePlain}
use Rattle.call_words.specs.Ranges.{IsNumber, IsCall, IsSpelled}
use Rattle.history_text.specs.Ranges.{AreIds, AreStats, IsReply, IsEntry}
use Rattle.call_words.specs.declared.argument_err.ArgumentErr.{ArgumentErr}
use Rattle.call_words.specs.declared.argument_err.ArgumentErr.TheVariants as errors
use Rattle.zone_model.specs.Bare.{bare_reply, bare_entry}
use Rattle.history_text.specs.Lines.{most, IsRanged, HasNumbers, CanBeSpelled, IsLine, Says, bare_line, line_text, line_words, setting_words}
use Rattle.history_text.specs.Words.{ids_words, stats_words, reply_words, entry_words, end_words}
use Rattle.history_text.specs.Reading.{Gives, line_of}
use Rattle.call_words.specs.Words.{words_of_call, act_words}
use Rattle.call_words.specs.Options.{option_words}
use Rattle.call_words.proofs.PlainWords.{is_shown, not_feed, words_are_cut, spaced_shown, plain_together}
use Rattle.call_words.proofs.OptionNames.{option_plain}
use Rattle.call_words.proofs.WrittenNumbers.{decimal_plain, id_plain}
use Rattle.call_words.proofs.WrittenActs.{plain}
use Rattle.history_text.proofs.RepliesAgain.{line_again}
use Rattle.history_text.proofs.Found.{line_found}

num : (n : ℕ) → IsNumber n → IsPlain (decimal n)
num n h = decimal_plain n (omega arith)

ids_map : (ids : List BlockId) → AreIds ids → ArePlain (map id_text ids)
ids_map [] h = tt
ids_map (id ∷ ids) h = (id_plain id (h 0 id (omega arith)), ids_map ids (λ k d l. h (suc k) d (omega arith)))

ids_are_words : (ids : List BlockId) → AreIds ids → ArePlain (ids_words ids)
unfolding ids_words
ids_are_words [] h = (record { some = omega arith; visible = refl }, tt)
ids_are_words (id ∷ ids) h = ids_map (id ∷ ids) h

call_are_words : (c : Call) → IsCall c → IsSpelled c → ArePlain (words_of_call c)
unfolding act_words
call_are_words c h p = plain (act.Call c) (h, p)

stats_are_words : (s : Stats) → AreStats s → ArePlain (stats_words s)
unfolding stats_words
stats_are_words s h = (record { some = omega arith; visible = refl }, (num s.blocks h.0, (record { some = omega arith; visible = refl }, (num s.quanta h.1, (record { some = omega arith; visible = refl }, (num s.retained h.2, (record { some = omega arith; visible = refl }, (num s.weak h.3, (record { some = omega arith; visible = refl }, (num s.assocs h.4, tt))))))))))

misuse_are_words : (m : Misuse) → ArePlain (reply_words (reply.Misuse m))
unfolding reply_words misuse_name
misuse_are_words misuse.NullBlock = (record { some = omega arith; visible = refl }, (num 1 (omega arith), (record { some = omega arith; visible = refl }, tt)))
misuse_are_words misuse.NoWord = (record { some = omega arith; visible = refl }, (num 2 (omega arith), (record { some = omega arith; visible = refl }, tt)))
misuse_are_words misuse.WrongClass = (record { some = omega arith; visible = refl }, (num 3 (omega arith), (record { some = omega arith; visible = refl }, tt)))
misuse_are_words misuse.OverRelease = (record { some = omega arith; visible = refl }, (num 4 (omega arith), (record { some = omega arith; visible = refl }, tt)))
misuse_are_words misuse.CountFull = (record { some = omega arith; visible = refl }, (num 5 (omega arith), (record { some = omega arith; visible = refl }, tt)))
misuse_are_words misuse.SerialsUsed = (record { some = omega arith; visible = refl }, (num 6 (omega arith), (record { some = omega arith; visible = refl }, tt)))
misuse_are_words misuse.ZoneFull = (record { some = omega arith; visible = refl }, (num 7 (omega arith), (record { some = omega arith; visible = refl }, tt)))
misuse_are_words misuse.NotHeld = (record { some = omega arith; visible = refl }, (num 8 (omega arith), (record { some = omega arith; visible = refl }, tt)))

reply_are_words : (r : Reply) → IsReply r → ArePlain (reply_words r)
unfolding reply_words
reply_are_words reply.Done h = (record { some = omega arith; visible = refl }, tt)
reply_are_words (reply.Block None) h = (record { some = omega arith; visible = refl }, tt)
reply_are_words (reply.Block (Some id)) h = (id_plain id h, tt)
reply_are_words (reply.Number n) h = (num n h, tt)
reply_are_words reply.Busy h = (record { some = omega arith; visible = refl }, tt)
reply_are_words reply.Begun h = (record { some = omega arith; visible = refl }, tt)
reply_are_words (reply.Condemned r) h = (record { some = omega arith; visible = refl }, ids_are_words r.list h)
reply_are_words (reply.Finalised id) h = (record { some = omega arith; visible = refl }, (id_plain id h, tt))
reply_are_words (reply.Reclaimed gone) h = (record { some = omega arith; visible = refl }, ids_are_words gone.list h)
reply_are_words (reply.Settled gone kept) h =
    (record { some = omega arith; visible = refl }, plain_together (ids_words gone.list) (codes "kept" ∷ ids_words kept.list) (ids_are_words gone.list h.0) (record { some = omega arith; visible = refl }, ids_are_words kept.list h.1))
reply_are_words (reply.Stats s) h = stats_are_words s h
reply_are_words (reply.Misuse m) h = misuse_are_words m

entry_are_words : (e : Entry) → IsEntry e → IsSpelled e.call → ArePlain (entry_words e)
unfolding entry_words
entry_are_words e h p =
    (decimal_plain e.thread (omega (arith, h.thread.1)), plain_together (words_of_call e.call) (codes "=" ∷ reply_words e.reply) (call_are_words e.call h.call p) (record { some = omega arith; visible = refl }, reply_are_words e.reply h.reply))

below_all : (name : OptionName) (n : ℕ) → n ≤ most name → n ≤ 18446744073709551615
below_all option.Heap n h = omega arith
below_all option.Local n h = omega arith
below_all option.Serials n h = omega arith
below_all option.Counts n h = omega arith
below_all option.Pending n h = omega arith

pub line_are_words : (h : HistoryLine) → IsRanged h → CanBeSpelled h → ArePlain (line_words h)
unfolding line_words setting_words end_words option_words
line_are_words (line.Setting s) r p = (record { some = omega arith; visible = refl }, (option_plain s.name, (num s.number (below_all s.name s.number r.1), tt)))
line_are_words (line.Entry e) r p = entry_are_words e r p
line_are_words (line.End count s) r p = (record { some = omega arith; visible = refl }, (record { some = omega arith; visible = refl }, (num count r.0, stats_are_words s r.1)))

-- bytes that are a line are read as it
pub is_read : NumbersAreRead → ArgumentsAreRead → (bytes : List ℕ) (h : HistoryLine) → IsLine bytes h → line_of (words_of bytes) ≡ Some (bare_line h)
is_read numbers asks bytes h is =
    ap (λ bs. line_of (words_of bs)) is.text ∙ ap line_of (words_are_cut (line_words h) (line_are_words h is.ranged is.spelled)) ∙ line_again numbers asks h is.ranged is.spelled

-- no byte ends a line
abbrev stays : ℕ → Bool
stays b = not (is_feed b)

all_stay : (text : List ℕ) → list_all is_shown text ≡ true → list_all stays text ≡ true
all_stay [] h = refl
all_stay (c ∷ text) h =
    let p = and_parts (is_shown c) (list_all is_shown text) h in
    rw (not_feed c p.0, all_stay text p.1) refl

-- no line feed stands in a line
pub has_no_feed : (h : HistoryLine) → IsRanged h → CanBeSpelled h → list_all stays (line_text h) ≡ true
has_no_feed h r p = all_stay (line_text h) (spaced_shown (line_words h) (line_are_words h r p))

-- a reply says the same without the room of its lists
bare_says : (r : Reply) → reply_words (bare_reply r) ≡ reply_words r
unfolding reply_words
bare_says reply.Done = refl
bare_says (reply.Block id) = refl
bare_says (reply.Number n) = refl
bare_says reply.Busy = refl
bare_says reply.Begun = refl
bare_says (reply.Condemned r) = refl
bare_says (reply.Finalised id) = refl
bare_says (reply.Reclaimed gone) = refl
bare_says (reply.Settled gone kept) = refl
bare_says (reply.Stats s) = refl
bare_says (reply.Misuse m) = refl

bare_entry_says : (e : Entry) → entry_words (bare_entry e) ≡ entry_words e
unfolding entry_words
bare_entry_says e = ap (λ ws. decimal e.thread ∷ words_of_call e.call ++ codes "=" ∷ ws) (bare_says e.reply)

-- and so does a line
pub bare_text : (h : HistoryLine) → line_text (bare_line h) ≡ line_text h
unfolding line_words
bare_text (line.Setting s) = refl
bare_text (line.Entry e) = ap spaced (bare_entry_says e)
bare_text (line.End count s) = refl

pub is_line : ArgumentsAreRead → (bytes : List ℕ) (h : HistoryLine) → line_of (words_of bytes) ≡ Some (bare_line h) → HasNumbers h → bytes ≡ line_text h → IsLine bytes h
is_line asks bytes (line.Setting s) read n e = record { ranged = line_found asks (words_of bytes) (line.Setting s) read; spelled = tt; text = e }
is_line asks bytes (line.Entry e) read n same = record { ranged = n; spelled = line_found asks (words_of bytes) (line.Entry (bare_entry e)) read; text = same }
is_line asks bytes (line.End count s) read n e = record { ranged = n; spelled = tt; text = e }

some_same : (a b : HistoryLine) → Some a ≡ Some b → a ≡ b
some_same a b e = cc

-- two lines of the same bytes are the same, but for the room of lists
pub one_reading : NumbersAreRead → ArgumentsAreRead → (bytes : List ℕ) (g h : HistoryLine) → IsLine bytes g → IsLine bytes h → bare_line g ≡ bare_line h
one_reading numbers asks bytes g h a b = some_same (bare_line g) (bare_line h) (sym (is_read numbers asks bytes g a) ∙ is_read numbers asks bytes h b)

pub other_text : NumbersAreRead → ArgumentsAreRead → (bytes : List ℕ) (g : HistoryLine) → line_of (words_of bytes) ≡ Some (bare_line g) → (bytes ≡ line_text g → ⊥) → (h : HistoryLine) → IsLine bytes h → ⊥
other_text numbers asks bytes g read other h is =
    let same : bare_line g ≡ bare_line h = some_same (bare_line g) (bare_line h) (sym read ∙ is_read numbers asks bytes h is) in
    other (is.text ∙ sym (bare_text h) ∙ ap line_text (sym same) ∙ bare_text g)

none_some : (h : HistoryLine) → ◌≡◌ {A = Option HistoryLine} None (Some h) → ⊥
none_some h e = cc

pub not_line : NumbersAreRead → ArgumentsAreRead → (bytes : List ℕ) (words : List (List ℕ)) (err : ArgumentErr) → words ≡ words_of bytes → Gives {X = HistoryLine} bare_line (Err err) (line_of words) → Says bytes (Err err)
not_line numbers asks bytes words errors.Wrong cut e = λ h is. none_some (bare_line h) (sym e ∙ ap line_of cut ∙ is_read numbers asks bytes h is)
not_line numbers asks bytes words errors.NoMemory cut e = tt
