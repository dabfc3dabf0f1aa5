-- A text says one history
use Rattle.std.proofs.Common.{◌≡◌, ℕ, Bool, ◌==◌, true, false, List, [], ◌∷◌, ◌++◌, length, map, refl, sym, ap, ◌∙◌, append-nil, Result, Ok, Err}
use Rattle.std.proofs.lemmas.Bool.{eqb-true}
use Rattle.std.proofs.lemmas.List.{map-append}
use Rattle.az_base.specs.declared.options.Options.{Options}
use Rattle.az_base.specs.OptionRanges.{usual_options}
use Rattle.zone_model.specs.Bare.{bare_reply, bare_entry}
use Rattle.zone_model.specs.declared.entry.Entry.{Entry}
use Rattle.zone_model.specs.declared.entry.Reply.{Reply}
use Rattle.zone_model.specs.declared.entry.Reply.TheVariants as reply
use Rattle.zone_model.specs.declared.entry.Stats.{Stats}
use Rattle.history_text.specs.declared.lines.HistoryLine.{HistoryLine}
use Rattle.history_text.specs.declared.lines.HistoryLine.TheVariants as line
use Rattle.call_words.specs.declared.options.OptionName.{OptionName}
use Rattle.call_words.specs.declared.options.OptionName.TheVariants as option
use Rattle.history_text.specs.declared.lines.Setting.{Setting}
use Rattle.history_text.specs.declared.texts.HistoryText.{HistoryText}
use Rattle.history_text.specs.declared.texts.TextErr.{TextErr}
use Rattle.history_text.specs.declared.texts.TextErr.TheVariants as errors
use Rattle.history_text.specs.Answers.{ReadsText}
use Rattle.history_text.specs.Laws.{LinesHaveOneReading, TextsHaveOneReading, AreAlike, IsReadAs}
use Rattle.history_text.specs.Lines.{bare_line, line_text}
use Rattle.history_text.specs.Texts.{unless_usual, settings_of, setting_lines, entry_lines, lines_of_history, fed, IsText}
use Rattle.history_text.specs.Drafts.{with_setting}
use Rattle.history_text.proofs.Cutting.{cut_lines}
use Rattle.history_text.proofs.Standing.{text_are, no_feeds, same_lines}

-- what lines say, one after the other
options_said : Options → List HistoryLine → Options
options_said o [] = o
options_said o (line.Setting s ∷ lines) = options_said (with_setting o s.name s.number) lines
options_said o (line.Entry e ∷ lines) = options_said o lines
options_said o (line.End count s ∷ lines) = options_said o lines

entries_said : List HistoryLine → List Entry
entries_said [] = []
entries_said (line.Setting s ∷ lines) = entries_said lines
entries_said (line.Entry e ∷ lines) = bare_entry e ∷ entries_said lines
entries_said (line.End count s ∷ lines) = entries_said lines

stats_said : Stats → List HistoryLine → Stats
stats_said z [] = z
stats_said z (line.Setting s ∷ lines) = stats_said z lines
stats_said z (line.Entry e ∷ lines) = stats_said z lines
stats_said z (line.End count s ∷ lines) = stats_said s lines

options_append : (o : Options) (xs ys : List HistoryLine) → options_said o (xs ++ ys) ≡ options_said (options_said o xs) ys
unfolding options_said
options_append o [] ys = refl
options_append o (line.Setting s ∷ xs) ys = options_append (with_setting o s.name s.number) xs ys
options_append o (line.Entry e ∷ xs) ys = options_append o xs ys
options_append o (line.End count s ∷ xs) ys = options_append o xs ys

entries_append : (xs ys : List HistoryLine) → entries_said (xs ++ ys) ≡ entries_said xs ++ entries_said ys
unfolding entries_said
entries_append [] ys = refl
entries_append (line.Setting s ∷ xs) ys = entries_append xs ys
entries_append (line.Entry e ∷ xs) ys = ap (λ es. bare_entry e ∷ es) (entries_append xs ys)
entries_append (line.End count s ∷ xs) ys = entries_append xs ys

stats_last : (z : Stats) (xs : List HistoryLine) (count : ℕ) (s : Stats) → stats_said z (xs ++ line.End count s ∷ []) ≡ s
unfolding stats_said
stats_last z [] count s = refl
stats_last z (line.Setting x ∷ xs) count s = stats_last z xs count s
stats_last z (line.Entry x ∷ xs) count s = stats_last z xs count s
stats_last z (line.End c t ∷ xs) count s = stats_last t xs count s

-- the room of lists says nothing
options_bare : (o : Options) (xs : List HistoryLine) → options_said o (map bare_line xs) ≡ options_said o xs
unfolding options_said
options_bare o [] = refl
options_bare o (line.Setting s ∷ xs) = options_bare (with_setting o s.name s.number) xs
options_bare o (line.Entry e ∷ xs) = options_bare o xs
options_bare o (line.End count s ∷ xs) = options_bare o xs

twice : (e : Entry) → bare_entry (bare_entry e) ≡ bare_entry e
twice e = ap (λ r. record e { reply = r }) (twice_reply e.reply)
  where
    twice_reply : (r : Reply) → bare_reply (bare_reply r) ≡ bare_reply r
    twice_reply reply.Done = refl
    twice_reply (reply.Block id) = refl
    twice_reply (reply.Number n) = refl
    twice_reply reply.Busy = refl
    twice_reply reply.Begun = refl
    twice_reply (reply.Condemned r) = refl
    twice_reply (reply.Finalised id) = refl
    twice_reply (reply.Reclaimed gone) = refl
    twice_reply (reply.Settled gone kept) = refl
    twice_reply (reply.Stats s) = refl
    twice_reply (reply.Misuse m) = refl

entries_bare : (xs : List HistoryLine) → entries_said (map bare_line xs) ≡ entries_said xs
unfolding entries_said
entries_bare [] = refl
entries_bare (line.Setting s ∷ xs) = entries_bare xs
entries_bare (line.Entry e ∷ xs) = ap (λ x. x ∷ entries_said (map bare_line xs)) (twice e) ∙ ap (λ es. bare_entry e ∷ es) (entries_bare xs)
entries_bare (line.End count s ∷ xs) = entries_bare xs

stats_bare : (z : Stats) (xs : List HistoryLine) → stats_said z (map bare_line xs) ≡ stats_said z xs
unfolding stats_said
stats_bare z [] = refl
stats_bare z (line.Setting s ∷ xs) = stats_bare z xs
stats_bare z (line.Entry e ∷ xs) = stats_bare z xs
stats_bare z (line.End count s ∷ xs) = stats_bare s xs

one_said : (name : OptionName) (usual n : ℕ) (o : Options) (b : Bool) → (n == usual) ≡ b → with_setting o name usual ≡ o → options_said o (setting_lines (unless_usual name usual n)) ≡ with_setting o name n
unfolding options_said
one_said name usual n o true e same = let k : n ≡ usual = eqb-true n usual e in rw e (sym same ∙ ap (with_setting o name) (sym k))
one_said name usual n o false e same = rw e refl

settings_said : (o : Options) → options_said usual_options (setting_lines (settings_of o)) ≡ o
settings_said o =
    let heap = unless_usual option.Heap usual_options.heap_quanta o.heap_quanta in
    let sets = unless_usual option.Local usual_options.local_quanta o.local_quanta in
    let serials = unless_usual option.Serials usual_options.serials o.serials in
    let counts = unless_usual option.Counts usual_options.counts o.counts in
    let pending = unless_usual option.Pending usual_options.pending o.pending in
    let a : Options = record usual_options { heap_quanta = o.heap_quanta } in
    let b : Options = record a { local_quanta = o.local_quanta } in
    let c : Options = record b { serials = o.serials } in
    let d : Options = record c { counts = o.counts } in
    join (heap ++ sets ++ serials ++ counts) pending usual_options d o
    (join (heap ++ sets ++ serials) counts usual_options c d
    (join (heap ++ sets) serials usual_options b c
    (join heap sets usual_options a b (one_said option.Heap usual_options.heap_quanta o.heap_quanta usual_options _ refl refl) (one_said option.Local usual_options.local_quanta o.local_quanta a _ refl refl))
    (one_said option.Serials usual_options.serials o.serials b _ refl refl))
    (one_said option.Counts usual_options.counts o.counts c _ refl refl))
    (one_said option.Pending usual_options.pending o.pending d _ refl refl)
  where
    join : (ss ts : List Setting) (o p q : Options) → options_said o (setting_lines ss) ≡ p → options_said p (setting_lines ts) ≡ q → options_said o (setting_lines (ss ++ ts)) ≡ q
    join ss ts o p q a b = ap (options_said o) (map-append line.Setting ss ts) ∙ options_append o (setting_lines ss) (setting_lines ts) ∙ ap (λ x. options_said x (setting_lines ts)) a ∙ b

options_entries : (o : Options) (history : List Entry) → options_said o (entry_lines history) ≡ o
unfolding options_said
options_entries o [] = refl
options_entries o (e ∷ history) = options_entries o history

entries_settings : (ss : List Setting) → entries_said (setting_lines ss) ≡ []
unfolding entries_said
entries_settings [] = refl
entries_settings (s ∷ ss) = entries_settings ss

entries_only : (history : List Entry) → entries_said (entry_lines history) ≡ map bare_entry history
unfolding entries_said
entries_only [] = refl
entries_only (e ∷ history) = ap (λ es. bare_entry e ∷ es) (entries_only history)

history_options : (o : Options) (history : List Entry) (s : Stats) → options_said usual_options (lines_of_history o history s) ≡ o
unfolding options_said
history_options o history s =
    options_append usual_options (setting_lines (settings_of o) ++ entry_lines history) (line.End (length history) s ∷ [])
    ∙ options_append usual_options (setting_lines (settings_of o)) (entry_lines history)
    ∙ ap (λ x. options_said x (entry_lines history)) (settings_said o) ∙ options_entries o history

history_entries : (o : Options) (history : List Entry) (s : Stats) → entries_said (lines_of_history o history s) ≡ map bare_entry history
unfolding entries_said
history_entries o history s =
    entries_append (setting_lines (settings_of o) ++ entry_lines history) (line.End (length history) s ∷ [])
    ∙ append-nil (entries_said (setting_lines (settings_of o) ++ entry_lines history))
    ∙ entries_append (setting_lines (settings_of o)) (entry_lines history)
    ∙ ap (λ es. es ++ entries_said (entry_lines history)) (entries_settings (settings_of o)) ∙ entries_only history

history_stats : (z : Stats) (o : Options) (history : List Entry) (s : Stats) → stats_said z (lines_of_history o history s) ≡ s
history_stats z o history s = stats_last z (setting_lines (settings_of o) ++ entry_lines history) (length history) s

-- two histories of the same text are the same, but for the room of lists
pub one_text : LinesHaveOneReading → (bytes : List ℕ) (o p : Options) (g h : List Entry) (s t : Stats) → IsText bytes o g s → IsText bytes p h t → AreAlike o p g h s t
one_text laws bytes o p g h s t a b =
    let xs = lines_of_history o g s in
    let ys = lines_of_history p h t in
    let c = cut_lines (map line_text xs) (map line_text ys) [] (no_feeds xs (text_are bytes o g s a)) (no_feeds ys (text_are bytes p h t b)) (sym b.text ∙ a.text ∙ sym (append-nil _)) in
    let same = same_lines laws xs ys (text_are bytes o g s a) (text_are bytes p h t b) (all_cut (map line_text xs) (map line_text ys) c.0 c.1 c.2) in
    record {
      options = sym (history_options o g s) ∙ sym (options_bare usual_options xs) ∙ ap (options_said usual_options) same ∙ options_bare usual_options ys ∙ history_options p h t;
      entries = sym (history_entries o g s) ∙ sym (entries_bare xs) ∙ ap entries_said same ∙ entries_bare ys ∙ history_entries p h t;
      stats = sym (history_stats s o g s) ∙ sym (stats_bare s xs) ∙ ap (stats_said s) same ∙ stats_bare s ys ∙ history_stats s p h t;
    }
  where
    nothing : (z : List ℕ) (zs : List (List ℕ)) → [] ≡ fed (z ∷ zs) → ⊥
    nothing [] zs e = cc
    nothing (b ∷ z) zs e = cc

    all_cut : (xs ys zs : List (List ℕ)) → ys ≡ xs ++ zs → [] ≡ fed zs → xs ≡ ys
    all_cut xs ys [] e none = sym (e ∙ append-nil xs)
    all_cut xs ys (z ∷ zs) e none = absurd (nothing z zs none)

-- and its text is read as this history
pub read_back : TextsHaveOneReading → (bytes : List ℕ) (o : Options) (h : List Entry) (s : Stats) (answer : Result HistoryText TextErr) → IsText bytes o h s → ReadsText bytes answer → IsReadAs o h s answer
read_back laws bytes o h s (Ok t) is reads = laws bytes t.options o t.journal.entries h t.stats s reads.0 is
read_back laws bytes o h s (Err (errors.Line n)) is reads = reads.none o h s is
read_back laws bytes o h s (Err errors.NoMemory) is reads = tt
