-- A script has one text
use Rattle.std.proofs.Common.{◌≡◌, ℕ, List, [], ◌∷◌, ◌++◌, length, map, Ok, Result, refl, sym, ap, ◌∙◌, subst}
use Rattle.std.specs.List.{All, AllByRecursion}
use Rattle.std.proofs.lemmas.List.{length-map, map-append}
use Rattle.std.proofs.lemmas.List.Elements.{All-map, All-from_recursion, recursion_from_All}
use Rattle.zone_model.specs.declared.act.Act.{Act}
use Rattle.zone_model.specs.declared.act.Act.TheVariants as act
use Rattle.zone_model.specs.declared.entry.Entry.{Entry}
use Rattle.zone_model.specs.declared.entry.Reply.{Reply}
use Rattle.zone_model.specs.declared.entry.Reply.TheVariants as reply
use Rattle.zone_model.specs.declared.entry.Stats.{Stats}
use Rattle.zone_model.specs.Bare.{bare_reply, bare_entry}
use Rattle.zone_model.specs.Replies.{NoCondemn, SameButRoom}
use Rattle.az_base.specs.declared.options.Options.{Options}
use Rattle.call_words.specs.Ranges.{IsNamed}
use Rattle.heap_script.specs.declared.line.Line.{Line}
use Rattle.heap_script.specs.declared.script.Script.{Script}
use Rattle.heap_script.specs.Refusals.{Refusal}
use Rattle.heap_script.specs.Scripts.{IsThere, CanBePlayed}
use Rattle.heap_script.specs.Laws.{ScriptsAreRead, ScriptsCanBePlayed}
use Rattle.zone_history.specs.Histories.{Request}
use Rattle.history_text.specs.declared.lines.HistoryLine.TheVariants as line
use Rattle.history_text.specs.Lines.{line_words, line_text}
use Rattle.history_text.specs.Texts.{setting_lines, settings_of, entry_lines, lines_before_end, lines_of_history, fed, text_of}
use Rattle.history_text.specs.Words.{reply_words, entry_words}
use Rattle.play_order.specs.Play.{IsProper, IsPlayOf}
use Rattle.play_core.specs.Playing.{requests_of}
use Rattle.zone_commands.specs.Answers.{IsPlayed}

-- a list's room stands in no text
reply_bare : (r : Reply) → reply_words (bare_reply r) ≡ reply_words r
unfolding reply_words
reply_bare (reply.Condemned r) = refl
reply_bare (reply.Reclaimed gone) = refl
reply_bare (reply.Settled gone kept) = refl
reply_bare r = refl

entry_bare : (e : Entry) → line_text (line.Entry (bare_entry e)) ≡ line_text (line.Entry e)
unfolding line_words entry_words
entry_bare e = rw (reply_bare e.reply) refl

entries_bare : (es : List Entry) → map line_text (entry_lines (map bare_entry es)) ≡ map line_text (entry_lines es)
entries_bare [] = refl
entries_bare (e ∷ es) = ap (λ text. text ∷ map line_text (entry_lines (map bare_entry es))) (entry_bare e) ∙ ap (λ texts. line_text (line.Entry e) ∷ texts) (entries_bare es)

-- the lines' texts: those of the options, of the entries, and of the end
texts_are : (o : Options) (history : List Entry) (stats : Stats) → map line_text (lines_of_history o history stats)
    ≡ (map line_text (setting_lines (settings_of o)) ++ map line_text (entry_lines history)) ++ line_text (line.End (length history) stats) ∷ []
texts_are o history stats =
    map-append line_text (lines_before_end o history) (line.End (length history) stats ∷ [])
    ∙ ap (λ texts. texts ++ line_text (line.End (length history) stats) ∷ []) (map-append line_text (setting_lines (settings_of o)) (entry_lines history))

same_text : (o : Options) (one other : List Entry) (stats : Stats) → SameButRoom one other → text_of o one stats ≡ text_of o other stats
same_text o one other stats same =
    let texts : map line_text (entry_lines one) ≡ map line_text (entry_lines other) = sym (entries_bare one) ∙ ap (λ es. map line_text (entry_lines es)) same ∙ entries_bare other in
    let count : length one ≡ length other = sym (length-map one bare_entry) ∙ ap length same ∙ length-map other bare_entry in
    let front = map line_text (setting_lines (settings_of o)) in
    ap fed (texts_are o one stats ∙ ap (λ texts. (front ++ texts) ++ line_text (line.End (length one) stats) ∷ []) texts
    ∙ ap (λ n. (front ++ map line_text (entry_lines other)) ++ line_text (line.End n stats) ∷ []) count ∙ sym (texts_are o other stats))

-- what a script asks for is no Condemn by itself
no_condemn : (a : Act) → IsNamed a → NoCondemn a
no_condemn (act.Call c) h = λ e. subst (λ d. IsNamed (act.Call d)) e h
no_condemn (act.Collect mode) h = tt

proper_lines : (lines : List Line) → AllByRecursion IsThere lines → AllByRecursion (λ (line : Line). IsNamed line.act) lines → AllByRecursion (λ (line : Line). IsProper (line.thread, line.act)) lines
proper_lines [] threads named = tt
proper_lines (line ∷ lines) threads named = ((threads.0.0, threads.0.1, no_condemn line.act named.0), proper_lines lines threads.1 named.1)

pub proper : (script : Script) → CanBePlayed script → All IsProper (requests_of script)
proper script h =
    All-map IsProper (λ (line : Line). (line.thread, line.act)) script.lines
    (All-from_recursion _ script.lines (proper_lines script.lines (recursion_from_All IsThere script.lines h.threads) (recursion_from_All (λ (line : Line). IsNamed line.act) script.lines h.named)))

script_same : (a b : Script) → ◌≡◌ {A = Result Script Refusal} (Ok a) (Ok b) → a ≡ b
script_same a b e = cc

-- a list of requests has one history in the order of a play, but for the room of the lists in its replies
abbrev pub OneWay : Type 0
OneWay = (o : Options) (requests : List Request) (one other : List Entry) (stats its : Stats) → All IsProper requests
    → IsPlayOf o requests one stats → IsPlayOf o requests other its → SameButRoom one other × (stats ≡ its)

pub one_text : ScriptsAreRead → ScriptsCanBePlayed → OneWay → (bytes one other : List ℕ) → IsPlayed bytes one → IsPlayed bytes other → one ≡ other
one_text reads playable one_way bytes one other a b =
    let same : b.script ≡ a.script = script_same b.script a.script (sym ((reads bytes b.script).1 b.parsed) ∙ (reads bytes a.script).1 a.parsed) in
    let ordered = subst (λ s. IsPlayOf s.options (requests_of s) b.history b.stats) same b.ordered in
    let is = one_way a.script.options (requests_of a.script) a.history b.history a.stats b.stats (proper a.script (playable bytes a.script a.parsed)) a.ordered ordered in
    a.fixed.text ∙ same_text a.script.options a.history b.history a.stats is.0 ∙ ap (text_of a.script.options b.history) is.1
    ∙ ap (λ s. text_of s.options b.history b.stats) (sym same) ∙ sym b.fixed.text
