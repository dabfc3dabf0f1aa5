-- A start and a number of calls have one text
use Rattle.std.proofs.Common.{◌≡◌, ◌+◌, ℕ, cond, List, [], ◌∷◌, ◌++◌, map, refl, sym, ap, ap₂, ◌∙◌}
use Rattle.std.specs.List.{sum_by}
use Rattle.std.proofs.lemmas.List.{length-map}
use Rattle.std.proofs.lemmas.List.Sums.{sum_by-cons}
use Rattle.az_base.specs.OptionRanges.{usual_options}
use Rattle.zone_model.specs.declared.entry.Entry.{Entry}
use Rattle.zone_model.specs.declared.entry.Reply.{Reply}
use Rattle.zone_model.specs.declared.entry.Reply.TheVariants as reply
use Rattle.zone_model.specs.declared.entry.Stats.{Stats}
use Rattle.zone_model.specs.Bare.{bare_reply, bare_entry}
use Rattle.zone_model.specs.Replies.{SameButRoom}
use Rattle.history_text.specs.declared.lines.HistoryLine.TheVariants as line
use Rattle.history_text.specs.Lines.{line_text}
use Rattle.play_core.specs.Playing.{requests_of}
use Rattle.soak_script.specs.Generated.{soak_script}
use Rattle.soak_script.specs.Laws.{SoakScriptsCanBePlayed}
use Rattle.zone_commands.specs.declared.soak.Counts.{Counts}
use Rattle.zone_commands.specs.Soak.{reclaimed_in, is_misuse, reclaimed_count, misuse_count, counts_of, summary_text, soak_text, IsSoaked}
use Rattle.zone_commands.proofs.OneText.{OneWay, proper}

-- a list's room doesn't count

reclaimed_bare : (r : Reply) → reclaimed_in (bare_reply r) ≡ reclaimed_in r
reclaimed_bare (reply.Reclaimed gone) = refl
reclaimed_bare (reply.Settled gone kept) = refl
reclaimed_bare (reply.Condemned r) = refl
reclaimed_bare r = refl

misuse_bare : (r : Reply) → is_misuse (bare_reply r) ≡ is_misuse r
misuse_bare (reply.Reclaimed gone) = refl
misuse_bare (reply.Settled gone kept) = refl
misuse_bare (reply.Condemned r) = refl
misuse_bare r = refl

-- a sum over entries that doesn't see the room of their lists
sum_bare : (f : Entry → ℕ) → ((e : Entry) → f (bare_entry e) ≡ f e) → (es : List Entry) → sum_by f (map bare_entry es) ≡ sum_by f es
sum_bare f same [] = refl
sum_bare f same (e ∷ es) =
    sum_by-cons f (bare_entry e) (map bare_entry es) ∙ ap₂ (λ m n. m + n) (same e) (sum_bare f same es) ∙ sym (sum_by-cons f e es)

reclaimed_same : (es : List Entry) → reclaimed_count (map bare_entry es) ≡ reclaimed_count es
reclaimed_same es = sum_bare (λ (e : Entry). reclaimed_in e.reply) (λ e. reclaimed_bare e.reply) es

misuses_same : (es : List Entry) → misuse_count (map bare_entry es) ≡ misuse_count es
misuses_same es = sum_bare (λ (e : Entry). cond (is_misuse e.reply) 1 0) (λ e. ap (λ b. cond b 1 0) (misuse_bare e.reply)) es

counts_same : (es : List Entry) → counts_of (map bare_entry es) ≡ counts_of es
counts_same es = rw (length-map es bare_entry, reclaimed_same es, misuses_same es) refl

text_bare : (start calls : ℕ) (es : List Entry) (stats : Stats) → soak_text start calls (map bare_entry es) stats ≡ soak_text start calls es stats
text_bare start calls es stats = ap₂ (λ (counts : Counts) n. summary_text start calls counts ++ line_text (line.End n stats) ++ 10 ∷ []) (counts_same es) (length-map es bare_entry)

same_text : (start calls : ℕ) (one other : List Entry) (stats : Stats) → SameButRoom one other → soak_text start calls one stats ≡ soak_text start calls other stats
same_text start calls one other stats same = sym (text_bare start calls one stats) ∙ ap (λ es. soak_text start calls es stats) same ∙ text_bare start calls other stats

pub one_soak : SoakScriptsCanBePlayed → OneWay → (start calls : ℕ) (one other : List ℕ) → IsSoaked start calls one → IsSoaked start calls other → one ≡ other
one_soak playable one_way start calls one other a b =
    let script = soak_script start calls in
    let is = one_way usual_options (requests_of script) a.history b.history a.stats b.stats (proper script (playable start calls)) a.ordered b.ordered in
    a.spelled ∙ same_text start calls a.history b.history a.stats is.0 ∙ ap (soak_text start calls b.history) is.1 ∙ sym b.spelled
