-- Lines that are written one after the other
use Rattle.std.proofs.Common.{◌≡◌, ℕ, ◌+◌, ◌<◌, true, false, cond, eqb, List, [], ◌∷◌, ◌++◌, length, take, get_or, map, refl, sym, ap, ◌∙◌, append_assoc}
use Rattle.std.specs.List.{flat_map}
use Rattle.std.proofs.lemmas.List.{take_more, map-append}
use Rattle.std.proofs.lemmas.List.Concat.{flat_map-append}
use Rattle.az_base.specs.declared.options.Options.{Options}
use Rattle.az_base.specs.OptionRanges.{usual_options}
use Rattle.zone_model.specs.declared.entry.Entry.{Entry}
use Rattle.zone_model.specs.declared.entry.Stats.{Stats}
use Rattle.history_text.specs.declared.lines.HistoryLine.{HistoryLine}
use Rattle.history_text.specs.declared.lines.HistoryLine.TheVariants as line
use Rattle.call_words.specs.declared.options.OptionName.{OptionName}
use Rattle.call_words.specs.declared.options.OptionName.TheVariants as option
use Rattle.history_text.specs.declared.lines.Setting.{Setting}
use Rattle.call_words.specs.Spacing.{spaced, fed_line}
use Rattle.call_words.specs.Options.{option_words, option_lines, options_lines}
use Rattle.history_text.specs.Words.{entry_words, end_words}
use Rattle.history_text.specs.Lines.{setting_words, line_words, line_text}
use Rattle.history_text.specs.Texts.{unless_usual, settings_of, setting_lines, entry_lines, lines_before_end, fed, lines_text, text_of}
use Rattle.call_words.proofs.Spreading.{added}
use Rattle.history_text.proofs.Standing.{text_more}

pub text_append : (xs ys : List HistoryLine) → lines_text (xs ++ ys) ≡ lines_text xs ++ lines_text ys
text_append xs ys =
    let feed : List ℕ → List ℕ = λ bytes. bytes ++ 10 ∷ [] in
    ap fed (map-append line_text xs ys) ∙ flat_map-append feed (map line_text xs) (map line_text ys)

settings_append : (a b : List Setting) → lines_text (setting_lines (a ++ b)) ≡ lines_text (setting_lines a) ++ lines_text (setting_lines b)
settings_append a b = ap lines_text (map-append line.Setting a b) ∙ text_append (setting_lines a) (setting_lines b)

-- an option is written as its line, where it has one
one_option : (name : OptionName) (usual n : ℕ) → lines_text (setting_lines (unless_usual name usual n)) ≡ flat_map fed_line (option_lines name usual n)
unfolding line_words setting_words option_lines
one_option name usual n =
    elim (eqb n usual) as (λ b. lines_text (setting_lines (cond b [] (record { name = name; number = n } ∷ []))) ≡ flat_map fed_line (cond b [] (option_words name n ∷ []))) [ true ↦ refl | false ↦ refl ]

joined : (a b : List Setting) (x y : List (List (List ℕ))) → lines_text (setting_lines a) ≡ flat_map fed_line x → lines_text (setting_lines b) ≡ flat_map fed_line y → lines_text (setting_lines (a ++ b)) ≡ flat_map fed_line (x ++ y)
joined a b x y p q = settings_append a b ∙ ap (λ t. t ++ lines_text (setting_lines b)) p ∙ ap (λ t. flat_map fed_line x ++ t) q ∙ sym (flat_map-append fed_line x y)

-- the options are written as their lines
pub options_text : (o : Options) → lines_text (setting_lines (settings_of o)) ≡ flat_map fed_line (options_lines o)
unfolding options_lines
options_text o =
    let u : Options = usual_options in
    joined _ _ _ _
    (joined _ _ _ _
    (joined _ _ _ _ (joined _ _ _ _ (one_option option.Heap u.heap_quanta o.heap_quanta) (one_option option.Local u.local_quanta o.local_quanta)) (one_option option.Serials u.serials o.serials))
    (one_option option.Counts u.counts o.counts))
    (one_option option.Pending u.pending o.pending)

-- one entry more
pub entry_more : (entries : List Entry) (i : ℕ) (d : Entry) (old before middle new : List ℕ) → i < length entries → before ≡ old ++ lines_text (entry_lines (take i entries)) → middle ≡ before ++ spaced (entry_words (get_or entries i d))
    → new ≡ middle ++ 10 ∷ [] → new ≡ old ++ lines_text (entry_lines (take (i + 1) entries))
unfolding line_words
entry_more entries i d old before middle new l b m n =
    let e = get_or entries i d in
    let lines : entry_lines (take (i + 1) entries) ≡ entry_lines (take i entries) ++ line.Entry e ∷ [] = ap entry_lines (take_more entries i d l) ∙ map-append line.Entry (take i entries) (e ∷ []) in
    let text : lines_text (entry_lines (take (i + 1) entries)) ≡ lines_text (entry_lines (take i entries)) ++ (spaced (entry_words e) ++ 10 ∷ []) = ap lines_text lines ∙ text_more (entry_lines (take i entries)) (line.Entry e) in
    added old before new (lines_text (entry_lines (take i entries))) (spaced (entry_words e) ++ 10 ∷ []) _ b (n ∙ ap (λ t. t ++ 10 ∷ []) m ∙ append_assoc before (spaced (entry_words e)) (10 ∷ [])) text

-- the whole
pub whole : (o : Options) (history : List Entry) (s : Stats) (start a b c d : List ℕ) → start ≡ [] → a ≡ start ++ lines_text (setting_lines (settings_of o)) → b ≡ a ++ lines_text (entry_lines history) → c ≡ b ++ spaced (end_words (length history) s) → d ≡ c ++ 10 ∷ []
    → d ≡ text_of o history s
unfolding line_words
whole o history s start a b c d nothing x y z w =
    let last = spaced (end_words (length history) s) in
    let before : b ≡ lines_text (lines_before_end o history) = y ∙ ap (λ t. t ++ lines_text (entry_lines history)) (x ∙ ap (λ t. t ++ lines_text (setting_lines (settings_of o))) nothing) ∙ sym (text_append (setting_lines (settings_of o)) (entry_lines history)) in
    w ∙ ap (λ t. t ++ 10 ∷ []) (z ∙ ap (λ t. t ++ last) before) ∙ append_assoc (lines_text (lines_before_end o history)) last (10 ∷ []) ∙ sym (text_more (lines_before_end o history) (line.End (length history) s))
