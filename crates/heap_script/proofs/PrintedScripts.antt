-- A printed script is read as the same script
use Rattle.std.proofs.Common.{◌≡◌, ℕ, ◌<◌, ◌≤◌, ◌^◌, Bool, true, false, cond, eqb, List, [], ◌∷◌, ◌++◌, length, map, refl, sym, ap, ◌∙◌, subst, arith, append_assoc, append-nil}
use Rattle.std.specs.List.{flat_map, list_all, AllByRecursion, All}
use Rattle.std.specs.Char.{is_ascii_digit}
use Rattle.std.specs.Fmt.{decimal}
use Rattle.std.proofs.lemmas.Bool.{eqb-true, ne_eqb, and_parts, leb-true}
use Rattle.std.proofs.lemmas.Grind.{flat_map-append}
use Rattle.std.proofs.lemmas.List.{length-map}
use Rattle.std.proofs.lemmas.List.Folds.{flat_map-map}
use Rattle.std.proofs.lemmas.List.Elements.{All-map, All-from_recursion, recursion_from_All}
use Rattle.az_base.specs.declared.options.Options.{Options}
use Rattle.az_base.specs.OptionRanges.{usual_options, IsValid}
use Rattle.az_words.specs.Lines.{lines_of}
use Rattle.az_words.specs.Words.{words_of}
use Rattle.heap_script.specs.declared.entries.Entry.{Entry}
use Rattle.heap_script.specs.declared.entries.Entry.TheVariants as entry
use Rattle.heap_script.specs.declared.line.Line.{Line}
use Rattle.heap_script.specs.declared.script.Script.{Script}
use Rattle.call_words.specs.declared.options.OptionName.{OptionName}
use Rattle.call_words.specs.declared.options.OptionName.TheVariants as option
use Rattle.call_words.specs.Spacing.{spaced, fed_line, ArePlain}
use Rattle.call_words.specs.Options.{least, option_words, option_lines, options_lines}
use Rattle.call_words.specs.Ranges.{IsNamed}
use Rattle.call_words.specs.Words.{act_words}
use Rattle.call_words.proofs.PlainWords.{words_are_cut}
use Rattle.call_words.proofs.OptionNames.{option_plain}
use Rattle.call_words.proofs.WrittenNumbers.{decimal_in, decimal_plain, decimal_digits}
use Rattle.heap_script.specs.Settings.{largest, setting_to, with_setting}
use Rattle.heap_script.specs.Lines.{IsFit, is_skipped, IsLine, IsEntry, AreEntries, SayLines}
use Rattle.heap_script.specs.Scripts.{options_after, calls_of, IsScript}
use Rattle.heap_script.specs.Printed.{line_words, script_lines, script_text, LineFits, KeepsLimits}
use Rattle.heap_script.proofs.PrintedLines.{LinesArePlain, spaced_text, lines_are_cut, lines_together}
use Rattle.heap_script.proofs.PrintedActs.{Asked, asked}

-- lines of words say these entries
abbrev Say : Bool → List (List (List ℕ)) → List Entry → Type 0
Say called lines entries = AreEntries called (map spaced lines) entries

-- call lines

digit_first : (word : List ℕ) (words : List (List ℕ)) → 0 < length word → list_all is_ascii_digit word ≡ true → is_skipped (word ∷ words) ≡ false
unfolding is_skipped
digit_first [] words some digits = absurd (omega arith)
digit_first (c ∷ word) words some digits =
    let first = and_parts (is_ascii_digit c) (list_all is_ascii_digit word) digits in
    let low : 48 ≤ c = leb-true 48 c (and_parts _ _ first.0).0 in
    ne_eqb c 35 (λ e. omega arith)

-- what is known of a call line that is printed
record Printed (line : Line) : Type 0 where
  fits : LineFits line
  act : Asked line.act

line_plain : (line : Line) → Printed line → ArePlain (line_words line)
line_plain line h = (decimal_plain line.thread (omega (arith, h.fits.0.1)), h.act.plain)

call_entry : (called : Bool) (line : Line) → Printed line → IsEntry called (words_of (spaced (line_words line))) (entry.Call line)
call_entry called line h =
    let number : line.thread < 2 ^ 64 = omega (arith, h.fits.0.1) in
    let plain = decimal_plain line.thread number in
    let at : IsLine (line_words line) line = record {
      first = decimal line.thread;
      name = h.act.name;
      others = h.act.others;
      spelled = ap (λ words. decimal line.thread ∷ words) h.act.spelled;
      thread = decimal_in 1 16 line.thread h.fits.0.0 h.fits.0.1 (omega arith);
      asks = h.act.asks;
    } in
    subst (λ words. IsEntry called words (entry.Call line)) (sym (words_are_cut (line_words line) (line_plain line h)))
    (digit_first (decimal line.thread) (act_words line.act) plain.some (decimal_digits line.thread number), at)

calls_say : (called : Bool) (lines : List Line) → AllByRecursion Printed lines → Say called (map line_words lines) (map entry.Call lines)
calls_say called [] h = tt
calls_say called (line ∷ lines) h = (call_entry called line h.0, calls_say true lines h.1)

calls_plain : (lines : List Line) → AllByRecursion Printed lines → LinesArePlain (map line_words lines)
calls_plain [] h = tt
calls_plain (line ∷ lines) h = (line_plain line h.0, calls_plain lines h.1)

calls_are : (lines : List Line) → calls_of (map entry.Call lines) ≡ lines
calls_are [] = refl
calls_are (line ∷ lines) = ap (λ ls. line ∷ ls) (calls_are lines)

calls_set : (o : Options) (lines : List Line) → options_after o (map entry.Call lines) ≡ o
calls_set o [] = refl
calls_set o (line ∷ lines) = calls_set o lines

-- option lines

abbrev option_entries : OptionName → ℕ → ℕ → List Entry
option_entries name usual n = cond (eqb n usual) [] (entry.Set (setting_to name n) ∷ [])

largest_fits : (name : OptionName) → largest name < 2 ^ 64
largest_fits option.Heap = omega arith
largest_fits option.Local = omega arith
largest_fits option.Serials = omega arith
largest_fits option.Counts = omega arith
largest_fits option.Pending = omega arith

-- a number in the range of its option
abbrev InOption : OptionName → ℕ → Type 0
InOption name n = (least name ≤ n) × (n ≤ largest name)

words_plain : (name : OptionName) (n : ℕ) → InOption name n → ArePlain (option_words name n)
unfolding option_words
words_plain name n range =
    let large = largest_fits name in
    (record { some = omega arith; visible = refl }, (option_plain name, (decimal_plain n (omega (arith, range.1)), tt)))

option_entry : (name : OptionName) (n : ℕ) → InOption name n → IsEntry false (words_of (spaced (option_words name n))) (entry.Set (setting_to name n))
unfolding option_words
option_entry name n range =
    subst (λ words. IsEntry false words (entry.Set (setting_to name n))) (sym (words_are_cut (option_words name n) (words_plain name n range)))
    (refl, _, refl, (name, decimal n, n, refl, decimal_in (least name) (largest name) n range.0 range.1 (largest_fits name), refl))

option_says : (name : OptionName) (usual n : ℕ) (lines : List (List (List ℕ))) (entries : List Entry) → InOption name n → Say false lines entries → Say false (option_lines name usual n ++ lines) (option_entries name usual n ++ entries)
unfolding option_lines option_words
option_says name usual n lines entries range said =
    elim (eqb n usual) as (λ b. Say false (cond b [] (option_words name n ∷ []) ++ lines) (cond b [] (entry.Set (setting_to name n) ∷ []) ++ entries)) [ true ↦ said | false ↦ (option_entry name n range, said) ]

option_lines_plain : (name : OptionName) (usual n : ℕ) → InOption name n → LinesArePlain (option_lines name usual n)
unfolding option_lines option_words
option_lines_plain name usual n range = elim (eqb n usual) as (λ b. LinesArePlain (cond b [] (option_words name n ∷ []))) [ true ↦ tt | false ↦ (words_plain name n range, tt) ]

option_no_call : (name : OptionName) (usual n : ℕ) (entries : List Entry) → calls_of (option_entries name usual n ++ entries) ≡ calls_of entries
option_no_call name usual n entries = elim (eqb n usual) as (λ b. calls_of (cond b [] (entry.Set (setting_to name n) ∷ []) ++ entries) ≡ calls_of entries) [ true ↦ refl | false ↦ refl ]

-- the options after the line of one of them, where it was usual before
option_sets : (name : OptionName) (usual n : ℕ) (with : ℕ → Options) (entries : List Entry) → with_setting (with usual) (setting_to name n) ≡ with n
    → options_after (with usual) (option_entries name usual n ++ entries) ≡ options_after (with n) entries
option_sets name usual n with entries sets = choose (eqb n usual) refl
  where
    choose : (b : Bool) → eqb n usual ≡ b → options_after (with usual) (cond b [] (entry.Set (setting_to name n) ∷ []) ++ entries) ≡ options_after (with n) entries
    choose true e = ap (λ k. options_after (with k) entries) (sym (eqb-true n usual e))
    choose false e = ap (λ o. options_after o entries) sets

-- all options

-- the entries of the options, and these after them
abbrev entries_before : Options → List Entry → List Entry
entries_before o entries =
    option_entries option.Heap usual_options.heap_quanta o.heap_quanta ++ (option_entries option.Local usual_options.local_quanta o.local_quanta
    ++ (option_entries option.Serials usual_options.serials o.serials ++ (option_entries option.Counts usual_options.counts o.counts
    ++ (option_entries option.Pending usual_options.pending o.pending ++ entries))))

-- the lines of the options, and these after them
abbrev lines_before : Options → List (List (List ℕ)) → List (List (List ℕ))
lines_before o lines =
    option_lines option.Heap usual_options.heap_quanta o.heap_quanta ++ (option_lines option.Local usual_options.local_quanta o.local_quanta
    ++ (option_lines option.Serials usual_options.serials o.serials ++ (option_lines option.Counts usual_options.counts o.counts
    ++ (option_lines option.Pending usual_options.pending o.pending ++ lines))))

before_is : (o : Options) (lines : List (List (List ℕ))) → options_lines o ++ lines ≡ lines_before o lines
unfolding options_lines
before_is o lines = simp append_assoc

options_say : (o : Options) (lines : List (List (List ℕ))) (entries : List Entry) → IsValid o → Say false lines entries → Say false (lines_before o lines) (entries_before o entries)
options_say o lines entries v said =
    option_says option.Heap _ o.heap_quanta _ _ v.heap
    (option_says option.Local _ o.local_quanta _ _ (omega arith, v.local)
    (option_says option.Serials _ o.serials _ _ v.serials (option_says option.Counts _ o.counts _ _ v.counts (option_says option.Pending _ o.pending _ _ v.pending said))))

options_plain : (o : Options) → IsValid o → LinesArePlain (lines_before o [])
options_plain o v =
    lines_together _ _ (option_lines_plain option.Heap _ o.heap_quanta v.heap)
    (lines_together _ _ (option_lines_plain option.Local _ o.local_quanta (omega arith, v.local))
    (lines_together _ _ (option_lines_plain option.Serials _ o.serials v.serials)
    (lines_together _ _ (option_lines_plain option.Counts _ o.counts v.counts) (lines_together _ _ (option_lines_plain option.Pending _ o.pending v.pending) tt))))

options_no_call : (o : Options) (entries : List Entry) → calls_of (entries_before o entries) ≡ calls_of entries
options_no_call o entries =
    option_no_call option.Heap _ o.heap_quanta _ ∙ option_no_call option.Local _ o.local_quanta _ ∙ option_no_call option.Serials _ o.serials _
    ∙ option_no_call option.Counts _ o.counts _ ∙ option_no_call option.Pending _ o.pending entries

options_set : (o : Options) (lines : List Line) → options_after usual_options (entries_before o (map entry.Call lines)) ≡ o
options_set o lines =
    let u : Options = usual_options in
    option_sets option.Heap u.heap_quanta o.heap_quanta (λ k. record { heap_quanta = k; local_quanta = u.local_quanta; serials = u.serials; counts = u.counts; pending = u.pending }) _ refl
    ∙ option_sets option.Local u.local_quanta o.local_quanta (λ k. record { heap_quanta = o.heap_quanta; local_quanta = k; serials = u.serials; counts = u.counts; pending = u.pending }) _ refl
    ∙ option_sets option.Serials u.serials o.serials (λ k. record { heap_quanta = o.heap_quanta; local_quanta = o.local_quanta; serials = k; counts = u.counts; pending = u.pending }) _ refl
    ∙ option_sets option.Counts u.counts o.counts (λ k. record { heap_quanta = o.heap_quanta; local_quanta = o.local_quanta; serials = o.serials; counts = k; pending = u.pending }) _ refl
    ∙ option_sets option.Pending u.pending o.pending (λ k. record { heap_quanta = o.heap_quanta; local_quanta = o.local_quanta; serials = o.serials; counts = o.counts; pending = k }) (map entry.Call lines) refl
    ∙ calls_set o lines

-- the whole script

all_printed : (lines : List Line) → AllByRecursion LineFits lines → AllByRecursion (λ (line : Line). IsNamed line.act) lines → AllByRecursion Printed lines
all_printed [] f named = tt
all_printed (line ∷ lines) f named = (record { fits = f.0; act = asked line.act f.0.1 named.0 }, all_printed lines f.1 named.1)

lines_fit : (lines : List (List (List ℕ))) → LinesArePlain lines → AllByRecursion (λ words. length (spaced words) ≤ 8192) lines → AllByRecursion (λ words. IsFit (spaced words)) lines
lines_fit [] plain short = tt
lines_fit (words ∷ lines) plain short = (record { text = spaced_text words plain.0; short = short.0 }, lines_fit lines plain.1 short.1)

text_is : (script : Script) → script_text script ≡ flat_map fed_line (script_lines script)
unfolding script_text
text_is script =
    ap (λ text. flat_map fed_line (options_lines script.options) ++ text) (sym (flat_map-map fed_line line_words script.lines))
    ∙ sym (flat_map-append fed_line (options_lines script.options) (map line_words script.lines))

pub printed_is : (script : Script) → KeepsLimits script → IsScript (script_text script) script
printed_is script keeps =
    let calls = map entry.Call script.lines in
    let printed : AllByRecursion Printed script.lines = all_printed script.lines (recursion_from_All LineFits script.lines keeps.numbers) (recursion_from_All (λ (line : Line). IsNamed line.act) script.lines keeps.named) in
    let before = before_is script.options (map line_words script.lines) in
    let none = before_is script.options [] ∙ refl in
    let plain : LinesArePlain (script_lines script) = lines_together (options_lines script.options) (map line_words script.lines) (subst LinesArePlain (sym none ∙ append-nil (options_lines script.options)) (options_plain script.options keeps.options)) (calls_plain script.lines printed) in
    let cut : lines_of (script_text script) ≡ map spaced (script_lines script) = ap lines_of (text_is script) ∙ lines_are_cut (script_lines script) plain in
    let said : Say false (script_lines script) (entries_before script.options calls) = subst (λ lines. Say false lines (entries_before script.options calls)) (sym before) (options_say script.options (map line_words script.lines) calls keeps.options (calls_say false script.lines printed)) in
    let fit : All IsFit (map spaced (script_lines script)) = All-map IsFit spaced (script_lines script) (All-from_recursion (λ words. IsFit (spaced words)) (script_lines script) (lines_fit (script_lines script) plain (recursion_from_All (λ words. length (spaced words) ≤ 8192) (script_lines script) keeps.short))) in
    record {
      entries = entries_before script.options calls;
      said = subst (λ text. SayLines text (entries_before script.options calls)) (sym cut) (record { few = rw length-map keeps.few; fit = fit; says = said });
      options = sym (options_set script.options script.lines);
      lines = sym (options_no_call script.options calls ∙ calls_are script.lines);
    }
