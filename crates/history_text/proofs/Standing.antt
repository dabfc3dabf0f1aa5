-- Where a text stops to be one
use Rattle.std.proofs.Common.{◌≡◌, ℕ, Bool, ◌==◌, ◌+◌, ◌<◌, ◌≤◌, true, false, List, [], ◌∷◌, ◌++◌, length, map, All, Option, Some, None, refl, sym, ap, ◌∙◌, subst, arith, append_assoc, append-nil, length-append}
use Rattle.std.specs.List.{AllByRecursion}
use Rattle.std.specs.Option.{option_map}
use Rattle.std.proofs.lemmas.Bool.{ne_eqb, eqb-true, eqb-false}
use Rattle.std.proofs.lemmas.List.{map-append, length-map}
use Rattle.std.proofs.lemmas.List.Concat.{flat_map-append}
use Rattle.std.proofs.lemmas.List.Elements.{recursion_from_All, All-from_recursion}
use Rattle.az_base.specs.declared.options.Options.{Options}
use Rattle.az_base.specs.OptionRanges.{IsValid, usual_options}
use Rattle.az_words.specs.Parts.{cut_at}
use Rattle.zone_model.specs.declared.entry.Entry.{Entry}
use Rattle.zone_model.specs.declared.entry.Stats.{Stats}
use Rattle.history_text.specs.declared.draft.Draft.{Draft}
use Rattle.history_text.specs.declared.lines.HistoryLine.{HistoryLine}
use Rattle.history_text.specs.declared.lines.HistoryLine.TheVariants as line
use Rattle.call_words.specs.declared.options.OptionName.{OptionName}
use Rattle.call_words.specs.declared.options.OptionName.TheVariants as option
use Rattle.history_text.specs.declared.lines.Setting.{Setting}
use Rattle.history_text.specs.Laws.{LinesHaveOneReading}
use Rattle.call_words.specs.Ranges.{IsNumber, IsSpelled}
use Rattle.history_text.specs.Ranges.{IsEntry}
use Rattle.call_words.specs.Options.{least}
use Rattle.history_text.specs.Lines.{most, IsSetting, IsRanged, CanBeSpelled, bare_line, line_text}
use Rattle.history_text.specs.Texts.{unless_usual, settings_of, setting_lines, entry_lines, lines_before_end, lines_of_history, fed, lines_text, IsText, BeginsText, HasNoFeed, IsWrongAt}
use Rattle.history_text.specs.Drafts.{IsDraft, HasLine, IsEndOf, CannotFollow, lines_so_far, line_place, next_place}
use Rattle.history_text.proofs.LineLaws.{has_no_feed}
use Rattle.history_text.proofs.Cutting.{goes, fed_first, cut_lines}
use Rattle.history_text.proofs.Places.{bare_next, history_ends, before_ordered}
use Rattle.history_text.proofs.Drafting.{passed}

-- lines that can be written
abbrev pub AreLines : List HistoryLine → Type 0
AreLines lines = AllByRecursion (λ l. IsRanged l × CanBeSpelled l) lines

pub no_feeds : (lines : List HistoryLine) → AreLines lines → AllByRecursion HasNoFeed (map line_text lines)
no_feeds [] h = tt
no_feeds (l ∷ lines) h = (has_no_feed l h.0.0 h.0.1, no_feeds lines h.1)

lines_append : (xs ys : List HistoryLine) → AreLines xs → AreLines ys → AreLines (xs ++ ys)
lines_append [] ys a b = b
lines_append (x ∷ xs) ys a b = (a.0, lines_append xs ys a.1 b)

lines_front : (xs ys : List HistoryLine) → AreLines (xs ++ ys) → AreLines xs × AreLines ys
lines_front [] ys h = (tt, h)
lines_front (x ∷ xs) ys h = let r = lines_front xs ys h.1 in ((h.0, r.0), r.1)

setting_are : (ss : List Setting) → AllByRecursion IsSetting ss → AreLines (setting_lines ss)
setting_are [] h = tt
setting_are (s ∷ ss) h = ((h.0, tt), setting_are ss h.1)

entries_are : (history : List Entry) → AllByRecursion IsEntry history → AllByRecursion (λ e. IsSpelled e.call) history → AreLines (entry_lines history)
entries_are [] a b = tt
entries_are (e ∷ history) a b = ((a.0, b.0), entries_are history a.1 b.1)

-- the options of a text are in their ranges
one_ranged : (name : OptionName) (usual n : ℕ) (b : Bool) → (n == usual) ≡ b → least name ≤ n → n ≤ usual → usual ≤ most name + 1 → AllByRecursion IsSetting (unless_usual name usual n)
one_ranged name usual n true e low high top = rw e tt
one_ranged name usual n false e low high top = rw e ((low, omega (arith, eqb-false n usual e)), tt)

all_append : (xs ys : List Setting) → AllByRecursion IsSetting xs → AllByRecursion IsSetting ys → AllByRecursion IsSetting (xs ++ ys)
all_append [] ys a b = b
all_append (x ∷ xs) ys a b = (a.0, all_append xs ys a.1 b)

settings_ranged : (o : Options) → IsValid o → AllByRecursion IsSetting (settings_of o)
settings_ranged o v =
    let heap = unless_usual option.Heap usual_options.heap_quanta o.heap_quanta in
    let sets = unless_usual option.Local usual_options.local_quanta o.local_quanta in
    let serials = unless_usual option.Serials usual_options.serials o.serials in
    let counts = unless_usual option.Counts usual_options.counts o.counts in
    let pending = unless_usual option.Pending usual_options.pending o.pending in
    all_append (heap ++ sets ++ serials ++ counts) pending
    (all_append (heap ++ sets ++ serials) counts
    (all_append (heap ++ sets) serials
    (all_append heap sets (one_ranged option.Heap usual_options.heap_quanta o.heap_quanta _ refl v.heap.0 v.heap.1 (omega arith))
    (one_ranged option.Local usual_options.local_quanta o.local_quanta _ refl (omega arith) v.«local» (omega arith)))
    (one_ranged option.Serials usual_options.serials o.serials _ refl v.serials.0 v.serials.1 (omega arith)))
    (one_ranged option.Counts usual_options.counts o.counts _ refl v.counts.0 v.counts.1 (omega arith)))
    (one_ranged option.Pending usual_options.pending o.pending _ refl v.pending.0 v.pending.1 (omega arith))

before_are : (o : Options) (history : List Entry) → IsValid o → All IsEntry history → All (λ e. IsSpelled e.call) history → AreLines (lines_before_end o history)
before_are o history v a b =
    lines_append (setting_lines (settings_of o)) (entry_lines history) (setting_are (settings_of o) (settings_ranged o v))
    (entries_are history (recursion_from_All IsEntry history a) (recursion_from_All (λ e. IsSpelled e.call) history b))

pub draft_are : (d : Draft) → IsDraft d → AreLines (lines_so_far d)
draft_are d is = before_are d.options d.journal.entries is.options is.entries is.spelled

pub text_are : (bytes : List ℕ) (o : Options) (history : List Entry) (s : Stats) → IsText bytes o history s → AreLines (lines_of_history o history s)
text_are bytes o history s is =
    lines_append (lines_before_end o history) (line.End (length history) s ∷ []) (before_are o history is.options is.entries is.spelled) (((is.count, is.stats), tt), tt)

-- a line more
pub text_more : (lines : List HistoryLine) (l : HistoryLine) → lines_text (lines ++ l ∷ []) ≡ lines_text lines ++ (line_text l ++ 10 ∷ [])
text_more lines l =
    let feed : List ℕ → List ℕ = λ bytes. bytes ++ 10 ∷ [] in
    ap fed (map-append line_text lines (l ∷ [])) ∙ flat_map-append feed (map line_text lines) (line_text l ∷ []) ∙ ap (λ t. lines_text lines ++ t) (append-nil (line_text l ++ 10 ∷ []))

-- the lines so far begin a text
pub begins : (d : Draft) → IsDraft d → IsNumber (length d.journal.entries) → BeginsText (lines_text (lines_so_far d))
begins d is few =
    let s : Stats = record { blocks = 0; quanta = 0; retained = 0; weak = 0; assocs = 0 } in
    let n = length d.journal.entries in
    record {
      options = d.options;
      history = d.journal.entries;
      stats = s;
      rest = line_text (line.End n s) ++ 10 ∷ [];
      is = record {
        options = is.options;
        entries = is.entries;
        spelled = is.spelled;
        count = few;
        stats = (omega arith, omega arith, omega arith, omega arith, omega arith);
        text = sym (text_more (lines_so_far d) (line.End n s));
      };
    }

-- and with the last line they are one
pub ends : (d : Draft) (bytes all : List ℕ) (s : Stats) → IsDraft d → IsEndOf d bytes s → all ≡ lines_text (lines_so_far d) ++ (bytes ++ 10 ∷ []) → IsText all d.options d.journal.entries s
ends d bytes all s is end e = record {
  options = is.options;
  entries = is.entries;
  spelled = is.spelled;
  count = end.count;
  stats = end.stats;
  text = e ∙ ap (λ t. lines_text (lines_so_far d) ++ (t ++ 10 ∷ [])) end.text ∙ sym (text_more (lines_so_far d) (line.End (length d.journal.entries) s));
}

-- lines of the same bytes
pub same_lines : LinesHaveOneReading → (xs ys : List HistoryLine) → AreLines xs → AreLines ys → map line_text xs ≡ map line_text ys → map bare_line xs ≡ map bare_line ys
same_lines laws [] [] a b e = refl
same_lines laws [] (y ∷ ys) a b e = cc
same_lines laws (x ∷ xs) [] a b e = cc
same_lines laws (x ∷ xs) (y ∷ ys) a b e =
    let here : line_text x ≡ line_text y = cc in
    let rest : map line_text xs ≡ map line_text ys = cc in
    let first = laws (line_text y) x y (record { ranged = a.0.0; spelled = a.0.1; text = sym here }) (record { ranged = b.0.0; spelled = b.0.1; text = refl }) in
    let others = same_lines laws xs ys a.1 b.1 rest in
    cc (first, others)

-- the line whose bytes come after others
split_lines : (all : List HistoryLine) (xs : List (List ℕ)) (z : List ℕ) (zs : List (List ℕ)) → map line_text all ≡ xs ++ z ∷ zs
    → (front : List HistoryLine) × (l : HistoryLine) × (back : List HistoryLine) × (all ≡ front ++ l ∷ back) × (map line_text front ≡ xs) × (line_text l ≡ z)
split_lines [] [] z zs e = absurd (cc)
split_lines [] (x ∷ xs) z zs e = absurd (cc)
split_lines (a ∷ all) [] z zs e = ([], a, all, refl, refl, cc)
split_lines (a ∷ all) (x ∷ xs) z zs e =
    let here : line_text a ≡ x = cc in
    let rest : map line_text all ≡ xs ++ z ∷ zs = cc in
    let r = split_lines all xs z zs rest in
    (a ∷ r.0, r.1, r.2, ap (λ ls. a ∷ ls) r.3, cc (here, r.4), r.5)

-- a history with this line after these lines has it after them
met : LinesHaveOneReading → (lines : List HistoryLine) → AreLines lines → (piece bytes : List ℕ) (o : Options) (history : List Entry) (s : Stats) → IsText bytes o history s → (zs : List (List ℕ))
    → map line_text (lines_of_history o history s) ≡ map line_text lines ++ piece ∷ zs → ¬ CannotFollow lines piece
met laws lines are piece bytes o history s is zs e cannot =
    let r = split_lines (lines_of_history o history s) (map line_text lines) piece zs e in
    let all = lines_front r.0 (r.1 ∷ r.2) (subst AreLines r.3 (text_are bytes o history s is)) in
    cannot o history s r.0 r.1 r.2 r.3 (same_lines laws r.0 lines all.0 are r.4) (record { ranged = all.1.0.0; spelled = all.1.0.1; text = sym r.5 })

no_begin : LinesHaveOneReading → (lines : List HistoryLine) → AreLines lines → (piece : List ℕ) → HasNoFeed piece → CannotFollow lines piece → ¬ BeginsText (lines_text lines ++ piece ++ 10 ∷ [])
no_begin laws lines are piece solid cannot b =
    let xs = map line_text lines in
    let whole : List ℕ = (lines_text lines ++ piece ++ 10 ∷ []) ++ b.rest in
    let more : fed (xs ++ piece ∷ []) ≡ lines_text lines ++ piece ++ 10 ∷ [] = flat_map-append (λ bytes. bytes ++ 10 ∷ []) xs (piece ∷ []) ∙ ap (λ t. lines_text lines ++ t) (append-nil (piece ++ 10 ∷ [])) ∙ sym (append_assoc (lines_text lines) piece (10 ∷ [])) in
    let text : fed (map line_text (lines_of_history b.options b.history b.stats)) ≡ fed (xs ++ piece ∷ []) ++ b.rest = sym b.is.text ∙ ap (λ t. t ++ b.rest) (sym more) in
    let c = cut_lines (xs ++ piece ∷ []) (map line_text (lines_of_history b.options b.history b.stats)) b.rest (pieces xs piece (no_feeds lines are) solid) (no_feeds _ (text_are whole b.options b.history b.stats b.is)) text in
    met laws lines are piece whole b.options b.history b.stats b.is c.0 (c.1 ∙ append_assoc xs (piece ∷ []) c.0) cannot
  where
    pieces : (xs : List (List ℕ)) (x : List ℕ) → AllByRecursion HasNoFeed xs → HasNoFeed x → AllByRecursion HasNoFeed (xs ++ x ∷ [])
    pieces [] x a b = (b, tt)
    pieces (y ∷ ys) x a b = (a.0, pieces ys x a.1 b)

no_text : LinesHaveOneReading → (lines : List HistoryLine) → AreLines lines → (after all : List ℕ) → all ≡ lines_text lines ++ after
    → ((piece more : List ℕ) → HasNoFeed piece → after ≡ piece ++ 10 ∷ more → CannotFollow lines piece) → (after ≡ [] → next_place 0 lines ≡ 7 → ⊥)
    → (o : Options) (history : List Entry) (s : Stats) → IsText all o history s → ⊥
no_text laws lines are after all cut cannot unended o history s is =
    let whole = lines_of_history o history s in
    let xs = map line_text lines in
    let solid = no_feeds whole (text_are all o history s is) in
    let c = cut_lines xs (map line_text whole) after (no_feeds lines are) solid (sym is.text ∙ cut) in
    by_rest c.0 c.1 c.2
  where
    last_of : (xs zs : List (List ℕ)) → AllByRecursion HasNoFeed (xs ++ zs) → AllByRecursion HasNoFeed zs
    last_of [] zs h = h
    last_of (x ∷ xs) zs h = last_of xs zs h.1

    by_rest : (zs : List (List ℕ)) → map line_text (lines_of_history o history s) ≡ map line_text lines ++ zs → after ≡ fed zs → ⊥
    by_rest [] e none =
        let same = same_lines laws (lines_of_history o history s) lines (text_are all o history s is) are (e ∙ append-nil (map line_text lines)) in
        unended none (sym (bare_next 0 lines) ∙ ap (next_place 0) (sym same) ∙ bare_next 0 (lines_of_history o history s) ∙ history_ends o history s)
    by_rest (z ∷ zs) e some =
        let solid = last_of (map line_text lines) (z ∷ zs) (subst (AllByRecursion HasNoFeed) e (no_feeds (lines_of_history o history s) (text_are all o history s is))) in
        met laws lines are z all o history s is zs e (cannot z (fed zs) solid.0 (some ∙ fed_first z zs))

-- the first line that can't stand
pub wrong_at : LinesHaveOneReading → (lines : List HistoryLine) → AreLines lines → (after all : List ℕ) (n : ℕ) → n ≡ length lines + 1 → all ≡ lines_text lines ++ after → BeginsText (lines_text lines)
    → ((piece more : List ℕ) → HasNoFeed piece → after ≡ piece ++ 10 ∷ more → CannotFollow lines piece) → (after ≡ [] → next_place 0 lines ≡ 7 → ⊥) → IsWrongAt all n
wrong_at laws lines are after all n number cut can cannot unended = record {
  before = map line_text lines;
  after = after;
  cut = cut;
  lines = All-from_recursion HasNoFeed (map line_text lines) (no_feeds lines are);
  place = number ∙ ap (λ k. k + 1) (sym (length-map lines line_text));
  can = can;
  cannot = λ piece more solid e. no_begin laws lines are piece solid (cannot piece more solid e);
  none = no_text laws lines are after all cut cannot unended;
}

-- the bytes up to a line feed
pub cut_found : (piece more : List ℕ) → HasNoFeed piece → cut_at 10 (piece ++ 10 ∷ more) ≡ Some (piece, more)
cut_found [] more h = refl
cut_found (b ∷ piece) more h =
    let g = goes b piece h in
    rw (ne_eqb b 10 g.0, cut_found piece more g.1) refl

pair_same : (a b x y : List ℕ) → ◌≡◌ {A = Option (List ℕ × List ℕ)} (Some (a, b)) (Some (x, y)) → (a ≡ x) × (b ≡ y)
pair_same a b x y e =
    let p : ◌≡◌ {A = List ℕ × List ℕ} (a, b) (x, y) = cc in
    (ap (λ q. q.0) p, ap (λ q. q.1) p)

cut_by : (b : ℕ) (bs x y : List ℕ) (t : Bool) → (b == 10) ≡ t → ((u v : List ℕ) → cut_at 10 bs ≡ Some (u, v) → (bs ≡ u ++ 10 ∷ v) × HasNoFeed u) → cut_at 10 (b ∷ bs) ≡ Some (x, y) → (b ∷ bs ≡ x ++ 10 ∷ y) × HasNoFeed x
cut_by b bs x y true t rec e =
    let k : ◌≡◌ {A = Option (List ℕ × List ℕ)} (Some ([], bs)) (Some (x, y)) = rw t at e in
    let p = pair_same [] bs x y k in
    let is : b ≡ 10 = eqb-true b 10 t in
    let both : b ∷ bs ≡ 10 ∷ y = cc (is, p.1) in
    subst (λ u. (b ∷ bs ≡ u ++ 10 ∷ y) × HasNoFeed u) p.0 (both, refl)
cut_by b bs x y false t rec e =
    let k : option_map {U = List ℕ × List ℕ} (λ p. (b ∷ p.0, p.1)) (cut_at 10 bs) ≡ Some (x, y) = rw t at e in
    onto (cut_at 10 bs) refl k
  where
    onto : (r : Option (List ℕ × List ℕ)) → cut_at 10 bs ≡ r → option_map {U = List ℕ × List ℕ} (λ p. (b ∷ p.0, p.1)) r ≡ Some (x, y) → (b ∷ bs ≡ x ++ 10 ∷ y) × HasNoFeed x
    onto None r k = absurd (cc)
    onto (Some p) r k =
        let q = pair_same (b ∷ p.0) p.1 x y k in
        let h = rec p.0 p.1 r in
        let both : b ∷ bs ≡ b ∷ p.0 ++ 10 ∷ y = ap (λ cs. b ∷ cs) (h.0 ∙ ap (λ v. p.0 ++ 10 ∷ v) q.1) in
        subst (λ u. (b ∷ bs ≡ u ++ 10 ∷ y) × HasNoFeed u) q.0 (both, rw (t, h.1) refl)

pub cut_is : (bs x y : List ℕ) → cut_at 10 bs ≡ Some (x, y) → (bs ≡ x ++ 10 ∷ y) × HasNoFeed x
cut_is [] x y e = absurd (cc)
cut_is (b ∷ bs) x y e = cut_by b bs x y (b == 10) refl (λ u v h. cut_is bs u v h) e

-- the line that was read can't stand
pub wrong_line : LinesHaveOneReading → (d : Draft) (bytes rest after all : List ℕ) (n : ℕ) → IsDraft d → IsNumber (length d.journal.entries) → n ≡ length (lines_so_far d) + 1
    → all ≡ lines_text (lines_so_far d) ++ rest → cut_at 10 rest ≡ Some (bytes, after) → CannotFollow (lines_so_far d) bytes → IsWrongAt all n
wrong_line laws d bytes rest after all n is few number text cut cannot =
    wrong_at laws (lines_so_far d) (draft_are d is) rest all n number text (begins d is few) same (λ none end. open_end end)
  where
    open_end : next_place 0 (lines_so_far d) ≡ 7 → ⊥
    open_end end = let low = (before_ordered d.options d.journal.entries).1 in omega (arith, end, low)

    same : (piece more : List ℕ) → HasNoFeed piece → rest ≡ piece ++ 10 ∷ more → CannotFollow (lines_so_far d) piece
    same piece more solid e =
        let found : ◌≡◌ {A = Option (List ℕ × List ℕ)} (Some (bytes, after)) (Some (piece, more)) = sym cut ∙ ap (cut_at 10) e ∙ cut_found piece more solid in
        subst (CannotFollow (lines_so_far d)) (pair_same bytes after piece more found).0 cannot

none_some : {p : List ℕ × List ℕ} → ◌≡◌ {A = Option (List ℕ × List ℕ)} None (Some p) → ⊥
none_some e = cc

-- no line is left
pub wrong_end : LinesHaveOneReading → (d : Draft) (rest all : List ℕ) (n : ℕ) → IsDraft d → IsNumber (length d.journal.entries) → n ≡ length (lines_so_far d) + 1
    → all ≡ lines_text (lines_so_far d) ++ rest → cut_at 10 rest ≡ None → IsWrongAt all n
wrong_end laws d rest all n is few number text cut =
    wrong_at laws (lines_so_far d) (draft_are d is) rest all n number text (begins d is few)
    (λ piece more solid e. let found : ◌≡◌ {A = Option (List ℕ × List ℕ)} None (Some (piece, more)) = sym cut ∙ ap (cut_at 10) e ∙ cut_found piece more solid in absurd (none_some found)) (λ none end. open_end end)
  where
    open_end : next_place 0 (lines_so_far d) ≡ 7 → ⊥
    open_end end = let low = (before_ordered d.options d.journal.entries).1 in omega (arith, end, low)

-- something is left after the last line
pub wrong_after : LinesHaveOneReading → (d : Draft) (bytes rest after all : List ℕ) (s : Stats) (n : ℕ) → IsDraft d → IsEndOf d bytes s → n ≡ length (lines_so_far d) + 2
    → all ≡ lines_text (lines_so_far d) ++ rest → rest ≡ bytes ++ 10 ∷ after → (after ≡ [] → ⊥) → IsWrongAt all n
wrong_after laws d bytes rest after all s n is end number text cut some =
    let h = d.journal.entries in
    let whole = lines_of_history d.options h s in
    let front : List ℕ = lines_text (lines_so_far d) ++ (bytes ++ 10 ∷ []) in
    let a = ends d bytes front s is end refl in
    let many : n ≡ length whole + 1 = omega (arith, number, length-append (lines_so_far d) (line.End (length h) s ∷ [])) in
    let split : all ≡ lines_text whole ++ after =
    text ∙ ap (λ t. lines_text (lines_so_far d) ++ t) (cut ∙ sym (append_assoc bytes (10 ∷ []) after)) ∙ sym (append_assoc (lines_text (lines_so_far d)) (bytes ++ 10 ∷ []) after) ∙ ap (λ t. t ++ after) a.text in
    let can : BeginsText (lines_text whole) = record { options = d.options; history = h; stats = s; rest = []; is = record { options = a.options; entries = a.entries; spelled = a.spelled; count = a.count; stats = a.stats; text = append-nil (lines_text whole) } } in
    wrong_at laws whole (text_are front d.options h s a) after all n many split can
    (λ piece more solid e. passed whole piece (λ l h. below l)) (λ none end. some none)
  where
    place_below : (l : HistoryLine) → line_place l ≤ 6
    place_below (line.Setting x) = grind arith
    place_below (line.Entry e) = omega arith
    place_below (line.End c t) = omega arith

    below : (l : HistoryLine) → line_place l < next_place 0 (lines_of_history d.options d.journal.entries s)
    below l = let e = history_ends d.options d.journal.entries s in omega (arith, place_below l, e)

-- what is left after a line is shorter
pub left_shorter : (rest bytes after : List ℕ) → cut_at 10 rest ≡ Some (bytes, after) → length after < length rest
left_shorter rest bytes after cut =
    let many : length rest ≡ length (bytes ++ 10 ∷ after) = ap length (cut_is rest bytes after cut).0 in
    omega (arith, many, length-append bytes (10 ∷ after))

-- the lines so far and what is left, after one more line
pub more_text : (d e : Draft) (bytes rest after all : List ℕ) (n : ℕ) → all ≡ lines_text (lines_so_far d) ++ rest → n ≡ length (lines_so_far d) + 1 → cut_at 10 rest ≡ Some (bytes, after) → HasLine d e bytes
    → (all ≡ lines_text (lines_so_far e) ++ after) × (n + 1 ≡ length (lines_so_far e) + 1)
more_text d e bytes rest after all n text number cut has =
    let whole : rest ≡ bytes ++ 10 ∷ after = (cut_is rest bytes after cut).0 in
    let here : lines_text (lines_so_far e) ≡ lines_text (lines_so_far d) ++ (bytes ++ 10 ∷ []) =
    ap lines_text has.lines ∙ text_more (lines_so_far d) has.line ∙ ap (λ t. lines_text (lines_so_far d) ++ (t ++ 10 ∷ [])) (sym has.text) in
    let many : length (lines_so_far e) ≡ length (lines_so_far d ++ has.line ∷ []) = ap length has.lines in (
      text ∙ ap (λ t. lines_text (lines_so_far d) ++ t) (whole ∙ sym (append_assoc bytes (10 ∷ []) after)) ∙ sym (append_assoc (lines_text (lines_so_far d)) (bytes ++ 10 ∷ []) after) ∙ ap (λ t. t ++ after) (sym here),
      omega (arith, number, many, length-append (lines_so_far d) (has.line ∷ [])),
    )

pub empty : (xs : List ℕ) → length xs ≡ 0 → xs ≡ []
empty [] h = refl
empty (x ∷ xs) h = absurd (omega arith)

-- the last line, with nothing after it
pub whole_text : (d e : Draft) (bytes rest after all : List ℕ) (s : Stats) → IsDraft d → IsEndOf d bytes s → e ≡ d → all ≡ lines_text (lines_so_far d) ++ rest → cut_at 10 rest ≡ Some (bytes, after) → after ≡ []
    → IsText all e.options e.journal.entries s × (e.journal.owed ≡ 0)
whole_text d e bytes rest after all s is end same text cut none =
    rw same (ends d bytes all s is end (text ∙ ap (λ t. lines_text (lines_so_far d) ++ t) ((cut_is rest bytes after cut).0 ∙ ap (λ t. bytes ++ 10 ∷ t) none)), is.owed)
