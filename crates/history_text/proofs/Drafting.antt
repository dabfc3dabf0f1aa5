-- A draft with one line more, and what can't follow it
use Rattle.std.proofs.Common.{◌≡◌, ℕ, ◌+◌, ◌<◌, ◌≤◌, List, [], ◌∷◌, ◌++◌, length, map, All, refl, sym, ap, ◌∙◌, subst, arith, append_assoc, append-nil, length-append}
use Rattle.std.proofs.lemmas.List.{map-append}
use Rattle.std.proofs.lemmas.List.Elements.{All-append, All-from_recursion}
use Rattle.az_base.specs.declared.options.Options.{Options}
use Rattle.zone_model.specs.Bare.{bare_reply, bare_entry}
use Rattle.zone_model.specs.declared.entry.Entry.{Entry}
use Rattle.zone_model.specs.declared.entry.Reply.{Reply}
use Rattle.zone_model.specs.declared.entry.Reply.TheVariants as reply
use Rattle.zone_model.specs.declared.entry.Stats.{Stats}
use Rattle.history_text.specs.declared.draft.Draft.{Draft}
use Rattle.history_text.specs.declared.lines.HistoryLine.{HistoryLine}
use Rattle.history_text.specs.declared.lines.HistoryLine.TheVariants as line
use Rattle.history_text.specs.declared.lines.Setting.{Setting}
use Rattle.history_text.specs.Laws.{LinesHaveOneReading}
use Rattle.call_words.specs.Ranges.{IsSpelled}
use Rattle.history_text.specs.Ranges.{IsEntry, IsReply}
use Rattle.history_text.specs.Lines.{IsLine, bare_line}
use Rattle.history_text.specs.Texts.{settings_of, setting_lines, entry_lines, lines_before_end}
use Rattle.history_text.specs.Drafts.{IsDraft, HasLine, CannotFollow, lines_so_far, place_of, with_setting, line_place, next_place}
use Rattle.history_text.proofs.LineLaws.{bare_text}
use Rattle.history_text.proofs.Places.{Ordered, next_append, bare_next, ordered_middle, history_ordered, no_entry, set_more, set_unset, unset_later, unset_end, set_valid}

-- options
more_lines : (o : Options) (ss : List Setting) (s : Setting) (history : List Entry) → history ≡ [] → settings_of o ≡ ss ++ s ∷ []
    → lines_before_end o history ≡ (setting_lines ss ++ entry_lines history) ++ line.Setting s ∷ []
more_lines o ss s history none e =
    let left : lines_before_end o history ≡ setting_lines (ss ++ s ∷ []) ++ [] = rw (none, e) refl in
    let right : (setting_lines ss ++ entry_lines history) ++ line.Setting s ∷ [] ≡ setting_lines ss ++ line.Setting s ∷ [] = rw none (ap (λ xs. xs ++ line.Setting s ∷ []) (append-nil (setting_lines ss))) in
    left ∙ append-nil (setting_lines (ss ++ s ∷ [])) ∙ map-append line.Setting ss (s ∷ []) ∙ sym right

pub has_setting : (d e : Draft) (s : Setting) (bytes : List ℕ) → IsDraft d → IsLine bytes (line.Setting s) → d.next ≤ place_of s.name
    → e ≡ record d { options = with_setting d.options s.name s.number; next = place_of s.name + 1 } → HasLine d e bytes
has_setting d e s bytes is said later same =
    let unset = unset_later d.options d.next (place_of s.name) later is.unset in
    let before : next_place 0 (lines_before_end d.options d.journal.entries) ≤ 4 = below s d.next later (lines_before_end d.options d.journal.entries) is.next in
    let none = no_entry d.options d.journal.entries before in
    let lines = more_lines (with_setting d.options s.name s.number) (settings_of d.options) s d.journal.entries none (set_more d.options s unset said.ranged) in
    rw same (record {
      line = line.Setting s;
      draft = record {
        options = set_valid d.options s is.options said.ranged;
        entries = is.entries;
        spelled = is.spelled;
        owed = is.owed;
        unset = set_unset d.options s.name s.number unset;
        next = sym (ap (next_place 0) lines ∙ next_append 0 (lines_so_far d) (line.Setting s ∷ []));
      };
      lines = lines;
      text = said.text;
      entries = omega arith;
    })
  where
    place_below : (s : Setting) → place_of s.name ≤ 4
    place_below s = grind arith

    below : (s : Setting) (n : ℕ) → n ≤ place_of s.name → (lines : List HistoryLine) → n ≡ next_place 0 lines → next_place 0 lines ≤ 4
    below s n h lines e = omega (arith, place_below s, h, e)

-- entries
bare_range : (r : Reply) → IsReply r → IsReply (bare_reply r)
bare_range reply.Done h = tt
bare_range (reply.Block id) h = h
bare_range (reply.Number n) h = h
bare_range reply.Busy h = tt
bare_range reply.Begun h = tt
bare_range (reply.Condemned r) h = h
bare_range (reply.Finalised id) h = h
bare_range (reply.Reclaimed gone) h = h
bare_range (reply.Settled gone kept) h = h
bare_range (reply.Stats s) h = h
bare_range (reply.Misuse m) h = tt

pub has_entry : (d f : Draft) (e : Entry) (bytes : List ℕ) → IsDraft d → IsLine bytes (line.Entry e) → f.options ≡ d.options
    → f.journal.entries ≡ d.journal.entries ++ bare_entry e ∷ [] → f.journal.owed ≡ d.journal.owed → f.next ≡ 5 → HasLine d f bytes
has_entry d f e bytes is said options entries owed next =
    let bare = bare_entry e in
    let ranged : IsEntry bare = record { thread = said.ranged.thread; call = said.ranged.call; reply = bare_range e.reply said.ranged.reply } in
    let one : All IsEntry (bare ∷ []) = single IsEntry bare ranged in
    let spelled : All (λ x. IsSpelled x.call) (bare ∷ []) = single (λ x. IsSpelled x.call) bare said.spelled in
    let lines : lines_so_far f ≡ lines_so_far d ++ line.Entry bare ∷ [] =
    ap (λ o. lines_before_end o f.journal.entries) options ∙ ap (λ es. lines_before_end d.options es) entries
    ∙ ap (λ ls. setting_lines (settings_of d.options) ++ ls) (map-append line.Entry d.journal.entries (bare ∷ []))
    ∙ sym (append_assoc (setting_lines (settings_of d.options)) (entry_lines d.journal.entries) (line.Entry bare ∷ [])) in
    record {
      line = line.Entry bare;
      draft = record {
        options = rw options is.options;
        entries = rw entries (All-append IsEntry d.journal.entries (bare ∷ []) is.entries one);
        spelled = rw entries (All-append (λ x. IsSpelled x.call) d.journal.entries (bare ∷ []) is.spelled spelled);
        owed = owed ∙ is.owed;
        unset = rw next (unset_end f.options);
        next = next ∙ sym (ap (next_place 0) lines ∙ next_append 0 (lines_so_far d) (line.Entry bare ∷ []));
      };
      lines = lines;
      text = said.text ∙ sym (bare_text (line.Entry e));
      entries = rw entries (omega (arith, length-append d.journal.entries (bare ∷ [])));
    }
  where
    single : (P : Entry → Type 0) (x : Entry) → P x → All P (x ∷ [])
    single P x h = All-from_recursion P (x ∷ []) (h, tt)

-- what can't follow
bare_place : (l : HistoryLine) → line_place (bare_line l) ≡ line_place l
bare_place (line.Setting s) = refl
bare_place (line.Entry e) = refl
bare_place (line.End count s) = refl

-- a line whose place has passed
pub passed : (lines : List HistoryLine) (bytes : List ℕ) → ((l : HistoryLine) → IsLine bytes l → line_place l < next_place 0 lines) → CannotFollow lines bytes
passed lines bytes late o history s front l back whole same is =
    let here : next_place 0 front ≤ line_place l = ordered_middle 0 front l back (subst (λ ls. Ordered 0 ls) whole (history_ordered o history s)) in
    let place : next_place 0 front ≡ next_place 0 lines = sym (bare_next 0 front) ∙ ap (next_place 0) same ∙ bare_next 0 lines in
    let passed : line_place l < next_place 0 lines = late l is in
    omega (arith, here, place, passed)

pub cannot_set : LinesHaveOneReading → (d : Draft) (s : Setting) (bytes : List ℕ) → IsDraft d → IsLine bytes (line.Setting s) → place_of s.name < d.next → CannotFollow (lines_so_far d) bytes
cannot_set laws d s bytes is said late =
    passed (lines_so_far d) bytes
    (λ l h. let same : line_place l ≡ place_of s.name = sym (bare_place l) ∙ ap line_place (laws bytes l (line.Setting s) h said) in
    let place : d.next ≡ next_place 0 (lines_so_far d) = is.next in
    omega (arith, same, late, place))

-- how many entries there are
entries_in : List HistoryLine → ℕ
entries_in [] = 0
entries_in (line.Setting s ∷ lines) = entries_in lines
entries_in (line.Entry e ∷ lines) = 1 + entries_in lines
entries_in (line.End count s ∷ lines) = entries_in lines

bare_entries : (lines : List HistoryLine) → entries_in (map bare_line lines) ≡ entries_in lines
unfolding entries_in
bare_entries [] = refl
bare_entries (line.Setting s ∷ lines) = bare_entries lines
bare_entries (line.Entry e ∷ lines) = ap (λ n. 1 + n) (bare_entries lines)
bare_entries (line.End count s ∷ lines) = bare_entries lines

entries_only : (history : List Entry) → entries_in (entry_lines history) ≡ length history
unfolding entries_in
entries_only [] = refl
entries_only (e ∷ history) = let k = entries_only history in omega (arith, k)

settings_only : (ss : List Setting) (history : List Entry) → entries_in (setting_lines ss ++ entry_lines history) ≡ length history
unfolding entries_in
settings_only [] history = entries_only history
settings_only (s ∷ ss) history = settings_only ss history

-- each last line has the number of entries before it
Counted : ℕ → List HistoryLine → Type 0
Counted n [] = Unit {0}
Counted n (line.Setting s ∷ lines) = Counted n lines
Counted n (line.Entry e ∷ lines) = Counted (1 + n) lines
Counted n (line.End count s ∷ lines) = (count ≡ n) × Counted n lines

counted_entries : (n : ℕ) (history : List Entry) (count : ℕ) (s : Stats) → count ≡ n + length history → Counted n (entry_lines history ++ line.End count s ∷ [])
unfolding Counted
counted_entries n [] count s h = (omega (arith, h), tt)
counted_entries n (e ∷ history) count s h = counted_entries (1 + n) history count s (omega (arith, h))

counted_settings : (ss : List Setting) (history : List Entry) (s : Stats) → Counted 0 ((setting_lines ss ++ entry_lines history) ++ line.End (length history) s ∷ [])
unfolding Counted
counted_settings [] history s = counted_entries 0 history (length history) s (omega arith)
counted_settings (x ∷ ss) history s = counted_settings ss history s

counted_middle : (n : ℕ) (front : List HistoryLine) (count : ℕ) (s : Stats) (back : List HistoryLine) → Counted n (front ++ line.End count s ∷ back) → count ≡ n + entries_in front
unfolding Counted entries_in
counted_middle n [] count s back h = let k = h.0 in omega (arith, k)
counted_middle n (line.Setting x ∷ front) count s back h = counted_middle n front count s back h
counted_middle n (line.Entry e ∷ front) count s back h = let k = counted_middle (1 + n) front count s back h in omega (arith, k)
counted_middle n (line.End c t ∷ front) count s back h = counted_middle n front count s back h.1

only_end : (l : HistoryLine) (count : ℕ) (s : Stats) → bare_line l ≡ line.End count s → l ≡ line.End count s
only_end (line.Setting x) count s e = cc
only_end (line.Entry x) count s e = cc
only_end (line.End c t) count s e = e

pub cannot_end : LinesHaveOneReading → (d : Draft) (count : ℕ) (s : Stats) (bytes : List ℕ) → IsLine bytes (line.End count s) → (count ≡ length d.journal.entries → ⊥) → CannotFollow (lines_so_far d) bytes
cannot_end laws d count s bytes said other o history t front l back whole same is =
    let last : l ≡ line.End count s = only_end l count s (laws bytes l (line.End count s) is said) in
    let all : Counted 0 (front ++ line.End count s ∷ back) = subst (λ x. Counted 0 (front ++ x ∷ back)) last (subst (Counted 0) whole (counted_settings (settings_of o) history t)) in
    let many : count ≡ 0 + entries_in front = counted_middle 0 front count s back all in
    let few : entries_in front ≡ length d.journal.entries = sym (bare_entries front) ∙ ap entries_in same ∙ bare_entries (lines_so_far d) ∙ settings_only (settings_of d.options) d.journal.entries in
    other (omega (arith, many, few))
