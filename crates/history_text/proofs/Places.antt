-- The places of the lines of a history
use Rattle.std.proofs.Common.{◌≡◌, ℕ, ◌==◌, ◌+◌, ◌≤◌, Bool, true, false, List, [], ◌∷◌, ◌++◌, length, map, refl, sym, ap, ◌∙◌, subst, arith, append_assoc, append-nil}
use Rattle.std.proofs.lemmas.Bool.{eq-eqb, ne_eqb}
use Rattle.std.proofs.lemmas.List.{map-append}
use Rattle.az_base.specs.declared.options.Options.{Options}
use Rattle.az_base.specs.OptionRanges.{usual_options, IsValid}
use Rattle.zone_model.specs.declared.entry.Entry.{Entry}
use Rattle.zone_model.specs.declared.entry.Stats.{Stats}
use Rattle.history_text.specs.declared.lines.HistoryLine.{HistoryLine}
use Rattle.history_text.specs.declared.lines.HistoryLine.TheVariants as line
use Rattle.call_words.specs.declared.options.OptionName.{OptionName}
use Rattle.call_words.specs.declared.options.OptionName.TheVariants as option
use Rattle.history_text.specs.declared.lines.Setting.{Setting}
use Rattle.call_words.specs.Options.{least}
use Rattle.history_text.specs.Lines.{most, IsSetting, bare_line}
use Rattle.history_text.specs.Texts.{unless_usual, settings_of, setting_lines, entry_lines, lines_before_end, lines_of_history}
use Rattle.history_text.specs.Drafts.{place_of, with_setting, AreUsualFrom, line_place, place_after, next_place}

pub next_append : (p : ℕ) (xs ys : List HistoryLine) → next_place p (xs ++ ys) ≡ next_place (next_place p xs) ys
next_append p [] ys = refl
next_append p (x ∷ xs) ys = next_append (place_after x) xs ys

bare_after : (l : HistoryLine) → place_after (bare_line l) ≡ place_after l
bare_after (line.Setting s) = refl
bare_after (line.Entry e) = refl
bare_after (line.End count s) = refl

pub bare_next : (p : ℕ) (xs : List HistoryLine) → next_place p (map bare_line xs) ≡ next_place p xs
bare_next p [] = refl
bare_next p (x ∷ xs) = ap (λ q. next_place q (map bare_line xs)) (bare_after x) ∙ bare_next (place_after x) xs

-- each line stands at its place or later
pub Ordered : ℕ → List HistoryLine → Type 0
Ordered p [] = Unit {0}
Ordered p (l ∷ lines) = (p ≤ line_place l) × Ordered (place_after l) lines

pub ordered_append : (p : ℕ) (xs ys : List HistoryLine) → Ordered p xs → Ordered (next_place p xs) ys → Ordered p (xs ++ ys)
unfolding Ordered
ordered_append p [] ys a b = b
ordered_append p (x ∷ xs) ys a b = (a.0, ordered_append (place_after x) xs ys a.1 b)

pub ordered_middle : (p : ℕ) (xs : List HistoryLine) (l : HistoryLine) (ys : List HistoryLine) → Ordered p (xs ++ l ∷ ys) → next_place p xs ≤ line_place l
unfolding Ordered
ordered_middle p [] l ys h = h.0
ordered_middle p (x ∷ xs) l ys h = ordered_middle (place_after x) xs l ys h.1

-- options from one place to another
one_setting : (name : OptionName) (usual n : ℕ) (p : ℕ) (b : Bool) → (n == usual) ≡ b → p ≤ place_of name
    → Ordered p (setting_lines (unless_usual name usual n)) × (next_place p (setting_lines (unless_usual name usual n)) ≤ place_of name + 1)
unfolding Ordered
one_setting name usual n p true e h = rw e (tt, omega arith)
one_setting name usual n p false e h = rw e ((h, tt), omega arith)

settings_join : (p q r : ℕ) (ss ts : List Setting) → Ordered p (setting_lines ss) × (next_place p (setting_lines ss) ≤ q)
    → ((m : ℕ) → m ≤ q → Ordered m (setting_lines ts) × (next_place m (setting_lines ts) ≤ r)) → Ordered p (setting_lines (ss ++ ts)) × (next_place p (setting_lines (ss ++ ts)) ≤ r)
settings_join p q r ss ts a b =
    let c = b (next_place p (setting_lines ss)) a.1 in
    let same = map-append line.Setting ss ts in (
      subst (Ordered p) (sym same) (ordered_append p (setting_lines ss) (setting_lines ts) a.0 c.0),
      subst (λ xs. next_place p xs ≤ r) (sym same) (subst (λ m. m ≤ r) (sym (next_append p (setting_lines ss) (setting_lines ts))) c.1),
    )

pub settings_ordered : (o : Options) → Ordered 0 (setting_lines (settings_of o)) × (next_place 0 (setting_lines (settings_of o)) ≤ 5)
settings_ordered o =
    let heap = unless_usual option.Heap usual_options.heap_quanta o.heap_quanta in
    let sets = unless_usual option.Local usual_options.local_quanta o.local_quanta in
    let serials = unless_usual option.Serials usual_options.serials o.serials in
    let counts = unless_usual option.Counts usual_options.counts o.counts in
    let pending = unless_usual option.Pending usual_options.pending o.pending in
    settings_join 0 4 5 (heap ++ sets ++ serials ++ counts) pending
    (settings_join 0 3 4 (heap ++ sets ++ serials) counts
    (settings_join 0 2 3 (heap ++ sets) serials
    (settings_join 0 1 2 heap sets (one_setting option.Heap usual_options.heap_quanta o.heap_quanta 0 _ refl (omega arith))
    (λ m h. one_setting option.Local usual_options.local_quanta o.local_quanta m _ refl h))
    (λ m h. one_setting option.Serials usual_options.serials o.serials m _ refl h))
    (λ m h. one_setting option.Counts usual_options.counts o.counts m _ refl h))
    (λ m h. one_setting option.Pending usual_options.pending o.pending m _ refl h)

entries_ordered : (p : ℕ) (history : List Entry) → p ≤ 5 → Ordered p (entry_lines history) × (next_place p (entry_lines history) ≤ 5)
unfolding Ordered
entries_ordered p [] h = (tt, h)
entries_ordered p (e ∷ history) h = let r = entries_ordered 5 history (omega arith) in ((h, r.0), r.1)

pub before_ordered : (o : Options) (history : List Entry) → Ordered 0 (lines_before_end o history) × (next_place 0 (lines_before_end o history) ≤ 5)
before_ordered o history =
    let a = settings_ordered o in
    let b = entries_ordered (next_place 0 (setting_lines (settings_of o))) history a.1 in
    (ordered_append 0 (setting_lines (settings_of o)) (entry_lines history) a.0 b.0, subst (λ m. m ≤ 5) (sym (next_append 0 (setting_lines (settings_of o)) (entry_lines history))) b.1)

-- the lines of a history stand in their order
pub history_ordered : (o : Options) (history : List Entry) (s : Stats) → Ordered 0 (lines_of_history o history s)
unfolding Ordered
history_ordered o history s =
    let a = before_ordered o history in
    ordered_append 0 (lines_before_end o history) (line.End (length history) s ∷ []) a.0 (omega (arith, a.1), tt)

pub history_ends : (o : Options) (history : List Entry) (s : Stats) → next_place 0 (lines_of_history o history s) ≡ 7
history_ends o history s = next_append 0 (lines_before_end o history) (line.End (length history) s ∷ [])

-- no option comes after an entry
entries_next : (p : ℕ) (e : Entry) (history : List Entry) → next_place p (entry_lines (e ∷ history)) ≡ 5
entries_next p e [] = refl
entries_next p e (f ∷ history) = entries_next 5 f history

pub no_entry : (o : Options) (history : List Entry) → next_place 0 (lines_before_end o history) ≤ 4 → history ≡ []
no_entry o [] h = refl
no_entry o (e ∷ history) h =
    let k : next_place 0 (lines_before_end o (e ∷ history)) ≡ 5 = next_append 0 (setting_lines (settings_of o)) (entry_lines (e ∷ history)) ∙ entries_next (next_place 0 (setting_lines (settings_of o))) e history in
    absurd (omega (arith, h, k))

-- a number that isn't the usual one makes a line, and a usual one none
one : (name : OptionName) (usual n : ℕ) → (n ≡ usual → ⊥) → unless_usual name usual n ≡ record { name = name; number = n } ∷ []
one name usual n h = rw (ne_eqb n usual h) refl

none : (name : OptionName) (usual n : ℕ) → n ≡ usual → unless_usual name usual n ≡ []
none name usual n h = rw (eq-eqb n usual h) refl

set_by : (o : Options) (name : OptionName) (n : ℕ) → AreUsualFrom (place_of name) o → n ≤ most name → settings_of (with_setting o name n) ≡ settings_of o ++ record { name = name; number = n } ∷ []
set_by o option.Heap n u h =
    let x = one option.Heap usual_options.heap_quanta n (λ e. omega arith) in
    let a = none option.Heap usual_options.heap_quanta o.heap_quanta (u.heap (omega arith)) in
    let b = none option.Local usual_options.local_quanta o.local_quanta (u.«local» (omega arith)) in
    let c = none option.Serials usual_options.serials o.serials (u.serials (omega arith)) in
    let d = none option.Counts usual_options.counts o.counts (u.counts (omega arith)) in
    let e = none option.Pending usual_options.pending o.pending (u.pending (omega arith)) in
    rw (x, a, b, c, d, e) refl
set_by o option.Local n u h =
    let x = one option.Local usual_options.local_quanta n (λ e. omega arith) in
    let b = none option.Local usual_options.local_quanta o.local_quanta (u.«local» (omega arith)) in
    let c = none option.Serials usual_options.serials o.serials (u.serials (omega arith)) in
    let d = none option.Counts usual_options.counts o.counts (u.counts (omega arith)) in
    let e = none option.Pending usual_options.pending o.pending (u.pending (omega arith)) in
    rw (x, b, c, d, e) (simp (append_assoc, append-nil))
set_by o option.Serials n u h =
    let x = one option.Serials usual_options.serials n (λ e. omega arith) in
    let c = none option.Serials usual_options.serials o.serials (u.serials (omega arith)) in
    let d = none option.Counts usual_options.counts o.counts (u.counts (omega arith)) in
    let e = none option.Pending usual_options.pending o.pending (u.pending (omega arith)) in
    rw (x, c, d, e) (simp (append_assoc, append-nil))
set_by o option.Counts n u h =
    let x = one option.Counts usual_options.counts n (λ e. omega arith) in
    let d = none option.Counts usual_options.counts o.counts (u.counts (omega arith)) in
    let e = none option.Pending usual_options.pending o.pending (u.pending (omega arith)) in
    rw (x, d, e) (simp (append_assoc, append-nil))
set_by o option.Pending n u h =
    let x = one option.Pending usual_options.pending n (λ e. omega arith) in
    let e = none option.Pending usual_options.pending o.pending (u.pending (omega arith)) in
    rw (x, e) (simp (append_assoc, append-nil))

-- an option that is set is one line more
pub set_more : (o : Options) (s : Setting) → AreUsualFrom (place_of s.name) o → IsSetting s → settings_of (with_setting o s.name s.number) ≡ settings_of o ++ s ∷ []
set_more o s u h = set_by o s.name s.number u h.1

-- the options after it stay at their defaults
pub set_unset : (o : Options) (name : OptionName) (n : ℕ) → AreUsualFrom (place_of name) o → AreUsualFrom (place_of name + 1) (with_setting o name n)
set_unset o option.Heap n u = record { heap = λ h. absurd (omega arith); «local» = λ h. u.«local» (omega arith); serials = λ h. u.serials (omega arith); counts = λ h. u.counts (omega arith); pending = λ h. u.pending (omega arith) }
set_unset o option.Local n u = record { heap = λ h. absurd (omega arith); «local» = λ h. absurd (omega arith); serials = λ h. u.serials (omega arith); counts = λ h. u.counts (omega arith); pending = λ h. u.pending (omega arith) }
set_unset o option.Serials n u = record { heap = λ h. absurd (omega arith); «local» = λ h. absurd (omega arith); serials = λ h. absurd (omega arith); counts = λ h. u.counts (omega arith); pending = λ h. u.pending (omega arith) }
set_unset o option.Counts n u = record { heap = λ h. absurd (omega arith); «local» = λ h. absurd (omega arith); serials = λ h. absurd (omega arith); counts = λ h. absurd (omega arith); pending = λ h. u.pending (omega arith) }
set_unset o option.Pending n u = record { heap = λ h. absurd (omega arith); «local» = λ h. absurd (omega arith); serials = λ h. absurd (omega arith); counts = λ h. absurd (omega arith); pending = λ h. absurd (omega arith) }

-- options from an earlier place on are at their defaults
pub unset_later : (o : Options) (p q : ℕ) → p ≤ q → AreUsualFrom p o → AreUsualFrom q o
unset_later o p q l u = record { heap = λ h. u.heap (omega arith); «local» = λ h. u.«local» (omega arith); serials = λ h. u.serials (omega arith); counts = λ h. u.counts (omega arith); pending = λ h. u.pending (omega arith) }

pub unset_end : (o : Options) → AreUsualFrom 5 o
unset_end o = record { heap = λ h. absurd (omega arith); «local» = λ h. absurd (omega arith); serials = λ h. absurd (omega arith); counts = λ h. absurd (omega arith); pending = λ h. absurd (omega arith) }

-- and each number stays in its range
pub set_valid : (o : Options) (s : Setting) → IsValid o → IsSetting s → IsValid (with_setting o s.name s.number)
set_valid o s v h = valid_by o s.name s.number v h.0 h.1
  where
    valid_by : (o : Options) (name : OptionName) (n : ℕ) → IsValid o → least name ≤ n → n ≤ most name → IsValid (with_setting o name n)
    valid_by o option.Heap n v l h = record { heap = (l, omega arith); «local» = v.«local»; serials = v.serials; counts = v.counts; pending = v.pending }
    valid_by o option.Local n v l h = record { heap = v.heap; «local» = omega arith; serials = v.serials; counts = v.counts; pending = v.pending }
    valid_by o option.Serials n v l h = record { heap = v.heap; «local» = v.«local»; serials = (l, omega arith); counts = v.counts; pending = v.pending }
    valid_by o option.Counts n v l h = record { heap = v.heap; «local» = v.«local»; serials = v.serials; counts = (l, omega arith); pending = v.pending }
    valid_by o option.Pending n v l h = record { heap = v.heap; «local» = v.«local»; serials = v.serials; counts = v.counts; pending = (l, omega arith) }
