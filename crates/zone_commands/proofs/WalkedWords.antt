-- A command word with two arguments, as the parse walks over them
use Rattle.std.proofs.Common.{◌≡◌, ◌&&◌, ℕ, Bool, true, false, List, [], ◌∷◌, Some, None, is_some, refl, ap, ap₂, ◌∙◌, codes}
use Rattle.std.specs.List.{list_all}
use Rattle.std.specs.Str.{bytes_eq}
use Rattle.clap.specs.Lexer.{long_of, short_of}
use Rattle.clap.specs.Words.{Rule, first_of, found_of, is_simple, matches_of, takes, HasMatchesOf}
use Rattle.clap.specs.Simple.{App, Shape, built, entered}
use Rattle.clap.specs.Takes.{default_passes, entered_passes, is_valid, settle_passes, step_passes, turn_passes, walk_passes, word_passes}
use Rattle.clap.specs.Walk.{Held, Step, Walk, after_step, finished, idle, nothing_held, value, walk, walk_from, walked, word_met}
use Rattle.clap.specs.declared.parser.matches.ArgMatches.{ArgMatches}
use Rattle.clap.proofs.OnLiterals.{clap_on_literals}
use Rattle.clap.proofs.WalkLemmas.{first_value-rows}
use Rattle.zone_commands.specs.CommandLine.{is_dashed, command_line, Finds}

-- a walk that waits for an argument of the command
abbrev at : Held → ℕ → Walk
at h position = record { held = h; waiting = idle; position = position; is_trailing = false; stopped = None }

-- a word without a dash is no flag
no_dashes : (word : List ℕ) → is_dashed word ≡ false → bytes_eq word (45 ∷ 45 ∷ []) ≡ false
no_dashes [] e = refl
no_dashes (c ∷ word) e = rw e refl

no_long : (word : List ℕ) → is_dashed word ≡ false → long_of word ≡ None
no_long [] e = refl
no_long (c ∷ word) e = rw e refl

no_short : (word : List ℕ) → is_dashed word ≡ false → short_of word ≡ None
no_short [] e = refl
no_short (c ∷ word) e = rw e refl

-- but an argument
argument_met : (rules : List Rule) (h : Held) (position : ℕ) (word : List ℕ) → is_dashed word ≡ false → word_met rules [] false idle position word h ≡ (h, value)
argument_met rules h position word e = rw (no_dashes word e, no_long word e, no_short word e) refl

argument_passes : (s : Shape) (h : Held) (word : List ℕ) → is_dashed word ≡ false → word_passes s [] false idle word h ≡ true
argument_passes s h word e = rw (no_dashes word e, no_long word e, no_short word e) refl

argument_walked : (rules : List Rule) (h : Held) (position : ℕ) (word : List ℕ) → is_dashed word ≡ false → walked rules [] (at h position) word ≡ after_step rules word (at h position) h value
unfolding walked
argument_walked rules h position word e = ap (λ (met : Held × Step). after_step rules word (at h position) met.0 met.1) (argument_met rules h position word e)

argument_turn : (s : Shape) (h : Held) (position : ℕ) (word : List ℕ) → is_dashed word ≡ false → turn_passes s [] (at h position) word ≡ step_passes s position h value
argument_turn s h position word e =
    ap₂ (λ passes (met : Held × Step). passes && step_passes s position met.0 met.1) (argument_passes s h word e) (argument_met s.rules h position word e)

-- the command line that is parsed
abbrev app : App
app = built command_line

abbrev rules : List Rule
rules = app.top.rules

-- the walk after the command word, and after each argument
abbrev begun : Walk
begun = at (record { rows = []; pending = Some (codes "command", codes "soak" ∷ []); skip = 0 }) 2

abbrev after : Walk → List ℕ → Walk
after w word = after_step rules word w w.held value

begins : walked rules [] (walk_from nothing_held) (codes "soak") ≡ begun
unfolding clap_on_literals command_line
begins = refl

-- the words that are walked over
abbrev words_of : List ℕ → List ℕ → List (List ℕ)
words_of first second = codes "soak" ∷ first ∷ second ∷ []

first_walked : (first : List ℕ) → is_dashed first ≡ false → walked rules [] begun first ≡ after begun first
first_walked first e = argument_walked rules begun.held 2 first e

second_walked : (first second : List ℕ) → is_dashed second ≡ false → walked rules [] (after begun first) second ≡ after (after begun first) second
unfolding command_line
second_walked first second e = argument_walked rules (after begun first).held 3 second e

both_walked : (first second : List ℕ) → is_dashed first ≡ false → is_dashed second ≡ false → walk rules [] nothing_held (words_of first second) ≡ after (after begun first) second
both_walked first second f s =
    ap (λ w. walked rules [] (walked rules [] w first) second) begins ∙ ap (λ w. walked rules [] w second) (first_walked first f) ∙ second_walked first second s

-- each word passes

first_turn : (first : List ℕ) → is_dashed first ≡ false → turn_passes app.top [] begun first ≡ true
unfolding command_line
first_turn first e = argument_turn app.top begun.held 2 first e

second_turn : (first second : List ℕ) → is_dashed second ≡ false → turn_passes app.top [] (after begun first) second ≡ true
unfolding clap_on_literals command_line
second_turn first second e = argument_turn app.top (after begun first).held 3 second e

second_passes : (first second : List ℕ) → is_dashed second ≡ false → walk_passes app.top [] (after begun first) (second ∷ []) ≡ true
unfolding walk_passes
second_passes first second e = ap (λ b. b && true) (second_turn first second e)

first_passes : (first second : List ℕ) → is_dashed first ≡ false → is_dashed second ≡ false → walk_passes app.top [] begun (first ∷ second ∷ []) ≡ true
unfolding walk_passes
first_passes first second f s =
    ap₂ (λ a b. a && b) (first_turn first f) (ap (λ w. walk_passes app.top [] w (second ∷ [])) (first_walked first f) ∙ second_passes first second s)

command_turn : turn_passes app.top [] (walk_from nothing_held) (codes "soak") ≡ true
unfolding clap_on_literals command_line
command_turn = refl

all_pass : (first second : List ℕ) → is_dashed first ≡ false → is_dashed second ≡ false → walk_passes app.top [] (walk_from nothing_held) (words_of first second) ≡ true
unfolding walk_passes
all_pass first second f s =
    ap₂ (λ a b. a && b) command_turn (ap (λ w. walk_passes app.top [] w (first ∷ second ∷ [])) begins ∙ first_passes first second f s)

-- whether the words are taken, by the walk over them
abbrev taken_by : Walk → Bool → Bool
taken_by w passes =
    is_simple command_line && (entered_passes app w.stopped
    && (passes && (settle_passes rules app.top.args_override_self w.held
    && (list_all default_passes rules && is_valid app.top (finished rules w.held) (is_some (entered app w.stopped))))))

taken_is : (first second : List ℕ) → takes command_line (words_of first second) ≡ taken_by (walk rules [] nothing_held (words_of first second)) (walk_passes app.top [] (walk_from nothing_held) (words_of first second))
unfolding command_line
taken_is first second = refl

taken_after : (first second : List ℕ) → taken_by (after (after begun first) second) true ≡ true
unfolding clap_on_literals command_line
taken_after first second = refl

pub soak_is_taken : (first second : List ℕ) → is_dashed first ≡ false → is_dashed second ≡ false → takes command_line (words_of first second) ≡ true
soak_is_taken first second f s = taken_is first second ∙ ap₂ taken_by (both_walked first second f s) (all_pass first second f s) ∙ taken_after first second

-- what is found

rows_are : (first second : List ℕ) → is_dashed first ≡ false → is_dashed second ≡ false → matches_of command_line (words_of first second) ≡ finished rules (after (after begun first) second).held
unfolding command_line
rows_are first second f s = ap (λ (w : Walk). finished rules w.held) (both_walked first second f s)

command_row : (first second : List ℕ) → first_of (codes "command") (finished rules (after (after begun first) second).held) ≡ Some (codes "soak")
unfolding clap_on_literals command_line
command_row first second = refl

first_row : (first second : List ℕ) → first_of (codes "first") (finished rules (after (after begun first) second).held) ≡ Some first
unfolding clap_on_literals command_line
first_row first second = refl

second_row : (first second : List ℕ) → first_of (codes "second") (finished rules (after (after begun first) second).held) ≡ Some second
unfolding clap_on_literals command_line
second_row first second = refl

line_is_simple : is_simple command_line ≡ true
unfolding clap_on_literals command_line
line_is_simple = refl

pub soak_is_found : (first second : List ℕ) (m : ArgMatches) → is_dashed first ≡ false → is_dashed second ≡ false → HasMatchesOf command_line (words_of first second) m → Finds m (codes "soak") (Some first) (Some second)
soak_is_found first second m f s h =
    let rows = (h line_is_simple).0 ∙ rows_are first second f s in
    record {
      command = first_value-rows (found_of m) (codes "command") ∙ ap (first_of (codes "command")) rows ∙ command_row first second;
      first = first_value-rows (found_of m) (codes "first") ∙ ap (first_of (codes "first")) rows ∙ first_row first second;
      second = first_value-rows (found_of m) (codes "second") ∙ ap (first_of (codes "second")) rows ∙ second_row first second;
    }
