-- The words of commands, as the parse finds them
use Rattle.std.proofs.Common.{◌≡◌, ℕ, true, false, List, [], ◌∷◌, Option, Some, None, map, refl, sym, ap, ◌∙◌, subst, codes}
use Rattle.std.specs.List.{list_any}
use Rattle.clap.specs.Words.{first_of, found_of, is_simple, matches_of, new_rule, takes, with_rule, HasMatchesOf}
use Rattle.clap.specs.declared.parser.matches.ArgMatches.{ArgMatches}
use Rattle.clap.proofs.OnLiterals.{clap_on_literals}
use Rattle.clap.proofs.WalkLemmas.{first_value-rows, list_any-map}
use Rattle.zone_commands.specs.declared.words.Command.{Command}
use Rattle.zone_commands.specs.declared.words.Command.TheVariants as commands
use Rattle.zone_commands.specs.CommandLine.{arguments_of, is_dashed, unnamed, command_line, AsksFor, Finds}
use Rattle.zone_commands.proofs.Numbers.{number_not_dashed}
use Rattle.zone_commands.proofs.WalkedWords.{soak_is_taken, soak_is_found}

pub line_is_simple : is_simple command_line ≡ true
unfolding clap_on_literals command_line
line_is_simple = refl

pub play_is_taken : takes command_line (codes "play" ∷ []) ≡ true
unfolding clap_on_literals command_line
play_is_taken = refl

play_command_row : first_of (codes "command") (matches_of command_line (codes "play" ∷ [])) ≡ Some (codes "play")
unfolding clap_on_literals command_line
play_command_row = refl

play_first_row : first_of (codes "first") (matches_of command_line (codes "play" ∷ [])) ≡ None
unfolding clap_on_literals command_line
play_first_row = refl

play_second_row : first_of (codes "second") (matches_of command_line (codes "play" ∷ [])) ≡ None
unfolding clap_on_literals command_line
play_second_row = refl

pub run_is_taken : takes command_line (codes "run" ∷ []) ≡ true
unfolding clap_on_literals command_line
run_is_taken = refl

run_command_row : first_of (codes "command") (matches_of command_line (codes "run" ∷ [])) ≡ Some (codes "run")
unfolding clap_on_literals command_line
run_command_row = refl

run_first_row : first_of (codes "first") (matches_of command_line (codes "run" ∷ [])) ≡ None
unfolding clap_on_literals command_line
run_first_row = refl

run_second_row : first_of (codes "second") (matches_of command_line (codes "run" ∷ [])) ≡ None
unfolding clap_on_literals command_line
run_second_row = refl

-- a command word alone is found as it is
alone_is_found : (word : List ℕ) (words : List (List ℕ)) (m : ArgMatches) → words ≡ word ∷ [] → HasMatchesOf command_line words m
    → first_of (codes "command") (matches_of command_line (word ∷ [])) ≡ Some word → first_of (codes "first") (matches_of command_line (word ∷ [])) ≡ None → first_of (codes "second") (matches_of command_line (word ∷ [])) ≡ None
    → Finds m word None None
alone_is_found word words m e h command first second =
    let rows = (h line_is_simple).0 ∙ ap (matches_of command_line) e in
    record {
      command = first_value-rows (found_of m) (codes "command") ∙ ap (first_of (codes "command")) rows ∙ command;
      first = first_value-rows (found_of m) (codes "first") ∙ ap (first_of (codes "first")) rows ∙ first;
      second = first_value-rows (found_of m) (codes "second") ∙ ap (first_of (codes "second")) rows ∙ second;
    }

pub play_is_found : (words : List (List ℕ)) (m : ArgMatches) → words ≡ codes "play" ∷ [] → HasMatchesOf command_line words m → Finds m (codes "play") None None
play_is_found words m e h = alone_is_found (codes "play") words m e h play_command_row play_first_row play_second_row

pub run_is_found : (words : List (List ℕ)) (m : ArgMatches) → words ≡ codes "run" ∷ [] → HasMatchesOf command_line words m → Finds m (codes "run") None None
run_is_found words m e h = alone_is_found (codes "run") words m e h run_command_row run_first_row run_second_row

-- the parser's command is the command line
pub line_is : with_rule (with_rule (with_rule unnamed (new_rule (codes "command"))) (new_rule (codes "first"))) (new_rule (codes "second")) ≡ command_line
unfolding command_line
line_is = refl

-- a command's words are taken, and found as they are
pub command_is_taken : (words : List (List ℕ)) (c : Command) → AsksFor words c → takes command_line words ≡ true
command_is_taken words commands.Play h = ap (takes command_line) h ∙ play_is_taken
command_is_taken words commands.Run h = ap (takes command_line) h ∙ run_is_taken
command_is_taken words (commands.Soak start calls) h =
    ap (takes command_line) h.2 ∙ soak_is_taken h.0 h.1 (number_not_dashed h.0 start h.3) (number_not_dashed h.1 calls h.4)

-- the words that the parse found
pub record Found (m : ArgMatches) (words : List (List ℕ)) : Type 0 where
  pub word : List ℕ
  pub first : Option (List ℕ)
  pub second : Option (List ℕ)
  pub finds : Finds m word first second
  pub are : arguments_of word first second ≡ words

pub command_is_found : (words : List (List ℕ)) (c : Command) (m : ArgMatches) → AsksFor words c → HasMatchesOf command_line words m → Found m words
command_is_found words commands.Play m h has = record { word = codes "play"; first = None; second = None; finds = play_is_found words m h has; are = sym h }
command_is_found words commands.Run m h has = record { word = codes "run"; first = None; second = None; finds = run_is_found words m h has; are = sym h }
command_is_found words (commands.Soak start calls) m h has =
    record {
      word = codes "soak";
      first = Some h.0;
      second = Some h.1;
      finds = soak_is_found h.0 h.1 m (number_not_dashed h.0 start h.3) (number_not_dashed h.1 calls h.4) (subst (λ ws. HasMatchesOf command_line ws m) h.2 has);
      are = sym h.2;
    }

-- no word of a command begins with a dash
none_dashed : (words : List (List ℕ)) (c : Command) → AsksFor words c → list_any is_dashed words ≡ false
none_dashed words commands.Play h = ap (list_any is_dashed) h
none_dashed words commands.Run h = ap (list_any is_dashed) h
none_dashed words (commands.Soak start calls) h = ap (list_any is_dashed) h.2 ∙ rw (number_not_dashed h.0 start h.3, number_not_dashed h.1 calls h.4) refl

pub not_dashed : {X : Type 0} (f : X → List ℕ) (words : List X) (c : Command) → AsksFor (map f words) c → list_any (λ word. is_dashed (f word)) words ≡ false
not_dashed f words c h = list_any-map is_dashed f words ∙ none_dashed (map f words) c h
