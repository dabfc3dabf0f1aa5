use Rattle.std.proofs.Common.{rules, ap, ap₂, subst, codes, true, map, string_bytes, ◌≡◌, ◌∙◌}
use Rattle.std.proofs.lemmas.Result.{IfErr-weaker, IfOk-weaker}
use Rattle.clap.specs.Simple.{app_of_fields}
use Rattle.clap.specs.Words.{App, app_of, new_rule, rule_of, takes, with_rule, HasMatchesOf}
use Rattle.zone_commands.specs.CommandLine.{unnamed, command_line}
use Rattle.zone_commands.proofs.CommandWords.{line_is}
use Rattle.zone_commands.proofs.words.parse.Goals as goal

abbrev without_name : App → App
without_name a = record a { top = record a.top { no_binary_name = true } }

line_built : (c : goal.After-try_get_matches_from) → app_of c.in_ok-line.line ≡ command_line
line_built c =
    let unnamed_is : app_of c.no_binary_name.result ≡ unnamed = ap app_of_fields c.no_binary_name.ensures ∙ ap without_name c.new.ensures.app in
    let command_is : rule_of c.new-2.result ≡ new_rule (codes "command") = search rules in
    let first_is : rule_of c.new-3.result ≡ new_rule (codes "first") = search rules in
    let second_is : rule_of c.new-4.result ≡ new_rule (codes "second") = search rules in
    c.in_ok-line.ensures.shape (search rules)
    ∙ ap₂ with_rule (c.in_ok-arg-2.ensures.shape (search rules) ∙ ap₂ with_rule (c.in_ok-arg.ensures.shape (search rules) ∙ ap₂ with_rule unnamed_is command_is) first_is) second_is
    ∙ line_is

pub returns-clause-matches : goal.returns-clause-matches
returns-clause-matches c =
    let parse = c.try_get_matches_from in
    IfOk-weaker parse.result _ _ (λ m h. subst (λ (a : App). HasMatchesOf a (map string_bytes c.args.words.now) m) (line_built c) h) parse.ensures.matches

pub returns-clause-passes : goal.returns-clause-passes
returns-clause-passes c =
    let parse = c.try_get_matches_from in
    IfErr-weaker parse.result _ _ (λ e h taken. h (ap (λ (a : App). takes a (map string_bytes c.args.words.now)) (line_built c) ∙ taken)) parse.ensures.passes
