-- The calls in a history of a script are such as the grammar has
use Rattle.std.proofs.Common.{◌≡◌, ◌==◌, ℕ, zero, suc, Bool, true, false, cond, List, [], ◌∷◌, ◌++◌, map, filter, replicate, inl, inr, refl, sym, ap, ◌∙◌, subst}
use Rattle.std.specs.List.{All, AllByRecursion}
use Rattle.std.proofs.lemmas.Bool.{eq-eqb}
use Rattle.std.proofs.lemmas.List.{map-append}
use Rattle.std.proofs.lemmas.List.Elements.{All-from_recursion, recursion_from_All}
use Rattle.zone_model.specs.declared.act.Act.{Act}
use Rattle.zone_model.specs.declared.act.Act.TheVariants as act
use Rattle.zone_model.specs.declared.call.Call.{Call}
use Rattle.zone_model.specs.declared.call.Call.TheVariants as call
use Rattle.zone_model.specs.declared.entry.Entry.{Entry}
use Rattle.zone_model.specs.declared.entry.Stats.{Stats}
use Rattle.zone_model.specs.History.{entries_of, calls_of, IsGroup, Matches}
use Rattle.call_words.specs.Ranges.{IsSpelled, IsSpelledAct}
use Rattle.heap_script.specs.declared.line.Line.{Line}
use Rattle.heap_script.specs.declared.script.Script.{Script}
use Rattle.heap_script.specs.Scripts.{AllSpelled}
use Rattle.zone_history.specs.Histories.{Request, is_asked, asked_of, IsHistoryOf}
use Rattle.play_core.specs.Playing.{requests_of}

-- calls that the grammar has
abbrev Spelled : List Call → Type 0
Spelled calls = AllByRecursion IsSpelled calls

both : (a b : List Call) → Spelled a → Spelled b → Spelled (a ++ b)
both [] b h g = g
both (c ∷ a) b h g = (h.0, both a b h.1 g)

finalises : (n : ℕ) → Spelled (replicate n call.Finalise)
finalises zero = tt
finalises (suc n) = (tt, finalises n)

-- one call, of which no more is asked
one : (e : Entry) (c : Call) → e.call ≡ c → IsSpelled c → IsSpelled e.call
one e c is h = subst IsSpelled (sym is) h

group_spelled : (a : Act) (group : List Entry) → IsSpelledAct a → IsGroup a group → Spelled (calls_of group)
group_spelled (act.Call c) group h is = subst Spelled (sym is) (h, tt)
group_spelled (act.Collect mode) group h (inl refused) =
    let e = refused.0 in
    subst (λ es. Spelled (calls_of es)) (sym refused.1) (one e (call.Begin mode) refused.2 tt, tt)
group_spelled (act.Collect mode) group h (inr whole) =
    let e = whole.0 in
    let n = whole.2 in
    let more : Spelled (call.Condemn ∷ replicate n call.Finalise ++ call.Reclaim ∷ []) = (tt, both (replicate n call.Finalise) (call.Reclaim ∷ []) (finalises n) (tt, tt)) in
    subst (λ es. Spelled (calls_of es)) (sym whole.3) (one e (call.Begin mode) whole.4 tt, subst Spelled (sym whole.6) more)

matched_spelled : (acts : List Act) (es : List Entry) → AllByRecursion IsSpelledAct acts → Matches es acts → Spelled (calls_of es)
matched_spelled [] es h is = subst Spelled (sym is) (tt, tt)
matched_spelled (a ∷ acts) es h is =
    let group = is.0 in
    let rest = is.1 in
    let calls : calls_of es ≡ calls_of group ++ calls_of rest = ap calls_of is.2 ∙ map-append (λ (e : Entry). e.call) group rest in
    subst Spelled (sym calls) (both (calls_of group) (calls_of rest) (group_spelled a group h.0 is.3) (matched_spelled acts rest h.1 is.4))

-- what one thread is asked for, of all
asked_spelled : (requests : List Request) (t : ℕ) → AllByRecursion (λ (r : Request). IsSpelledAct r.1) requests → AllByRecursion IsSpelledAct (asked_of requests t)
asked_spelled [] t h = tt
asked_spelled (r ∷ requests) t h =
    let more = asked_spelled requests t h.1 in
    elim (r.0 == t) as (λ b. AllByRecursion IsSpelledAct (map (λ (q : Request). q.1) (cond b (r ∷ filter (λ q. q.0 == t) requests) (filter (λ q. q.0 == t) requests)))) [ true ↦ (h.0, more) | false ↦ more ]

-- the entries of all threads, from those of each
rest_of : (b : Bool) (e : Entry) (es : List Entry) → Spelled (calls_of (cond b (e ∷ es) es)) → Spelled (calls_of es)
rest_of true e es h = h.1
rest_of false e es h = h

first_of : (b : Bool) (e : Entry) (es : List Entry) → b ≡ true → Spelled (calls_of (cond b (e ∷ es) es)) → IsSpelled e.call
first_of true e es is h = h.0
first_of false e es is h = cc

all_spelled : (history : List Entry) → ((t : ℕ) → Spelled (calls_of (entries_of t history))) → AllByRecursion (λ (e : Entry). IsSpelled e.call) history
all_spelled [] h = tt
all_spelled (e ∷ history) h = (
  first_of (e.thread == e.thread) e (entries_of e.thread history) (eq-eqb e.thread e.thread refl) (h e.thread),
  all_spelled history (λ t. rest_of (e.thread == t) e (entries_of t history) (h t)),
)

lines_spelled : (lines : List Line) → AllByRecursion (λ (line : Line). IsSpelledAct line.act) lines → AllByRecursion (λ (r : Request). IsSpelledAct r.1) (map (λ (line : Line). (line.thread, line.act)) lines)
lines_spelled [] h = tt
lines_spelled (line ∷ lines) h = (h.0, lines_spelled lines h.1)

thread_spelled : (requests : List Request) (history : List Entry) (stats : Stats) (script : Script) → AllByRecursion (λ (r : Request). IsSpelledAct r.1) requests
    → IsHistoryOf script.options requests history stats → (t : ℕ) → Spelled (calls_of (entries_of t history))
thread_spelled requests history stats script h is t = choose (is_asked requests t) refl
  where
    choose : (b : Bool) → is_asked requests t ≡ b → Spelled (calls_of (entries_of t history))
    choose true asked = matched_spelled (asked_of requests t) (entries_of t history) (asked_spelled requests t h) (is.own t asked)
    choose false asked = subst (λ es. Spelled (calls_of es)) (sym (is.others t asked)) tt

pub history_spelled : (script : Script) (history : List Entry) (stats : Stats) → AllSpelled script.lines → IsHistoryOf script.options (requests_of script) history stats → All (λ (e : Entry). IsSpelled e.call) history
history_spelled script history stats h is =
    All-from_recursion (λ (e : Entry). IsSpelled e.call) history
    (all_spelled history (thread_spelled (requests_of script) history stats script (lines_spelled script.lines (recursion_from_All (λ (line : Line). IsSpelledAct line.act) script.lines h)) is))
