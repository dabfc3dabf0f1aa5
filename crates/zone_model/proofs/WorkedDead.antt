-- A dead block outside the condemned set that refers to a condemned block
use Rattle.std.proofs.Common.{◌≡◌, ℕ, ◌+◌, ◌==◌, ◌&&◌, ◌||◌, nat_lt, Bool, true, false, not, cond, [], ◌∷◌, ◌++◌, Option, Some, None, refl, sym, ap, ◌∙◌, subst, IsTrue, inl, inr, ◌<◌, fold, find, is_some, is_none, option_and_then, unwrap_or, slice_get, slice_set, arith}
use Rattle.std.specs.Option.{option_map_or}
use Rattle.std.specs.List.Sorted.{IsStrictlySortedBy}
use Rattle.std.specs.FinMap.{get, get-empty, insert}
use Rattle.az_base.specs.declared.action.Action.TheVariants as action
use Rattle.az_base.specs.declared.action.Mode.TheVariants as mode
use Rattle.az_base.specs.declared.block_id.BlockId.{BlockId}
use Rattle.az_base.specs.declared.misuse.Misuse.TheVariants as misuse
use Rattle.az_base.specs.declared.word.Word.TheVariants as word
use Rattle.az_base.specs.Ids.{id_cmp, same_id, among}
use Rattle.az_base.specs.OptionRanges.{usual_options}
use Rattle.zone_model.specs.declared.call.Call.TheVariants as call
use Rattle.zone_model.specs.declared.entry.Reply.TheVariants as reply
use Rattle.zone_model.specs.State.{State, Block, opening, count_of, is_nil, is_escaped, is_unescaped, with_register, with_root, with_next_serial, without}
use Rattle.zone_model.specs.Reach.{Edge, IsHeld, AnchoredFor}
use Rattle.zone_model.specs.Collection.{HasCondemned, MayCondemn, IsReached, Finalises, IsKept, Reclaims, awaits, with_action, with_finalised}
use Rattle.zone_model.specs.Step.{Step, seen_now}
use Rattle.zone_model.specs.Escape.{EscOf}
use Rattle.zone_model.specs.Maps.{total}
use Rattle.az_base.specs.declared.options.Options.{Options}
use Rattle.zone_model.specs.History.{Ends, Legal}
use Rattle.zone_model.specs.Worked.{first_thread, first_block}
use Rattle.zone_model.specs.WorkedCollections.{root_1, second_block, one_word, birth, root_set, stored, dropped, finalised, settled, dead_referrer, dead_referrer_history}
use Rattle.zone_model.proofs.Runs.{run_more}
use Rattle.zone_model.proofs.Steps.{step_plain, plain_happens}
use Rattle.zone_model.proofs.FirstHistory.{new_step, lists_one}
use Rattle.zone_model.proofs.WorkedZones.{Listed, map_of, listed_get, listed_total, listed_insert, each_block, tested, among_one, same_block, null_word, illegal, lists_none, escaped_block, word_edge, root_right, store_right}
use Rattle.zone_model.proofs.WorkedCycles.{cycle_of, opened, closing, begin_step, condemn_step, now, the_condemned}
use Rattle.zone_model.proofs.WorkedGarbage.{small, rooted, in_root, root_step}
use Rattle.zone_model.proofs.WorkedGarbage as garbage

-- the block that a root holds, and then with a reference; the block with a finaliser, and then finalised
abbrev referring : Block
referring = record rooted { words = word.Block second_block ∷ [] }

abbrev guarded : Block
guarded = record { layout = one_word; words = word.Null ∷ []; actions = action.Keep root_1 ∷ []; finalised = false; since = Some 0 }

abbrev done : Block
done = record guarded { finalised = true }

abbrev two : Block → Block → Listed
two a b = (first_block, a) ∷ (second_block, b) ∷ []

-- the second block is born and dropped, condemned, and finalised
abbrev born : State
born = with_register (with_next_serial (record in_root { blocks = map_of (two rooted guarded) }) 1) 1 1 (Some second_block)

abbrev lost : State
lost = with_register born 1 1 None

abbrev marked : State
marked = closing lost mode.Full (second_block ∷ [])

abbrev saved : State
saved = with_root (record marked { blocks = map_of (two rooted done) }) 1 (Some second_block)

-- it is found again, the first block gets a reference to it, and both are dropped
abbrev found : State
found = with_register saved 1 1 (Some second_block)

abbrev referred : State
referred = record found { blocks = map_of (two referring done) }

abbrev dead : State
dead = with_root (with_root (with_register (with_register referred 1 0 None) 1 1 None) 0 None) 1 None

birth_step : Step in_root (birth 1 one_word (action.Keep root_1 ∷ []) second_block) born
birth_step = step_plain in_root _ born refl (λ id n. n)
    (ap (λ n. cond (nat_lt 1048576 (n + 1)) (Some misuse.ZoneFull) None) (listed_total _ ((first_block, rooted) ∷ []) tt))
    (born, (refl, ap (λ m. record born { blocks = m }) (sym (listed_insert ((first_block, rooted) ∷ []) second_block guarded tt tt))), refl)

first_there : get lost.blocks first_block ≡ Some rooted
first_there = listed_get (two rooted guarded) tt first_block

second_there : get lost.blocks second_block ≡ Some guarded
second_there = listed_get (two rooted guarded) tt second_block

not_second : first_block ≡ second_block → ⊥
not_second e = let s : 0 ≡ 1 = ap (λ (b : BlockId). b.serial) e in cc (s)

-- only the first block is held
held_first : (q : BlockId) → IsHeld lost q → q ≡ first_block
held_first q (inl (t, r, e)) = by_tests ((1 == t) && (1 == r)) ((1 == t) && (0 == r)) e
  where
    by_tests : (c d : Bool) → cond c None (cond c (Some second_block) (cond d (Some first_block) None)) ≡ Some q → q ≡ first_block
    by_tests true d f = cc (f)
    by_tests false true f = cc (f)
    by_tests false false f = cc (f)
held_first q (inr (inl (g, e))) = by_test (0 == g) e
  where
    by_test : (c : Bool) → cond c (Some first_block) None ≡ Some q → q ≡ first_block
    by_test true f = cc (f)
    by_test false f = cc (f)
held_first q (inr (inr h)) = absurd (none_counted q h)
  where
    none_counted : (q : BlockId) → 0 < count_of lost q → ⊥
    none_counted q h = let n : count_of lost q ≡ 0 = ap (λ o. unwrap_or o 0) (get-empty id_cmp q) in omega (arith, h, n)

no_edge : (p q : BlockId) → Edge lost p q → ⊥
no_edge p q edge =
    let w = word_edge lost refl p q edge in
    each_block (λ q b. (i : ℕ) (r : BlockId) → slice_get b.words i ≡ Some (word.Block r) → ⊥) (two rooted guarded) tt (null_word, (null_word, tt)) p w.0 w.2 w.1 q w.3

root_anchors : AnchoredFor mode.Full lost first_block
root_anchors = (first_block, inl (inr (inl (0, refl))), ([], refl))

may_condemn : MayCondemn (opened lost mode.Full) (cycle_of lost mode.Full) (second_block ∷ [])
unfolding IsStrictlySortedBy
may_condemn = record {
  ascending = (tt, tt);
  start = λ q h. subst (λ q. IsTrue (is_escaped lost q)) (sym (among_one second_block q h)) (ap (λ o. is_some (option_and_then (λ (x : Block). x.since) o)) second_there);
  scope = λ q h. refl;
  not_held = λ q h held. not_second (sym (held_first q held) ∙ among_one second_block q h);
  closed = λ p q out h. no_edge p q;
  complete = λ q started within none. let is = escaped_block lost q started in
      each_block (λ q b. (IsReached (cycle_of lost mode.Full) q → ⊥) → IsTrue (among (second_block ∷ []) q)) (two rooted guarded) tt
      (λ none. absurd (none (ap (λ o. is_some (option_and_then (λ (x : Block). x.since) o)) first_there, now lost mode.Full first_block root_anchors)), (λ none. refl, tt)) q is.0 is.1 none;
}

condemned_cycle : HasCondemned marked 1 (second_block ∷ [])
condemned_cycle = (record (cycle_of lost mode.Full) { condemned = Some (second_block ∷ []) }, (refl, refl), refl)

saved_there : with_finalised (fold (with_action second_block) marked (action.Keep root_1 ∷ [])) second_block ≡ saved
saved_there = ap (λ m. with_root (record marked { blocks = m }) 1 (Some second_block))
    (ap (λ o. option_map_or (λ (b : Block). insert marked.blocks second_block (record b { finalised = true })) o marked.blocks) second_there ∙ listed_insert (two rooted guarded) second_block done tt tt)

finalises : Finalises marked 1 second_block saved
finalises = (
  second_block ∷ [],
  condemned_cycle,
  ap (λ (o : Option Block). cond (option_map_or (λ b. not (is_nil b.actions) && not b.finalised) o false) (Some second_block) None) second_there,
  sym (ap (λ (o : Option Block). with_finalised (fold (with_action second_block) marked (option_map_or (λ b. b.actions) o [])) second_block) second_there ∙ saved_there),
)

none_escapes : (q : BlockId) → IsTrue (is_unescaped found q) → ⊥
none_escapes q h =
    let is = tested (λ (b : Block). is_none b.since) (get found.blocks q) h in
    each_block (λ q b. IsTrue (is_none b.since) → ⊥) (two rooted done) tt (λ e. cc (e), (λ e. cc (e), tt)) q is.0 is.1 is.2

still_first : get found.blocks first_block ≡ Some rooted
still_first = listed_get (two rooted done) tt first_block

store_step : Step found (stored 0 1) referred
store_step = step_plain found (stored 0 1) referred refl (λ q need. none_escapes q need.1.0)
    (store_right found 1 0 1 (λ _. false) first_block rooted 2 0 refl still_first refl refl (listed_total _ (two rooted done) tt) (listed_total _ (two rooted done) tt) refl)
    (referred, ap (λ m. record found { blocks = m }) (sym (ap (λ o. option_map_or (λ (b : Block). insert found.blocks first_block (record b { words = slice_set b.words 0 (word.Block second_block) })) o found.blocks) still_first ∙ listed_insert (two rooted done) first_block referring tt tt)), refl)

-- a root is set to null
null_step : (z : State) (g : ℕ) → z.ended 1 ≡ false → z.registers 1 0 ≡ None → z.blocks ≡ map_of (two referring done) → z.options ≡ usual_options → Step z (root_set (record { 0 = g }) 0) (seen_now (with_root z g None))
null_step z g running null blocks options = step_plain z _ _ running (λ q need. subst (λ o. EscOf z o q) null need)
    (root_right z 1 g 0 (λ _. false) 2 0 (ap (total _) blocks ∙ listed_total _ (two referring done) tt) (ap (total _) blocks ∙ listed_total _ (two referring done) tt) (ap (λ (o : Options). nat_lt o.heap_quanta 2) options))
    (with_root z g None, ap (with_root z g) (sym null), refl)

abbrev empty_handed : State
empty_handed = with_register (with_register referred 1 0 None) 1 1 None

ends : Ends usual_options dead_referrer dead
ends = (
  garbage.born,
  new_step small refl,
  (
    in_root,
    root_step,
    (
      born,
      birth_step,
      (
        lost,
        step_plain born (dropped 1) lost refl (λ id n. n) refl (_, refl, refl),
        (
          _,
          begin_step lost refl mode.Full,
          (
            marked,
            condemn_step lost refl mode.Full (second_block ∷ []) may_condemn,
            (
              saved,
              step_plain marked (finalised second_block) saved refl (λ id n. n) refl (saved, finalises, refl),
              (
                found,
                step_plain saved (first_thread (call.GetRoot 1 root_1) (reply.Block (Some second_block))) found refl (λ id n. n) refl (found, (refl, refl), refl),
                (
                  referred,
                  store_step,
                  (
                    with_register referred 1 0 None,
                    step_plain referred (dropped 0) _ refl (λ id n. n) refl (_, refl, refl),
                    (
                      empty_handed,
                      step_plain _ (dropped 1) empty_handed refl (λ id n. n) refl (_, refl, refl),
                      (with_root empty_handed 0 None, null_step empty_handed 0 refl refl refl refl, (dead, null_step (with_root empty_handed 0 None) 1 refl refl refl refl, refl)),
                    ),
                  ),
                ),
              ),
            ),
          ),
        ),
      ),
    ),
  ),
)

dead_first : get dead.blocks first_block ≡ Some referring
dead_first = listed_get (two referring done) tt first_block

dead_second : get dead.blocks second_block ≡ Some done
dead_second = listed_get (two referring done) tt second_block

none_awaits : find (awaits dead) (second_block ∷ []) ≡ None
none_awaits = ap (λ (o : Option Block). cond (option_map_or (λ b. not (is_nil b.actions) && not b.finalised) o false) (Some second_block) None) dead_second

-- the first block lies outside, and refers to it
is_kept : (q : BlockId) → second_block ≡ q → IsKept dead (second_block ∷ []) q
is_kept q same = (first_block, inr refl, (second_block ∷ [], (inl (referring, 0, dead_first, refl), same)))

abbrev after : State
after = record (without dead []) { reclaims = 1; cycle = None }

keeps_it : Reclaims dead 1 [] (second_block ∷ []) after
keeps_it = record {
  r = second_block ∷ [];
  condemned = condemned_cycle;
  finalised = none_awaits;
  kept_ones = lists_one _ second_block (λ q h. (ap (λ b. b || false) h, is_kept q (sym (same_block q second_block h)))) (λ q p. ap (λ x. same_id x second_block) (among_one second_block q p.0));
  gone_ones = lists_none _ (λ q p. p.1 (is_kept q (sym (among_one second_block q p.0))));
  does = refl;
}

pub keeping_is_legal : Legal usual_options dead_referrer_history
keeping_is_legal = (after, run_more (opening usual_options) dead_referrer dead _ after ends (step_plain dead (settled [] (second_block ∷ [])) after refl (λ id n. n) refl (after, keeps_it, refl)))

pub reclaiming_is_illegal : Legal usual_options (dead_referrer ++ settled (second_block ∷ []) [] ∷ []) → ⊥
reclaiming_is_illegal = illegal usual_options dead_referrer (settled (second_block ∷ []) []) dead ends by_step
  where
    by_step : (after : State) → Step dead (settled (second_block ∷ []) []) after → ⊥
    by_step after step =
        let happens = plain_happens dead (settled (second_block ∷ []) []) after step (λ id n. n) refl in
        let reclaims = happens.1 in
        let same : reclaims.r ≡ second_block ∷ [] = the_condemned dead (cycle_of lost mode.Full) (second_block ∷ []) refl reclaims.r reclaims.condemned in
        ((reclaims.gone_ones.1 second_block).0 refl).1 (subst (λ r. IsKept dead r second_block) (sym same) (is_kept second_block refl))
