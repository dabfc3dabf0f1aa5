-- A finaliser that keeps its block
use Rattle.std.proofs.Common.{◌≡◌, ℕ, ◌+◌, ◌==◌, ◌&&◌, ◌||◌, nat_lt, Bool, true, false, not, cond, [], ◌∷◌, ◌++◌, Option, Some, None, refl, sym, ap, ◌∙◌, subst, inl, inr, fold, find}
use Rattle.std.specs.Option.{option_map_or}
use Rattle.std.specs.FinMap.{get, insert}
use Rattle.az_base.specs.declared.action.Action.TheVariants as action
use Rattle.az_base.specs.declared.action.Mode.TheVariants as mode
use Rattle.az_base.specs.declared.block_id.BlockId.{BlockId}
use Rattle.az_base.specs.declared.misuse.Misuse.TheVariants as misuse
use Rattle.az_base.specs.declared.word.Word.TheVariants as word
use Rattle.az_base.specs.Ids.{id_cmp, same_id}
use Rattle.az_base.specs.OptionRanges.{usual_options}
use Rattle.zone_model.proofs.MapLaws.{total-empty}
use Rattle.zone_model.specs.State.{State, Block, opening, is_nil, with_register, with_root, with_next_serial, without}
use Rattle.zone_model.specs.Reach.{IsHeld}
use Rattle.zone_model.specs.Collection.{HasCondemned, Finalises, IsKept, Reclaims, awaits, with_action, with_finalised}
use Rattle.zone_model.specs.Step.{Step}
use Rattle.zone_model.specs.History.{Ends, Legal}
use Rattle.zone_model.specs.Worked.{first_block}
use Rattle.zone_model.specs.WorkedCollections.{root_0, one_word, birth, dropped, finalised, settled, kept_block, finaliser_history}
use Rattle.zone_model.proofs.Runs.{run_more}
use Rattle.zone_model.proofs.Steps.{step_plain, plain_happens}
use Rattle.zone_model.proofs.FirstHistory.{lists_one}
use Rattle.zone_model.proofs.WorkedZones.{map_of, listed_get, listed_insert, among_one, same_block, illegal, lists_none, one_listed, unheld}
use Rattle.zone_model.proofs.WorkedCycles.{cycle_of, closing, begin_step, the_condemned}
use Rattle.zone_model.proofs.WorkedGarbage.{here, condemn_it}

abbrev keeping : Block
keeping = record { layout = one_word; words = word.Null ∷ []; actions = action.Keep root_0 ∷ []; finalised = false; since = Some 0 }

abbrev kept : Block
kept = record keeping { finalised = true }

-- the block is born, and dropped
abbrev born : State
born = with_register (with_next_serial (record (opening usual_options) { blocks = map_of ((first_block, keeping) ∷ []) }) 1) 1 0 (Some first_block)

abbrev lost : State
lost = with_register born 1 0 None

-- it is condemned, and its finaliser puts it into a root
abbrev marked : State
marked = closing lost mode.Full (first_block ∷ [])

abbrev saved : State
saved = with_root (record marked { blocks = map_of ((first_block, kept) ∷ []) }) 0 (Some first_block)

birth_step : Step (opening usual_options) (birth 0 one_word (action.Keep root_0 ∷ []) first_block) born
birth_step = step_plain _ _ born refl (λ id n. n)
    (ap (λ n. cond (nat_lt 1048576 (n + 1)) (Some misuse.ZoneFull) None) (total-empty id_cmp _))
    (born, (refl, ap (λ m. record born { blocks = m }) (sym (one_listed first_block keeping))), refl)

null_registers : (t r : ℕ) (q : BlockId) → lost.registers t r ≡ Some q → ⊥
null_registers t r q = by_test ((1 == t) && (0 == r))
  where
    by_test : (c : Bool) → cond c None (cond c (Some first_block) None) ≡ Some q → ⊥
    by_test true e = cc (e)
    by_test false e = cc (e)

none_held : (q : BlockId) → IsHeld lost q → ⊥
none_held = unheld lost null_registers (λ g q e. cc (e)) refl

there : get marked.blocks first_block ≡ Some keeping
there = here lost keeping refl refl refl refl none_held

finalised_cycle : HasCondemned marked 1 (first_block ∷ [])
finalised_cycle = (record (cycle_of lost mode.Full) { condemned = Some (first_block ∷ []) }, (refl, refl), refl)

kept_there : with_finalised (fold (with_action first_block) marked (action.Keep root_0 ∷ [])) first_block ≡ saved
kept_there = ap (λ m. with_root (record marked { blocks = m }) 0 (Some first_block))
    (ap (λ o. option_map_or (λ (b : Block). insert marked.blocks first_block (record b { finalised = true })) o marked.blocks) there ∙ listed_insert ((first_block, keeping) ∷ []) first_block kept tt tt)

finalises : Finalises marked 1 first_block saved
finalises = (
  first_block ∷ [],
  finalised_cycle,
  ap (λ (o : Option Block). cond (option_map_or (λ b. not (is_nil b.actions) && not b.finalised) o false) (Some first_block) None) there,
  sym (ap (λ (o : Option Block). with_finalised (fold (with_action first_block) marked (option_map_or (λ b. b.actions) o [])) first_block) there ∙ kept_there),
)

ends : Ends usual_options kept_block saved
ends = (
  born,
  birth_step,
  (
    lost,
    step_plain born (dropped 0) lost refl (λ id n. n) refl (_, refl, refl),
    (
      _,
      begin_step lost refl mode.Full,
      (marked, condemn_it lost keeping refl refl refl refl none_held refl, (saved, step_plain marked (finalised first_block) saved refl (λ id n. n) refl (saved, finalises, refl), refl)),
    ),
  ),
)

still_there : get saved.blocks first_block ≡ Some kept
still_there = listed_get ((first_block, kept) ∷ []) tt first_block

none_awaits : find (awaits saved) (first_block ∷ []) ≡ None
none_awaits = ap (λ (o : Option Block). cond (option_map_or (λ b. not (is_nil b.actions) && not b.finalised) o false) (Some first_block) None) still_there

is_kept : (q : BlockId) → first_block ≡ q → IsKept saved (first_block ∷ []) q
is_kept q same = (first_block, inl (inr (inl (0, refl))), ([], same))

abbrev after : State
after = record (without saved []) { reclaims = 1; cycle = None }

keeps_it : Reclaims saved 1 [] (first_block ∷ []) after
keeps_it = record {
  r = first_block ∷ [];
  condemned = finalised_cycle;
  finalised = none_awaits;
  kept_ones = lists_one _ first_block (λ q h. (ap (λ b. b || false) h, is_kept q (sym (same_block q first_block h)))) (λ q p. ap (λ x. same_id x first_block) (among_one first_block q p.0));
  gone_ones = lists_none _ (λ q p. p.1 (is_kept q (sym (among_one first_block q p.0))));
  does = refl;
}

pub keeping_is_legal : Legal usual_options finaliser_history
keeping_is_legal = (after, run_more (opening usual_options) kept_block saved _ after ends (step_plain saved (settled [] (first_block ∷ [])) after refl (λ id n. n) refl (after, keeps_it, refl)))

pub twice_is_illegal : Legal usual_options (kept_block ++ finalised first_block ∷ []) → ⊥
twice_is_illegal = illegal usual_options kept_block (finalised first_block) saved ends by_step
  where
    by_step : (after : State) → Step saved (finalised first_block) after → ⊥
    by_step after step =
        let happens = plain_happens saved (finalised first_block) after step (λ id n. n) refl in
        let both : None ≡ Some first_block = sym none_awaits ∙ subst (λ r. find (awaits saved) r ≡ Some first_block) (the_condemned saved (cycle_of lost mode.Full) (first_block ∷ []) refl happens.1.0 happens.1.1) happens.1.2 in
        cc (both)

pub reclaiming_is_illegal : Legal usual_options (kept_block ++ settled (first_block ∷ []) [] ∷ []) → ⊥
reclaiming_is_illegal = illegal usual_options kept_block (settled (first_block ∷ []) []) saved ends by_step
  where
    by_step : (after : State) → Step saved (settled (first_block ∷ []) []) after → ⊥
    by_step after step =
        let happens = plain_happens saved (settled (first_block ∷ []) []) after step (λ id n. n) refl in
        let reclaims = happens.1 in
        let same : reclaims.r ≡ first_block ∷ [] = the_condemned saved (cycle_of lost mode.Full) (first_block ∷ []) refl reclaims.r reclaims.condemned in
        ((reclaims.gone_ones.1 first_block).0 refl).1 (subst (λ r. IsKept saved r first_block) (sym same) (is_kept first_block refl))
