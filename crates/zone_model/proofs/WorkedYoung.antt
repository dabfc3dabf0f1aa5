-- A young collection that an old block's edge stops
use Rattle.std.proofs.Common.{◌≡◌, ℕ, ◌+◌, ◌==◌, ◌&&◌, nat_lt, true, false, cond, [], ◌∷◌, ◌++◌, List, Some, None, refl, sym, ap, ◌∙◌, subst, IsTrue, inl, inr, is_some, is_none, option_and_then, slice_set}
use Rattle.std.specs.Option.{option_map_or}
use Rattle.std.specs.List.Sorted.{IsStrictlySortedBy}
use Rattle.std.specs.FinMap.{FinMap, get, insert}
use Rattle.az_base.specs.declared.action.Mode.TheVariants as mode
use Rattle.az_base.specs.declared.block_id.BlockId.{BlockId}
use Rattle.az_base.specs.declared.misuse.Misuse.TheVariants as misuse
use Rattle.az_base.specs.declared.word.Word.TheVariants as word
use Rattle.az_base.specs.Ids.{id_cmp, same_id, among}
use Rattle.az_base.specs.OptionRanges.{usual_options}
use Rattle.block_layouts.specs.declared.layout.Shape.TheVariants as shape
use Rattle.zone_model.specs.Maps.{map_values}
use Rattle.zone_model.specs.State.{State, Block, opening, is_escaped, is_unescaped, with_register, with_root, with_next_serial, without}
use Rattle.zone_model.specs.Part.{own_block}
use Rattle.zone_model.specs.Reach.{Edge, AnchoredFor, age, in_scope}
use Rattle.zone_model.specs.Quanta.{is_born_escaped}
use Rattle.zone_model.specs.Misuses.{is_overfull}
use Rattle.zone_model.specs.declared.entry.Entry.{Entry}
use Rattle.zone_model.specs.Escape.{Need, Tells}
use Rattle.zone_model.specs.Collection.{MayCondemn, IsReached, Reclaims}
use Rattle.zone_model.specs.Step.{Step}
use Rattle.zone_model.specs.History.{Run, Ends, Legal}
use Rattle.zone_model.specs.Worked.{first_block}
use Rattle.zone_model.specs.WorkedCollections.{root_0, rooted_block, second_block, birth, root_set, stored, dropped, begun, condemned, settled, nothing_collected, old_referrer, old_referrer_history}
use Rattle.zone_model.proofs.Waiting.{run_append}
use Rattle.zone_model.proofs.Steps.{step_plain}
use Rattle.zone_model.proofs.FirstHistory.{new_step}
use Rattle.zone_model.proofs.WorkedZones.{Listed, map_of, listed_get, listed_total, listed_insert, listed_each, each_block, tested, same_block, illegal, escaped_block, step_by, root_right, store_right}
use Rattle.zone_model.proofs.WorkedCycles.{cycle_of, opened, closing, begin_step, condemn_step, now, may_of, nothing_run, nothing_among}
use Rattle.zone_model.proofs.WorkedGarbage.{small, rooted, in_root, root_step}
use Rattle.zone_model.proofs.WorkedGarbage as garbage

abbrev young : Block
young = own_block (shape.Scanned 0)

abbrev escaped : Block
escaped = record young { since = Some 3 }

abbrev referring : Block
referring = record rooted { words = word.Block second_block ∷ [] }

abbrev two : Block → Block → Listed
two a b = (first_block, a) ∷ (second_block, b) ∷ []

-- so many collections have left the first block
abbrev aged : ℕ → State
aged n = record in_root { reclaims = n }

-- the second block is born, stored into the first, and both are dropped
abbrev born : State
born = with_register (with_next_serial (record (aged 3) { blocks = map_of (two rooted young) }) 1) 1 1 (Some second_block)

abbrev referred : State
referred = record born { blocks = map_of (two referring escaped) }

abbrev empty_handed : State
empty_handed = with_register (with_register referred 1 0 None) 1 1 None

abbrev dead : State
dead = with_root empty_handed 0 None

-- an escaped block of the zone is the first one, which the root holds
anchored : (n : ℕ) (q : BlockId) → IsTrue (is_escaped (aged n) q) → AnchoredFor mode.Full (aged n) q
anchored n q h =
    let is = escaped_block (aged n) q h in
    each_block (λ q b. AnchoredFor mode.Full (aged n) q) ((first_block, rooted) ∷ []) tt ((first_block, inl (inr (inl (0, refl))), ([], refl)), tt) q is.0 is.1

not_born : is_born_escaped (aged 3) 1 (shape.Scanned 0) [] ≡ false
not_born = ap (λ n. nat_lt 65536 (n + 1)) (listed_total _ ((first_block, rooted) ∷ []) tt)

birth_step : Step (aged 3) (birth 1 (shape.Scanned 0) [] second_block) born
birth_step = step_plain (aged 3) _ born refl (λ id n. n)
    (ap (λ b. cond (b && is_overfull (aged 3) 1) (Some misuse.ZoneFull) None) not_born) (
      born,
      (
        refl,
        sym (ap (λ b. with_register (with_next_serial (record (aged 3) { blocks = insert (map_of ((first_block, rooted) ∷ [])) second_block (record young { since = cond b (Some 3) None }) }) 1) 1 1 (Some second_block)) not_born
            ∙ ap (λ m. record born { blocks = m }) (listed_insert ((first_block, rooted) ∷ []) second_block young tt tt)),
      ),
      refl,
    )

old_there : get born.blocks first_block ≡ Some rooted
old_there = listed_get (two rooted young) tt first_block

young_there : get born.blocks second_block ≡ Some young
young_there = listed_get (two rooted young) tt second_block

escapes : Tells (λ q. same_id q second_block) (Need born 1 (stored 0 1).call)
escapes q = (
  (λ h. (ap (λ o. is_some (option_and_then (λ (x : Block). x.since) o)) old_there, (subst (λ q. IsTrue (is_unescaped born q)) (sym (same_block q second_block h)) (ap (λ o. option_map_or (λ (x : Block). is_none x.since) o false) young_there), ([], sym (same_block q second_block h))))),
  (λ need. let is = tested (λ (b : Block). is_none b.since) (get born.blocks q) need.1.0 in
      each_block (λ q b. IsTrue (is_none b.since) → IsTrue (same_id q second_block)) (two rooted young) tt (λ e. cc (e), (λ e. refl, tt)) q is.0 is.1 is.2),
)

moved : map_values id_cmp (λ id b. cond (same_id id second_block) (record b { since = Some 3 }) b) (map_of (two rooted young)) ≡ map_of (two rooted escaped)
moved = listed_each _ (two rooted young) tt

store_step : Step born (stored 0 1) referred
store_step = step_by born (stored 0 1) referred (λ q. same_id q second_block) refl escapes
    (store_right born 1 0 1 (λ q. same_id q second_block) first_block rooted 1 1 refl old_there refl refl (listed_total _ (two rooted young) tt) (listed_total _ (two rooted young) tt) refl)
    (referred, ap (λ m. record born { blocks = m }) (sym written), refl)
  where
    into : FinMap id_cmp Block → FinMap id_cmp Block
    into m = option_map_or (λ (b : Block). insert m first_block (record b { words = slice_set b.words 0 (word.Block second_block) })) (get m first_block) m

    written : into (map_values id_cmp (λ id b. cond (same_id id second_block) (record b { since = Some 3 }) b) (map_of (two rooted young))) ≡ map_of (two referring escaped)
    written = ap into moved
        ∙ ap (λ o. option_map_or (λ (b : Block). insert (map_of (two rooted escaped)) first_block (record b { words = slice_set b.words 0 (word.Block second_block) })) o (map_of (two rooted escaped))) (listed_get (two rooted escaped) tt first_block)
        ∙ listed_insert (two rooted escaped) first_block referring tt tt

dead_first : get dead.blocks first_block ≡ Some referring
dead_first = listed_get (two referring escaped) tt first_block

dead_second : get dead.blocks second_block ≡ Some escaped
dead_second = listed_get (two referring escaped) tt second_block

rooted_run : Run (opening usual_options) rooted_block in_root
rooted_run = (garbage.born, new_step small refl, (in_root, root_step, refl))

null_step : Step empty_handed (root_set root_0 0) dead
null_step = step_plain empty_handed (root_set root_0 0) dead refl (λ q need. need)
    (root_right empty_handed 1 0 0 (λ _. false) 2 0 (listed_total _ (two referring escaped) tt) (listed_total _ (two referring escaped) tt) refl) (dead, refl, refl)

-- what follows the three collections
abbrev last_lines : List Entry
last_lines = birth 1 (shape.Scanned 0) [] second_block ∷ stored 0 1 ∷ dropped 0 ∷ dropped 1 ∷ root_set root_0 0 ∷ begun mode.Young ∷ []

abbrev young_zone : State
young_zone = opened dead mode.Young

last_run : Run (aged 3) last_lines young_zone
last_run = (
  born,
  birth_step,
  (
    referred,
    store_step,
    (
      with_register referred 1 0 None,
      step_plain referred (dropped 0) _ refl (λ id n. n) refl (_, refl, refl),
      (empty_handed, step_plain _ (dropped 1) empty_handed refl (λ id n. n) refl (_, refl, refl), (dead, null_step, (young_zone, begin_step dead refl mode.Young, refl))),
    ),
  ),
)

-- a collection of nothing before these
aged_run : (n : ℕ) (es : List Entry) → Run (aged (n + 1)) es young_zone → Run (aged n) (nothing_collected ++ es) young_zone
aged_run n es more = run_append (aged n) nothing_collected (aged (n + 1)) es young_zone (nothing_run (aged n) refl (anchored n)) more

ends : Ends usual_options old_referrer young_zone
ends = run_append (opening usual_options) rooted_block in_root (nothing_collected ++ (nothing_collected ++ (nothing_collected ++ last_lines))) young_zone rooted_run
    (aged_run 0 (nothing_collected ++ (nothing_collected ++ last_lines)) (aged_run 1 (nothing_collected ++ last_lines) (aged_run 2 last_lines last_run)))

edge : Edge dead first_block second_block
edge = inl (referring, 0, dead_first, refl)

-- the old block anchors the young one
young_anchored : AnchoredFor mode.Young dead second_block
young_anchored = (first_block, inr (inr (ap (λ o. option_map_or (λ since. age dead since == 3) (option_and_then (λ (x : Block). x.since) o) false) dead_first)), (second_block ∷ [], (edge, refl)))

may_none : MayCondemn (opened dead mode.Young) (cycle_of dead mode.Young) []
unfolding IsStrictlySortedBy
may_none = record {
  ascending = tt;
  start = λ q h. cc (h);
  scope = λ q h. cc (h);
  not_held = λ q h. cc (h);
  closed = λ p q out h. cc (h);
  complete = λ q started within none. let is = escaped_block dead q started in
      each_block (λ q b. IsTrue (in_scope mode.Young dead q) → (IsReached (cycle_of dead mode.Young) q → ⊥) → IsTrue (among [] q)) (two referring escaped) tt
      ((λ within none. absurd (not_young within)), ((λ within none. absurd (none (ap (λ o. is_some (option_and_then (λ (x : Block). x.since) o)) dead_second, now dead mode.Young second_block young_anchored))), tt)) q is.0 is.1 within none;
}
  where
    not_young : IsTrue (in_scope mode.Young dead first_block) → ⊥
    not_young within = let f : false ≡ true = sym (ap (λ o. option_map_or (λ since. nat_lt (age dead since) 3) (option_and_then (λ (x : Block). x.since) o) false) dead_first) ∙ within in cc (f)

abbrev marked : State
marked = closing dead mode.Young []

abbrev after : State
after = record (without marked []) { reclaims = 4; cycle = None }

reclaims_none : Reclaims marked 1 [] [] after
reclaims_none = record {
  r = [];
  condemned = (record (cycle_of dead mode.Young) { condemned = Some [] }, (refl, refl), refl);
  finalised = refl;
  kept_ones = nothing_among _;
  gone_ones = nothing_among _;
  does = refl;
}

pub leaving_is_legal : Legal usual_options old_referrer_history
leaving_is_legal = (
  after,
  run_append (opening usual_options) old_referrer (opened dead mode.Young) (condemned [] ∷ settled [] [] ∷ []) after ends
      (marked, condemn_step dead refl mode.Young [] may_none, (after, step_plain marked (settled [] []) after refl (λ id n. n) refl (after, reclaims_none, refl), refl)),
)

pub condemning_is_illegal : Legal usual_options (old_referrer ++ condemned (second_block ∷ []) ∷ []) → ⊥
condemning_is_illegal = illegal usual_options old_referrer (condemned (second_block ∷ [])) (opened dead mode.Young) ends
    (λ after step. (may_of dead mode.Young (second_block ∷ []) after step).closed first_block second_block refl refl edge)
