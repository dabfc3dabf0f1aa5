-- Garbage of one block, and a block that is held
use Rattle.std.proofs.Common.{◌≡◌, ℕ, ◌==◌, ◌&&◌, ◌||◌, Bool, true, false, not, cond, [], ◌∷◌, ◌++◌, Option, Some, None, refl, sym, ap, ◌∙◌, subst, IsTrue, inl, inr, is_some, is_none, option_and_then, slice_get}
use Rattle.std.specs.Option.{option_map_or}
use Rattle.std.specs.List.Sorted.{IsStrictlySortedBy}
use Rattle.std.specs.declared.cmp.Ordering.TheVariants.{Less, Equal, Greater}
use Rattle.std.specs.Ordering.{is_eq}
use Rattle.std.specs.FinMap.{empty, get}
use Rattle.az_base.specs.declared.action.Mode.TheVariants as mode
use Rattle.az_base.specs.declared.block_id.BlockId.{BlockId}
use Rattle.az_base.specs.declared.word.Word.TheVariants as word
use Rattle.az_base.specs.Ids.{id_cmp, same_id, ids_total, exact_ids, among}
use Rattle.az_base.specs.OptionRanges.{usual_options}
use Rattle.block_layouts.specs.declared.layout.Layout.{Layout}
use Rattle.block_layouts.specs.declared.layout.Shape.TheVariants as shape
use Rattle.zone_model.specs.State.{State, Block, is_nil, is_escaped, is_unescaped, moment, with_register, with_root, without}
use Rattle.zone_model.specs.Part.{own_block}
use Rattle.zone_model.specs.Reach.{Edge, IsHeld, AnchoredFor}
use Rattle.zone_model.specs.Collection.{MayCondemn, IsKept, Reclaims}
use Rattle.zone_model.specs.Step.{Step}
use Rattle.zone_model.specs.History.{Ends, Legal}
use Rattle.zone_model.specs.Worked.{first_block}
use Rattle.zone_model.specs.WorkedCollections.{root_0, root_set, dropped, condemned, settled, held_block, garbage, garbage_history}
use Rattle.zone_model.proofs.Moments.{any_one}
use Rattle.zone_model.proofs.Ones.{map_values-one, total-one, get-one}
use Rattle.zone_model.proofs.Steps.{step_plain}
use Rattle.zone_model.proofs.FirstHistory.{first_zone, new_step, lists_one}
use Rattle.zone_model.proofs.WorkedZones.{map_of, listed_get, listed_total, listed_each, each_block, tested, same_block, among_one, null_word, step_by, root_right, illegal, lists_none, one_listed, escaped_block, unheld, word_edge}
use Rattle.zone_model.proofs.WorkedCycles.{cycle_of, opened, closing, begin_step, condemn_step, may_of}

-- a zone of one escaped block whose words hold nothing, which nothing holds
module _ (y : State) (b : Block) (alone : y.blocks ≡ map_of ((first_block, b) ∷ [])) (escaped : IsTrue (is_some b.since)) (words : b.words ≡ word.Null ∷ [])
    (assocs : y.assocs ≡ empty) (held : (q : BlockId) → IsHeld y q → ⊥) where
  pub here : get y.blocks first_block ≡ Some b
  here = ap (λ m. get m first_block) alone ∙ listed_get ((first_block, b) ∷ []) tt first_block

  pub only : (q : BlockId) (x : Block) → get y.blocks q ≡ Some x → (q ≡ first_block) × (x ≡ b)
  only q x h = each_block (λ q x. (q ≡ first_block) × (x ≡ b)) ((first_block, b) ∷ []) tt ((refl, refl), tt) q x (sym (ap (λ m. get m q) alone) ∙ h)

  pub no_edge : (p q : BlockId) → Edge y p q → ⊥
  no_edge p q edge =
      let w = word_edge y assocs p q edge in
      let same : w.0 ≡ b = (only p w.0 w.2).1 in
      null_word w.1 q (sym (ap (λ l. slice_get l w.1) (ap (λ (x : Block). x.words) same ∙ words)) ∙ w.3)

  may_condemn : MayCondemn (opened y mode.Full) (cycle_of y mode.Full) (first_block ∷ [])
  unfolding IsStrictlySortedBy
  may_condemn = record {
    ascending = (tt, tt);
    start = λ q h. subst (λ q. IsTrue (is_escaped y q)) (sym (among_one first_block q h)) (ap (λ o. is_some (option_and_then (λ (x : Block). x.since) o)) here ∙ escaped);
    scope = λ q h. refl;
    not_held = λ q h. held q;
    closed = λ p q out h. no_edge p q;
    complete = λ q started within none. let is = escaped_block y q started in ap (λ q. among (first_block ∷ []) q) (only q is.0 is.1).0;
  }

  pub condemn_it : y.ended 1 ≡ false → Step (opened y mode.Full) (condemned (first_block ∷ [])) (closing y mode.Full (first_block ∷ []))
  condemn_it running = condemn_step y running mode.Full (first_block ∷ []) may_condemn

  -- nothing of it is kept
  not_kept : (q : BlockId) → IsTrue (among (first_block ∷ []) q) → IsKept y (first_block ∷ []) q → ⊥
  not_kept q h (a, inl holds, path) = held a holds
  not_kept q h (a, inr out, ([], same)) = let f : false ≡ true = sym out ∙ ap (λ x. among (first_block ∷ []) x) (same ∙ among_one first_block q h) in cc (f)
  not_kept q h (a, inr out, (c ∷ more, (edge, path))) = no_edge a c edge

  -- nor is it anchored
  not_anchored : (q : BlockId) → AnchoredFor mode.Full y q → ⊥
  not_anchored q (a, inl holds, path) = held a holds
  not_anchored q (a, inr alone, path) =
      let is = tested (λ (x : Block). is_none x.since) (get y.blocks a) alone in
      is_not b.since escaped (ap (λ (x : Block). is_none x.since) (sym (only a is.0 is.1).1) ∙ is.2)
    where
      is_not : (o : Option ℕ) → IsTrue (is_some o) → IsTrue (is_none o) → ⊥
      is_not None h g = cc (h)
      is_not (Some n) h g = cc (g)

  -- so it must be condemned
  pub not_left : MayCondemn (opened y mode.Full) (cycle_of y mode.Full) [] → ⊥
  not_left may =
      let f : false ≡ true = may.complete first_block (ap (λ o. is_some (option_and_then (λ (x : Block). x.since) o)) here ∙ escaped) refl (λ reached. not_anchored first_block (any_one (λ m. AnchoredFor mode.Full m first_block) (moment y) reached.1)) in
      cc (f)

abbrev pub small : Layout
small = shape.Scanned 1

abbrev pub rooted : Block
rooted = record (own_block small) { since = Some 0 }

-- the block is born, stands in a root, and is dropped there and in its register
abbrev pub born : State
born = first_zone small

abbrev pub in_root : State
in_root = with_root (record born { blocks = map_of ((first_block, rooted) ∷ []) }) 0 (Some first_block)

abbrev unrooted : State
unrooted = with_root (with_register in_root 1 0 None) 0 None

born_unescaped : (q : BlockId) → is_unescaped born q ≡ same_id q first_block
born_unescaped q = ap (λ o. option_map_or (λ (b : Block). is_none b.since) o false) (get-one ids_total exact_ids first_block (own_block small) q)
    ∙ elim (id_cmp q first_block) as (λ r. option_map_or (λ (b : Block). is_none b.since) (cond (is_eq r) (Some (own_block small)) None) false ≡ is_eq r) [ Less ↦ refl | Equal ↦ refl | Greater ↦ refl ]

pub root_step : Step born (root_set root_0 0) in_root
root_step = step_by born (root_set root_0 0) in_root (λ q. same_id q first_block) refl
    (λ q. (λ h. (born_unescaped q ∙ h, ([], sym (same_block q first_block h))), λ need. sym (born_unescaped q) ∙ need.0))
    (root_right born 1 0 0 _ 0 1 (total-one ids_total exact_ids _ first_block (own_block small)) (total-one ids_total exact_ids _ first_block (own_block small)) refl)
    (in_root, ap (λ m. with_root (record born { blocks = m }) 0 (Some first_block)) (sym (map_values-one ids_total exact_ids _ first_block (own_block small) ∙ one_listed first_block rooted)), refl)

drop_step : Step in_root (dropped 0) (with_register in_root 1 0 None)
drop_step = step_plain in_root (dropped 0) _ refl (λ id n. n) refl (_, refl, refl)

unroot_step : Step (with_register in_root 1 0 None) (root_set root_0 0) unrooted
unroot_step = step_by _ (root_set root_0 0) unrooted (λ _. false) refl (λ q. (λ h. cc (h), λ need. absurd need))
    (root_right (with_register in_root 1 0 None) 1 0 0 (λ _. false) 1 0 (listed_total _ ((first_block, rooted) ∷ []) tt) (listed_total _ ((first_block, rooted) ∷ []) tt) refl)
    (unrooted, ap (λ m. record unrooted { blocks = m }) (sym (listed_each _ ((first_block, rooted) ∷ []) tt)), refl)

null_registers : (t r : ℕ) (q : BlockId) → unrooted.registers t r ≡ Some q → ⊥
null_registers t r q = by_test ((1 == t) && (0 == r))
  where
    by_test : (c : Bool) → cond c None (cond c (Some first_block) None) ≡ Some q → ⊥
    by_test true e = cc (e)
    by_test false e = cc (e)

null_roots : (g : ℕ) (q : BlockId) → unrooted.roots g ≡ Some q → ⊥
null_roots g q = by_test (0 == g)
  where
    by_test : (c : Bool) → cond c None (cond c (Some first_block) None) ≡ Some q → ⊥
    by_test true e = cc (e)
    by_test false e = cc (e)

none_held : (q : BlockId) → IsHeld unrooted q → ⊥
none_held = unheld unrooted null_registers null_roots refl

garbage_ends : Ends usual_options garbage (opened unrooted mode.Full)
garbage_ends = (born, new_step small refl, (in_root, root_step, (_, drop_step, (unrooted, unroot_step, (_, begin_step unrooted refl mode.Full, refl)))))

abbrev marked : State
marked = closing unrooted mode.Full (first_block ∷ [])

abbrev swept : State
swept = record (without marked (first_block ∷ [])) { reclaims = 1; cycle = None }

reclaims_it : Reclaims marked 1 (first_block ∷ []) [] swept
reclaims_it = record {
  r = first_block ∷ [];
  condemned = (record (cycle_of unrooted mode.Full) { condemned = Some (first_block ∷ []) }, (refl, refl), refl);
  finalised = ap (λ (o : Option Block). cond (option_map_or (λ b. not (is_nil b.actions) && not b.finalised) o false) (Some first_block) None) (here unrooted rooted refl refl refl refl none_held);
  kept_ones = lists_none _ (λ q p. not_kept unrooted rooted refl refl refl refl none_held q p.0 p.1);
  gone_ones = lists_one _ first_block (λ q h. (ap (λ b. b || false) h, not_kept unrooted rooted refl refl refl refl none_held q (ap (λ b. b || false) h))) (λ q p. ap (λ x. same_id x first_block) (among_one first_block q p.0));
  does = refl;
}

pub garbage_is_legal : Legal usual_options garbage_history
garbage_is_legal = (swept, (born, new_step small refl, (in_root, root_step, (_, drop_step, (unrooted, unroot_step, (_, begin_step unrooted refl mode.Full, (marked, condemn_it unrooted rooted refl refl refl refl none_held refl, (swept, step_plain marked (settled (first_block ∷ []) []) swept refl (λ id n. n) refl (swept, reclaims_it, refl), refl))))))))

pub nothing_is_illegal : Legal usual_options (garbage ++ condemned [] ∷ []) → ⊥
nothing_is_illegal = illegal usual_options garbage (condemned []) (opened unrooted mode.Full) garbage_ends
    (λ after step. not_left unrooted rooted refl refl refl refl none_held (may_of unrooted mode.Full [] after step))

held_ends : Ends usual_options held_block (opened in_root mode.Full)
held_ends = (born, new_step small refl, (in_root, root_step, (_, begin_step in_root refl mode.Full, refl)))

pub held_is_illegal : Legal usual_options (held_block ++ condemned (first_block ∷ []) ∷ []) → ⊥
held_is_illegal = illegal usual_options held_block (condemned (first_block ∷ [])) (opened in_root mode.Full) held_ends
    (λ after step. (may_of in_root mode.Full (first_block ∷ []) after step).not_held first_block refl (inr (inl (0, refl))))
