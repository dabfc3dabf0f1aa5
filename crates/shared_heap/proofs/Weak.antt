-- The steps of the calls on weak locations
use Rattle.std.proofs.Common.{◌≡◌, ℕ, ◌≤◌, ◌==◌, ◌&&◌, Bool, true, false, cond, List, [], ◌∷◌, Option, Some, None, IsSome, IfSome, refl, sym, ap, subst, ◌∙◌, inl, inr, eq-eqb}
use Rattle.std.specs.Option.{option_map, option_map_or}
use Rattle.std.specs.FinMap.{get}
use Rattle.az_base.specs.declared.block_id.BlockId.{BlockId}
use Rattle.az_base.specs.Ids.{among}
use Rattle.az_base.specs.declared.misuse.Misuse.{Misuse}
use Rattle.az_base.specs.declared.misuse.Misuse.TheVariants as misuse
use Rattle.az_base.specs.declared.weak_loc.WeakLoc.{WeakLoc}
use Rattle.az_base.specs.declared.weak_loc.WeakLoc.TheVariants as weak
use Rattle.az_base.specs.declared.word.Class.TheVariants as class
use Rattle.zone_model.specs.declared.call.Call.TheVariants as call
use Rattle.zone_model.specs.declared.call.Loc.{Loc}
use Rattle.zone_model.specs.declared.call.Loc.TheVariants as loc
use Rattle.zone_model.specs.declared.entry.Reply.TheVariants as reply
use Rattle.zone_model.specs.Effect.{weak_loc, value_to_show}
use Rattle.zone_model.specs.Escape.{Need, EscOf, block_named}
use Rattle.zone_model.specs.Misuses.{null_block, no_word, wrong_class, first_of, misuse_of}
use Rattle.az_base.specs.WithValue.{with_value}
use Rattle.zone_model.specs.State.{State, with_weak, with_register}
use Rattle.zone_model.specs.Step.{seen_now}
use Rattle.zone_model.proofs.Steps.{step_plain}
use Rattle.heap_cycle.specs.Livening.{Livens, of_option}
use Rattle.block_table.specs.Table.{used_by}
use Rattle.shared_heap.specs.Shared.{Shared, with_gc}
use Rattle.shared_heap.specs.Stands.{Stands, EscapedClosed}
use Rattle.shared_heap.specs.Steps.{Runs, Stepped}
use Rattle.shared_heap.specs.Weak.{IsPlaced, loc_misuse, showing, shown_in}
use Rattle.shared_heap.proofs.Collecting.{condemned_same, live_stands, register_anchored}
use Rattle.shared_heap.proofs.Standing.{seen_stands, register_stands}
use Rattle.shared_heap.proofs.Stepping.{three, misused, none_escape}
use Rattle.shared_heap.proofs.Sums.{not_full}

-- where a location lies that a call names
the_loc : {l m : WeakLoc} → Some l ≡ Some m → m ≡ l
the_loc e = cc

-- a word is that of the block in a register
pub word_named : (z : State) (t a at : ℕ) (l : WeakLoc) → weak_loc z t (loc.Word a at) ≡ Some l → (id : BlockId) × (z.registers t a ≡ Some id) × (l ≡ weak.Word id at)
word_named z t a at l e = go (z.registers t a) refl e
  where
    go : (o : Option BlockId) → z.registers t a ≡ o → option_map (λ id. weak.Word id at) o ≡ Some l → (id : BlockId) × (z.registers t a ≡ Some id) × (l ≡ weak.Word id at)
    go None f g = cc
    go (Some id) f g = (id, f, the_loc g)

-- a change of what a location shows
showing_stands : (h : Shared) (z : State) (l : WeakLoc) (v : Option BlockId) → Stands h z → Stands (showing h l v) (with_weak z l v)
showing_stands h z l v s = record { options = s.options; blocks = s.blocks; roots = s.roots; counts = s.counts; assocs = s.assocs; weak = ap (λ m. with_value m l v) s.weak; cycle = s.cycle }

-- what a location comes to show
shown_same : (h : Shared) (z : State) (v : Option BlockId) → Stands h z → shown_in h v ≡ value_to_show z v
shown_same h z None s = refl
shown_same h z (Some b) s = ap (λ (o : Option (List BlockId)). cond (option_map_or (λ r. among r b) o false) None (Some b)) (sym (condemned_same h.gc.cycle z.cycle s.cycle))

-- a misuse stays the least where the zone is full
earlier : (a b c full : Bool) (m : Misuse) → first_of ((a, misuse.NullBlock) ∷ (b, misuse.NoWord) ∷ (c, misuse.WrongClass) ∷ []) ≡ Some m
    → first_of ((a, misuse.NullBlock) ∷ (b, misuse.NoWord) ∷ (c, misuse.WrongClass) ∷ (full, misuse.ZoneFull) ∷ []) ≡ Some m
earlier true b c full m e = e
earlier false true c full m e = e
earlier false false true full m e = e
earlier false false false full m e = cc

module _ (h : Shared) (z : State) (t : ℕ) (runs : Runs h z t) where
  read_misuse : (to : ℕ) (named : Loc) (l : WeakLoc) → IsPlaced h l → weak_loc z t named ≡ Some l → misuse_of z t (call.ReadWeak to named) (λ _. false) ≡ loc_misuse h l
  read_misuse to (loc.Root w) l placed at = rw (the_loc at) refl
  read_misuse to (loc.Word a i) l placed at =
      let w = word_named z t a i l at in
      three h z t (call.ReadWeak to (loc.Word a i)) a i class.Weak (Some w.0) runs.stands (subst (IsPlaced h) w.2 placed) w.1 (record { holder = refl; word = refl })
      ∙ sym (ap (loc_misuse h) w.2)

  pub read_misused : (to : ℕ) (named : Loc) (l : WeakLoc) (m : Misuse) → IsPlaced h l → weak_loc z t named ≡ Some l → loc_misuse h l ≡ Some m → Stepped h z t (call.ReadWeak to named) (reply.Misuse m)
  read_misused to named l m placed at wrong = misused h z t (call.ReadWeak to named) m runs (λ id n. n) (read_misuse to named l placed at ∙ wrong)

  pub read_step : (new : Shared) (to : ℕ) (named : Loc) (l : WeakLoc) (v : Option BlockId) → IsPlaced h l → weak_loc z t named ≡ Some l → loc_misuse h l ≡ None → v ≡ get h.weak l → (k : Shared) → Stands k z → new ≡ with_gc k new.gc → Livens k.gc new.gc (of_option v) [] → Stepped new z t (call.ReadWeak to named) (reply.Block v)
  read_step new to named l v placed at right is k s same lives =
      let mid = with_register z t to v in
      let reads : v ≡ get z.weak l = is ∙ sym (ap (λ m. get m l) runs.stands.weak) in
      (seen_now mid, step_plain z _ (seen_now mid) runs.running (λ id n. n) (read_misuse to named l placed at ∙ right) (mid, (rw at reads, refl), refl), rw same (live_stands k mid new.gc (of_option v) [] lives (register_anchored mid t to v own_register) (register_stands k z t to v s)))
    where
      own_register : (with_register z t to v).registers t to ≡ v
      own_register = ap (λ b. cond b v (z.registers t to)) (ap (λ b. b && (to == to)) (eq-eqb t t refl) ∙ eq-eqb to to refl)

  module _ (from : ℕ) (named : Loc) (l : WeakLoc) (v : Option BlockId) (sound : EscapedClosed z) (placed : IsPlaced h l) (there : IfSome v (λ b. IsSome (get h.blocks b))) (at : weak_loc z t named ≡ Some l) (has_value : z.registers t from ≡ v) where
    assign_needs : (id : BlockId) → Need z t (call.SetWeak named from) id → ⊥
    assign_needs id n = elim n [
      | inl e ↦ none_escape h z v runs.stands sound there id (subst (λ v. EscOf z v id) has_value e)
      | inr e ↦ of_loc named at e
    ]
      where
        of_loc : (named : Loc) → weak_loc z t named ≡ Some l → EscOf z (block_named z t named) id → ⊥
        of_loc (loc.Root w) at e = e
        of_loc (loc.Word a i) at e =
            let w = word_named z t a i l at in
            none_escape h z (Some w.0) runs.stands sound (subst (IsPlaced h) w.2 placed) id (subst (λ v. EscOf z v id) w.1 e)

    pub assign_misused : (m : Misuse) → loc_misuse h l ≡ Some m → Stepped h z t (call.SetWeak named from) (reply.Misuse m)
    assign_misused m wrong = misused h z t (call.SetWeak named from) m runs assign_needs (go named at)
      where
        go : (named : Loc) → weak_loc z t named ≡ Some l → misuse_of z t (call.SetWeak named from) (λ _. false) ≡ Some m
        go (loc.Root w) at = let none : loc_misuse h l ≡ None = ap (loc_misuse h) (the_loc at) in cc
        go (loc.Word a i) at =
            let w = word_named z t a i l at in
            let c = call.SetWeak (loc.Word a i) from in
            earlier (null_block z t c) (no_word z t c) (wrong_class z t c) _ m
            (three h z t c a i class.Weak (Some w.0) runs.stands (subst (IsPlaced h) w.2 placed) w.1 (record { holder = refl; word = refl })
            ∙ sym (ap (loc_misuse h) w.2) ∙ wrong)

    pub assign_step : used_by h.blocks ≤ h.options.heap_quanta → loc_misuse h l ≡ None → Stepped (showing h l (shown_in h v)) z t (call.SetWeak named from) (reply.Block (shown_in h v))
    assign_step fits right =
        let now = shown_in h v in
        let mid = with_weak z l now in
        let shows : now ≡ value_to_show z (z.registers t from) = shown_same h z v runs.stands ∙ sym (ap (value_to_show z) has_value) in
        let sets : mid ≡ option_map_or (λ l. with_weak z l now) (weak_loc z t named) z = sym (ap (λ o. option_map_or (λ l. with_weak z l now) o z) at) in
        (seen_now mid, step_plain z _ (seen_now mid) runs.running assign_needs (go named at) (mid, (shows, sets), refl), seen_stands (showing h l now) mid (showing_stands h z l now runs.stands))
      where
        go : (named : Loc) → weak_loc z t named ≡ Some l → misuse_of z t (call.SetWeak named from) (λ _. false) ≡ None
        go (loc.Root w) at = ap (λ full. first_of ((full, misuse.ZoneFull) ∷ [])) (not_full h z runs.stands fits)
        go (loc.Word a i) at =
            let w = word_named z t a i l at in
            let c = call.SetWeak (loc.Word a i) from in
            ap (λ full. first_of ((null_block z t c, misuse.NullBlock) ∷ (no_word z t c, misuse.NoWord) ∷ (wrong_class z t c, misuse.WrongClass) ∷ (full, misuse.ZoneFull) ∷ [])) (not_full h z runs.stands fits)
            ∙ three h z t c a i class.Weak (Some w.0) runs.stands (subst (IsPlaced h) w.2 placed) w.1 (record { holder = refl; word = refl })
            ∙ sym (ap (loc_misuse h) w.2) ∙ right
