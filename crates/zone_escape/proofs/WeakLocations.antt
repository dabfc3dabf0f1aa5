-- The calls on weak locations
use Rattle.std.proofs.Common.{◌≡◌, ℕ, ◌+◌, ◌==◌, ◌&&◌, Bool, true, false, cond, List, [], ◌∷◌, ◌⊎◌, inl, inr, Option, Some, None, IsSome, IsTrue, refl, sym, ap, subst, ◌∙◌, arith}
use Rattle.std.specs.List.{list_any}
use Rattle.std.specs.Option.{option_map, option_map_or, option_and_then}
use Rattle.std.specs.FinMap.{get}
use Rattle.az_base.specs.declared.block_id.BlockId.{BlockId}
use Rattle.az_base.specs.declared.misuse.Misuse.{Misuse}
use Rattle.az_base.specs.declared.misuse.Misuse.TheVariants as misuse
use Rattle.az_base.specs.declared.weak_loc.WeakLoc.TheVariants as weak
use Rattle.az_base.specs.declared.word.Class.{Class}
use Rattle.az_base.specs.declared.word.Class.TheVariants as class
use Rattle.block_layouts.specs.declared.layout.Layout.{Layout}
use Rattle.block_layouts.specs.Layouts.{class_at}
use Rattle.zone_model.specs.declared.call.Call.{Call}
use Rattle.zone_model.specs.declared.call.Call.TheVariants as call
use Rattle.zone_model.specs.declared.call.Loc.TheVariants as loc
use Rattle.zone_model.specs.declared.entry.Reply.{Reply}
use Rattle.zone_model.specs.declared.entry.Reply.TheVariants as reply
use Rattle.zone_model.specs.Effect.{weak_value}
use Rattle.zone_model.specs.Escape.{EscOf, Tells, with_escaped}
use Rattle.zone_model.specs.Misuses.{Named, word_in, words_named, null_block, misuse_of, first_of}
use Rattle.zone_model.specs.Part.{part_of, is_in}
use Rattle.zone_model.specs.Sound.{Sound, Knows}
use Rattle.zone_model.specs.State.{State, Block, is_own, with_register}
use Rattle.zone_model.specs.Step.{seen_now}
use Rattle.zone_model.proofs.Blocks.{got_escaped, escape_at, not_both, own_inside}
use Rattle.zone_model.proofs.PartNeeds.{in_part, part_has}
use Rattle.zone_model.proofs.Steps.{step_plain}
use Rattle.shared_heap.specs.Holding.{HoldsMore}
use Rattle.shared_heap.specs.Shared.{Shared, held}
use Rattle.shared_heap.specs.Stands.{Stands}
use Rattle.shared_heap.specs.Steps.{NeedsWord, first_three}
use Rattle.shared_heap.specs.Steps as shared
use Rattle.shared_heap.specs.Weak.{loc_misuse}
use Rattle.shared_heap.specs.Words.{is_past, is_other, class_misuse, word_misuse, reply_or}
use Rattle.shared_heap.proofs.Agreeing.{here_escaped}
use Rattle.shared_heap.proofs.Standing.{seen_stands, register_stands}
use Rattle.shared_heap.proofs.Stepping.{one_word, three}
use Rattle.local_set.specs.LocalSets.{LocalSet, part_in}

-- the call names the value first, and the escape the block
pub turned : (z : State) (need : BlockId → Bool) (a v b w : Option BlockId) → a ≡ b → v ≡ w → Tells need (λ c. EscOf z a c ⊎ EscOf z v c) → Tells need (λ c. EscOf z w c ⊎ EscOf z b c)
turned z need a v b w ea ev tells c = (
  λ h. elim ((tells c).0 h) [ inl e ↦ inr (subst (λ o. EscOf z o c) ea e) | inr e ↦ inl (subst (λ o. EscOf z o c) ev e) ],
  λ n. (tells c).1 (elim n [ inl e ↦ inr (subst (λ o. EscOf z o c) (sym ev) e) | inr e ↦ inl (subst (λ o. EscOf z o c) (sym ea) e) ]),
)

-- a call names the same words after an escape
word_still : (z : State) (need : BlockId → Bool) (t reg at : ℕ) (k : Class) → word_in (with_escaped z need) t reg at k ≡ word_in z t reg at k
word_still z need t reg at k = go (z.registers t reg)
  where
    named : Block → List Named
    named b = record { layout = b.layout; at = at; class = k } ∷ []

    same : (o : Option Block) (t : Bool) → option_map_or named (option_map (escape_at z t) o) [] ≡ option_map_or named o []
    same None t = refl
    same (Some b) true = refl
    same (Some b) false = refl

    go : (a : Option BlockId) → option_map_or named (option_and_then (λ id. get (with_escaped z need).blocks id) a) [] ≡ option_map_or named (option_and_then (λ id. get z.blocks id) a) []
    go None = refl
    go (Some id) = ap (λ o. option_map_or named o []) (got_escaped z need id) ∙ same (get z.blocks id) (need id)

three_still : (z : State) (need : BlockId → Bool) (t into at from : ℕ) → first_three (with_escaped z need) t (call.SetWeak (loc.Word into at) from) ≡ first_three z t (call.SetWeak (loc.Word into at) from)
three_still z need t into at from =
    ap (λ ws. first_of ((null_block z t (call.SetWeak (loc.Word into at) from), misuse.NullBlock) ∷ (list_any is_past ws, misuse.NoWord) ∷ (list_any is_other ws, misuse.WrongClass) ∷ [])) (word_still z need t into at class.Weak)

-- so the heap shows the value after the escape
pub shows_value : (g : Shared) (z : State) (need : BlockId → Bool) (t into at from : ℕ) (id : BlockId) (v : Option BlockId) (r : Reply) → Stands g (with_escaped z need) → IsSome (get g.blocks id) → z.registers t into ≡ Some id
    → first_three z t (call.SetWeak (loc.Word into at) from) ≡ None → r ≡ reply_or (loc_misuse g (weak.Word id at)) (reply.Block v) → r ≡ reply.Block v
shows_value g z need t into at from id v r stands there holds right says =
    let none : word_misuse g (Some id) at class.Weak ≡ None = sym (three g (with_escaped z need) t (call.SetWeak (loc.Word into at) from) into at class.Weak (Some id) stands there holds (record { holder = refl; word = refl })) ∙ three_still z need t into at from ∙ right in
    says ∙ ap (λ m. reply_or m (reply.Block v)) none

-- the misuses of naming a word of the thread's own block
pub own_three : (z : State) (t reg at : ℕ) (c : Call) (k : Class) (id : BlockId) (layout : Layout) → z.registers t reg ≡ Some id → option_map (λ (b : Block). b.layout) (get z.blocks id) ≡ Some layout → NeedsWord z t c reg at k → first_three z t c ≡ class_misuse k (class_at layout at)
own_three z t reg at c k id layout holds is needs = go (get z.blocks id) refl is
  where
    some : {a b : Layout} → Some a ≡ Some b → a ≡ b
    some e = cc

    go : (o : Option Block) → get z.blocks id ≡ o → option_map (λ (b : Block). b.layout) o ≡ Some layout → first_three z t c ≡ class_misuse k (class_at layout at)
    go None e f = cc
    go (Some b) e f =
        let same : b.layout ≡ layout = some f in
        let named : words_named z t c ≡ (record { layout = layout; at = at; class = k } ∷ []) = needs.word ∙ rw (holds, e, same) refl in
        rw (needs.holder, holds, named) (one_word layout at k)

module _ (l : LocalSet) (z : State) (is : part_in l ≡ part_of z l.thread) (id : BlockId) where
  -- a block of the set is the thread's own in the state
  pub own_there : is_in (part_in l) id ≡ true → IsTrue (is_own z l.thread id)
  own_there own = sym (in_part z l.thread id) ∙ ap (λ p. is_in p id) (sym is) ∙ own

  pub own_layout : (layout : Layout) → is_in (part_in l) id ≡ true → option_map (λ (b : Block). b.layout) (get (part_in l).blocks id) ≡ Some layout → option_map (λ (b : Block). b.layout) (get z.blocks id) ≡ Some layout
  own_layout layout own at = ap (option_map (λ (b : Block). b.layout)) (sym (part_has z l.thread id (own_there own)) ∙ ap (λ p. get p.blocks id) (sym is)) ∙ at

  -- one that the thread knows and that isn't its own is the heap's
  pub known_there : (h : Shared) → Stands h z → Knows z l.thread id → is_in (part_in l) id ≡ false → IsSome (get h.blocks id)
  known_there h stands (inl out) none = here_escaped h z id stands out
  known_there h stands (inr own) none = let no : false ≡ true = sym none ∙ ap (λ p. is_in p id) is ∙ in_part z l.thread id ∙ own in cc (no)

-- no word of an own block shows a block
none_shown : (z : State) (t : ℕ) (id : BlockId) (at : ℕ) → Sound z → IsTrue (is_own z t id) → get z.weak (weak.Word id at) ≡ None
none_shown z t id at sound own = go (get z.weak (weak.Word id at)) refl
  where
    go : (o : Option BlockId) → get z.weak (weak.Word id at) ≡ o → o ≡ None
    go None e = refl
    go (Some c) e = absurd (not_both (get z.blocks id) (sound.names.showing id at c e) (own_inside z t id own))

-- so it reads as null
pub own_reads : (h : Shared) (z : State) (t to from at : ℕ) (id : BlockId) → Stands h z → Sound z → z.ended t ≡ false → z.registers t from ≡ Some id → IsTrue (is_own z t id) → first_three z t (call.ReadWeak to (loc.Word from at)) ≡ None
    → shared.Stepped h z t (call.ReadWeak to (loc.Word from at)) (reply.Block None)
own_reads h z t to from at id stands sound running holds own right =
    let mid = with_register z t to None in
    let shown = sym (ap (λ a. weak_value z (option_map (λ id. weak.Word id at) a)) holds ∙ none_shown z t id at sound own) in
    (seen_now mid, step_plain z _ (seen_now mid) running (λ id n. n) right (mid, (shown, refl), refl), seen_stands h mid (register_stands h z t to None stands))

-- and nothing is held once more
pub none_more : (h : Shared) (t : ℕ) → HoldsMore h h t (reply.Block None)
none_more h t u q there = nothing (t == u)
  where
    nothing : (b : Bool) → held h u q ≡ held h u q + cond (b && false) 1 0
    nothing true = omega arith
    nothing false = omega arith

-- nothing escapes
pub no_need : Tells (λ _. false) (λ c. ⊥)
no_need c = (λ h. cc, λ n. absurd n)

pub null_read : (z : State) (t to from at : ℕ) → None ≡ z.registers t from → misuse_of z t (call.ReadWeak to (loc.Word from at)) (λ _. false) ≡ Some misuse.NullBlock
null_read z t to from at holds = rw (← holds) refl

pub null_set : (z : State) (t into at from : ℕ) (need : BlockId → Bool) → None ≡ z.registers t into → misuse_of z t (call.SetWeak (loc.Word into at) from) need ≡ Some misuse.NullBlock
null_set z t into at from need holds = rw (← holds) refl
