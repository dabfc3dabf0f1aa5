-- An escape keeps a state sound, and what a call then needs has escaped
use Rattle.std.proofs.Common.{◌≡◌, ◌<◌, ◌≤◌, ◌+◌, ℕ, ◌==◌, Bool, true, false, cond, nat_lt, ◌&&◌, [], ◌∷◌, ◌++◌, Option, Some, None, IsTrue, refl, sym, ap, subst, ◌∙◌, ◌⊎◌, inl, inr, is_some, slice_get, arith}
use Rattle.std.proofs.lemmas.Bool.Decides.{nat_tests}
use Rattle.std.specs.FinMap.{get}
use Rattle.az_base.specs.declared.block_id.BlockId.{BlockId}
use Rattle.az_base.specs.declared.misuse.Misuse.TheVariants as misuse
use Rattle.az_base.specs.Ids.{ids_total, exact_ids}
use Rattle.block_layouts.specs.Layouts.{quanta, len_of}
use Rattle.zone_model.specs.declared.call.Call.{Call}
use Rattle.zone_model.specs.declared.call.Call.TheVariants as call
use Rattle.zone_model.specs.declared.call.Loc.{Loc}
use Rattle.zone_model.specs.declared.call.Loc.TheVariants as loc
use Rattle.zone_model.specs.State.{State, is_escaped, is_unescaped, is_own, count_of}
use Rattle.zone_model.specs.Reach.{Edge, WordEdge}
use Rattle.zone_model.specs.Escape.{EscOf, HoldsEscaped, Need, Tells, with_escaped, block_named}
use Rattle.zone_model.specs.Quanta.{used_quanta, quanta_needed, is_born_escaped}
use Rattle.zone_model.specs.Misuses.{misuse_of, first_of, is_overfull, null_block, no_word, wrong_class, over_release, count_full, serials_used, zone_full, not_held}
use Rattle.zone_model.proofs.Steps.{none_escaped, tells_none}
use Rattle.zone_model.specs.Sound.{Knows, MayRefer}
use Rattle.zone_model.proofs.Intact.{Intact}
use Rattle.zone_model.proofs.Paths.{path_more}
use Rattle.zone_model.proofs.Blocks.{is_inside, not_both, there_inside, own_inside, found_escaped, still_escaped, now_escaped, not_needed}
use Rattle.zone_model.proofs.Sums.{escaped_used, total_nothing}
use Rattle.zone_model.proofs.IntactChanges.{grown_intact}

esc_of_more : (z : State) (o : Option BlockId) (a b : BlockId) → EscOf z o a → Edge z a b → IsTrue (is_unescaped z b) → EscOf z o b
esc_of_more z None a b esc e own = esc
esc_of_more z (Some x) a b esc e own = (own, (esc.1.0 ++ b ∷ [], path_more (Edge z) x esc.1.0 a b esc.1.1 e))

either_more : (z : State) (o p : Option BlockId) (a b : BlockId) → EscOf z o a ⊎ EscOf z p a → Edge z a b → IsTrue (is_unescaped z b) → EscOf z o b ⊎ EscOf z p b
either_more z o p a b (inl esc) e own = inl (esc_of_more z o a b esc e own)
either_more z o p a b (inr esc) e own = inr (esc_of_more z p a b esc e own)

-- what a needed block leads to is needed
need_more : (z : State) (t : ℕ) (c : Call) (a b : BlockId) → Need z t c a → Edge z a b → IsTrue (is_unescaped z b) → Need z t c b
need_more z t (call.Store into at from) a b n e own = (n.0, esc_of_more z (z.registers t from) a b n.1 e own)
need_more z t (call.SetRoot root from) a b n e own = esc_of_more z (z.registers t from) a b n e own
need_more z t (call.Retain reg) a b n e own = esc_of_more z (z.registers t reg) a b n e own
need_more z t (call.SetAssoc object key value) a b n e own = either_more z (z.registers t object) (z.registers t value) a b n e own
need_more z t (call.SetWeak loc from) a b n e own = either_more z (z.registers t from) (block_named z t loc) a b n e own
need_more z t _ a b n e own = absurd n

esc_inside : (z : State) (o : Option BlockId) (a : BlockId) → EscOf z o a → IsTrue (is_unescaped z a)
esc_inside z None a esc = absurd esc
esc_inside z (Some x) a esc = esc.0

either_inside : (z : State) (o p : Option BlockId) (a : BlockId) → EscOf z o a ⊎ EscOf z p a → IsTrue (is_unescaped z a)
either_inside z o p a (inl esc) = esc_inside z o a esc
either_inside z o p a (inr esc) = esc_inside z p a esc

-- only unescaped blocks are needed
pub need_inside : (z : State) (t : ℕ) (c : Call) (a : BlockId) → Need z t c a → IsTrue (is_unescaped z a)
need_inside z t (call.Store into at from) a n = esc_inside z (z.registers t from) a n.1
need_inside z t (call.SetRoot root from) a n = esc_inside z (z.registers t from) a n
need_inside z t (call.Retain reg) a n = esc_inside z (z.registers t reg) a n
need_inside z t (call.SetAssoc object key value) a n = either_inside z (z.registers t object) (z.registers t value) a n
need_inside z t (call.SetWeak loc from) a n = either_inside z (z.registers t from) (block_named z t loc) a n
need_inside z t _ a n = absurd n

last_two : (a b c d e f g h : Bool) → first_of ((a, misuse.NullBlock) ∷ (b, misuse.NoWord) ∷ (c, misuse.WrongClass) ∷ (d, misuse.OverRelease) ∷ (e, misuse.CountFull) ∷ (f, misuse.SerialsUsed) ∷ (g, misuse.ZoneFull) ∷ (h, misuse.NotHeld) ∷ []) ≡ None → (g ≡ false) × (h ≡ false)
last_two true b c d e f g h n = cc (n)
last_two false true c d e f g h n = cc (n)
last_two false false true d e f g h n = cc (n)
last_two false false false true e f g h n = cc (n)
last_two false false false false true f g h n = cc (n)
last_two false false false false false true g h n = cc (n)
last_two false false false false false false true h n = cc (n)
last_two false false false false false false false true n = cc (n)
last_two false false false false false false false false n = (refl, refl)

-- the tests of a call that is no misuse
pub right_full : (z : State) (t : ℕ) (c : Call) (need : BlockId → Bool) → misuse_of z t c need ≡ None → (zone_full z t c need ≡ false) × (not_held z t c ≡ false)
right_full z t c need h = last_two (null_block z t c) (no_word z t c) (wrong_class z t c) (over_release z t c) (count_full z t c) (serials_used z t c) (zone_full z t c need) (not_held z t c) h

none_needed : (z : State) → quanta_needed z (λ _. false) ≡ 0
none_needed z = total_nothing ids_total exact_ids z.blocks

below : (a b : ℕ) → nat_lt b a ≡ false → a ≤ b
below a b h = grind (arith, nat_tests)

-- unescaped blocks escape, with all that they lead to
module _ (z : State) (s : Intact z) (need : BlockId → Bool) (inside : (q : BlockId) → need q ≡ true → IsTrue (is_unescaped z q))
    (more : (a b : BlockId) → need a ≡ true → Edge z a b → IsTrue (is_unescaped z b) → need b ≡ true) (fits : used_quanta z + quanta_needed z need ≤ z.options.heap_quanta) where
  abbrev after : State
  after = with_escaped z need

  there : (q : BlockId) → need q ≡ true → IsTrue (is_some (get z.blocks q))
  there q h = there_inside (get z.blocks q) (inside q h)

  still_knows : (u : ℕ) (b : BlockId) → IsTrue (is_own z u b) → Knows after u b
  still_knows u b h = by_need (need b) refl
    where
      by_need : (n : Bool) → need b ≡ n → Knows after u b
      by_need true e = inl (now_escaped z need b e (there b e))
      by_need false e = inr (ap (λ o. (b.thread == u) && is_inside o) (not_needed z need b e) ∙ h)

  edges : (a b : BlockId) → WordEdge after.blocks a b → MayRefer after a b
  edges a b e =
      let was = found_escaped z need a e.0 e.2 in
      let edge : WordEdge z.blocks a b = (was.0, e.1, was.1, ap (λ ws. slice_get ws e.1) was.2 ∙ e.3) in
      by_end edge (s.names.words a b edge)
    where
      by_need : WordEdge z.blocks a b → IsTrue (is_unescaped z a) → IsTrue (is_own z a.thread b) → (m n : Bool) → need a ≡ m → need b ≡ n → MayRefer after a b
      by_need edge was own m true f e = inl (now_escaped z need b e (there b e))
      by_need edge was own true false f e =
          let too : need b ≡ true = more a b f (inl edge) (own_inside z a.thread b own) in
          let no : true ≡ false = sym too ∙ e in
          cc (no)
      by_need edge was own false false f e = inr (ap is_inside (not_needed z need a f) ∙ was, ap (λ o. (b.thread == a.thread) && is_inside o) (not_needed z need b e) ∙ own)

      by_end : WordEdge z.blocks a b → MayRefer z a b → MayRefer after a b
      by_end edge (inl out) = inl (still_escaped z need b out)
      by_end edge (inr own) = by_need edge own.0 own.1 (need a) (need b) refl refl

  pub closed_intact : Intact after
  closed_intact = grown_intact z s after.blocks (still_escaped z need) still_knows edges (let used : used_quanta after ≡ used_quanta z + quanta_needed z need = escaped_used z need inside in omega (arith, used, fits))

module _ (z : State) (s : Intact z) (t : ℕ) (c : Call) (need : BlockId → Bool) (tells : Tells need (Need z t c)) (right : misuse_of z t c need ≡ None) where
  -- what escapes fits
  needed_fits : used_quanta z + quanta_needed z need ≤ z.options.heap_quanta
  needed_fits = by_call c tells right
    where
      full : is_overfull z (quanta_needed z need) ≡ false → used_quanta z + quanta_needed z need ≤ z.options.heap_quanta
      full h = below (used_quanta z + quanta_needed z need) z.options.heap_quanta h

      nothing : need ≡ (λ _. false) → used_quanta z + quanta_needed z need ≤ z.options.heap_quanta
      nothing none = let zero : quanta_needed z need ≡ 0 = ap (quanta_needed z) none ∙ none_needed z in omega (arith, zero, s.used)

      by_call : (c : Call) → Tells need (Need z t c) → misuse_of z t c need ≡ None → used_quanta z + quanta_needed z need ≤ z.options.heap_quanta
      by_call (call.Store into at from) k r = full (right_full z t (call.Store into at from) need r).0
      by_call (call.SetRoot root from) k r = full (right_full z t (call.SetRoot root from) need r).0
      by_call (call.Retain reg) k r = full (right_full z t (call.Retain reg) need r).0
      by_call (call.SetAssoc object key value) k r = full (right_full z t (call.SetAssoc object key value) need r).0
      by_call (call.SetWeak loc from) k r = full (right_full z t (call.SetWeak loc from) need r).0
      by_call _ k r = nothing (tells_none need _ k (λ id n. n))

  pub escape_intact : Intact (with_escaped z need)
  escape_intact = closed_intact z s need (λ q h. need_inside z t c q ((tells q).0 h)) (λ a b h e un. (tells b).1 (need_more z t c a b ((tells a).0 h) e un)) needed_fits

-- what a call rests on, once the blocks that it needs have escaped
abbrev pub Rests : State → ℕ → Call → Type 0
Rests z t (call.New to layout actions) = used_quanta z + cond (is_born_escaped z t layout actions) (quanta (len_of layout)) 0 ≤ z.options.heap_quanta
Rests z t (call.Store into at from) = (a b : BlockId) → z.registers t into ≡ Some a → IsTrue (is_escaped z a) → z.registers t from ≡ Some b → IsTrue (is_escaped z b)
Rests z t (call.SetRoot root from) = (b : BlockId) → z.registers t from ≡ Some b → IsTrue (is_escaped z b)
Rests z t (call.Retain reg) = (b : BlockId) → z.registers t reg ≡ Some b → IsTrue (is_escaped z b)
Rests z t (call.Take to id) = 0 < count_of z id
Rests z t (call.SetAssoc object key value) = ((b : BlockId) → z.registers t object ≡ Some b → IsTrue (is_escaped z b)) × ((b : BlockId) → z.registers t value ≡ Some b → IsTrue (is_escaped z b))
Rests z t (call.SetWeak loc from) = ((b : BlockId) → z.registers t from ≡ Some b → IsTrue (is_escaped z b)) × ((b : BlockId) → block_named z t loc ≡ Some b → IsTrue (is_escaped z b))
Rests z t _ = Unit {0}

module _ (z : State) (s : Intact z) (t : ℕ) (need : BlockId → Bool) where
  -- what a register holds has escaped, where it was needed
  value_escaped : (o : Option BlockId) → ((b : BlockId) → o ≡ Some b → Knows z t b) → ((q : BlockId) → EscOf z o q → need q ≡ true) → (b : BlockId) → o ≡ Some b → IsTrue (is_escaped (with_escaped z need) b)
  value_escaped o knows needed b h = by_knows (knows b h)
    where
      by_knows : Knows z t b → IsTrue (is_escaped (with_escaped z need) b)
      by_knows (inl out) = still_escaped z need b out
      by_knows (inr own) = now_escaped z need b (needed b (subst (λ o. EscOf z o b) (sym h) (own_inside z t b own, ([], refl)))) (there_inside (get z.blocks b) (own_inside z t b own))

  in_register : (r : ℕ) → ((q : BlockId) → EscOf z (z.registers t r) q → need q ≡ true) → (b : BlockId) → z.registers t r ≡ Some b → IsTrue (is_escaped (with_escaped z need) b)
  in_register r needed b h = value_escaped (z.registers t r) (s.names.registers t r) needed b h

  named_knows : (l : Loc) (b : BlockId) → block_named z t l ≡ Some b → Knows z t b
  named_knows (loc.Root w) b h = cc
  named_knows (loc.Word a at) b h = s.names.registers t a b h

  stored : (into at from : ℕ) → Tells need (Need z t (call.Store into at from)) → Rests (with_escaped z need) t (call.Store into at from)
  stored into at from tells a b ha out hb = by_knows (s.names.registers t into a ha)
    where
      by_need : IsTrue (is_own z t a) → (n : Bool) → need a ≡ n → IsTrue (is_escaped (with_escaped z need) b)
      by_need own true e =
          let held : HoldsEscaped z (Some a) = subst (HoldsEscaped z) ha ((tells a).0 e).0 in
          absurd (not_both (get z.blocks a) held (own_inside z t a own))
      by_need own false e = absurd (not_both (get (with_escaped z need).blocks a) out (ap is_inside (not_needed z need a e) ∙ own_inside z t a own))

      by_knows : Knows z t a → IsTrue (is_escaped (with_escaped z need) b)
      by_knows (inl was) = in_register from (λ q esc. (tells q).1 (subst (HoldsEscaped z) (sym ha) was, esc)) b hb
      by_knows (inr own) = by_need own (need a) refl

  positive : (n : ℕ) → (n == 0) ≡ false → 0 < n
  positive n h = grind (arith, nat_tests)

  born_fits : (b : Bool) (n : ℕ) → (b && is_overfull z n) ≡ false → used_quanta z + cond b n 0 ≤ z.options.heap_quanta
  born_fits true n h = below (used_quanta z + n) z.options.heap_quanta h
  born_fits false n h = omega (arith, s.used)

  pub call_rests : (c : Call) → Tells need (Need z t c) → misuse_of z t c need ≡ None → Rests (with_escaped z need) t c
  call_rests (call.New to layout actions) tells right =
      let none : need ≡ (λ _. false) = tells_none need _ tells (λ id n. n) in
      subst (λ y. Rests y t (call.New to layout actions)) (sym (ap (with_escaped z) none ∙ none_escaped z)) (born_fits (is_born_escaped z t layout actions) (quanta (len_of layout)) (right_full z t (call.New to layout actions) need right).0)
  call_rests (call.Store into at from) tells right = stored into at from tells
  call_rests (call.SetRoot root from) tells right = in_register from (λ q esc. (tells q).1 esc)
  call_rests (call.Retain reg) tells right = in_register reg (λ q esc. (tells q).1 esc)
  call_rests (call.Take to id) tells right = positive (count_of z id) (right_full z t (call.Take to id) need right).1
  call_rests (call.SetAssoc object key value) tells right = (in_register object (λ q esc. (tells q).1 (inl esc)), in_register value (λ q esc. (tells q).1 (inr esc)))
  call_rests (call.SetWeak loc from) tells right = (in_register from (λ q esc. (tells q).1 (inl esc)), value_escaped (block_named z t loc) (named_knows loc) (λ q esc. (tells q).1 (inr esc)))
  call_rests _ tells right = tt
