-- What escapes at a call is told by the part of its thread
use Rattle.std.proofs.Common.{◌≡◌, ℕ, ◌==◌, Bool, true, false, cond, not, ◌&&◌, List, [], ◌∷◌, Option, Some, None, IsTrue, refl, sym, ap, subst, ◌∙◌, ◌⊎◌, inl, inr, is_some}
use Rattle.std.specs.FinMap.{get}
use Rattle.az_base.specs.declared.block_id.BlockId.{BlockId}
use Rattle.zone_model.specs.declared.call.Call.{Call}
use Rattle.zone_model.specs.declared.call.Call.TheVariants as call
use Rattle.zone_model.specs.declared.call.Loc.{Loc}
use Rattle.zone_model.specs.declared.call.Loc.TheVariants as loc
use Rattle.zone_model.specs.State.{State, Block, is_unescaped, is_own}
use Rattle.zone_model.specs.Reach.{Edge, WordEdge, Path}
use Rattle.zone_model.specs.Escape.{EscOf, HoldsEscaped, Need, Tells, block_named}
use Rattle.zone_model.specs.Part.{part_of, is_in, is_within, EscWithin, NeedWithin, named_within}
use Rattle.zone_model.specs.Sound.{Knows, MayRefer}
use Rattle.zone_model.proofs.Intact.{Intact}
use Rattle.zone_model.proofs.Blocks.{is_inside, not_both, there_inside, own_inside}
use Rattle.zone_model.proofs.IntactWords.{edge_known}
use Rattle.zone_model.proofs.PartChanges.{shown_in, part_get}

-- a part has exactly its thread's unescaped blocks
pub in_part : (z : State) (t : ℕ) (q : BlockId) → is_in (part_of z t) q ≡ is_own z t q
in_part z t q = ap is_some (part_get z t q) ∙ go (q.thread == t) (get z.blocks q)
  where
    some_inside : (o : Option Block) (b : Bool) → is_inside o ≡ b → is_some (cond b o None) ≡ b
    some_inside o true e = there_inside o e
    some_inside o false e = refl

    go : (m : Bool) (o : Option Block) → is_some (shown_in m o) ≡ (m && is_inside o)
    go false o = refl
    go true o = some_inside o (is_inside o) refl

-- and has them as the state has
pub part_has : (z : State) (t : ℕ) (q : BlockId) → IsTrue (is_own z t q) → get (part_of z t).blocks q ≡ get z.blocks q
part_has z t q own = part_get z t q ∙ ap (λ b. cond b (get z.blocks q) None) own

pub part_edge : (z : State) (t : ℕ) (a b : BlockId) → WordEdge (part_of z t).blocks a b → WordEdge z.blocks a b
part_edge z t a b e = (e.0, e.1, by_own (is_own z t a) (sym (part_get z t a) ∙ e.2), e.3)
  where
    by_own : (m : Bool) → cond m (get z.blocks a) None ≡ Some e.0 → get z.blocks a ≡ Some e.0
    by_own true h = h
    by_own false h = cc (h)

pub part_path : (z : State) (t : ℕ) (a : BlockId) (steps : List BlockId) (b : BlockId) → Path (WordEdge (part_of z t).blocks) a steps b → Path (Edge z) a steps b
part_path z t a [] b p = p
part_path z t a (c ∷ steps) b p = (inl (part_edge z t a c p.0), part_path z t c steps b p.1)

module _ (z : State) (s : Intact z) (t : ℕ) where
  -- a path from a block that the thread knows to an unescaped one stays in its part
  pub path_within : (a : BlockId) (steps : List BlockId) (q : BlockId) → Path (Edge z) a steps q → Knows z t a → IsTrue (is_unescaped z q)
      → IsTrue (is_own z t a) × IsTrue (is_own z t q) × Path (WordEdge (part_of z t).blocks) a steps q
  path_within a [] q p (inl out) inside = absurd (not_both (get z.blocks a) out (subst (λ x. IsTrue (is_unescaped z x)) (sym p) inside))
  path_within a [] q p (inr own) inside = (own, subst (λ x. IsTrue (is_own z t x)) p own, p)
  path_within a (c ∷ steps) q (inl e, p) known inside =
      let rest = path_within c steps q p (edge_known z t a c known (s.names.words a c e)) inside in
      let own : IsTrue (is_own z t a) = from_own known (s.names.words a c e) rest.0 in
      (own, rest.1, ((e.0, e.1, part_has z t a own ∙ e.2, e.3), rest.2))
    where
      from_own : Knows z t a → MayRefer z a c → IsTrue (is_own z t c) → IsTrue (is_own z t a)
      from_own (inr own) may mine = own
      from_own (inl out) (inl there) mine = absurd (not_both (get z.blocks c) there (own_inside z t c mine))
      from_own (inl out) (inr both) mine = absurd (not_both (get z.blocks a) out both.0)
  path_within a (c ∷ steps) q (inr e, p) known inside =
      let rest = path_within c steps q p (inl (s.names.values a e.0 c e.1)) inside in
      absurd (not_both (get z.blocks c) (s.names.values a e.0 c e.1) (own_inside z t c rest.0))

  esc_within : (o : Option BlockId) (q : BlockId) → ((b : BlockId) → o ≡ Some b → Knows z t b) → EscOf z o q → EscWithin (part_of z t) o q
  esc_within None q known e = e
  esc_within (Some b) q known e = let within = path_within b e.1.0 q e.1.1 (known b refl) e.0 in (in_part z t q ∙ within.1, (e.1.0, within.2))

  within_esc : (o : Option BlockId) (q : BlockId) → EscWithin (part_of z t) o q → EscOf z o q
  within_esc None q e = e
  within_esc (Some b) q e = (own_inside z t q (sym (in_part z t q) ∙ e.0), (e.1.0, part_path z t b e.1.0 q e.1.1))

  -- a register holds an escaped block, or what is null or in the part
  pub not_within : (o : Option BlockId) → HoldsEscaped z o → IsTrue (not (is_within (part_of z t) o))
  not_within None h = absurd h
  not_within (Some a) h = by_own (is_own z t a) refl
    where
      by_own : (b : Bool) → is_own z t a ≡ b → not (is_in (part_of z t) a) ≡ true
      by_own true e = absurd (not_both (get z.blocks a) h (own_inside z t a e))
      by_own false e = ap not (in_part z t a ∙ e)

  holds_escaped : (o : Option BlockId) → ((b : BlockId) → o ≡ Some b → Knows z t b) → IsTrue (not (is_within (part_of z t) o)) → HoldsEscaped z o
  holds_escaped None known h = cc (h)
  holds_escaped (Some a) known h = by_knows (known a refl)
    where
      by_knows : Knows z t a → HoldsEscaped z (Some a)
      by_knows (inl out) = out
      by_knows (inr own) = let no : false ≡ true = sym (ap not (in_part z t a ∙ own)) ∙ h in cc (no)

  named_known : (l : Loc) (b : BlockId) → block_named z t l ≡ Some b → Knows z t b
  named_known (loc.Root w) b h = cc (h)
  named_known (loc.Word a at) b h = s.names.registers t a b h

  same_named : (l : Loc) → named_within (part_of z t) l ≡ block_named z t l
  same_named (loc.Root w) = refl
  same_named (loc.Word a at) = refl

  either : (o p : Option BlockId) (q : BlockId) → ((b : BlockId) → o ≡ Some b → Knows z t b) → ((b : BlockId) → p ≡ Some b → Knows z t b) → EscOf z o q ⊎ EscOf z p q → EscWithin (part_of z t) o q ⊎ EscWithin (part_of z t) p q
  either o p q ko kp (inl e) = inl (esc_within o q ko e)
  either o p q ko kp (inr e) = inr (esc_within p q kp e)

  back : (o p : Option BlockId) (q : BlockId) → EscWithin (part_of z t) o q ⊎ EscWithin (part_of z t) p q → EscOf z o q ⊎ EscOf z p q
  back o p q (inl e) = inl (within_esc o q e)
  back o p q (inr e) = inr (within_esc p q e)

  need_within : (c : Call) (q : BlockId) → Need z t c q → NeedWithin (part_of z t) c q
  need_within (call.Store into at from) q n = (not_within (z.registers t into) n.0, esc_within (z.registers t from) q (s.names.registers t from) n.1)
  need_within (call.SetRoot root from) q n = esc_within (z.registers t from) q (s.names.registers t from) n
  need_within (call.Retain reg) q n = esc_within (z.registers t reg) q (s.names.registers t reg) n
  need_within (call.SetAssoc object key value) q n = either (z.registers t object) (z.registers t value) q (s.names.registers t object) (s.names.registers t value) n
  need_within (call.SetWeak (loc.Root w) from) q n = either (z.registers t from) None q (s.names.registers t from) (λ b h. cc (h)) n
  need_within (call.SetWeak (loc.Word a at) from) q n = either (z.registers t from) (z.registers t a) q (s.names.registers t from) (s.names.registers t a) n
  need_within _ q n = absurd n

  within_need : (c : Call) (q : BlockId) → NeedWithin (part_of z t) c q → Need z t c q
  within_need (call.Store into at from) q n = (holds_escaped (z.registers t into) (s.names.registers t into) n.0, within_esc (z.registers t from) q n.1)
  within_need (call.SetRoot root from) q n = within_esc (z.registers t from) q n
  within_need (call.Retain reg) q n = within_esc (z.registers t reg) q n
  within_need (call.SetAssoc object key value) q n = back (z.registers t object) (z.registers t value) q n
  within_need (call.SetWeak (loc.Root w) from) q n = back (z.registers t from) None q n
  within_need (call.SetWeak (loc.Word a at) from) q n = back (z.registers t from) (z.registers t a) q n
  within_need _ q n = absurd n

  pub tells_within : (c : Call) (need : BlockId → Bool) → Tells need (Need z t c) → Tells need (NeedWithin (part_of z t) c)
  tells_within c need tells q = (λ h. need_within c q ((tells q).0 h), λ n. (tells q).1 (within_need c q n))

  esc_own : (o : Option BlockId) (q : BlockId) → ((b : BlockId) → o ≡ Some b → Knows z t b) → EscOf z o q → IsTrue (is_own z t q)
  esc_own None q known e = absurd e
  esc_own (Some b) q known e = (path_within b e.1.0 q e.1.1 (known b refl) e.0).1

  either_own : (o p : Option BlockId) (q : BlockId) → ((b : BlockId) → o ≡ Some b → Knows z t b) → ((b : BlockId) → p ≡ Some b → Knows z t b) → EscOf z o q ⊎ EscOf z p q → IsTrue (is_own z t q)
  either_own o p q ko kp (inl e) = esc_own o q ko e
  either_own o p q ko kp (inr e) = esc_own p q kp e

  -- only the thread's own blocks escape
  pub need_own : (c : Call) (q : BlockId) → Need z t c q → IsTrue (is_own z t q)
  need_own (call.Store into at from) q n = esc_own (z.registers t from) q (s.names.registers t from) n.1
  need_own (call.SetRoot root from) q n = esc_own (z.registers t from) q (s.names.registers t from) n
  need_own (call.Retain reg) q n = esc_own (z.registers t reg) q (s.names.registers t reg) n
  need_own (call.SetAssoc object key value) q n = either_own (z.registers t object) (z.registers t value) q (s.names.registers t object) (s.names.registers t value) n
  need_own (call.SetWeak loc from) q n = either_own (z.registers t from) (block_named z t loc) q (s.names.registers t from) (named_known loc) n
  need_own _ q n = absurd n
