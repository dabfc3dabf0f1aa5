-- Calls that show the block in one register to others
use Rattle.std.proofs.Common.{◌≡◌, ◌⊎◌, inl, inr, ℕ, Bool, true, false, not, cond, [], Option, Some, None, IfSome, IsSome, sym, ap, subst, ◌∙◌, refl}
use Rattle.std.specs.Option.{option_map_or}
use Rattle.std.specs.FinMap.{get}
use Rattle.az_base.specs.declared.block_id.BlockId.{BlockId}
use Rattle.az_base.specs.declared.misuse.Misuse.{Misuse}
use Rattle.az_base.specs.declared.misuse.Misuse.TheVariants as misuse
use Rattle.zone_model.specs.declared.call.Call.{Call}
use Rattle.zone_model.specs.declared.entry.Reply.{Reply}
use Rattle.zone_model.specs.declared.entry.Reply.TheVariants as reply
use Rattle.zone_model.specs.Bare.{bare_reply}
use Rattle.zone_model.specs.Escape.{Need, EscOf, Tells, with_escaped}
use Rattle.zone_model.specs.History.{is_cycle_step}
use Rattle.zone_model.specs.Misuses.{misuse_of, is_overfull}
use Rattle.zone_model.specs.Part.{part_of, part_after, is_in}
use Rattle.zone_model.specs.Quanta.{quanta_needed}
use Rattle.zone_model.specs.State.{State, is_own}
use Rattle.zone_model.proofs.Blocks.{still_escaped}
use Rattle.zone_model.proofs.PartNeeds.{in_part}
use Rattle.zone_model.proofs.Steps.{none_escaped}
use Rattle.shared_heap.specs.Holding.{LeavesParts}
use Rattle.shared_heap.specs.Shared.{Shared}
use Rattle.shared_heap.specs.Steps as shared
use Rattle.shared_heap.proofs.Shut.{closed}
use Rattle.shared_heap.proofs.Stepping.{none_escape}
use Rattle.shared_heap.proofs.Sums.{used_stands, not_full}
use Rattle.local_set.specs.LocalSets.{LocalSet, part_in}
use Rattle.escape_plan.specs.Escapes.{Escapes, IsKnown, KeepsRest}
use Rattle.escape_plan.specs.Together.{IsHeapOf, Together}
use Rattle.escape_plan.proofs.Belonging.{part_is}
use Rattle.zone_escape.specs.Making.{CanMake, Makes}
use Rattle.zone_escape.proofs.Needs.{second_out}
use Rattle.zone_escape.proofs.Shown.{is_out, all_in_heap, did_fit, full_if, fits_if, known, held, running, misused, made}

-- from what has escaped nothing escapes
pub nothing_escapes : (h : Shared) (z : State) (v : Option BlockId) → IsHeapOf h z → is_out z v → (id : BlockId) → EscOf z v id → ⊥
nothing_escapes h z v is out = none_escape h z v is.stands (closed z is.sound) (all_in_heap h z v is.stands out)

-- a block that the thread knows, and that isn't its own, has escaped; and null is shared
pub known_out : (l : LocalSet) (h : Shared) (z : State) (v : Option BlockId) → option_map_or (is_in (part_in l)) v false ≡ false → l.waiting ≡ [] → Together l h z → IsKnown z l.thread v → is_out z v
known_out l h z None other out t known = tt
known_out l h z (Some id) other out t known = elim (known id refl) [
  | inl escaped ↦ escaped
  | inr own ↦
      let mine : is_in (part_in l) id ≡ is_own z l.thread id = ap (λ p. is_in p id) (part_is l z t.local out) ∙ in_part z l.thread id in
      let differ : false ≡ true = sym other ∙ mine ∙ own in cc (differ)
]

-- so the block in the register of a call is one of the heap's, where it isn't the thread's own
module _ (l : LocalSet) (h : Shared) (c : Call) (can : CanMake l h c) (reg : ℕ) (v : Option BlockId) (holds : v ≡ (part_in l).registers reg) (other : option_map_or (is_in (part_in l)) ((part_in l).registers reg) false ≡ false) where
  pub holder_out : (z : State) → Together l h z → is_out z v
  holder_out z t = known_out l h z v (ap (λ o. option_map_or (is_in (part_in l)) o false) holds ∙ other) can.out t (known l h c can z t reg v holds)

  pub holder_there : IfSome v (λ b. IsSome (get h.blocks b))
  holder_there = all_in_heap h can.together.0 v can.together.1.heap.stands (holder_out can.together.0 can.together.1)

  pub register_out : (z : State) → Together l h z → is_out z (z.registers l.thread reg)
  register_out z t = subst (is_out z) (held l h c can z t reg v holds) (holder_out z t)

-- so what has escaped is seen as it is
pub seen_already : (l : LocalSet) (h : Shared) (v : Option BlockId) → ((z : State) → Together l h z → IsKnown z l.thread v → is_out z v) → Escapes l l h h None v true
seen_already l h v out = λ z t known_none known. (
  (λ _. false),
  λ c. (λ no. cc, λ e. elim e [ inl x ↦ absurd x | inr x ↦ absurd (nothing_escapes h z v t.heap (out z t known) c x) ]),
  not_full h z t.heap.stands (rw (← used_stands h z t.heap.stands, ← t.heap.stands.options) t.heap.sound.numbers.used),
  subst (Together l h) (sym (none_escaped z)) t,
)

-- what has escaped stays so
pub out_still : (z : State) (need : BlockId → Bool) (v : Option BlockId) → is_out z v → is_out (with_escaped z need) v
out_still z need None out = tt
out_still z need (Some id) out = still_escaped z need id out

-- a test for what one block leads to
pub one_second : (z : State) (need : BlockId → Bool) (v w : Option BlockId) → v ≡ w → Tells need (λ c. EscOf z None c ⊎ EscOf z v c) → Tells need (EscOf z w)
one_second z need v w same tells q = (λ h. elim ((tells q).0 h) [ inl e ↦ absurd e | inr e ↦ subst (λ o. EscOf z o q) same e ], λ e. (tells q).1 (inr (subst (λ o. EscOf z o q) (sym same) e)))

-- what the heap's call is after the escape of the block in the register
pub record Shows (l m : LocalSet) (g k : Shared) (c : Call) (r : Reply) (u : ℕ) (y : State) : Type 0 where
  pub leaves : LeavesParts y l.thread c
  pub still : part_after (part_of y l.thread) c r ≡ part_of y l.thread
  pub stepped : shared.Stepped k y u c r

module _ (l : LocalSet) (h : Shared) (c : Call) (can : CanMake l h c) (m : LocalSet) (g : Shared) (v : Option BlockId) (from : ℕ) (holds : v ≡ (part_in l).registers from) (rest : KeepsRest l m) (fit : Bool) (escapes : Escapes l m h g None v fit) where
  none_known : (z : State) → IsKnown z l.thread None
  none_known z b is = cc

  same : m.thread ≡ l.thread
  same = ap (λ (s : LocalSet). s.thread) rest

  -- what escapes
  escaped_at : (z : State) → Together l h z → (need : BlockId → Bool) × Tells need (λ c. EscOf z None c ⊎ EscOf z v c) × (is_overfull z (quanta_needed z need) ≡ not fit) × Together m g (cond fit (with_escaped z need) z)
  escaped_at z t = escapes z t (none_known z) (known l h c can z t from v holds)

  in_register : (z : State) → Together l h z → v ≡ z.registers l.thread from
  in_register z t = held l h c can z t from v holds

  one_value : (z : State) (need : BlockId → Bool) → Together l h z → Tells need (λ c. EscOf z None c ⊎ EscOf z v c) → Tells need (EscOf z (z.registers l.thread from))
  one_value z need t tells = one_second z need v (z.registers l.thread from) (in_register z t) tells

  module _ (fits : fit ≡ true) where
    -- the blocks have escaped, and both belong to the state then
    pub did_escape : (z : State) → Together l h z → (need : BlockId → Bool) × Together m g (with_escaped z need)
    did_escape z t = let x = escaped_at z t in (x.0, did_fit m g z x.0 fit fits x.3)

    -- the block is one of the heap's
    pub is_there : IfSome v (λ b. IsSome (get g.blocks b))
    is_there =
        let z = can.together.0 in
        let t = can.together.1 in
        let x = escaped_at z t in
        let together = did_fit m g z x.0 fit fits x.3 in
        all_in_heap g (with_escaped z x.0) v together.heap.stands (second_out z l.thread x.0 None v (known l h c can z t from v holds) x.1)

    -- and so is still one that was
    pub still_there : (a : Option BlockId) → ((z : State) → Together l h z → is_out z a) → IfSome a (λ b. IsSome (get g.blocks b))
    still_there a out =
        let z = can.together.0 in
        let x = did_escape z can.together.1 in
        all_in_heap g (with_escaped z x.0) a x.1.heap.stands (out_still z x.0 a (out z can.together.1))

  module _ (tells : (z : State) → Together l h z → (need : BlockId → Bool) → Tells need (EscOf z (z.registers l.thread from)) → Tells need (Need z l.thread c))
      (full : (z : State) → Together l h z → (need : BlockId → Bool) → misuse_of z l.thread c need ≡ cond (is_overfull z (quanta_needed z need)) (Some misuse.ZoneFull) None) where
    -- the blocks would be too many
    pub too_many : fit ≡ false → Makes l m h g c (reply.Misuse misuse.ZoneFull)
    too_many unfit = misused l h c can m g misuse.ZoneFull same (ap (λ (s : LocalSet). s.waiting) rest) (λ z t.
        let x = escaped_at z t in (
          x.0,
          tells z t x.0 (one_value z x.0 t x.1),
          full z t x.0 ∙ full_if _ _ x.2 unfit,
          subst (λ b. Together m g (cond b (with_escaped z x.0) z)) unfit x.3,
        ))

    -- they escape, and then the heap makes the call
    pub shown : fit ≡ true → (k : Shared) (r : Reply) (u : ℕ) → u ≡ m.thread → k.holds ≡ g.holds → k.room ≡ g.room → k.options ≡ g.options → is_cycle_step c ≡ false → bare_reply r ≡ r → ((w : Misuse) → r ≡ reply.Misuse w → ⊥)
        → ((y : State) (id : BlockId) → Need y l.thread c id → EscOf y (y.registers l.thread from) id)
        → ((z : State) → Together l h z → (need : BlockId → Bool) → Together m g (with_escaped z need) → is_out (with_escaped z need) v → shared.Runs g (with_escaped z need) u → Shows l m g k c r u (with_escaped z need)) → Makes l m h k c r
    shown fits k r u thread table room options quiet bare fine needs after = made l h c can m g k r same (ap (λ (s : LocalSet). s.waiting) rest) table room options quiet bare (λ z t.
        let x = escaped_at z t in
        let y = with_escaped z x.0 in
        let together = did_fit m g z x.0 fit fits x.3 in
        let out = second_out z l.thread x.0 None v (known l h c can z t from v holds) x.1 in
        let a = after z t x.0 together out record { stands = together.heap.stands; running = ap z.ended (thread ∙ same) ∙ running l h c can z t } in
        record {
          need = x.0;
          tells = tells z t x.0 (one_value z x.0 t x.1);
          right = full z t x.0 ∙ fits_if _ _ x.2 fits;
          together = together;
          none = λ id n. nothing_escapes g y v together.heap out id (subst (λ o. EscOf y o id) (sym (in_register z t)) (needs y id n));
          leaves = a.leaves;
          still = a.still;
          fine = fine;
          stepped = subst (λ w. shared.Stepped k y w c r) (thread ∙ same) a.stepped;
        })
