-- A state and a call have one reply, but for the room of its lists
use Rattle.std.proofs.Common.{◌≡◌, ℕ, ◌+◌, ◌-◌, Bool, Option, Some, None, List, MatchOption, refl, sym, ap, ap₂, subst, ◌∙◌, arith, ◌⊎◌, inl, inr, find, IsTrue}
use Rattle.az_base.specs.declared.action.Mode.{Mode}
use Rattle.az_base.specs.declared.block_id.BlockId.{BlockId}
use Rattle.az_base.specs.declared.misuse.Misuse.{Misuse}
use Rattle.az_base.specs.declared.word.Word.TheVariants as word
use Rattle.az_base.specs.Ids.{id_of, among}
use Rattle.zone_model.specs.declared.call.Call.{Call}
use Rattle.zone_model.specs.declared.call.Call.TheVariants as call
use Rattle.zone_model.specs.declared.entry.Reply.{Reply}
use Rattle.zone_model.specs.declared.entry.Reply.TheVariants as reply
use Rattle.zone_model.specs.Room.{WithRoom}
use Rattle.zone_model.specs.Replies.{replied}
use Rattle.zone_model.specs.Bare.{bare_reply}
use Rattle.zone_model.specs.State.{State, Cycle, word_at, referent}
use Rattle.zone_model.specs.Escape.{Need, with_escaped}
use Rattle.zone_model.specs.Misuses.{misuse_of}
use Rattle.zone_model.specs.Stats.{stats_of}
use Rattle.zone_model.specs.Collection.{IsBusy, HasCondemned, Lists, IsKept, awaits}
use Rattle.zone_model.specs.Effect.{Effect, assoc_of, value_to_show, weak_value, weak_loc, count_in}
use Rattle.zone_model.specs.Step.{Step, Happens, FindsBusy}
use Rattle.zone_model.proofs.Determined.{one_test, step_determined}
use Rattle.zone_model.proofs.Ascending.{lists_once}

-- the reply that the state tells, of a call that replies no list
abbrev told : State → ℕ → Call → Option Reply
told z t (call.New to layout actions) = Some (reply.Block (Some (id_of t (z.serials t))))
told z t (call.Load to from at) = Some (reply.Block (referent (word_at z (z.registers t from) at)))
told z t (call.Store into at from) = Some reply.Done
told z t (call.Put into at number) = Some reply.Done
told z t (call.Copy to from) = Some reply.Done
told z t (call.DropReg reg) = Some reply.Done
told z t (call.SetRoot root from) = Some reply.Done
told z t (call.GetRoot to root) = Some (reply.Block (z.roots root.0))
told z t (call.Retain reg) = Some (reply.Number (count_in z t reg + 1))
told z t (call.Release reg) = Some (reply.Number (count_in z t reg - 1))
told z t (call.Count reg) = Some (reply.Number (count_in z t reg))
told z t (call.Take to id) = Some (reply.Block (Some id))
told z t (call.SetAssoc object key value) = Some (reply.Block (assoc_of z (z.registers t object) key.0))
told z t (call.GetAssoc to object key) = Some (reply.Block (assoc_of z (z.registers t object) key.0))
told z t (call.SetWeak loc from) = Some (reply.Block (value_to_show z (z.registers t from)))
told z t (call.ReadWeak to loc) = Some (reply.Block (weak_value z (weak_loc z t loc)))
told z t call.Stats = Some (reply.Stats (stats_of z))
told z t (call.Begin mode) = Some reply.Begun
told z t _ = None

told_reply : (z : State) (t : ℕ) (c : Call) (r : Reply) (a : State) → Effect z t c r a → MatchOption (told z t c) (Unit {0}) (λ s. r ≡ s)
told_reply z t (call.New to layout actions) (reply.Block id) a h = ap reply.Block h.0
told_reply z t (call.Load to from at) (reply.Block b) a h = ap reply.Block h.0
told_reply z t (call.Store into at from) reply.Done a h = refl
told_reply z t (call.Put into at number) reply.Done a h = refl
told_reply z t (call.Copy to from) reply.Done a h = refl
told_reply z t (call.DropReg reg) reply.Done a h = refl
told_reply z t (call.SetRoot root from) reply.Done a h = refl
told_reply z t (call.GetRoot to root) (reply.Block b) a h = ap reply.Block h.0
told_reply z t (call.Retain reg) (reply.Number n) a h = ap reply.Number h.0
told_reply z t (call.Release reg) (reply.Number n) a h = ap reply.Number (let e = h.0 in omega (arith, e))
told_reply z t (call.Count reg) (reply.Number n) a h = ap reply.Number h.0
told_reply z t (call.Take to id) (reply.Block b) a h = ap reply.Block h.0
told_reply z t (call.SetAssoc object key value) (reply.Block b) a h = ap reply.Block h.0
told_reply z t (call.GetAssoc to object key) (reply.Block b) a h = ap reply.Block h.0
told_reply z t (call.SetWeak loc from) (reply.Block b) a h = ap reply.Block h.0
told_reply z t (call.ReadWeak to loc) (reply.Block b) a h = ap reply.Block h.0
told_reply z t call.Stats (reply.Stats s) a h = ap reply.Stats h.0
told_reply z t (call.Begin mode) reply.Begun a h = refl
told_reply z t (call.Get from at) (reply.Number n) a h = tt
told_reply z t call.CollectLocal (reply.Reclaimed gone) a h = tt
told_reply z t call.Condemn (reply.Condemned r) a h = tt
told_reply z t call.Finalise (reply.Finalised b) a h = tt
told_reply z t call.Reclaim (reply.Settled gone kept) a h = tt
told_reply z t call.Leave (reply.Reclaimed gone) a h = tt
told_reply z t _ _ a h = absurd h

some_same : {X : Type 0} (x y : X) → Some x ≡ Some y → x ≡ y
some_same x y h = cc (h)

pub one_value : {X : Type 0} (o : Option X) (x y : X) → o ≡ Some x → o ≡ Some y → x ≡ y
one_value o x y h k = some_same x y (sym h ∙ k)

same_number : (n m : ℕ) → Some (word.Number n) ≡ Some (word.Number m) → n ≡ m
same_number n m h = cc (h)

-- the open cycle's condemned set is one
pub one_condemned : (z : State) (t : ℕ) (r q : List BlockId) → HasCondemned z t r → HasCondemned z t q → r ≡ q
one_condemned z t r q h k = one_value h.0.condemned r q h.2 (ap (λ (c : Cycle). c.condemned) (one_value z.cycle h.0 k.0 h.1.0 k.1.0) ∙ k.2)

abbrev bare : List BlockId → WithRoom
bare ids = record { list = ids; spare = 0 }

get_reply : (z : State) (t from at : ℕ) (r s : Reply) (a b : State) → Effect z t (call.Get from at) r a → Effect z t (call.Get from at) s b → bare_reply r ≡ bare_reply s
get_reply z t from at (reply.Number n) (reply.Number m) a b h k = ap reply.Number (same_number n m (sym h.0 ∙ k.0))
get_reply z t from at (reply.Number n) _ a b h k = absurd k
get_reply z t from at _ _ a b h k = absurd h

local_reply : (z : State) (t : ℕ) (r s : Reply) (a b : State) → Effect z t call.CollectLocal r a → Effect z t call.CollectLocal s b → bare_reply r ≡ bare_reply s
local_reply z t (reply.Reclaimed g) (reply.Reclaimed d) a b h k = ap (λ ids. reply.Reclaimed (bare ids)) (lists_once _ g.list d.list h.0 k.0)
local_reply z t (reply.Reclaimed g) _ a b h k = absurd k
local_reply z t _ _ a b h k = absurd h

leave_reply : (z : State) (t : ℕ) (r s : Reply) (a b : State) → Effect z t call.Leave r a → Effect z t call.Leave s b → bare_reply r ≡ bare_reply s
leave_reply z t (reply.Reclaimed g) (reply.Reclaimed d) a b h k = ap (λ ids. reply.Reclaimed (bare ids)) (lists_once _ g.list d.list h.gone_ones k.gone_ones)
leave_reply z t (reply.Reclaimed g) _ a b h k = absurd k
leave_reply z t _ _ a b h k = absurd h

finalise_reply : (z : State) (t : ℕ) (r s : Reply) (a b : State) → Effect z t call.Finalise r a → Effect z t call.Finalise s b → bare_reply r ≡ bare_reply s
finalise_reply z t (reply.Finalised x) (reply.Finalised y) a b h k =
    ap reply.Finalised (one_value (find (awaits z) h.0) x y h.2 (ap (find (awaits z)) (one_condemned z t h.0 k.0 h.1 k.1) ∙ k.2))
finalise_reply z t (reply.Finalised x) _ a b h k = absurd k
finalise_reply z t _ _ a b h k = absurd h

reclaim_reply : (z : State) (t : ℕ) (r s : Reply) (a b : State) → Effect z t call.Reclaim r a → Effect z t call.Reclaim s b → bare_reply r ≡ bare_reply s
reclaim_reply z t (reply.Settled g d) (reply.Settled i j) a b h k =
    let one = one_condemned z t h.r k.r h.condemned k.condemned in
    ap₂ (λ gone kept. reply.Settled (bare gone) (bare kept))
    (lists_once _ g.list i.list h.gone_ones (subst (λ r. Lists i.list (λ b. IsTrue (among r b) × ¬ IsKept z r b)) (sym one) k.gone_ones))
    (lists_once _ d.list j.list h.kept_ones (subst (λ r. Lists j.list (λ b. IsTrue (among r b) × IsKept z r b)) (sym one) k.kept_ones))
reclaim_reply z t (reply.Settled g d) _ a b h k = absurd k
reclaim_reply z t _ _ a b h k = absurd h

effect_reply : (z : State) (t : ℕ) (c : Call) (r s : Reply) (a b : State) → (c ≡ call.Condemn → ⊥) → Effect z t c r a → Effect z t c s b → bare_reply r ≡ bare_reply s
effect_reply z t (call.Get from at) r s a b other h k = get_reply z t from at r s a b h k
effect_reply z t call.CollectLocal r s a b other h k = local_reply z t r s a b h k
effect_reply z t call.Leave r s a b other h k = leave_reply z t r s a b h k
effect_reply z t call.Finalise r s a b other h k = finalise_reply z t r s a b h k
effect_reply z t call.Reclaim r s a b other h k = reclaim_reply z t r s a b h k
effect_reply z t call.Condemn r s a b other h k = absurd (other refl)
effect_reply z t c r s a b other h k = ap bare_reply (told_reply z t c r a h ∙ sym (told_reply z t c s b k))

-- what happened was busy, or the call's effect
pub happened : (z : State) (t : ℕ) (c : Call) (r : Reply) (a : State) → Happens z t c r a → ((r ≡ reply.Busy) × FindsBusy z t c) ⊎ ((mid : State) × Effect z t c r mid)
happened z t c reply.Busy a h = inl (refl, h.0)
happened z t c r a h = inr (h.0, h.1)

some_none : {X : Type 0} (x : X) → None ≡ Some x → ⊥
some_none x h = cc (h)

busy_begins : (z : State) (t : ℕ) (mode : Mode) (s : Reply) (a : State) → IsBusy z t → Effect z t (call.Begin mode) s a → ⊥
busy_begins z t mode reply.Begun a busy h = some_none busy.0 (sym h.0 ∙ busy.1)
busy_begins z t mode _ a busy h = h

-- a call that is busy has no effect
busy_alone : (z : State) (t : ℕ) (c : Call) (s : Reply) (a : State) → FindsBusy z t c → Effect z t c s a → ⊥
busy_alone z t (call.Begin mode) s a busy h = busy_begins z t mode s a busy h
busy_alone z t _ s a busy h = absurd busy

happens_reply : (z : State) (t : ℕ) (c : Call) (r s : Reply) (a b : State) → (c ≡ call.Condemn → ⊥) → Happens z t c r a → Happens z t c s b → bare_reply r ≡ bare_reply s
happens_reply z t c r s a b other h k = elim (happened z t c r a h) [
  | inl x ↦ elim (happened z t c s b k) [
    | inl y ↦ ap bare_reply (x.0 ∙ sym y.0)
    | inr y ↦ absurd (busy_alone z t c s y.0 x.1 y.1)
  ]
  | inr x ↦ elim (happened z t c s b k) [
    | inl y ↦ absurd (busy_alone z t c r x.0 y.1 x.1)
    | inr y ↦ effect_reply z t c r s x.0 y.0 other x.1 y.1
  ]
]

effect_bare : (z : State) (t : ℕ) (c : Call) (r : Reply) (a : State) → Effect z t c r a → Effect z t c (bare_reply r) a
effect_bare z t call.CollectLocal (reply.Reclaimed g) a h = h
effect_bare z t call.Leave (reply.Reclaimed g) a h = h
effect_bare z t call.Condemn (reply.Condemned r) a h = h
effect_bare z t call.Reclaim (reply.Settled g d) a h = h
effect_bare z t _ (reply.Reclaimed g) a h = absurd h
effect_bare z t _ (reply.Condemned r) a h = absurd h
effect_bare z t _ (reply.Settled g d) a h = absurd h
effect_bare z t c r a h = h

happens_bare : (z : State) (t : ℕ) (c : Call) (r : Reply) (a : State) → Happens z t c r a → Happens z t c (bare_reply r) a
happens_bare z t c (reply.Reclaimed g) a h = (h.0, effect_bare z t c (reply.Reclaimed g) h.0 h.1, h.2)
happens_bare z t c (reply.Condemned g) a h = (h.0, effect_bare z t c (reply.Condemned g) h.0 h.1, h.2)
happens_bare z t c (reply.Settled g d) a h = (h.0, effect_bare z t c (reply.Settled g d) h.0 h.1, h.2)
happens_bare z t c r a h = h

abbrev Does : State → ℕ → Call → Reply → State → (BlockId → Bool) → Type 0
Does z t c r a need = MatchOption (misuse_of z t c need) (Happens (with_escaped z need) t c r a) (λ m. (r ≡ reply.Misuse m) × (a ≡ z))

step_bare : (z : State) (t : ℕ) (c : Call) (r : Reply) (a : State) → Step z (replied t c r) a → Step z (replied t c (bare_reply r)) a
step_bare z t c r a k = record { running = k.running; need = k.need; needed = k.needed; does = by (misuse_of z t c k.need) k.does }
  where
    by : (m : Option Misuse) → MatchOption m (Happens (with_escaped z k.need) t c r a) (λ m. (r ≡ reply.Misuse m) × (a ≡ z)) → MatchOption m (Happens (with_escaped z k.need) t c (bare_reply r) a) (λ m. (bare_reply r ≡ reply.Misuse m) × (a ≡ z))
    by None h = happens_bare (with_escaped z k.need) t c r a h
    by (Some m) h = (ap bare_reply h.0, h.1)

-- steps with the same reply, but for room, lead to the same state
pub step_after : (z : State) (t : ℕ) (c : Call) (r s : Reply) (a b : State) → Step z (replied t c r) a → Step z (replied t c s) b → bare_reply r ≡ bare_reply s → a ≡ b
step_after z t c r s a b h k e = step_determined z (replied t c (bare_reply s)) a b (subst (λ q. Step z (replied t c q) a) e (step_bare z t c r a h)) (step_bare z t c s b k)

-- a state and a call, but for Condemn, have one reply and one state after
pub step_once : (z : State) (t : ℕ) (c : Call) (r s : Reply) (a b : State) → (c ≡ call.Condemn → ⊥) → Step z (replied t c r) a → Step z (replied t c s) b → (bare_reply r ≡ bare_reply s) × (a ≡ b)
step_once z t c r s a b other h k =
    let one = by (misuse_of z t c h.need) h.does (subst (Does z t c s b) (sym (one_test (Need z t c) h.need k.need h.needed k.needed)) k.does) in
    (one, step_after z t c r s a b h k one)
  where
    by : (m : Option Misuse) → MatchOption m (Happens (with_escaped z h.need) t c r a) (λ m. (r ≡ reply.Misuse m) × (a ≡ z)) → MatchOption m (Happens (with_escaped z h.need) t c s b) (λ m. (s ≡ reply.Misuse m) × (b ≡ z)) → bare_reply r ≡ bare_reply s
    by None x y = happens_reply (with_escaped z h.need) t c r s a b other x y
    by (Some m) x y = ap bare_reply (x.0 ∙ sym y.0)
