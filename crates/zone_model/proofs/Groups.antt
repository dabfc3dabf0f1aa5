-- The entries of one line are determined by the state before them, but for the room of their lists
use Rattle.std.proofs.Common.{◌≡◌, ℕ, zero, suc, Some, None, List, [], ◌∷◌, ◌++◌, map, replicate, find, refl, sym, ap, ap₂, subst, ◌∙◌, inl, inr, IsTrue}
use Rattle.az_base.specs.declared.action.Mode.{Mode}
use Rattle.az_base.specs.declared.block_id.BlockId.{BlockId}
use Rattle.zone_model.specs.declared.act.Act.{Act}
use Rattle.zone_model.specs.declared.act.Act.TheVariants as act
use Rattle.zone_model.specs.declared.call.Call.{Call}
use Rattle.zone_model.specs.declared.call.Call.TheVariants as call
use Rattle.zone_model.specs.declared.entry.Reply.{Reply}
use Rattle.zone_model.specs.declared.entry.Reply.TheVariants as reply
use Rattle.zone_model.specs.declared.entry.Entry.{Entry}
use Rattle.zone_model.specs.Bare.{bare_reply, bare_entry}
use Rattle.zone_model.specs.State.{State, Cycle, moment, is_escaped, with_cycle}
use Rattle.zone_model.specs.Collection.{HasCondemned, MayCondemn, awaits, new_cycle}
use Rattle.zone_model.specs.Effect.{Effect}
use Rattle.zone_model.specs.Step.{Step, Happens, seen_now}
use Rattle.zone_model.specs.History.{Run, IsGroup, IsRefused, IsCollection, calls_of}
use Rattle.zone_model.proofs.Steps.{plain_happens}
use Rattle.zone_model.specs.Replies.{replied, AllOf, NoCondemn, SameButRoom}
use Rattle.zone_model.proofs.AtOnce.{condemned_once}
use Rattle.zone_model.proofs.Replied.{step_once, step_after, one_value, one_condemned}

-- the open cycle has just begun: it has seen the state alone
abbrev pub JustBegun : State → Type 0
JustBegun z = (c : Cycle) → z.cycle ≡ Some c → (c.moments ≡ moment z ∷ []) × ((b : BlockId) → IsTrue (c.start b) → IsTrue (is_escaped z b))

some_same : {X : Type 0} (x y : X) → Some x ≡ Some y → x ≡ y
some_same x y h = cc (h)

fresh_cycle : (z : State) (t : ℕ) (m : Mode) → JustBegun (seen_now (with_cycle z (Some (new_cycle z t m))))
fresh_cycle z t m c h =
    let is = some_same _ c h in
    (sym (ap (λ (d : Cycle). d.moments) is), λ b s. subst (λ (d : Cycle). IsTrue (d.start b)) (sym is) s)

begun : (z : State) (t : ℕ) (m : Mode) (a : State) → Happens z t (call.Begin m) reply.Begun a → JustBegun a
begun z t m a h = subst JustBegun (sym (h.2 ∙ ap seen_now h.1.1)) (fresh_cycle z t m)

-- a cycle that has just begun is fresh
pub begun_fresh : (z : State) (t : ℕ) (m : Mode) (a : State) → Step z (replied t (call.Begin m) reply.Begun) a → JustBegun a
begun_fresh z t m a k = begun z t m a (plain_happens z (replied t (call.Begin m) reply.Begun) a k (λ id n. n) refl)

condemn_reply : (z : State) (t : ℕ) (r s : Reply) (a b : State) → JustBegun z → Effect z t call.Condemn r a → Effect z t call.Condemn s b → bare_reply r ≡ bare_reply s
condemn_reply z t (reply.Condemned g) (reply.Condemned d) a b fresh h k =
    let f = fresh h.0 h.1.0 in
    ap (λ ids. reply.Condemned (record { list = ids; spare = 0 }))
    (condemned_once z h.0 g.list d.list h.3 (subst (λ (c : Cycle). MayCondemn z c d.list) (sym (one_value z.cycle h.0 k.0 h.1.0 k.1.0)) k.3) f.1 f.0)
condemn_reply z t (reply.Condemned g) _ a b fresh h k = absurd k
condemn_reply z t _ _ a b fresh h k = absurd h

-- what a plain step of a cycle is
cycle_effect : (z : State) (t : ℕ) (c : Call) (r : Reply) (a : State) → ((m : Mode) → c ≡ call.Begin m → ⊥) → Happens z t c r a → (mid : State) × Effect z t c r mid
cycle_effect z t (call.Begin m) r a never h = absurd (never m refl)
cycle_effect z t call.Condemn reply.Busy a never h = absurd h.0
cycle_effect z t call.Finalise reply.Busy a never h = absurd h.0
cycle_effect z t call.Reclaim reply.Busy a never h = absurd h.0
cycle_effect z t _ reply.Busy a never h = absurd h.0
cycle_effect z t c r a never h = (h.0, h.1)

condemn_begins : (m : Mode) → call.Condemn ≡ call.Begin m → ⊥
condemn_begins m h = cc (h)

finalise_begins : (m : Mode) → call.Finalise ≡ call.Begin m → ⊥
finalise_begins m h = cc (h)

reclaim_begins : (m : Mode) → call.Reclaim ≡ call.Begin m → ⊥
reclaim_begins m h = cc (h)

-- a Condemn of a fresh cycle has one reply and one state after
condemn_once : (z : State) (t : ℕ) (r s : Reply) (a b : State) → JustBegun z → Step z (replied t call.Condemn r) a → Step z (replied t call.Condemn s) b → (bare_reply r ≡ bare_reply s) × (a ≡ b)
condemn_once z t r s a b fresh h k =
    let x = cycle_effect z t call.Condemn r a condemn_begins (plain_happens z (replied t call.Condemn r) a h (λ id n. n) refl) in
    let y = cycle_effect z t call.Condemn s b condemn_begins (plain_happens z (replied t call.Condemn s) b k (λ id n. n) refl) in
    let one = condemn_reply z t r s x.0 y.0 fresh x.1 y.1 in
    (one, step_after z t call.Condemn r s a b h k one)

-- Finalise and Reclaim never are steps from one state
finalise_finds : (z : State) (t : ℕ) (r : Reply) (a : State) → Effect z t call.Finalise r a → (q : List BlockId) × HasCondemned z t q × (b : BlockId) × (find (awaits z) q ≡ Some b)
finalise_finds z t (reply.Finalised b) a h = (h.0, h.1, b, h.2)
finalise_finds z t _ a h = absurd h

reclaim_finds : (z : State) (t : ℕ) (r : Reply) (a : State) → Effect z t call.Reclaim r a → (q : List BlockId) × HasCondemned z t q × (find (awaits z) q ≡ None)
reclaim_finds z t (reply.Settled g k) a h = (h.r, h.condemned, h.finalised)
reclaim_finds z t _ a h = absurd h

none_some : {X : Type 0} (x : X) → None ≡ Some x → ⊥
none_some x h = cc (h)

either_one : (z : State) (t : ℕ) (r s : Reply) (a b : State) → Step z (replied t call.Finalise r) a → Step z (replied t call.Reclaim s) b → ⊥
either_one z t r s a b h k =
    let x = cycle_effect z t call.Finalise r a finalise_begins (plain_happens z (replied t call.Finalise r) a h (λ id n. n) refl) in
    let y = cycle_effect z t call.Reclaim s b reclaim_begins (plain_happens z (replied t call.Reclaim s) b k (λ id n. n) refl) in
    let f = finalise_finds z t r x.0 x.1 in
    let g = reclaim_finds z t s y.0 y.1 in
    none_some f.2 (sym g.2 ∙ ap (find (awaits z)) (one_condemned z t g.0 f.0 g.1 f.1) ∙ f.3)

-- an entry by its parts
entry_is : (e : Entry) (t : ℕ) (c : Call) → e.thread ≡ t → e.call ≡ c → e ≡ replied t c e.reply
entry_is e t c h k = ap₂ (λ u d. replied u d e.reply) h k

as_replied : (z : State) (e : Entry) (t : ℕ) (c : Call) (a : State) → e.thread ≡ t → e.call ≡ c → Step z e a → Step z (replied t c e.reply) a
as_replied z e t c a h k s = subst (λ (x : Entry). Step z x a) (entry_is e t c h k) s

same_bare : (e f : Entry) (t : ℕ) (c : Call) → e.thread ≡ t → e.call ≡ c → f.thread ≡ t → f.call ≡ c → bare_reply e.reply ≡ bare_reply f.reply → bare_entry e ≡ bare_entry f
same_bare e f t c h k i j r = ap bare_entry (entry_is e t c h k) ∙ ap (replied t c) r ∙ sym (ap bare_entry (entry_is f t c i j))

-- one call of a thread from a state, but for Condemn
pub one_entry : (z : State) (e f : Entry) (t : ℕ) (c : Call) (a b : State) → (c ≡ call.Condemn → ⊥) → e.thread ≡ t → e.call ≡ c → f.thread ≡ t → f.call ≡ c → Step z e a → Step z f b → (bare_entry e ≡ bare_entry f) × (a ≡ b)
one_entry z e f t c a b other h k i j s u =
    let one = step_once z t c e.reply f.reply a b other (as_replied z e t c a h k s) (as_replied z f t c b i j u) in
    (same_bare e f t c h k i j one.0, one.1)

begin_condemns : (m : Mode) → call.Begin m ≡ call.Condemn → ⊥
begin_condemns m h = cc (h)

finalise_condemns : call.Finalise ≡ call.Condemn → ⊥
finalise_condemns h = cc (h)

reclaim_condemns : call.Reclaim ≡ call.Condemn → ⊥
reclaim_condemns h = cc (h)

-- two runs from one state with the same entries, but for room, and the same end
abbrev pub SameEnd : List Entry → List Entry → State → State → Type 0
SameEnd es fs y z = SameButRoom es fs × (y ≡ z)

call_head : (e : Entry) (es : List Entry) (c : Call) (cs : List Call) → calls_of (e ∷ es) ≡ c ∷ cs → (e.call ≡ c) × (calls_of es ≡ cs)
call_head e es c cs h = (cc, cc)

no_entry : (c : Call) (cs : List Call) → calls_of [] ≡ c ∷ cs → ⊥
no_entry c cs h = cc (h)

-- no call is left
no_more : (es : List Entry) (z y : State) → calls_of es ≡ [] → Run z es y → (es ≡ []) × (y ≡ z)
no_more [] z y h run = (refl, run)
no_more (e ∷ es) z y h run = absurd (more e es h)
  where
    more : (e : Entry) (es : List Entry) → calls_of (e ∷ es) ≡ [] → ⊥
    more e es h = cc (h)

both_done : (es fs : List Entry) (z y x : State) → calls_of es ≡ [] → calls_of fs ≡ [] → Run z es y → Run z fs x → SameEnd es fs y x
both_done es fs z y x h k run other =
    let d = no_more es z y h run in
    let g = no_more fs z x k other in
    (ap (map bare_entry) (d.0 ∙ sym g.0), d.1 ∙ sym g.1)

module _ (t : ℕ) where
  -- the rest of a cycle that has condemned
  settled_once : (n m : ℕ) (es fs : List Entry) (z y x : State) → calls_of es ≡ replicate n call.Finalise ++ call.Reclaim ∷ [] → calls_of fs ≡ replicate m call.Finalise ++ call.Reclaim ∷ []
      → AllOf t es → AllOf t fs → Run z es y → Run z fs x → SameEnd es fs y x
  settled_once zero zero [] fs z y x h k o p run other = absurd (no_entry _ _ h)
  settled_once zero zero (e ∷ es) [] z y x h k o p run other = absurd (no_entry _ _ k)
  settled_once zero zero (e ∷ es) (f ∷ fs) z y x h k o p run other =
      let i = call_head e es call.Reclaim [] h in
      let j = call_head f fs call.Reclaim [] k in
      let one = one_entry z e f t call.Reclaim run.0 other.0 reclaim_condemns o.0 i.0 p.0 j.0 run.1 other.1 in
      let rest = both_done es fs run.0 y x i.1 j.1 run.2 (subst (λ q. Run q fs x) (sym one.1) other.2) in
      (ap₂ (λ a b. a ∷ b) one.0 rest.0, rest.1)
  settled_once (suc n) (suc m) [] fs z y x h k o p run other = absurd (no_entry _ _ h)
  settled_once (suc n) (suc m) (e ∷ es) [] z y x h k o p run other = absurd (no_entry _ _ k)
  settled_once (suc n) (suc m) (e ∷ es) (f ∷ fs) z y x h k o p run other =
      let i = call_head e es call.Finalise (replicate n call.Finalise ++ call.Reclaim ∷ []) h in
      let j = call_head f fs call.Finalise (replicate m call.Finalise ++ call.Reclaim ∷ []) k in
      let one = one_entry z e f t call.Finalise run.0 other.0 finalise_condemns o.0 i.0 p.0 j.0 run.1 other.1 in
      let rest = settled_once n m es fs run.0 y x i.1 j.1 o.1 p.1 run.2 (subst (λ q. Run q fs x) (sym one.1) other.2) in
      (ap₂ (λ a b. a ∷ b) one.0 rest.0, rest.1)
  settled_once zero (suc m) [] fs z y x h k o p run other = absurd (no_entry _ _ h)
  settled_once zero (suc m) (e ∷ es) [] z y x h k o p run other = absurd (no_entry _ _ k)
  settled_once zero (suc m) (e ∷ es) (f ∷ fs) z y x h k o p run other =
      let i = call_head e es call.Reclaim [] h in
      let j = call_head f fs call.Finalise (replicate m call.Finalise ++ call.Reclaim ∷ []) k in
      absurd (either_one z t f.reply e.reply other.0 run.0 (as_replied z f t call.Finalise other.0 p.0 j.0 other.1) (as_replied z e t call.Reclaim run.0 o.0 i.0 run.1))
  settled_once (suc n) zero [] fs z y x h k o p run other = absurd (no_entry _ _ h)
  settled_once (suc n) zero (e ∷ es) [] z y x h k o p run other = absurd (no_entry _ _ k)
  settled_once (suc n) zero (e ∷ es) (f ∷ fs) z y x h k o p run other =
      let i = call_head e es call.Finalise (replicate n call.Finalise ++ call.Reclaim ∷ []) h in
      let j = call_head f fs call.Reclaim [] k in
      absurd (either_one z t e.reply f.reply run.0 other.0 (as_replied z e t call.Finalise run.0 o.0 i.0 run.1) (as_replied z f t call.Reclaim other.0 p.0 j.0 other.1))

  -- what follows a Begin
  followed_once : (n m : ℕ) (es fs : List Entry) (z y x : State) → JustBegun z → calls_of es ≡ call.Condemn ∷ (replicate n call.Finalise ++ call.Reclaim ∷ []) → calls_of fs ≡ call.Condemn ∷ (replicate m call.Finalise ++ call.Reclaim ∷ [])
      → AllOf t es → AllOf t fs → Run z es y → Run z fs x → SameEnd es fs y x
  followed_once n m [] fs z y x fresh h k o p run other = absurd (no_entry _ _ h)
  followed_once n m (e ∷ es) [] z y x fresh h k o p run other = absurd (no_entry _ _ k)
  followed_once n m (e ∷ es) (f ∷ fs) z y x fresh h k o p run other =
      let i = call_head e es call.Condemn (replicate n call.Finalise ++ call.Reclaim ∷ []) h in
      let j = call_head f fs call.Condemn (replicate m call.Finalise ++ call.Reclaim ∷ []) k in
      let one = condemn_once z t e.reply f.reply run.0 other.0 fresh (as_replied z e t call.Condemn run.0 o.0 i.0 run.1) (as_replied z f t call.Condemn other.0 p.0 j.0 other.1) in
      let rest = settled_once n m es fs run.0 y x i.1 j.1 o.1 p.1 run.2 (subst (λ q. Run q fs x) (sym one.1) other.2) in
      (ap₂ (λ a b. a ∷ b) (same_bare e f t call.Condemn o.0 i.0 p.0 j.0 one.0) rest.0, rest.1)

  busy_begun : bare_reply reply.Busy ≡ bare_reply reply.Begun → ⊥
  busy_begun h = cc (h)

  -- a refused collection and one that began, from one state
  never_both : (z : State) (m : Mode) (es fs : List Entry) (y x : State) → IsRefused m es → IsCollection m fs → AllOf t es → AllOf t fs → Run z es y → Run z fs x → ⊥
  never_both z m es fs y x h k o p run other =
      let e = h.0 in
      let f = k.0 in
      let oe = subst (AllOf t) h.1 o in
      let pf = subst (AllOf t) k.3 p in
      let re = subst (λ es. Run z es y) h.1 run in
      let rf = subst (λ fs. Run z fs x) k.3 other in
      let one = step_once z t (call.Begin m) e.reply f.reply re.0 rf.0 (begin_condemns m) (as_replied z e t (call.Begin m) re.0 oe.0 h.2 re.1) (as_replied z f t (call.Begin m) rf.0 pf.0 k.4 rf.1) in
      busy_begun (ap bare_reply (sym h.3) ∙ one.0 ∙ ap bare_reply k.5)

  same_lists : (es fs ds gs : List Entry) (y x : State) → es ≡ ds → fs ≡ gs → SameEnd ds gs y x → SameEnd es fs y x
  same_lists es fs ds gs y x h k s = (ap (map bare_entry) h ∙ s.0 ∙ sym (ap (map bare_entry) k), s.1)

  refused_once : (z : State) (m : Mode) (es fs : List Entry) (y x : State) → IsRefused m es → IsRefused m fs → AllOf t es → AllOf t fs → Run z es y → Run z fs x → SameEnd es fs y x
  refused_once z m es fs y x h k o p run other =
      let oe = subst (AllOf t) h.1 o in
      let pf = subst (AllOf t) k.1 p in
      let re = subst (λ es. Run z es y) h.1 run in
      let rf = subst (λ fs. Run z fs x) k.1 other in
      let one = one_entry z h.0 k.0 t (call.Begin m) re.0 rf.0 (begin_condemns m) oe.0 h.2 pf.0 k.2 re.1 rf.1 in
      same_lists es fs (h.0 ∷ []) (k.0 ∷ []) y x h.1 k.1 (ap (λ e. e ∷ []) one.0, re.2 ∙ one.1 ∙ sym rf.2)

  collected_once : (z : State) (m : Mode) (es fs : List Entry) (y x : State) → IsCollection m es → IsCollection m fs → AllOf t es → AllOf t fs → Run z es y → Run z fs x → SameEnd es fs y x
  collected_once z m es fs y x h k o p run other =
      let e = h.0 in
      let f = k.0 in
      let oe = subst (AllOf t) h.3 o in
      let pf = subst (AllOf t) k.3 p in
      let re = subst (λ es. Run z es y) h.3 run in
      let rf = subst (λ fs. Run z fs x) k.3 other in
      let one = one_entry z e f t (call.Begin m) re.0 rf.0 (begin_condemns m) oe.0 h.4 pf.0 k.4 re.1 rf.1 in
      let fresh = begun_fresh z t m re.0 (subst (λ r. Step z (replied t (call.Begin m) r) re.0) h.5 (as_replied z e t (call.Begin m) re.0 oe.0 h.4 re.1)) in
      let rest = followed_once h.2 k.2 h.1 k.1 re.0 y x fresh h.6 k.6 oe.1 pf.1 re.2 (subst (λ q. Run q k.1 x) (sym one.1) rf.2) in
      same_lists es fs (e ∷ h.1) (f ∷ k.1) y x h.3 k.3 (ap₂ (λ a b. a ∷ b) one.0 rest.0, rest.1)

  called_once : (z : State) (c : Call) (es fs : List Entry) (y x : State) → (c ≡ call.Condemn → ⊥) → calls_of es ≡ c ∷ [] → calls_of fs ≡ c ∷ [] → AllOf t es → AllOf t fs → Run z es y → Run z fs x → SameEnd es fs y x
  called_once z c [] fs y x other h k o p run run2 = absurd (no_entry _ _ h)
  called_once z c (e ∷ es) [] y x other h k o p run run2 = absurd (no_entry _ _ k)
  called_once z c (e ∷ es) (f ∷ fs) y x other h k o p run run2 =
      let i = call_head e es c [] h in
      let j = call_head f fs c [] k in
      let one = one_entry z e f t c run.0 run2.0 other o.0 i.0 p.0 j.0 run.1 run2.1 in
      let rest = both_done es fs run.0 y x i.1 j.1 run.2 (subst (λ q. Run q fs x) (sym one.1) run2.2) in
      (ap₂ (λ a b. a ∷ b) one.0 rest.0, rest.1)

  -- the group of a line from a state is one, and so is the state after it
  pub group_once : (z : State) (a : Act) (es fs : List Entry) (y x : State) → NoCondemn a → IsGroup a es → IsGroup a fs → AllOf t es → AllOf t fs → Run z es y → Run z fs x → SameEnd es fs y x
  group_once z (act.Call c) es fs y x plain h k o p run other = called_once z c es fs y x plain h k o p run other
  group_once z (act.Collect m) es fs y x plain (inl h) (inl k) o p run other = refused_once z m es fs y x h k o p run other
  group_once z (act.Collect m) es fs y x plain (inr h) (inr k) o p run other = collected_once z m es fs y x h k o p run other
  group_once z (act.Collect m) es fs y x plain (inl h) (inr k) o p run other = absurd (never_both z m es fs y x h k o p run other)
  group_once z (act.Collect m) es fs y x plain (inr h) (inl k) o p run other = absurd (never_both z m fs es x y k h p o other run)
