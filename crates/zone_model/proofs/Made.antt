-- Ids are given once: a block that is gone doesn't come back
use Rattle.std.proofs.Common.{◌≡◌, ◌≤◌, ◌<◌, ℕ, ◌+◌, ◌==◌, Bool, true, false, cond, not, ◌||◌, List, [], ◌∷◌, Option, Some, None, MatchOption, fold, option_map, is_some, eq-eqb, eqb-true, option_and_then, IsTrue, refl, sym, ap, subst, ◌∙◌, ◌⊎◌, inl, inr, arith}
use Rattle.std.specs.Option.{option_map_or}
use Rattle.std.specs.declared.cmp.Ordering.TheVariants.{Less, Equal, Greater}
use Rattle.std.specs.Ordering.{is_eq}
use Rattle.std.specs.FinMap.{FinMap, get, insert, get-empty, get-insert, get-retain_keys, retain_keys}
use Rattle.az_base.specs.declared.action.Action.{Action}
use Rattle.az_base.specs.declared.action.Action.TheVariants as action
use Rattle.az_base.specs.declared.block_id.BlockId.{BlockId}
use Rattle.az_base.specs.declared.misuse.Misuse.{Misuse}
use Rattle.az_base.specs.declared.options.Options.{Options}
use Rattle.az_base.specs.Ids.{id_cmp, id_of, among, ids_total, exact_ids}
use Rattle.zone_model.specs.declared.call.Call.{Call}
use Rattle.zone_model.specs.declared.call.Call.TheVariants as call
use Rattle.zone_model.specs.declared.entry.Reply.{Reply}
use Rattle.zone_model.specs.declared.entry.Reply.TheVariants as reply
use Rattle.zone_model.specs.declared.entry.Entry.{Entry}
use Rattle.zone_model.specs.Room.{WithRoom}
use Rattle.zone_model.proofs.MapLaws.{get-map_values}
use Rattle.zone_model.specs.State.{State, Block, Cycle, Moment, opening, with_edit, with_count, with_assoc, with_weak, is_escaped, moment}
use Rattle.zone_model.specs.Escape.{with_escaped}
use Rattle.zone_model.specs.Misuses.{misuse_of}
use Rattle.block_layouts.specs.declared.layout.Layout.{Layout}
use Rattle.zone_model.specs.Collection.{MayCondemn, Reclaims, with_action, actions_of}
use Rattle.zone_model.specs.Effect.{Effect, weak_loc, new_block, with_new}
use Rattle.zone_model.specs.Step.{Step, Happens, seen_now, with_moment}
use Rattle.zone_model.specs.History.{Run}

-- the block is there
abbrev pub There : State → BlockId → Type 0
There z b = IsTrue (is_some (get z.blocks b))

-- the block was there when the cycle began, or is condemned
abbrev pub is_of : Option Cycle → BlockId → Bool
is_of None b = false
is_of (Some c) b = c.start b || option_map_or (λ r. among r b) c.condemned false

-- the block is there, or the open cycle speaks of it
abbrev pub Known : State → BlockId → Type 0
Known z b = There z b ⊎ IsTrue (is_of z.cycle b)

-- the thread has made a block with this id
abbrev pub Made : State → BlockId → Type 0
Made z b = b.serial < z.serials b.thread

-- its thread made the block between the two states
abbrev pub Fresh : State → State → BlockId → Type 0
Fresh z a b = (Made z b → ⊥) × Made a b

-- what is known in the second state was known in the first, or is fresh
pub record Grows (z a : State) : Type 0 where
  pub serials : (t : ℕ) → z.serials t ≤ a.serials t
  pub there : (b : BlockId) → There a b → There z b ⊎ Fresh z a b
  pub cycle : (b : BlockId) → IsTrue (is_of a.cycle b) → Known z b ⊎ Fresh z a b

-- neither a serial nor a block nor the cycle changed
abbrev pub Same : State → State → Type 0
Same z a = (a.serials ≡ z.serials) × (a.blocks ≡ z.blocks) × (a.cycle ≡ z.cycle)

grows_same : (z a : State) → Same z a → Grows z a
grows_same z a same = record {
  serials = λ t. let h : a.serials t ≡ z.serials t = ap (λ f. f t) same.0 in omega arith;
  there = λ b here. inl (subst (λ (m : FinMap id_cmp Block). IsTrue (is_some (get m b))) same.1 here);
  cycle = λ b is. inl (inr (subst (λ c. IsTrue (is_of c b)) same.2 is));
}

-- no serial changed, no block came, and the cycle speaks of blocks that were known
grows_less : (z a : State) → a.serials ≡ z.serials → ((b : BlockId) → There a b → There z b) → ((b : BlockId) → IsTrue (is_of a.cycle b) → Known z b) → Grows z a
grows_less z a serials blocks cycle = record {
  serials = λ t. let h : a.serials t ≡ z.serials t = ap (λ f. f t) serials in omega arith;
  there = λ b here. inl (blocks b here);
  cycle = λ b is. inl (cycle b is);
}

some_left : {X : Type 0} (c : Bool) (o : Option X) → IsTrue (is_some (cond c o None)) → IsTrue (is_some o)
some_left true o h = h
some_left false o h = cc (h)

-- of the blocks that are left each was there
left_there : (m : FinMap id_cmp Block) (gone : List BlockId) (b : BlockId) → IsTrue (is_some (get (retain_keys m (λ id. not (among gone id))) b)) → IsTrue (is_some (get m b))
left_there m gone b h = some_left (not (among gone b)) (get m b) (sym (ap is_some (get-retain_keys m (λ id. not (among gone id)) b (λ id e. ap (λ k. not (among gone k)) (sym (exact_ids b id e))))) ∙ h)

-- and none of them is gone
gone_there : (m : FinMap id_cmp Block) (gone : List BlockId) (b : BlockId) → IsTrue (among gone b) → IsTrue (is_some (get (retain_keys m (λ id. not (among gone id))) b)) → ⊥
gone_there m gone b taken h =
    let none : false ≡ true =
    ap (λ c. is_some (cond (not c) (get m b) None)) (sym taken)
    ∙ sym (ap is_some (get-retain_keys m (λ id. not (among gone id)) b (λ id e. ap (λ k. not (among gone k)) (sym (exact_ids b id e)))))
    ∙ h in
    cc (none)

-- a block that is put in is there, or was
put_there : (m : FinMap id_cmp Block) (k : BlockId) (x : Block) (b : BlockId) → IsTrue (is_some (get (insert m k x) b)) → IsTrue (is_some (get m b)) ⊎ (b ≡ k)
put_there m k x b h =
    elim (id_cmp b k) as (λ r. id_cmp b k ≡ r → IsTrue (is_some (cond (is_eq r) (Some x) (get m b))) → IsTrue (is_some (get m b)) ⊎ (b ≡ k)) [
      | Less ↦ λ e here. inl here
      | Equal ↦ λ e here. inr (exact_ids b k e)
      | Greater ↦ λ e here. inl here
    ] refl (sym (ap is_some (get-insert ids_total m k x b)) ∙ h)

-- a block that is changed was there
edit_there : (m : FinMap id_cmp Block) (k : BlockId) (f : Block → Block) (b : BlockId) → IsTrue (is_some (get (with_edit m k f) b)) → IsTrue (is_some (get m b))
edit_there m k f b h = by_value (get m k) refl h
  where
    by_key : (x : Block) → get m k ≡ Some x → IsTrue (is_some (get m b)) ⊎ (b ≡ k) → IsTrue (is_some (get m b))
    by_key x is (inl here) = here
    by_key x is (inr same) = ap (λ id. is_some (get m id)) same ∙ ap is_some is

    by_value : (o : Option Block) → get m k ≡ o → IsTrue (is_some (get (option_map_or (λ x. insert m k (f x)) o m) b)) → IsTrue (is_some (get m b))
    by_value None is here = here
    by_value (Some x) is here = by_key x is (put_there m k (f x) b here)

word_there : (m : FinMap id_cmp Block) (a : Option BlockId) (f : Block → Block) (b : BlockId) → IsTrue (is_some (get (option_map_or (λ id. with_edit m id f) a m) b)) → IsTrue (is_some (get m b))
word_there m None f b h = h
word_there m (Some id) f b h = edit_there m id f b h

option_same : {X : Type 0} (f : X → State) (z : State) → ((x : X) → Same z (f x)) → (o : Option X) → Same z (option_map_or f o z)
option_same f z same None = (refl, refl, refl)
option_same f z same (Some x) = same x

-- a finaliser changes roots alone
pub actions_same : (b : BlockId) (actions : List Action) (z : State) → Same z (fold (with_action b) z actions)
actions_same b [] z = (refl, refl, refl)
actions_same b (action.Keep g ∷ more) z = actions_same b more (with_action b z (action.Keep g))
actions_same b (action.Pass g at ∷ more) z = actions_same b more (with_action b z (action.Pass g at))

or_cases : (a b : Bool) → IsTrue (a || b) → IsTrue a ⊎ IsTrue b
or_cases true b h = inl h
or_cases false b h = inr h

-- what has escaped is there
escaped_there : (o : Option Block) → IsTrue (is_some (option_and_then (λ (b : Block). b.since) o)) → IsTrue (is_some o)
escaped_there None h = h
escaped_there (Some b) h = refl

begin_cycle : (z : State) (b : BlockId) → IsTrue (is_escaped z b || false) → Known z b
begin_cycle z b h = elim (or_cases (is_escaped z b) false h) as (λ _. Known z b) [ inl e ↦ inl (escaped_there (get z.blocks b) e) | inr e ↦ cc (e) ]

-- a condemned block was there when the cycle began
condemn_cycle : (z : State) (c : Cycle) (r : List BlockId) (b : BlockId) → MayCondemn z c r → IsTrue (c.start b || among r b) → IsTrue (is_of (Some c) b)
condemn_cycle z c r b may h = ap (λ s. s || option_map_or (λ r. among r b) c.condemned false) (started (or_cases (c.start b) (among r b) h))
  where
    started : IsTrue (c.start b) ⊎ IsTrue (among r b) → IsTrue (c.start b)
    started (inl s) = s
    started (inr in_r) = may.start b in_r

later_serial : (serials : ℕ → ℕ) (t u : ℕ) → serials u ≤ cond (t == u) (serials t + 1) (serials u)
later_serial serials t u =
    elim (t == u) as (λ c. (t == u) ≡ c → serials u ≤ cond c (serials t + 1) (serials u)) [
      | true ↦ λ e. let same : serials t ≡ serials u = ap serials (eqb-true t u e) in omega arith
      | false ↦ λ e. omega arith
    ] refl

-- a birth makes one id known, the next one of its thread
new_grows : (z : State) (t to : ℕ) (layout : Layout) (actions : List Action) → Grows z (with_new z t to layout actions)
new_grows z t to layout actions = record {
  serials = later_serial z.serials t;
  there = λ b here. by_key b (put_there z.blocks (id_of t (z.serials t)) (new_block z t layout actions) b here);
  cycle = λ b is. inl (inr is);
}
  where
    fresh : Fresh z (with_new z t to layout actions) (id_of t (z.serials t))
    fresh = (λ m. absurd (omega arith), let h : cond (t == t) (z.serials t + 1) (z.serials t) ≡ z.serials t + 1 = ap (λ c. cond c (z.serials t + 1) (z.serials t)) (eq-eqb t t refl) in omega arith)

    by_key : (b : BlockId) → IsTrue (is_some (get z.blocks b)) ⊎ (b ≡ id_of t (z.serials t)) → There z b ⊎ Fresh z (with_new z t to layout actions) b
    by_key b (inl here) = inl here
    by_key b (inr same) = inr (subst (Fresh z (with_new z t to layout actions)) (sym same) fresh)

effect_grows : (z : State) (t : ℕ) (c : Call) (r : Reply) (a : State) → Effect z t c r a → Grows z a
effect_grows z t (call.New to layout actions) (reply.Block id) a h = subst (Grows z) (sym h.1) (new_grows z t to layout actions)
effect_grows z t (call.Load to from at) (reply.Block id) a h = subst (Grows z) (sym h.1) (grows_same z _ (refl, refl, refl))
effect_grows z t (call.Store into at from) reply.Done a h = subst (Grows z) (sym h) (grows_less z _ refl (word_there z.blocks (z.registers t into) _) (λ b is. inr is))
effect_grows z t (call.Put into at number) reply.Done a h = subst (Grows z) (sym h) (grows_less z _ refl (word_there z.blocks (z.registers t into) _) (λ b is. inr is))
effect_grows z t (call.Get from at) (reply.Number k) a h = subst (Grows z) (sym h.1) (grows_same z _ (refl, refl, refl))
effect_grows z t (call.Copy to from) reply.Done a h = subst (Grows z) (sym h) (grows_same z _ (refl, refl, refl))
effect_grows z t (call.DropReg reg) reply.Done a h = subst (Grows z) (sym h) (grows_same z _ (refl, refl, refl))
effect_grows z t call.CollectLocal (reply.Reclaimed gone) a h = subst (Grows z) (sym h.1) (grows_less z _ refl (left_there z.blocks gone.list) (λ b is. inr is))
effect_grows z t (call.SetRoot root from) reply.Done a h = subst (Grows z) (sym h) (grows_same z _ (refl, refl, refl))
effect_grows z t (call.GetRoot to root) (reply.Block id) a h = subst (Grows z) (sym h.1) (grows_same z _ (refl, refl, refl))
effect_grows z t (call.Retain reg) (reply.Number k) a h = subst (Grows z) (sym h.1) (grows_same z _ (option_same (λ b. with_count z b k) z (λ b. (refl, refl, refl)) (z.registers t reg)))
effect_grows z t (call.Release reg) (reply.Number k) a h = subst (Grows z) (sym h.1) (grows_same z _ (option_same (λ b. with_count z b k) z (λ b. (refl, refl, refl)) (z.registers t reg)))
effect_grows z t (call.Count reg) (reply.Number k) a h = subst (Grows z) (sym h.1) (grows_same z _ (refl, refl, refl))
effect_grows z t (call.Take to id) (reply.Block i) a h = subst (Grows z) (sym h.1) (grows_same z _ (refl, refl, refl))
effect_grows z t (call.SetAssoc object key value) (reply.Block id) a h = subst (Grows z) (sym h.1) (grows_same z _ (option_same (λ b. with_assoc z b key.0 (z.registers t value)) z (λ b. (refl, refl, refl)) (z.registers t object)))
effect_grows z t (call.GetAssoc to object key) (reply.Block id) a h = subst (Grows z) (sym h.1) (grows_same z _ (refl, refl, refl))
effect_grows z t (call.SetWeak loc from) (reply.Block v) a h = subst (Grows z) (sym h.1) (grows_same z _ (option_same (λ l. with_weak z l v) z (λ l. (refl, refl, refl)) (weak_loc z t loc)))
effect_grows z t (call.ReadWeak to loc) (reply.Block id) a h = subst (Grows z) (sym h.1) (grows_same z _ (refl, refl, refl))
effect_grows z t call.Stats (reply.Stats s) a h = subst (Grows z) (sym h.1) (grows_same z _ (refl, refl, refl))
effect_grows z t (call.Begin mode) reply.Begun a h = subst (Grows z) (sym h.1) (grows_less z _ refl (λ b here. here) (begin_cycle z))
effect_grows z t call.Condemn (reply.Condemned r) a h = subst (Grows z) (sym h.4) (grows_less z _ refl (λ b here. here) (λ b is. inr (subst (λ c. IsTrue (is_of c b)) (sym h.1.0) (condemn_cycle z h.0 r.list b h.3 is))))
effect_grows z t call.Finalise (reply.Finalised id) a h =
    let same = actions_same id (actions_of z id) z in
    subst (Grows z) (sym h.3) (grows_less z _ same.0 (λ b here. subst (λ (m : FinMap id_cmp Block). IsTrue (is_some (get m b))) same.1 (edit_there _ id _ b here)) (λ b is. inr (subst (λ c. IsTrue (is_of c b)) same.2 is)))
effect_grows z t call.Reclaim (reply.Settled gone kept) a h = subst (Grows z) (sym h.does) (grows_less z _ refl (left_there z.blocks gone.list) (λ b is. cc (is)))
effect_grows z t call.Leave (reply.Reclaimed gone) a h = subst (Grows z) (sym h.does) (grows_less z _ refl (left_there z.blocks gone.list) (λ b is. inr is))
effect_grows z t _ _ a h = absurd h

seen_by : (m : Moment) (c : Option Cycle) (b : BlockId) → is_of (option_map (with_moment m) c) b ≡ is_of c b
seen_by m None b = refl
seen_by m (Some c) b = elim (is_some c.condemned) as (λ s. is_of (Some (cond s c (record c { moments = m ∷ c.moments }))) b ≡ is_of (Some c) b) [ true ↦ refl | false ↦ refl ]

seen_grows : (z a : State) → Grows z a → Grows z (seen_now a)
seen_grows z a g = record { serials = g.serials; there = g.there; cycle = λ b is. g.cycle b (sym (seen_by (moment a) a.cycle b) ∙ is) }

mapped : {X Y : Type 0} (f : X → Y) (o : Option X) → is_some (option_map f o) ≡ is_some o
mapped f None = refl
mapped f (Some x) = refl

-- an escape leaves the same blocks
escaped_same : (z : State) (need : BlockId → Bool) (b : BlockId) → is_some (get (with_escaped z need).blocks b) ≡ is_some (get z.blocks b)
escaped_same z need b = ap is_some (get-map_values id_cmp _ exact_ids z.blocks b) ∙ mapped _ (get z.blocks b)

pub escaped_known : (z : State) (need : BlockId → Bool) (b : BlockId) → Known (with_escaped z need) b → Known z b
escaped_known z need b (inl here) = inl (sym (escaped_same z need b) ∙ here)
escaped_known z need b (inr is) = inr is

escaped_grows : (z : State) (need : BlockId → Bool) (a : State) → Grows (with_escaped z need) a → Grows z a
escaped_grows z need a g = record {
  serials = g.serials;
  there = λ b here. elim (g.there b here) as (λ _. There z b ⊎ Fresh z a b) [ inl h ↦ inl (sym (escaped_same z need b) ∙ h) | inr f ↦ inr f ];
  cycle = λ b is. elim (g.cycle b is) as (λ _. Known z b ⊎ Fresh z a b) [ inl h ↦ inl (escaped_known z need b h) | inr f ↦ inr f ];
}

happens_grows : (z : State) (t : ℕ) (c : Call) (r : Reply) (a : State) → Happens z t c r a → Grows z a
happens_grows z t c reply.Busy a h = subst (Grows z) (sym h.1) (grows_same z z (refl, refl, refl))
happens_grows z t c r a h = subst (Grows z) (sym h.2) (seen_grows z h.0 (effect_grows z t c r h.0 h.1))

pub step_grows : (z : State) (e : Entry) (after : State) → Step z e after → Grows z after
step_grows z e after s = by_misuse (misuse_of z e.thread e.call s.need) s.does
  where
    by_misuse : (m : Option Misuse) → MatchOption m (Happens (with_escaped z s.need) e.thread e.call e.reply after) (λ m. (e.reply ≡ reply.Misuse m) × (after ≡ z)) → Grows z after
    by_misuse None h = escaped_grows z s.need after (happens_grows (with_escaped z s.need) e.thread e.call e.reply after h)
    by_misuse (Some m) h = subst (Grows z) (sym h.1) (grows_same z z (refl, refl, refl))

-- all that is known was made
abbrev pub AllMade : State → Type 0
AllMade z = (b : BlockId) → Known z b → Made z b

pub opening_made : (o : Options) → AllMade (opening o)
opening_made o b (inl here) = let h : false ≡ true = sym (ap is_some (get-empty id_cmp b)) ∙ here in cc (h)
opening_made o b (inr is) = cc (is)

pub stays_made : (z a : State) → Grows z a → (b : BlockId) → Made z b → Made a b
stays_made z a g b made = let h : z.serials b.thread ≤ a.serials b.thread = g.serials b.thread in omega arith

pub step_made : (z : State) (e : Entry) (after : State) → Step z e after → AllMade z → AllMade after
step_made z e after s made b known = by_part known
  where
    by_there : There z b ⊎ Fresh z after b → Made after b
    by_there (inl here) = stays_made z after (step_grows z e after s) b (made b (inl here))
    by_there (inr fresh) = fresh.1

    by_cycle : Known z b ⊎ Fresh z after b → Made after b
    by_cycle (inl known) = stays_made z after (step_grows z e after s) b (made b known)
    by_cycle (inr fresh) = fresh.1

    by_part : Known after b → Made after b
    by_part (inl here) = by_there ((step_grows z e after s).there b here)
    by_part (inr is) = by_cycle ((step_grows z e after s).cycle b is)

-- a block that was made and isn't there never comes back
pub gone_for_good : (z : State) (es : List Entry) (after : State) (b : BlockId) → Run z es after → Made z b → (There z b → ⊥) → There after b → ⊥
gone_for_good z [] after b run made gone here = gone (subst (λ y. There y b) run here)
gone_for_good z (e ∷ es) after b run made gone here =
    gone_for_good run.0 es after b run.2 (stays_made z run.0 grows b made) (λ back. by_there (grows.there b back)) here
  where
    grows : Grows z run.0
    grows = step_grows z e run.0 run.1

    by_there : There z b ⊎ Fresh z run.0 b → ⊥
    by_there (inl back) = gone back
    by_there (inr fresh) = fresh.0 made

or_last : (a b : Bool) → IsTrue b → IsTrue (a || b)
or_last true b h = refl
or_last false b h = h

-- a Reclaim of the open cycle takes blocks of which the cycle speaks
reclaims_gone : (z : State) (t : ℕ) (gone kept : List BlockId) (a : State) (b : BlockId) → Reclaims z t gone kept a → IsTrue (among gone b) → IsTrue (is_of z.cycle b) × (There a b → ⊥)
reclaims_gone z t gone kept a b h taken = (
  subst (λ c. IsTrue (is_of c b)) (sym h.condemned.1.0) (or_last (h.condemned.0.start b) _ (ap (λ o. option_map_or (λ r. among r b) o false) h.condemned.2 ∙ ((h.gone_ones.1 b).0 taken).0)),
  λ here. gone_there z.blocks gone b taken (subst (λ (y : State). There y b) h.does here),
)

happens_gone : (z : State) (t : ℕ) (c : Call) (gone kept : WithRoom) (a : State) (b : BlockId) → Happens z t c (reply.Settled gone kept) a → IsTrue (among gone.list b) → IsTrue (is_of z.cycle b) × (There a b → ⊥)
happens_gone z t call.Reclaim gone kept a b h taken =
    let parts = reclaims_gone z t gone.list kept.list h.0 b h.1 taken in
    (parts.0, λ here. parts.1 (subst (λ (y : State). There y b) h.2 here))
happens_gone z t _ gone kept a b h taken = absurd h.1

-- what an entry says is reclaimed was known before, and isn't there after
pub step_gone : (z : State) (e : Entry) (after : State) (gone kept : WithRoom) (b : BlockId) → Step z e after → e.reply ≡ reply.Settled gone kept → IsTrue (among gone.list b) → Known z b × (There after b → ⊥)
step_gone z e after gone kept b s says taken = by_misuse (misuse_of z e.thread e.call s.need) s.does
  where
    by_misuse : (m : Option Misuse) → MatchOption m (Happens (with_escaped z s.need) e.thread e.call e.reply after) (λ m. (e.reply ≡ reply.Misuse m) × (after ≡ z)) → Known z b × (There after b → ⊥)
    by_misuse None h =
        let parts = happens_gone (with_escaped z s.need) e.thread e.call gone kept after b (subst (λ r. Happens (with_escaped z s.need) e.thread e.call r after) says h) taken in
        (inr parts.0, parts.1)
    by_misuse (Some m) h = let both : reply.Settled gone kept ≡ reply.Misuse m = sym says ∙ h.0 in cc (both)
