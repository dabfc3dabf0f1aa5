-- What others do leaves a thread's cycle as it was
use Rattle.std.proofs.Common.{◌≡◌, ℕ, ◌==◌, Bool, true, false, cond, not, ◌&&◌, ◌||◌, List, [], ◌∷◌, Option, Some, None, MatchOption, IsTrue, refl, sym, ap, subst, ◌∙◌, is_some, eq-eqb, slice_set, ◌⊎◌, inl, inr}
use Rattle.std.specs.List.{list_any}
use Rattle.std.specs.Option.{option_map, option_map_or}
use Rattle.std.specs.declared.cmp.Ordering.{Ordering}
use Rattle.std.specs.declared.cmp.Ordering.TheVariants.{Less, Equal, Greater}
use Rattle.std.specs.Ordering.{is_eq}
use Rattle.std.specs.FinMap.{FinMap, get, get-insert}
use Rattle.az_base.specs.declared.action.Action.{Action}
use Rattle.az_base.specs.declared.block_id.BlockId.{BlockId}
use Rattle.az_base.specs.declared.misuse.Misuse.{Misuse}
use Rattle.az_base.specs.declared.word.Word.{Word}
use Rattle.az_base.specs.declared.word.Word.TheVariants as word
use Rattle.az_base.specs.Ids.{id_cmp, id_of, same_id, among, ids_total, exact_ids}
use Rattle.zone_model.specs.declared.call.Call.{Call}
use Rattle.zone_model.specs.declared.call.Call.TheVariants as call
use Rattle.zone_model.specs.declared.entry.Reply.{Reply}
use Rattle.zone_model.specs.declared.entry.Reply.TheVariants as reply
use Rattle.zone_model.specs.declared.entry.Entry.{Entry}
use Rattle.zone_model.specs.State.{State, Block, Cycle, moment, with_edit, with_word, with_count, with_assoc, with_weak, without_blocks, reference, is_nil, is_escaped, is_own}
use Rattle.zone_model.specs.Escape.{with_escaped}
use Rattle.zone_model.specs.Misuses.{misuse_of}
use Rattle.zone_model.specs.Collection.{HasCycle, awaits, actions_of}
use Rattle.zone_model.specs.Effect.{Effect, new_block, with_new, weak_loc}
use Rattle.zone_model.specs.Step.{Step, Happens, seen_now, with_moment}
use Rattle.zone_model.specs.History.{is_cycle_step, Run}
use Rattle.zone_model.proofs.Made.{AllMade, step_made, actions_same}
use Rattle.zone_model.proofs.Intact.{Intact}
use Rattle.zone_model.specs.Phases.{SameCycle, CycleStays, NoneOf}
use Rattle.zone_model.proofs.Blocks.{not_both, own_inside, there_out, edit_get, left_get, escape_at, got_escaped}
use Rattle.zone_model.proofs.IntactEscapes.{escape_intact}
use Rattle.zone_model.proofs.IntactCycles.{condemned_out}
use Rattle.zone_model.proofs.IntactSteps.{next_free, escaped_made, step_intact}

-- a block waits for its finaliser
abbrev waits_of : Option Block → Bool
waits_of o = option_map_or (λ (b : Block). not (is_nil b.actions) && not b.finalised) o false

same_cycle : (z : State) (c : Cycle) → SameCycle z z c c
same_cycle z c = record { owner = refl; mode = refl; start = refl; condemned = refl; left = λ r b is in_r. refl }

pub stays_same : (t : ℕ) (z : State) → CycleStays t z z
stays_same t z = record { still = λ c has. (c, has, same_cycle z c); before = λ d has. (d, has, same_cycle z d) }

both_same : (x y z : State) (c d e : Cycle) → SameCycle x y c d → SameCycle y z d e → SameCycle x z c e
both_same x y z c d e f g = record {
  owner = g.owner ∙ f.owner;
  mode = g.mode ∙ f.mode;
  start = g.start ∙ f.start;
  condemned = g.condemned ∙ f.condemned;
  left = λ r b is in_r. g.left r b (f.condemned ∙ is) in_r ∙ f.left r b is in_r;
}

pub stays_on : (t : ℕ) (x y z : State) → CycleStays t x y → CycleStays t y z → CycleStays t x z
stays_on t x y z f g = record {
  still = λ c has. let d = f.still c has in let e = g.still d.0 d.1 in (e.0, e.1, both_same x y z c d.0 e.0 d.2 e.2);
  before = λ e has. let d = g.before e has in let c = f.before d.0 d.1 in (c.0, c.1, both_same x y z c.0 d.0 e c.2 d.2);
}

-- a change that keeps the cycle and the escaped blocks' finalisers
kept : (t : ℕ) (z a : State) → Intact z → a.cycle ≡ z.cycle → ((b : BlockId) → IsTrue (is_escaped z b) → awaits a b ≡ awaits z b) → CycleStays t z a
kept t z a s same finals = record {
  still = λ c has. (c, (same ∙ has.0, has.1), alike c has);
  before = λ d has. let back : HasCycle z t d = (sym same ∙ has.0, has.1) in (d, back, alike d back);
}
  where
    alike : (c : Cycle) → HasCycle z t c → SameCycle z a c c
    alike c has = record { owner = refl; mode = refl; start = refl; condemned = refl; left = λ r b is in_r. finals b (condemned_out z s t r (c, has, is) b in_r).1 }

some_cycle : (c d : Cycle) → Some c ≡ Some d → c ≡ d
some_cycle c d h = cc

-- the open cycle isn't two threads'
one_owner : (z : State) (u t : ℕ) (c d : Cycle) → (u == t) ≡ false → HasCycle z u c → HasCycle z t d → ⊥
one_owner z u t c d other mine yours =
    let same : c ≡ d = some_cycle c d (sym mine.0 ∙ yours.0) in
    let no : true ≡ false = sym (eq-eqb u t (sym mine.1 ∙ ap (λ (k : Cycle). k.owner) same ∙ yours.1)) ∙ other in
    cc (no)

edit_waits : (m : FinMap id_cmp Block) (id : BlockId) (f : Block → Block) → ((b : Block) → (f b).actions ≡ b.actions) → ((b : Block) → (f b).finalised ≡ b.finalised) → (q : BlockId) → waits_of (get (with_edit m id f) q) ≡ waits_of (get m q)
edit_waits m id f actions finalised q = ap waits_of (edit_get m id f q) ∙ by (same_id q id) (get m q)
  where
    by : (t : Bool) (o : Option Block) → waits_of (cond t (option_map f o) o) ≡ waits_of o
    by true None = refl
    by true (Some b) = ap (λ acts. not (is_nil acts) && not (f b).finalised) (actions b) ∙ ap (λ done. not (is_nil b.actions) && not done) (finalised b)
    by false o = refl

-- the call is no step of a cycle, or is another thread's
abbrev pub IsApart : ℕ → ℕ → Call → Type 0
IsApart u t c = (is_cycle_step c ≡ false) ⊎ ((u == t) ≡ false)

module _ (z : State) (s : Intact z) (u t : ℕ) where
  word_stays : (a : Option BlockId) (at : ℕ) (w : Word) → CycleStays t z (with_word z a at w)
  word_stays None at w = stays_same t z
  word_stays (Some id) at w = kept t z (with_word z (Some id) at w) s refl (λ b out. edit_waits z.blocks id (λ b. record b { words = slice_set b.words at w }) (λ b. refl) (λ b. refl) b)

  gone_stays : (a : State) (gone : List BlockId) → a.cycle ≡ z.cycle → a.blocks ≡ (without_blocks z gone).blocks → ((q : BlockId) → among gone q ≡ true → IsTrue (is_own z u q)) → CycleStays t z a
  gone_stays a gone same blocks own = kept t z a s same (λ b out. ap (λ (m : FinMap id_cmp Block). waits_of (get m b)) blocks ∙ ap waits_of (left_get z.blocks (among gone) b) ∙ by b out (among gone b) refl)
    where
      by : (b : BlockId) → IsTrue (is_escaped z b) → (g : Bool) → among gone b ≡ g → waits_of (cond g None (get z.blocks b)) ≡ waits_of (get z.blocks b)
      by b out true e = absurd (not_both (get z.blocks b) out (own_inside z u b (own b e)))
      by b out false e = refl

  new_stays : (to : ℕ) (l : _) (actions : List Action) → get z.blocks (id_of u (z.serials u)) ≡ None → CycleStays t z (with_new z u to l actions)
  new_stays to l actions free = kept t z (with_new z u to l actions) s refl (λ b out. ap waits_of (get-insert ids_total z.blocks (id_of u (z.serials u)) (new_block z u l actions) b) ∙ at b out (id_cmp b (id_of u (z.serials u))) refl)
    where
      at : (b : BlockId) → IsTrue (is_escaped z b) → (r : Ordering) → id_cmp b (id_of u (z.serials u)) ≡ r → waits_of (cond (is_eq r) (Some (new_block z u l actions)) (get z.blocks b)) ≡ waits_of (get z.blocks b)
      at b out Less e = refl
      at b out Equal e = let no : false ≡ true = sym (ap is_some (ap (get z.blocks) (exact_ids b (id_of u (z.serials u)) e) ∙ free)) ∙ there_out (get z.blocks b) out in cc (no)
      at b out Greater e = refl

  count_stays : (o : Option BlockId) (n : ℕ) → CycleStays t z (option_map_or (λ b. with_count z b n) o z)
  count_stays None n = stays_same t z
  count_stays (Some b) n = kept t z (with_count z b n) s refl (λ b out. refl)

  assoc_stays : (o v : Option BlockId) (key : ℕ) → CycleStays t z (option_map_or (λ a. with_assoc z a key v) o z)
  assoc_stays None v key = stays_same t z
  assoc_stays (Some a) v key = kept t z (with_assoc z a key v) s refl (λ b out. refl)

  weak_stays : (o : Option _) (v : Option BlockId) → CycleStays t z (option_map_or (λ l. with_weak z l v) o z)
  weak_stays None v = stays_same t z
  weak_stays (Some l) v = kept t z (with_weak z l v) s refl (λ b out. refl)

  -- where the open cycle was u's, and is u's or closed, t has none
  neither : (u == t) ≡ false → (a : State) (c : Cycle) → HasCycle z u c → ((d : Cycle) → HasCycle a t d → ⊥) → CycleStays t z a
  neither other a c mine none = record { still = λ d has. absurd (one_owner z u t c d other mine has); before = λ d has. absurd (none d has) }

  plain : (a : State) → a.cycle ≡ z.cycle → a.blocks ≡ z.blocks → CycleStays t z a
  plain a same blocks = kept t z a s same (λ b out. ap (λ (m : FinMap id_cmp Block). waits_of (get m b)) blocks)

  effect_stays : (c : Call) (r : Reply) (a : State) → IsApart u t c → get z.blocks (id_of u (z.serials u)) ≡ None → Effect z u c r a → CycleStays t z a
  effect_stays (call.New to layout actions) (reply.Block id) a apart free h = subst (CycleStays t z) (sym h.1) (new_stays to layout actions free)
  effect_stays (call.Load to from at) (reply.Block b) a apart free h = subst (CycleStays t z) (sym h.1) (plain _ refl refl)
  effect_stays (call.Store into at from) reply.Done a apart free h = subst (CycleStays t z) (sym h) (word_stays (z.registers u into) at (reference (z.registers u from)))
  effect_stays (call.Put into at number) reply.Done a apart free h = subst (CycleStays t z) (sym h) (word_stays (z.registers u into) at (word.Number number))
  effect_stays (call.Get from at) (reply.Number k) a apart free h = subst (CycleStays t z) (sym h.1) (stays_same t z)
  effect_stays (call.Copy to from) reply.Done a apart free h = subst (CycleStays t z) (sym h) (plain _ refl refl)
  effect_stays (call.DropReg reg) reply.Done a apart free h = subst (CycleStays t z) (sym h) (plain _ refl refl)
  effect_stays call.CollectLocal (reply.Reclaimed gone) a apart free h = subst (CycleStays t z) (sym h.1) (gone_stays _ gone.list refl refl (λ q taken. ((h.0.1 q).0 taken).0))
  effect_stays (call.SetRoot root from) reply.Done a apart free h = subst (CycleStays t z) (sym h) (plain _ refl refl)
  effect_stays (call.GetRoot to root) (reply.Block b) a apart free h = subst (CycleStays t z) (sym h.1) (plain _ refl refl)
  effect_stays (call.Retain reg) (reply.Number k) a apart free h = subst (CycleStays t z) (sym h.1) (count_stays (z.registers u reg) k)
  effect_stays (call.Release reg) (reply.Number k) a apart free h = subst (CycleStays t z) (sym h.1) (count_stays (z.registers u reg) k)
  effect_stays (call.Count reg) (reply.Number k) a apart free h = subst (CycleStays t z) (sym h.1) (stays_same t z)
  effect_stays (call.Take to id) (reply.Block i) a apart free h = subst (CycleStays t z) (sym h.1) (plain _ refl refl)
  effect_stays (call.SetAssoc object key value) (reply.Block b) a apart free h = subst (CycleStays t z) (sym h.1) (assoc_stays (z.registers u object) (z.registers u value) key.0)
  effect_stays (call.GetAssoc to object key) (reply.Block b) a apart free h = subst (CycleStays t z) (sym h.1) (plain _ refl refl)
  effect_stays (call.SetWeak loc from) (reply.Block v) a apart free h = subst (CycleStays t z) (sym h.1) (weak_stays (weak_loc z u loc) v)
  effect_stays (call.ReadWeak to loc) (reply.Block b) a apart free h = subst (CycleStays t z) (sym h.1) (plain _ refl refl)
  effect_stays call.Stats (reply.Stats k) a apart free h = subst (CycleStays t z) (sym h.1) (stays_same t z)
  effect_stays (call.Begin mode) reply.Begun a (inl n) free h = cc (n)
  effect_stays (call.Begin mode) reply.Begun a (inr other) free h = record {
    still = λ c has. let no : None ≡ Some c = sym h.0 ∙ has.0 in cc (no);
    before = λ d has. absurd (one_owner a u t _ d other (ap (λ (y : State). y.cycle) h.1, refl) has);
  }
  effect_stays call.Condemn (reply.Condemned r) a (inl n) free h = cc (n)
  effect_stays call.Condemn (reply.Condemned r) a (inr other) free h = neither other a h.0 h.1 (λ d has. one_owner a u t _ d other (ap (λ (y : State). y.cycle) h.4, h.1.1) has)
  effect_stays call.Finalise (reply.Finalised b) a (inl n) free h = cc (n)
  effect_stays call.Finalise (reply.Finalised b) a (inr other) free h = neither other a h.1.0 h.1.1 (λ d has. one_owner a u t h.1.0 d other (ap (λ (y : State). y.cycle) h.3 ∙ (actions_same b (actions_of z b) z).2 ∙ h.1.1.0, h.1.1.1) has)
  effect_stays call.Reclaim (reply.Settled gone kept) a (inl n) free h = cc (n)
  effect_stays call.Reclaim (reply.Settled gone kept) a (inr other) free h = neither other a h.condemned.0 h.condemned.1 (λ d has. let no : None ≡ Some d = sym (ap (λ (y : State). y.cycle) h.does) ∙ has.0 in cc (no))
  effect_stays call.Leave (reply.Reclaimed gone) a apart free h = subst (CycleStays t z) (sym h.does) (gone_stays _ gone.list refl refl (λ q taken. (h.gone_ones.1 q).0 taken))
  effect_stays _ _ a apart free h = absurd h

-- a cycle that sees a state
pub seen_stays : (t : ℕ) (z : State) → CycleStays t z (seen_now z)
seen_stays t z = go z.cycle refl
  where
    alike : (c : Cycle) → SameCycle z (seen_now z) c (with_moment (moment z) c)
    alike c = record {
      owner = elim (is_some c.condemned) as (λ b. (cond b c (record c { moments = moment z ∷ c.moments })).owner ≡ c.owner) [ true ↦ refl | false ↦ refl ];
      mode = elim (is_some c.condemned) as (λ b. (cond b c (record c { moments = moment z ∷ c.moments })).mode ≡ c.mode) [ true ↦ refl | false ↦ refl ];
      start = elim (is_some c.condemned) as (λ b. (cond b c (record c { moments = moment z ∷ c.moments })).start ≡ c.start) [ true ↦ refl | false ↦ refl ];
      condemned = elim (is_some c.condemned) as (λ b. (cond b c (record c { moments = moment z ∷ c.moments })).condemned ≡ c.condemned) [ true ↦ refl | false ↦ refl ];
      left = λ r b is in_r. refl;
    }

    go : (o : Option Cycle) → z.cycle ≡ o → CycleStays t z (seen_now z)
    go None e = record {
      still = λ c has. let no : None ≡ Some c = sym e ∙ has.0 in cc (no);
      before = λ d has. let no : None ≡ Some d = sym (ap (option_map (with_moment (moment z))) e) ∙ has.0 in cc (no);
    }
    go (Some c) e = record {
      still = λ d has. (with_moment (moment z) d, (ap (option_map (with_moment (moment z))) has.0, (alike d).owner ∙ has.1), alike d);
      before = λ d has.
          let same : with_moment (moment z) c ≡ d = some_cycle _ d (sym (ap (option_map (with_moment (moment z))) e) ∙ has.0) in
          (c, (e, sym (alike c).owner ∙ ap (λ (k : Cycle). k.owner) same ∙ has.1), subst (SameCycle z (seen_now z) c) same (alike c));
    }

escape_stays : (t : ℕ) (z : State) → Intact z → (need : BlockId → Bool) → CycleStays t z (with_escaped z need)
escape_stays t z s need = kept t z (with_escaped z need) s refl (λ b out. ap waits_of (got_escaped z need b) ∙ by (need b) (get z.blocks b))
  where
    by : (n : Bool) (o : Option Block) → waits_of (option_map (escape_at z n) o) ≡ waits_of o
    by n None = refl
    by true (Some b) = refl
    by false (Some b) = refl

happens_stays : (z : State) (u t : ℕ) (c : Call) (r : Reply) (a : State) → Intact z → IsApart u t c → get z.blocks (id_of u (z.serials u)) ≡ None → Happens z u c r a → CycleStays t z a
happens_stays z u t c reply.Busy a s apart free h = subst (CycleStays t z) (sym h.1) (stays_same t z)
happens_stays z u t c r a s apart free h = subst (CycleStays t z) (sym h.2) (stays_on t z h.0 (seen_now h.0) (effect_stays z s u t c r h.0 apart free h.1) (seen_stays t h.0))

-- what others do, and calls that are no step of a cycle, leave a thread's cycle
pub step_stays : (z : State) (e : Entry) (a : State) (t : ℕ) → Intact z → AllMade z → Step z e a → IsApart e.thread t e.call → CycleStays t z a
step_stays z e a t s made k apart = by_misuse (misuse_of z e.thread e.call k.need) refl k.does
  where
    by_misuse : (m : Option Misuse) → misuse_of z e.thread e.call k.need ≡ m → MatchOption m (Happens (with_escaped z k.need) e.thread e.call e.reply a) (λ m. (e.reply ≡ reply.Misuse m) × (a ≡ z)) → CycleStays t z a
    by_misuse None right h =
        stays_on t z (with_escaped z k.need) a (escape_stays t z s k.need)
        (happens_stays (with_escaped z k.need) e.thread t e.call e.reply a (escape_intact z s e.thread e.call k.need k.needed right) apart (escaped_made z k.need e.thread (next_free z made e.thread)) h)
    by_misuse (Some m) right h = subst (CycleStays t z) (sym h.1) (stays_same t z)

or_first : (a b : Bool) → (a || b) ≡ false → a ≡ false
or_first true b h = h
or_first false b h = refl

or_second : (a b : Bool) → (a || b) ≡ false → b ≡ false
or_second true b h = cc (h)
or_second false b h = h

pub run_stays : (z : State) (es : List Entry) (a : State) (t : ℕ) → Intact z → AllMade z → Run z es a → NoneOf t es → CycleStays t z a
run_stays z [] a t s made run none = subst (CycleStays t z) (sym run) (stays_same t z)
run_stays z (e ∷ es) a t s made run none =
    stays_on t z run.0 a (step_stays z e run.0 t s made run.1 (inr (or_first (e.thread == t) (list_any (λ e. e.thread == t) es) none)))
    (run_stays run.0 es a t (step_intact z e run.0 s made run.1) (step_made z e run.0 run.1 made) run.2 (or_second (e.thread == t) (list_any (λ e. e.thread == t) es) none))
