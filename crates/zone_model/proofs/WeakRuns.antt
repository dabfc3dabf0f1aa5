-- What a weak location shows after a run, and the last entry that assigns to it
use Rattle.std.proofs.Common.{◌≡◌, Bool, true, false, cond, ◌||◌, List, [], ◌∷◌, ◌++◌, Option, Some, None, refl, sym, ap, subst, ◌∙◌, ◌⊎◌, inl, inr}
use Rattle.std.specs.List.{list_any}
use Rattle.std.specs.FinMap.{get, get-empty}
use Rattle.az_base.specs.declared.block_id.BlockId.{BlockId}
use Rattle.az_base.specs.declared.options.Options.{Options}
use Rattle.az_base.specs.declared.weak_loc.WeakLoc.{WeakLoc}
use Rattle.az_base.specs.Places.{loc_cmp}
use Rattle.zone_model.specs.declared.entry.Reply.{Reply}
use Rattle.zone_model.specs.declared.entry.Reply.TheVariants as reply
use Rattle.zone_model.specs.declared.entry.Entry.{Entry}
use Rattle.zone_model.specs.State.{State, is_word_of, is_condemned, opening}
use Rattle.zone_model.specs.Effect.{value_to_show}
use Rattle.zone_model.specs.Step.{Step}
use Rattle.zone_model.specs.History.{Run, Ends}
use Rattle.zone_model.specs.WeakShows.{Assigns, NoneAssigns, LastAssigned, WeakShows, lists_condemned, left_of}
use Rattle.zone_model.proofs.Determined.{step_determined, run_determined}
use Rattle.zone_model.proofs.WeakSteps.{assigned_loc, assigned_value, does_assign, assigns_there, left_after, same_or_other, step_leaves, step_assigns}

-- a run of two lists has a state between them
pub run_parts : (z : State) (es more : List Entry) (after : State) → Run z (es ++ more) after → (mid : State) × Run z es mid × Run mid more after
run_parts z [] more after h = (z, refl, h)
run_parts z (e ∷ es) more after h = let rest = run_parts h.0 es more after h.2 in (rest.0, (h.0, h.1, rest.1), rest.2)

none_first : (z : State) (e : Entry) (es : List Entry) (l : WeakLoc) → NoneAssigns z (e ∷ es) l → (v : Option BlockId) → Assigns z e l v → ⊥
none_first z e es l none v = none [] e es z refl refl v

none_rest : (z : State) (e : Entry) (es : List Entry) (mid : State) (l : WeakLoc) → NoneAssigns z (e ∷ es) l → Step z e mid → NoneAssigns mid es l
none_rest z e es mid l none step before d later m split run v = none (e ∷ before) d later m (ap (λ x. e ∷ x) split) (mid, step, run) v

-- what the location shows after entries that don't assign to it
abbrev pub left_by : WeakLoc → List Entry → Option BlockId → Option BlockId
left_by l [] shown = shown
left_by l (e ∷ es) shown = left_by l es (left_after l e.reply shown)

pub run_leaves : (z : State) (es : List Entry) (after : State) (l : WeakLoc) → Run z es after → NoneAssigns z es l → get after.weak l ≡ left_by l es (get z.weak l)
run_leaves z [] after l run none = ap (λ (y : State). get y.weak l) run
run_leaves z (e ∷ es) after l run none =
    run_leaves run.0 es after l run.2 (none_rest z e es run.0 l none run.1)
    ∙ ap (left_by l es) (step_leaves z e run.0 l run.1 (none_first z e es l none))

-- a Reclaim that replies this takes the location away with its block
abbrev pub takes : WeakLoc → Reply → Bool
takes l (reply.Settled gone kept) = is_word_of gone.list l
takes l _ = false

null_after : (l : WeakLoc) (r : Reply) → left_after l r None ≡ None
null_after l (reply.Settled gone kept) = elim (is_word_of gone.list l) as (λ b. cond {A = Option BlockId} b None None ≡ None) [ true ↦ refl | false ↦ refl ]
null_after l _ = refl

-- null stays null
pub null_by : (l : WeakLoc) (es : List Entry) → left_by l es None ≡ None
null_by l [] = refl
null_by l (e ∷ es) = ap (left_by l es) (null_after l e.reply) ∙ null_by l es

block_after : (l : WeakLoc) (r : Reply) (b : BlockId) → takes l r ≡ false → left_after l r (Some b) ≡ cond (lists_condemned b r) None (Some b)
block_after l (reply.Settled gone kept) b h = ap (λ t. cond t None (Some b)) h
block_after l _ b h = refl

pub or_first : (a b : Bool) → (a || b) ≡ false → a ≡ false
or_first true b h = h
or_first false b h = refl

pub or_second : (a b : Bool) → (a || b) ≡ false → b ≡ false
or_second true b h = cc (h)
or_second false b h = h

-- a block stays shown until a Condemn lists it, where the location stays
pub block_by : (l : WeakLoc) (es : List Entry) (b : BlockId) → list_any (λ e. takes l e.reply) es ≡ false → left_by l es (Some b) ≡ cond (list_any (λ e. lists_condemned b e.reply) es) None (Some b)
block_by l [] b stays = refl
block_by l (e ∷ es) b stays = ap (left_by l es) (block_after l e.reply b (or_first (takes l e.reply) (list_any (λ e. takes l e.reply) es) stays)) ∙ by_list (lists_condemned b e.reply) (block_by l es b (or_second (takes l e.reply) (list_any (λ e. takes l e.reply) es) stays))
  where
    by_list : (c : Bool) → left_by l es (Some b) ≡ cond (list_any (λ e. lists_condemned b e.reply) es) None (Some b) → left_by l es (cond c None (Some b)) ≡ cond (c || list_any (λ e. lists_condemned b e.reply) es) None (Some b)
    by_list true rest = null_by l es
    by_list false rest = rest

-- what is left of what was assigned, where the location stays
pub assigned_by : (z : State) (l : WeakLoc) (later : List Entry) (v : Option BlockId) → list_any (λ e. takes l e.reply) later ≡ false → left_by l later (value_to_show z v) ≡ left_of z later v
assigned_by z l later None stays = null_by l later
assigned_by z l later (Some b) stays = by_cycle (is_condemned z b)
  where
    by_cycle : (c : Bool) → left_by l later (cond c None (Some b)) ≡ cond (c || list_any (λ e. lists_condemned b e.reply) later) None (Some b)
    by_cycle true = null_by l later
    by_cycle false = block_by l later b stays

module _ (o : Options) (history : List Entry) (z : State) (l : WeakLoc) (ends : Ends o history z) where
  -- a location to which nothing was assigned shows null
  pub none_shows : NoneAssigns (opening o) history l → get z.weak l ≡ None
  none_shows none = run_leaves (opening o) history z l ends none ∙ ap (left_by l history) (get-empty loc_cmp l) ∙ null_by l history

  -- one that stays shows what is left of what was last assigned
  pub last_shows : (s : State) (v : Option BlockId) (later : List Entry) → LastAssigned o history l s v later → list_any (λ e. takes l e.reply) later ≡ false → get z.weak l ≡ left_of s later v
  last_shows s v later last stays =
      let parts = run_parts (opening o) last.before (last.e ∷ later) z (subst (λ es. Run (opening o) es z) last.split ends) in
      let same : parts.0 ≡ s = run_determined (opening o) last.before parts.0 s parts.1 last.reaches in
      let next = subst (λ y. Run y (last.e ∷ later) z) same parts.2 in
      let run = subst (λ y. Run y later z) (step_determined s last.e next.0 last.mid next.1 last.step) next.2 in
      run_leaves last.mid later z l run last.none_later
      ∙ ap (left_by l later) (step_assigns s last.e last.mid l v last.step last.assigns)
      ∙ assigned_by s l later v stays

-- in a run, the last entry that assigns to the location, with the state before it, what it assigns, and what follows
pub record LastIn (z : State) (es : List Entry) (l : WeakLoc) : Type 0 where
  pub before : List Entry
  pub e : Entry
  pub later : List Entry
  pub s : State
  pub mid : State
  pub v : Option BlockId
  pub split : es ≡ before ++ e ∷ later
  pub reaches : Run z before s
  pub step : Step s e mid
  pub assigns : Assigns s e l v
  pub none_later : NoneAssigns mid later l

assigns_or_not : (z : State) (e : Entry) (l : WeakLoc) → Assigns z e l (assigned_value z e.thread e.call) ⊎ ((v : Option BlockId) → Assigns z e l v → ⊥)
assigns_or_not z e l = by_loc (assigned_loc z e.thread e.call e.reply) refl
  where
    by_place : (k : WeakLoc) → assigned_loc z e.thread e.call e.reply ≡ Some k → (k ≡ l) ⊎ ((k ≡ l) → ⊥) → Assigns z e l (assigned_value z e.thread e.call) ⊎ ((v : Option BlockId) → Assigns z e l v → ⊥)
    by_place k is (inl same) = inl (does_assign z e.thread e.call e.reply l (is ∙ ap Some same))
    by_place k is (inr other) = inr (λ v a. let both : Some k ≡ Some l = sym is ∙ assigns_there z e l v a in other (cc (both)))

    by_loc : (k : Option WeakLoc) → assigned_loc z e.thread e.call e.reply ≡ k → Assigns z e l (assigned_value z e.thread e.call) ⊎ ((v : Option BlockId) → Assigns z e l v → ⊥)
    by_loc None is = inr (λ v a. let both : None ≡ Some l = sym is ∙ assigns_there z e l v a in cc (both))
    by_loc (Some k) is = by_place k is (same_or_other l k)

none_at_end : (z : State) (l : WeakLoc) → NoneAssigns z [] l
none_at_end z l [] e later mid split run v a = cc (split)
none_at_end z l (d ∷ before) e later mid split run v a = cc (split)

none_before : (z : State) (e : Entry) (es : List Entry) (mid : State) (l : WeakLoc) → Step z e mid → ((v : Option BlockId) → Assigns z e l v → ⊥) → NoneAssigns mid es l → NoneAssigns z (e ∷ es) l
none_before z e es mid l step first rest [] d later m split run v a =
    let same : d ≡ e = cc (split) in
    first v (subst (λ (y : State). Assigns y e l v) run (subst (λ d. Assigns m d l v) same a))
none_before z e es mid l step first rest (c ∷ before) d later m split run v a =
    let same : c ≡ e = cc (split) in
    let tail : es ≡ before ++ d ∷ later = cc (split) in
    rest before d later m tail (subst (λ y. Run y before m) (step_determined z e run.0 mid (subst (λ c. Step z c run.0) same run.1) step) run.2) v a

-- an entry of a run is the last that assigns to the location, or none does
pub last_or_none : (z : State) (es : List Entry) (after : State) (l : WeakLoc) → Run z es after → LastIn z es l ⊎ NoneAssigns z es l
last_or_none z [] after l run = inr (none_at_end z l)
last_or_none z (e ∷ es) after l run = elim (last_or_none run.0 es after l run.2) as (λ _. LastIn z (e ∷ es) l ⊎ NoneAssigns z (e ∷ es) l) [
  | inl last ↦ inl (record { before = e ∷ last.before; e = last.e; later = last.later; s = last.s; mid = last.mid; v = last.v; split = ap (λ x. e ∷ x) last.split; reaches = (run.0, run.1, last.reaches); step = last.step; assigns = last.assigns; none_later = last.none_later })
  | inr none ↦ by_first none (assigns_or_not z e l)
]
  where
    by_first : NoneAssigns run.0 es l → Assigns z e l (assigned_value z e.thread e.call) ⊎ ((v : Option BlockId) → Assigns z e l v → ⊥) → LastIn z (e ∷ es) l ⊎ NoneAssigns z (e ∷ es) l
    by_first none (inl a) = inl (record { before = []; e = e; later = es; s = z; mid = run.0; v = assigned_value z e.thread e.call; split = refl; reaches = refl; step = run.1; assigns = a; none_later = none })
    by_first none (inr first) = inr (none_before z e es run.0 l run.1 first none)

-- something is what the entries say of a location
pub shows_something : (o : Options) (history : List Entry) (z : State) (l : WeakLoc) → Ends o history z → (v : Option BlockId) × WeakShows o history l v
shows_something o history z l ends = by (last_or_none (opening o) history z l ends)
  where
    by : LastIn (opening o) history l ⊎ NoneAssigns (opening o) history l → (v : Option BlockId) × WeakShows o history l v
    by (inl last) = (left_of last.s last.later last.v, inr (last.s, last.v, last.later, record { before = last.before; e = last.e; mid = last.mid; split = last.split; reaches = last.reaches; step = last.step; assigns = last.assigns; none_later = last.none_later }, refl))
    by (inr none) = (None, inl (none, refl))
