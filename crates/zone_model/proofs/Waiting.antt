-- Local entries are steps whatever others published in between
use Rattle.std.proofs.Common.{◌≡◌, ℕ, ◌==◌, true, false, List, [], ◌∷◌, ◌++◌, Option, Some, None, MatchOption, refl, sym, ap, subst, ◌∙◌, not}
use Rattle.std.specs.FinMap.{same_map}
use Rattle.az_base.specs.declared.block_id.BlockId.{BlockId}
use Rattle.az_base.specs.declared.options.Options.{Options}
use Rattle.az_base.specs.declared.misuse.Misuse.{Misuse}
use Rattle.az_base.specs.Ids.{ids_total, exact_ids}
use Rattle.zone_model.specs.declared.call.Call.{Call}
use Rattle.zone_model.specs.declared.call.Call.TheVariants as call
use Rattle.zone_model.specs.declared.entry.Reply.{Reply}
use Rattle.zone_model.specs.declared.entry.Reply.TheVariants as reply
use Rattle.zone_model.specs.declared.entry.Entry.{Entry}
use Rattle.zone_model.specs.State.{State, opening}
use Rattle.zone_model.specs.Escape.{Tells}
use Rattle.zone_model.specs.History.{Run, Ends, Legal}
use Rattle.zone_model.specs.Part.{Part, part_of, is_local, leave_part, part_after, NeedWithin, PartStep, PartRun}
use Rattle.zone_model.proofs.Made.{AllMade, step_made}
use Rattle.zone_model.proofs.Intact.{Intact}
use Rattle.zone_model.specs.LocalSteps.{LocalStep, LocalRun, Replies, misuse_within}
use Rattle.zone_model.specs.Waits.{Waiter, Waits, Others, waiting_of}
use Rattle.zone_model.proofs.Blocks.{left_get}
use Rattle.zone_model.proofs.IntactSteps.{step_intact, ends_intact}
use Rattle.zone_model.proofs.PartSteps.{step_others}
use Rattle.zone_model.specs.SameShared.{SameShared}
use Rattle.zone_model.proofs.LocalCalls.{local_step}
use Rattle.zone_model.proofs.Sharing.{same_shared, shared_on, step_shared}

-- a run goes on by another
pub run_append : (z : State) (es : List Entry) (mid : State) (later : List Entry) (after : State) → Run z es mid → Run mid later after → Run z (es ++ later) after
run_append z [] mid later after r s = subst (λ y. Run y later after) r s
run_append z (e ∷ es) mid later after r s = (r.0, r.1, run_append r.0 es mid later after r.2 s)

-- where a run of one thread's local entries ends
pub record LocalEnd (z : State) (t : ℕ) (es : List Entry) (last : Part) : Type 0 where
  pub after : State
  pub run : Run z es after
  pub sound : Intact after
  pub made : AllMade after
  pub part : part_of after t ≡ last
  pub others : (u : ℕ) → (t == u) ≡ false → part_of after u ≡ part_of z u
  pub shared : SameShared z after

pub local_run : (z : State) (t : ℕ) (es : List Entry) (last : Part) → Intact z → AllMade z → LocalRun (part_of z t) t es last → LocalEnd z t es last
local_run z t [] last s made run = record { after = z; run = refl; sound = s; made = made; part = sym run; others = λ u other. refl; shared = same_shared z t }
local_run z t (e ∷ es) last s made run =
    let first = local_step z s made t e run.0 run.1 in
    let rest = local_run first.0 t es last (step_intact z e first.0 s made first.1) (step_made z e first.0 first.1 made) (subst (λ p. LocalRun p t es last) (sym first.2) run.2) in
    record {
      after = rest.after;
      run = (first.0, first.1, rest.run);
      sound = rest.sound;
      made = rest.made;
      part = rest.part;
      others = λ u other. rest.others u other ∙ step_others z e first.0 s made first.1 u (ap (λ n. n == u) run.1.thread ∙ other);
      shared = shared_on z first.0 rest.after (step_shared z s made e first.0 first.1 (ap (λ u. is_local (part_of z u) e.call) run.1.thread ∙ run.1.local)) rest.shared;
    }

-- the key: waiting entries, local from the thread's part on, are steps after any legal history with this part
pub waiting_legal : (o : Options) (history : List Entry) (z : State) (t : ℕ) (es : List Entry) (last : Part) → Ends o history z → LocalRun (part_of z t) t es last
    → (after : State) × Ends o (history ++ es) after × (part_of after t ≡ last) × ((u : ℕ) → (t == u) ≡ false → part_of after u ≡ part_of z u) × SameShared z after
waiting_legal o history z t es last ends run =
    let sound = ends_intact o history z ends in
    let reached = local_run z t es last sound.0 sound.1 run in
    (reached.after, run_append (opening o) history z es reached.after ends reached.run, reached.part, reached.others, reached.shared)

-- and so are those of all threads, in any order of the threads
pub all_waiting : (z : State) (ws : List Waiter) → Intact z → AllMade z → Waits z ws → (after : State) × Run z (waiting_of ws) after
all_waiting z [] s made waits = (z, refl)
all_waiting z (w ∷ ws) s made waits =
    let first = local_run z w.0 w.1 waits.0.0 s made waits.0.1 in
    let rest = all_waiting first.after ws first.sound first.made (still ws first.after waits.1 waits.2 first.others) in
    (rest.0, run_append z w.1 first.after (waiting_of ws) rest.0 first.run rest.1)
  where
    still : (us : List Waiter) (y : State) → Others w.0 us → Waits z us → ((u : ℕ) → (w.0 == u) ≡ false → part_of y u ≡ part_of z u) → Waits y us
    still [] y other k same = tt
    still (u ∷ us) y other k same = ((k.0.0, subst (λ p. LocalRun p u.0 u.1 k.0.0) (sym (same u.0 other.0)) k.0.1), k.1, still us y other.1 k.2 same)

pub all_waiting_legal : (o : Options) (history : List Entry) (z : State) (ws : List Waiter) → Ends o history z → Waits z ws → Legal o (history ++ waiting_of ws)
all_waiting_legal o history z ws ends waits =
    let sound = ends_intact o history z ends in
    let reached = all_waiting z ws sound.0 sound.1 waits in
    (reached.0, run_append (opening o) history z (waiting_of ws) reached.0 ends reached.1)

-- one entry more waits
pub local_run_more : (p : Part) (t : ℕ) (es : List Entry) (mid : Part) (e : Entry) (after : Part) → LocalRun p t es mid → LocalStep mid t e after → LocalRun p t (es ++ e ∷ []) after
local_run_more p t [] mid e after run step = (after, subst (λ q. LocalStep q t e after) run step, refl)
local_run_more p t (d ∷ es) mid e after run step = (run.0, run.1, local_run_more run.0 t es mid e after run.2 step)

-- where no block leaves, the part stays
none_left : (p : Part) → leave_part p (λ _. false) ≡ p
none_left p = ap (λ m. record p { blocks = m }) (same_map ids_total exact_ids _ _ (λ q. left_get p.blocks (λ _. false) q))

local_needs_none : (p : Part) (c : Call) → is_local p c ≡ true → (id : BlockId) → NeedWithin p c id → ⊥
local_needs_none p (call.Store into at from) h id n = let no : false ≡ true = sym (ap not h) ∙ n.0 in cc (no)
local_needs_none p (call.SetRoot root from) h id n = cc (h)
local_needs_none p (call.Retain reg) h id n = cc (h)
local_needs_none p (call.SetAssoc object key value) h id n = cc (h)
local_needs_none p (call.SetWeak loc from) h id n = cc (h)
local_needs_none p _ h id n = absurd n

tells_nothing : (p : Part) (c : Call) → is_local p c ≡ true → Tells (λ _. false) (NeedWithin p c)
tells_nothing p c h id = (λ no. cc (no), λ n. absurd (local_needs_none p c h id n))

replied_own : (p : Part) (t : ℕ) (c : Call) (r : Reply) (after : Part) → is_local p c ≡ true → Replies p t c r → after ≡ part_after p c r → PartStep p c r after
replied_own p t call.CollectLocal (reply.Misuse m) after h k is = absurd k
replied_own p t _ (reply.Misuse m) after h k is = absurd k
replied_own p t call.CollectLocal reply.Busy after h k is = absurd k
replied_own p t _ reply.Busy after h k is = absurd k
replied_own p t c r after h k is = ((λ _. false), tells_nothing p c h, is ∙ sym (ap (λ q. part_after q c r) (none_left p)))

-- a local entry changes the part as the definitions say that its own entries do
pub local_own : (p : Part) (t : ℕ) (e : Entry) (after : Part) → LocalStep p t e after → PartStep p e.call e.reply after
local_own p t e after k = by_misuse (misuse_within p e.call) k.does
  where
    by_misuse : (m : Option Misuse) → MatchOption m (Replies p t e.call e.reply × (after ≡ part_after p e.call e.reply)) (λ m. (e.reply ≡ reply.Misuse m) × (after ≡ p)) → PartStep p e.call e.reply after
    by_misuse None h = replied_own p t e.call e.reply after k.local h.0 h.1
    by_misuse (Some m) h = subst (λ r. PartStep p e.call r after) (sym h.0) h.1

-- so the part after waiting entries is what the thread's entries make of it
pub waiting_own : (p : Part) (t : ℕ) (es : List Entry) (last : Part) → LocalRun p t es last → PartRun p es last
waiting_own p t [] last run = run
waiting_own p t (e ∷ es) last run = (run.0, local_own p t e run.0 run.1, waiting_own run.0 t es last run.2)
