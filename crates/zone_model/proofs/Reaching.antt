-- Each step keeps that an open cycle keeps what it has reached
use Rattle.std.proofs.Common.{◌≡◌, ℕ, Bool, true, false, Option, Some, None, MatchOption, refl, sym, subst, ◌∙◌, ◌⊎◌, inl, inr}
use Rattle.az_base.specs.declared.action.Mode.{Mode}
use Rattle.az_base.specs.declared.block_id.BlockId.{BlockId}
use Rattle.az_base.specs.declared.misuse.Misuse.{Misuse}
use Rattle.zone_model.specs.declared.call.Call.{Call}
use Rattle.zone_model.specs.declared.call.Call.TheVariants as call
use Rattle.zone_model.specs.declared.entry.Entry.{Entry}
use Rattle.zone_model.specs.declared.entry.Reply.{Reply}
use Rattle.zone_model.specs.declared.entry.Reply.TheVariants as reply
use Rattle.zone_model.specs.State.{State, moment, with_cycle}
use Rattle.zone_model.specs.Collection.{new_cycle, actions_of}
use Rattle.zone_model.specs.Effect.{Effect}
use Rattle.zone_model.specs.Escape.{with_escaped}
use Rattle.zone_model.specs.Misuses.{misuse_of}
use Rattle.zone_model.specs.Step.{Step, Happens, seen_now}
use Rattle.zone_model.specs.History.{is_cycle_step}
use Rattle.zone_model.specs.Reached.{KeepsReached, OpenReached, IsRooted}
use Rattle.zone_model.proofs.Made.{actions_same}
use Rattle.zone_model.proofs.Intact.{Intact}
use Rattle.zone_model.proofs.Blocks.{out_or_inside}
use Rattle.zone_model.proofs.CycleCalls.{effect_cycle}
use Rattle.zone_model.proofs.Moments.{seeing, the_cycle, any_cycle, keeps_opening, open_after, open_condemned, open_closed}
use Rattle.zone_model.proofs.ReachedChanges.{effect_adds, keeps_escaped}
use Rattle.zone_model.proofs.IntactEscapes.{escape_intact}

-- edges lead from blocks that are there
pub edges_rooted : (z : State) → Intact z → IsRooted z
edges_rooted z s a b (inl (block, i, here, is)) = out_or_inside (_) block here
edges_rooted z s a b (inr (key, is)) = inl (s.names.objects a key b is)

begin_reached : (z : State) (t : ℕ) (m : Mode) (r : Reply) (mid : State) → IsRooted z → Effect z t (call.Begin m) r mid → OpenReached (seen_now mid)
begin_reached z t m reply.Begun mid rooted h = subst (λ y. OpenReached (seen_now y)) (sym h.1) (λ c is uncondemned.
    any_cycle z (seen_now (with_cycle z (Some (new_cycle z t m)))).cycle c (subst (KeepsReached z) (the_cycle (seeing (moment z) (new_cycle z t m)) c is) (keeps_opening z t m rooted)))
begin_reached z t m _ mid rooted h = absurd h

condemn_reached : (z : State) (t : ℕ) (r : Reply) (mid : State) → Effect z t call.Condemn r mid → OpenReached (seen_now mid)
condemn_reached z t (reply.Condemned r) mid h = subst (λ y. OpenReached (seen_now y)) (sym h.4) (open_condemned _ r.list (record h.0 { condemned = Some r.list }) refl refl)
condemn_reached z t _ mid h = absurd h

finalise_reached : (z : State) (t : ℕ) (r : Reply) (mid : State) → Effect z t call.Finalise r mid → OpenReached (seen_now mid)
finalise_reached z t (reply.Finalised b) mid h = subst (λ y. OpenReached (seen_now y)) (sym h.3) (open_condemned _ h.0 h.1.0 ((actions_same b (actions_of z b) z).2 ∙ h.1.1.0) h.1.2)
finalise_reached z t _ mid h = absurd h

reclaim_reached : (z : State) (t : ℕ) (r : Reply) (mid : State) → Effect z t call.Reclaim r mid → OpenReached (seen_now mid)
reclaim_reached z t (reply.Settled gone kept) mid h = subst (λ y. OpenReached (seen_now y)) (sym h.does) (open_closed _ refl)
reclaim_reached z t _ mid h = absurd h

-- which calls are steps of a cycle
cycle_call : (c : Call) → is_cycle_step c ≡ true → ((m : Mode) × (c ≡ call.Begin m)) ⊎ ((c ≡ call.Condemn) ⊎ ((c ≡ call.Finalise) ⊎ (c ≡ call.Reclaim)))
cycle_call (call.Begin m) e = inl (m, refl)
cycle_call call.Condemn e = inr (inl refl)
cycle_call call.Finalise e = inr (inr (inl refl))
cycle_call call.Reclaim e = inr (inr (inr refl))
cycle_call _ e = cc (e)

effect_reached : (z : State) (t : ℕ) (c : Call) (r : Reply) (mid : State) → IsRooted z → OpenReached z → Effect z t c r mid → OpenReached (seen_now mid)
effect_reached z t c r mid rooted was h = by_call (is_cycle_step c) refl
  where
    by_call : (b : Bool) → is_cycle_step c ≡ b → OpenReached (seen_now mid)
    by_call true e = elim (cycle_call c e) [
      | inl x ↦ begin_reached z t x.0 r mid rooted (subst (λ c. Effect z t c r mid) x.1 h)
      | inr (inl x) ↦ condemn_reached z t r mid (subst (λ c. Effect z t c r mid) x h)
      | inr (inr (inl x)) ↦ finalise_reached z t r mid (subst (λ c. Effect z t c r mid) x h)
      | inr (inr (inr x)) ↦ reclaim_reached z t r mid (subst (λ c. Effect z t c r mid) x h)
    ]
    by_call false e = open_after z mid (λ k. effect_adds z t c r mid k e h) (effect_cycle z t c r mid e h) was

happens_reached : (z : State) (t : ℕ) (c : Call) (r : Reply) (after : State) → IsRooted z → OpenReached z → Happens z t c r after → OpenReached after
happens_reached z t c reply.Busy after rooted was h = subst OpenReached (sym h.1) was
happens_reached z t c r after rooted was h = subst OpenReached (sym h.2) (effect_reached z t c r h.0 rooted was h.1)

-- an escape
pub escape_reached : (z : State) (need : BlockId → Bool) → OpenReached z → OpenReached (with_escaped z need)
escape_reached z need was c is uncondemned = keeps_escaped z need c (was c is uncondemned)

-- each step
pub step_reached : (z : State) (e : Entry) (after : State) → Intact z → OpenReached z → Step z e after → OpenReached after
step_reached z e after s was k = by_misuse (misuse_of z e.thread e.call k.need) refl k.does
  where
    by_misuse : (m : Option Misuse) → misuse_of z e.thread e.call k.need ≡ m → MatchOption m (Happens (with_escaped z k.need) e.thread e.call e.reply after) (λ m. (e.reply ≡ reply.Misuse m) × (after ≡ z)) → OpenReached after
    by_misuse None right h =
        happens_reached (with_escaped z k.need) e.thread e.call e.reply after
        (edges_rooted (with_escaped z k.need) (escape_intact z s e.thread e.call k.need k.needed right)) (escape_reached z k.need was) h
    by_misuse (Some m) right h = subst OpenReached (sym h.1) was
