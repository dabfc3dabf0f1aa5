-- Weak locations show what the entries say of them
use Rattle.std.proofs.Common.{◌≡◌, ◌↔◌, ℕ, Bool, true, false, ◌||◌, List, [], ◌∷◌, ◌++◌, Option, Some, None, MatchOption, IsTrue, refl, sym, ap, subst, ◌∙◌, inl, inr}
use Rattle.std.specs.List.{list_any}
use Rattle.std.proofs.lemmas.List.Folds.{list_any-append}
use Rattle.std.specs.FinMap.{get}
use Rattle.az_base.specs.declared.block_id.BlockId.{BlockId}
use Rattle.az_base.specs.declared.misuse.Misuse.{Misuse}
use Rattle.az_base.specs.declared.options.Options.{Options}
use Rattle.az_base.specs.declared.weak_loc.WeakLoc.{WeakLoc}
use Rattle.az_base.specs.declared.weak_loc.WeakLoc.TheVariants as weak
use Rattle.az_base.specs.Ids.{among}
use Rattle.zone_model.specs.declared.call.Call.{Call}
use Rattle.zone_model.specs.declared.call.Call.TheVariants as call
use Rattle.zone_model.specs.declared.entry.Reply.{Reply}
use Rattle.zone_model.specs.declared.entry.Reply.TheVariants as reply
use Rattle.zone_model.specs.declared.entry.Entry.{Entry}
use Rattle.zone_model.specs.State.{State, opening, is_there}
use Rattle.zone_model.specs.Escape.{with_escaped}
use Rattle.zone_model.specs.Misuses.{misuse_of}
use Rattle.zone_model.specs.Effect.{Effect}
use Rattle.zone_model.specs.Step.{Step, Happens}
use Rattle.zone_model.specs.History.{Run, Ends, NoCollection, is_cycle_step}
use Rattle.zone_model.specs.WeakShows.{WeakShows}
use Rattle.zone_model.proofs.Made.{AllMade, opening_made, step_made, step_grows, stays_made, step_gone, gone_for_good}
use Rattle.zone_model.proofs.WeakRuns.{takes, or_first, or_second, none_shows, last_shows, shows_something}

effect_takes : (z : State) (t : ℕ) (c : Call) (r : Reply) (a : State) (l : WeakLoc) → Effect z t c r a → is_cycle_step c ≡ false → takes l r ≡ false
effect_takes z t call.Reclaim (reply.Settled gone kept) a l h none = cc (none)
effect_takes z t c (reply.Settled gone kept) a l h none = absurd h
effect_takes z t c r a l h none = refl

happens_takes : (z : State) (t : ℕ) (c : Call) (r : Reply) (a : State) (l : WeakLoc) → Happens z t c r a → is_cycle_step c ≡ false → takes l r ≡ false
happens_takes z t c reply.Busy a l h none = refl
happens_takes z t c r a l h none = effect_takes z t c r h.0 l h.1 none

step_takes : (z : State) (e : Entry) (after : State) (l : WeakLoc) → Step z e after → is_cycle_step e.call ≡ false → takes l e.reply ≡ false
step_takes z e after l s none = by_misuse (misuse_of z e.thread e.call s.need) s.does
  where
    by_misuse : (m : Option Misuse) → MatchOption m (Happens (with_escaped z s.need) e.thread e.call e.reply after) (λ m. (e.reply ≡ reply.Misuse m) × (after ≡ z)) → takes l e.reply ≡ false
    by_misuse None h = happens_takes (with_escaped z s.need) e.thread e.call e.reply after l h none
    by_misuse (Some m) h = ap (takes l) h.0

both_false : (a b : Bool) → a ≡ false → b ≡ false → (a || b) ≡ false
both_false true b h k = h
both_false false b h k = k

-- without a collection no location is taken away
run_takes : (z : State) (es : List Entry) (after : State) (l : WeakLoc) → Run z es after → NoCollection es → list_any (λ e. takes l e.reply) es ≡ false
run_takes z [] after l run none = refl
run_takes z (e ∷ es) after l run none =
    both_false (takes l e.reply) (list_any (λ e. takes l e.reply) es)
    (step_takes z e run.0 l run.1 (or_first (is_cycle_step e.call) (list_any (λ e. is_cycle_step e.call) es) none))
    (run_takes run.0 es after l run.2 (or_second (is_cycle_step e.call) (list_any (λ e. is_cycle_step e.call) es) none))

-- what no entry of a history does, no later one does
none_later : (p : Entry → Bool) (history before : List Entry) (e : Entry) (later : List Entry) → history ≡ before ++ e ∷ later → list_any p history ≡ false → list_any p later ≡ false
none_later p history before e later split none =
    or_second (p e) (list_any p later) (or_second (list_any p before) (list_any p (e ∷ later)) (sym (list_any-append p before (e ∷ later)) ∙ ap (list_any p) (sym split) ∙ none))

there_untaken : (z : State) (e : Entry) (mid : State) (es : List Entry) (after : State) (l : WeakLoc) (r : Reply) → e.reply ≡ r → AllMade z → Step z e mid → Run mid es after → IsTrue (is_there after l) → takes l r ≡ false
there_untaken z e mid es after (weak.Root w) (reply.Settled gone kept) says made step run there = refl
there_untaken z e mid es after (weak.Word b i) (reply.Settled gone kept) says made step run there = by_test (among gone.list b) refl
  where
    by_test : (t : Bool) → among gone.list b ≡ t → t ≡ false
    by_test false is = refl
    by_test true is =
        let parts = step_gone z e mid gone kept b step says is in
        absurd (gone_for_good mid es after b run (stays_made z mid (step_grows z e mid step) b (made b parts.0)) parts.1 there)
there_untaken z e mid es after l r says made step run there = refl

-- a location that is there at the end wasn't taken away
run_untaken : (z : State) (es : List Entry) (after : State) (l : WeakLoc) → AllMade z → Run z es after → IsTrue (is_there after l) → list_any (λ e. takes l e.reply) es ≡ false
run_untaken z [] after l made run there = refl
run_untaken z (e ∷ es) after l made run there =
    both_false (takes l e.reply) (list_any (λ e. takes l e.reply) es)
    (there_untaken z e run.0 es after l e.reply refl made run.1 run.2 there)
    (run_untaken run.0 es after l (step_made z e run.0 run.1 made) run.2 there)

module _ (o : Options) (history : List Entry) (z : State) (l : WeakLoc) (v : Option BlockId) (ends : Ends o history z) where
  shown : list_any (λ e. takes l e.reply) history ≡ false → (w : Option BlockId) → WeakShows o history l w → w ≡ get z.weak l
  shown stays w (inl never) = never.1 ∙ sym (none_shows o history z l ends never.0)
  shown stays w (inr last) = last.4 ∙ sym (last_shows o history z l ends last.0 last.1 last.2 last.3
      (none_later (λ e. takes l e.reply) history last.3.before last.3.e last.2 last.3.split stays))

  -- what the entries say of a location that no Reclaim takes away is what the state shows there
  exactly : list_any (λ e. takes l e.reply) history ≡ false → WeakShows o history l v ↔ (v ≡ get z.weak l)
  exactly stays =
      let some = shows_something o history z l ends in
      (shown stays v, λ same. subst (WeakShows o history l) (shown stays some.0 some.1 ∙ sym same) some.1)

  -- so it is where the location is there
  pub shown_where_there : IsTrue (is_there z l) → WeakShows o history l v ↔ (v ≡ get z.weak l)
  shown_where_there there = exactly (run_untaken (opening o) history z l (opening_made o) ends there)

  -- and without a collection for each location
  pub shown_without_collections : NoCollection history → WeakShows o history l v ↔ (v ≡ get z.weak l)
  shown_without_collections none = exactly (run_takes (opening o) history z l ends none)
