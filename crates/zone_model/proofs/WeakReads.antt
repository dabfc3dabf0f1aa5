-- What a readweak replies is what the entries say of the location
use Rattle.std.proofs.Common.{◌≡◌, ℕ, Bool, true, false, List, [], ◌∷◌, Option, Some, None, MatchOption, IsTrue, is_none, is_some, option_map, refl, sym, ap, subst, ◌∙◌, inl, inr}
use Rattle.std.specs.FinMap.{get}
use Rattle.az_base.specs.declared.block_id.BlockId.{BlockId}
use Rattle.az_base.specs.declared.misuse.Misuse.{Misuse}
use Rattle.az_base.specs.declared.misuse.Misuse.TheVariants as misuse
use Rattle.az_base.specs.declared.options.Options.{Options}
use Rattle.az_base.specs.declared.weak_loc.WeakLoc.{WeakLoc}
use Rattle.az_base.specs.declared.weak_loc.WeakLoc.TheVariants as weak
use Rattle.zone_model.specs.declared.call.Call.TheVariants as call
use Rattle.zone_model.specs.declared.call.Loc.{Loc}
use Rattle.zone_model.specs.declared.call.Loc.TheVariants as loc
use Rattle.zone_model.specs.declared.entry.Reply.{Reply}
use Rattle.zone_model.specs.declared.entry.Reply.TheVariants as reply
use Rattle.zone_model.specs.declared.entry.Entry.{Entry}
use Rattle.zone_model.specs.State.{State, is_there}
use Rattle.zone_model.specs.Misuses.{misuse_of, first_of, null_block, no_word, wrong_class}
use Rattle.zone_model.specs.Escape.{Need, with_escaped}
use Rattle.zone_model.specs.Effect.{Effect, weak_loc, weak_value}
use Rattle.zone_model.specs.Step.{Step, Happens}
use Rattle.zone_model.specs.History.{Ends}
use Rattle.zone_model.specs.WeakShows.{WeakShows}
use Rattle.zone_model.specs.Sound.{Sound, Knows}
use Rattle.zone_model.specs.Replies.{replied}
use Rattle.zone_model.proofs.Steps.{tells_none, none_escaped}
use Rattle.zone_model.proofs.Blocks.{there_out, there_inside, own_inside}
use Rattle.zone_model.proofs.Soundness.{ends_sound}
use Rattle.zone_model.proofs.WeakLaws.{shown_where_there}

-- the reply of the call's effect
read_effect : (z : State) (t to : ℕ) (l : Loc) (r : Reply) (mid : State) → Effect z t (call.ReadWeak to l) r mid → (v : Option BlockId) × (r ≡ reply.Block v) × (v ≡ weak_value z (weak_loc z t l))
read_effect z t to l (reply.Block v) mid h = (v, refl, h.0)
read_effect z t to l _ mid h = absurd h

read_happens : (z : State) (t to : ℕ) (l : Loc) (r : Reply) (a : State) → Happens z t (call.ReadWeak to l) r a → (v : Option BlockId) × (r ≡ reply.Block v) × (v ≡ weak_value z (weak_loc z t l))
read_happens z t to l reply.Busy a h = absurd h.0
read_happens z t to l r a h = read_effect z t to l r h.0 h.1

not_null : (a b c : Bool) → first_of ((a, misuse.NullBlock) ∷ (b, misuse.NoWord) ∷ (c, misuse.WrongClass) ∷ (false, misuse.OverRelease) ∷ (false, misuse.CountFull) ∷ (false, misuse.SerialsUsed) ∷ (false, misuse.ZoneFull) ∷ (false, misuse.NotHeld) ∷ []) ≡ None → a ≡ false
not_null true b c h = cc (h)
not_null false b c h = refl

-- the location is there
known_there : (z : State) → Sound z → (t : ℕ) (b : BlockId) → Knows z t b → IsTrue (is_some (get z.blocks b))
known_there z s t b (inl out) = there_out (get z.blocks b) out
known_there z s t b (inr own) = there_inside (get z.blocks b) (own_inside z t b own)

named_there : (z : State) → Sound z → (t to : ℕ) (l : Loc) → null_block z t (call.ReadWeak to l) ≡ false → (w : WeakLoc) × (weak_loc z t l ≡ Some w) × IsTrue (is_there z w)
named_there z s t to (loc.Root w) null = (weak.Root w, refl, refl)
named_there z s t to (loc.Word a at) null = by_register (z.registers t a) refl
  where
    by_register : (o : Option BlockId) → z.registers t a ≡ o → (w : WeakLoc) × (option_map (λ id. weak.Word id at) (z.registers t a) ≡ Some w) × IsTrue (is_there z w)
    by_register None e = let no : true ≡ false = sym (ap is_none e) ∙ null in cc (no)
    by_register (Some id) e = (weak.Word id at, ap (option_map (λ id. weak.Word id at)) e, known_there z s t id (s.names.registers t a id e))

pub weak_read : (o : Options) (history : List Entry) (z a : State) (t to : ℕ) (l : Loc) (r : Reply) → Ends o history z → Step z (replied t (call.ReadWeak to l) r) a → ((m : Misuse) → ¬ (r ≡ reply.Misuse m))
    → (v : Option BlockId) × (w : WeakLoc) × (r ≡ reply.Block v) × (weak_loc z t l ≡ Some w) × WeakShows o history w v
weak_read o history z a t to l r ends step right = by_misuse (misuse_of z t (call.ReadWeak to l) step.need) refl step.does
  where
    nothing : with_escaped z step.need ≡ z
    nothing = ap (with_escaped z) (tells_none step.need (Need z t (call.ReadWeak to l)) step.needed (λ id n. n)) ∙ none_escaped z

    shows : (v : Option BlockId) (w : WeakLoc) → weak_loc z t l ≡ Some w → IsTrue (is_there z w) → v ≡ weak_value z (weak_loc z t l) → WeakShows o history w v
    shows v w at there is = (shown_where_there o history z w v ends there).1 (is ∙ ap (weak_value z) at)

    by_misuse : (m : Option Misuse) → misuse_of z t (call.ReadWeak to l) step.need ≡ m → MatchOption m (Happens (with_escaped z step.need) t (call.ReadWeak to l) r a) (λ m. (r ≡ reply.Misuse m) × (a ≡ z))
        → (v : Option BlockId) × (w : WeakLoc) × (r ≡ reply.Block v) × (weak_loc z t l ≡ Some w) × WeakShows o history w v
    by_misuse (Some m) e h = absurd (right m h.0)
    by_misuse None e h =
        let read = read_happens z t to l r a (subst (λ y. Happens y t (call.ReadWeak to l) r a) nothing h) in
        let there = named_there z (ends_sound o history z ends) t to l (not_null (null_block z t (call.ReadWeak to l)) (no_word z t (call.ReadWeak to l)) (wrong_class z t (call.ReadWeak to l)) e) in
        (read.0, there.0, read.1, there.1, shows read.0 there.0 there.1 there.2 read.2)
