-- Each step keeps a state sound
use Rattle.std.proofs.Common.{◌≡◌, ◌++◌, ◌≤◌, ◌||◌, ℕ, true, false, Bool, Option, Some, None, List, [], ◌∷◌, refl, sym, ap, subst, ◌∙◌, ◌⊎◌, inl, inr, is_some, option_and_then, IsTrue, IsFalse, ◌+◌}
use Rattle.std.specs.Option.{option_map_or}
use Rattle.std.specs.FinMap.{get}
use Rattle.az_base.specs.declared.block_id.BlockId.{BlockId}
use Rattle.az_base.specs.declared.options.Options.{Options}
use Rattle.az_base.specs.Ids.{among}
use Rattle.zone_model.specs.declared.entry.Entry.{Entry}
use Rattle.zone_model.specs.State.{State, is_unescaped, Block, Cycle, opening}
use Rattle.zone_model.specs.Reach.{Edge}
use Rattle.zone_model.specs.Collection.{IsReached}
use Rattle.zone_model.specs.Step.{Step}
use Rattle.zone_model.specs.Escape.{Tells, EscFrom, with_escaped}
use Rattle.zone_model.specs.Quanta.{used_quanta, quanta_needed}
use Rattle.zone_model.specs.History.{Run, Ends}
use Rattle.zone_model.specs.Sound.{Sound, is_started}
use Rattle.zone_model.specs.Reached.{OpenReached}
use Rattle.zone_model.proofs.Made.{AllMade, is_of, step_made, opening_made, escaped_known}
use Rattle.zone_model.proofs.Intact.{Intact}
use Rattle.zone_model.proofs.IntactSteps.{step_intact, opening_intact}
use Rattle.zone_model.proofs.BlocksFit.{AllFit, step_fits, opening_fits, escape_fits}
use Rattle.zone_model.proofs.Limits.{Limits, step_limits, opening_limits}
use Rattle.zone_model.proofs.Reaching.{step_reached, escape_reached}
use Rattle.zone_model.proofs.IntactEscapes.{closed_intact}
use Rattle.zone_model.proofs.Paths.{path_more}

-- a sound state, taken apart as the steps keep it
pub sound_intact : (z : State) → Sound z → Intact z
sound_intact z s = record { names = s.names; cycle = s.cycle; used = s.numbers.used }

pub sound_fits : (z : State) → Sound z → AllFit z
sound_fits z s q b h = record {
  since = λ n is. s.numbers.since q n (ap (λ (o : Option Block). option_and_then (λ (b : Block). b.since) o) h ∙ is);
  inert = s.unescaped q b h;
}

escaped_there : (o : Option Block) → IsTrue (is_some (option_and_then (λ (b : Block). b.since) o)) → IsTrue (is_some o)
escaped_there None h = h
escaped_there (Some b) h = refl

-- what the open cycle speaks of had escaped when it began
of_started : (z : State) → Sound z → (b : BlockId) → IsTrue (is_of z.cycle b) → IsTrue (is_started z b)
of_started z s b h = go z.cycle refl h
  where
    or_cases : (a b : Bool) → (a || b) ≡ true → (a ≡ true) ⊎ (b ≡ true)
    or_cases true b h = inl refl
    or_cases false b h = inr h

    go : (o : Option Cycle) → z.cycle ≡ o → is_of o b ≡ true → is_started z b ≡ true
    go None e h = cc (h)
    go (Some c) e h = elim (or_cases (c.start b) _ h) [
      | inl i ↦ ap (λ o. option_map_or (λ (c : Cycle). c.start b) o false) e ∙ i
      | inr i ↦ s.cycle.condemned b (ap (λ (o : Option Cycle). option_map_or (λ r. among r b) (option_and_then (λ (c : Cycle). c.condemned) o) false) e ∙ i)
    ]

pub sound_made : (z : State) → Sound z → AllMade z
sound_made z s b (inl here) = s.numbers.serials b here
sound_made z s b (inr is) = s.numbers.serials b (escaped_there (get z.blocks b) (s.cycle.started b (of_started z s b is)))

pub sound_limits : (z : State) → Sound z → Limits z
sound_limits z s = (s.numbers.counts, s.numbers.made)

-- and put together
pub sound_of : (z : State) → Intact z → AllFit z → AllMade z → Limits z → OpenReached z → Sound z
sound_of z i fits made limits reached = record {
  names = i.names;
  numbers = record {
    used = i.used;
    since = λ b n h. since_at b n (get z.blocks b) refl h;
    serials = λ b here. made b (inl here);
    made = limits.1;
    counts = limits.0;
  };
  unescaped = λ q b h. (fits q b h).inert;
  cycle = i.cycle;
  reached = reached;
}
  where
    since_at : (b : BlockId) (n : ℕ) (o : Option Block) → get z.blocks b ≡ o → option_and_then (λ (k : Block). k.since) o ≡ Some n → n ≤ z.reclaims
    since_at b n None e h = cc (h)
    since_at b n (Some k) e h = (fits b k e).since n h

pub step_sound : (z : State) (e : Entry) (after : State) → Sound z → Step z e after → Sound after
step_sound z e after s k =
    let i = sound_intact z s in
    let m = sound_made z s in
    sound_of after (step_intact z e after i m k) (step_fits z e after i (sound_fits z s) k) (step_made z e after k m) (step_limits z e after (sound_limits z s) k) (step_reached z e after i s.reached k)

-- all unescaped blocks to which given blocks lead escape, where they fit
pub escape_sound : (z : State) (first : List BlockId) (need : BlockId → Bool) → Sound z → Tells need (EscFrom z first) → used_quanta z + quanta_needed z need ≤ z.options.heap_quanta → Sound (with_escaped z need)
escape_sound z first need s tells fits =
    sound_of (with_escaped z need)
    (closed_intact z (sound_intact z s) need (λ q h. ((tells q).0 h).2.0) (λ a b h e un. (tells b).1 (more a b ((tells a).0 h) e un)) fits)
    (escape_fits z (sound_fits z s) need)
    (λ b known. sound_made z s b (escaped_known z need b known))
    (sound_limits z s)
    (escape_reached z need s.reached)
  where
    more : (a b : BlockId) → EscFrom z first a → Edge z a b → IsTrue (is_unescaped z b) → EscFrom z first b
    more a b led e un = (led.0, led.1, (un, (led.2.1.0 ++ b ∷ [], path_more (Edge z) led.0 led.2.1.0 a b led.2.1.1 e)))

pub opening_sound : (o : Options) → Sound (opening o)
opening_sound o = sound_of (opening o) (opening_intact o) (opening_fits o) (opening_made o) (opening_limits o) (λ c is uncondemned. let no : None ≡ Some c = is in cc (no))

pub run_sound : (z : State) (es : List Entry) (last : State) → Sound z → Run z es last → Sound last
run_sound z [] last s run = subst Sound (sym run) s
run_sound z (e ∷ es) last s run = run_sound run.0 es last (step_sound z e run.0 s run.1) run.2

pub ends_sound : (o : Options) (history : List Entry) (z : State) → Ends o history z → Sound z
ends_sound o history z ends = run_sound (opening o) history z (opening_sound o) ends

-- over a whole history
pub reached_law : (o : Options) (history : List Entry) (z : State) (c : Cycle) (a b : BlockId) → Ends o history z → z.cycle ≡ Some c → c.condemned ≡ None → IsReached c a ⊎ IsFalse (c.start a) → Edge z a b → IsTrue (c.start b) → IsReached c b
reached_law o history z c a b ends is uncondemned from edge start =
    let keeps = (ends_sound o history z ends).reached c is uncondemned in
    (start, elim from [ inl reached ↦ keeps.on a b reached.1 edge start | inr out ↦ keeps.outside a b out edge start ])
