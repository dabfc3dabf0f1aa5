-- What a thread does alone is determined: its part by its entries, and a local reply by the part
use Rattle.std.proofs.Common.{◌≡◌, ℕ, Option, Some, None, List, [], ◌∷◌, map, MatchOption, refl, sym, ap, ap₂, subst, ◌∙◌}
use Rattle.az_base.specs.declared.misuse.Misuse.{Misuse}
use Rattle.az_base.specs.declared.word.Word.TheVariants as word
use Rattle.az_base.specs.Ids.{id_of}
use Rattle.zone_model.specs.declared.call.Call.{Call}
use Rattle.zone_model.specs.declared.call.Call.TheVariants as call
use Rattle.zone_model.specs.declared.entry.Reply.{Reply}
use Rattle.zone_model.specs.declared.entry.Reply.TheVariants as reply
use Rattle.zone_model.specs.declared.entry.Entry.{Entry}
use Rattle.zone_model.specs.Bare.{bare_reply, bare_entry}
use Rattle.zone_model.specs.State.{State, referent}
use Rattle.zone_model.specs.Step.{Step}
use Rattle.zone_model.specs.History.{Run}
use Rattle.zone_model.specs.Part.{Part, part_after, leave_part, NeedWithin, PartStep, PartRun}
use Rattle.zone_model.proofs.Determined.{one_test}
use Rattle.zone_model.specs.Replies.{replied}
use Rattle.zone_model.specs.LocalSteps.{LocalStep, Replies, misuse_within, word_within}
use Rattle.zone_model.proofs.Ascending.{lists_once}
use Rattle.zone_model.proofs.Replied.{step_after}

after_bare : (p : Part) (c : Call) (r : Reply) → part_after p c (bare_reply r) ≡ part_after p c r
after_bare p call.CollectLocal (reply.Reclaimed g) = refl
after_bare p call.Leave (reply.Reclaimed g) = refl
after_bare p call.Condemn (reply.Condemned r) = refl
after_bare p call.Reclaim (reply.Settled g d) = refl
after_bare p _ (reply.Reclaimed g) = refl
after_bare p _ (reply.Condemned g) = refl
after_bare p _ (reply.Settled g d) = refl
after_bare p c r = refl

own_bare : (p : Part) (c : Call) (r : Reply) (a : Part) → PartStep p c r a → PartStep p c (bare_reply r) a
own_bare p c (reply.Reclaimed g) a h = (h.0, h.1, h.2 ∙ sym (after_bare (leave_part p h.0) c (reply.Reclaimed g)))
own_bare p c (reply.Condemned g) a h = (h.0, h.1, h.2 ∙ sym (after_bare (leave_part p h.0) c (reply.Condemned g)))
own_bare p c (reply.Settled g d) a h = (h.0, h.1, h.2 ∙ sym (after_bare (leave_part p h.0) c (reply.Settled g d)))
own_bare p c r a h = h

own_same : (p : Part) (c : Call) (r : Reply) (a b : Part) → PartStep p c r a → PartStep p c r b → a ≡ b
own_same p c (reply.Misuse m) a b h k = h ∙ sym k
own_same p c reply.Busy a b h k = h ∙ sym k
own_same p c r a b h k = h.2 ∙ ap (λ n. part_after (leave_part p n) c r) (one_test (NeedWithin p c) h.0 k.0 h.1 k.1) ∙ sym k.2

heads : (e f : Entry) (es fs : List Entry) → map bare_entry (e ∷ es) ≡ map bare_entry (f ∷ fs) → (bare_entry e ≡ bare_entry f) × (map bare_entry es ≡ map bare_entry fs)
heads e f es fs h = (cc, cc)

no_head : (e : Entry) (es : List Entry) → map bare_entry (e ∷ es) ≡ [] → ⊥
no_head e es h = cc (h)

-- a thread's entries, but for room, determine its part
pub own_once : (p : Part) (es fs : List Entry) (a b : Part) → PartRun p es a → PartRun p fs b → map bare_entry es ≡ map bare_entry fs → a ≡ b
own_once p [] [] a b h k e = h ∙ sym k
own_once p [] (f ∷ fs) a b h k e = absurd (no_head f fs (sym e))
own_once p (d ∷ es) [] a b h k e = absurd (no_head d es e)
own_once p (d ∷ es) (f ∷ fs) a b h k e =
    let i = heads d f es fs e in
    let c = ap (λ (x : Entry). x.call) i.0 in
    let r = ap (λ (x : Entry). x.reply) i.0 in
    let there : PartStep p f.call (bare_reply f.reply) h.0 = subst (λ c. PartStep p c (bare_reply f.reply) h.0) c (subst (λ r. PartStep p d.call r h.0) r (own_bare p d.call d.reply h.0 h.1)) in
    let mid = own_same p f.call (bare_reply f.reply) h.0 k.0 there (own_bare p f.call f.reply k.0 k.1) in
    own_once h.0 es fs a b h.2 (subst (λ q. PartRun q fs b) (sym mid) k.2) i.1

-- and the entries of a history its states
pub runs_once : (z : State) (es fs : List Entry) (a b : State) → Run z es a → Run z fs b → map bare_entry es ≡ map bare_entry fs → a ≡ b
runs_once z [] [] a b h k e = h ∙ sym k
runs_once z [] (f ∷ fs) a b h k e = absurd (no_head f fs (sym e))
runs_once z (d ∷ es) [] a b h k e = absurd (no_head d es e)
runs_once z (d ∷ es) (f ∷ fs) a b h k e =
    let i = heads d f es fs e in
    let it : f ≡ replied d.thread d.call f.reply = ap₂ (λ t c. replied t c f.reply) (sym (ap (λ (x : Entry). x.thread) i.0)) (sym (ap (λ (x : Entry). x.call) i.0)) in
    let mid = step_after z d.thread d.call d.reply f.reply h.0 k.0 h.1 (subst (λ (x : Entry). Step z x k.0) it k.1) (ap (λ (x : Entry). x.reply) i.0) in
    runs_once h.0 es fs a b h.2 (subst (λ q. Run q fs b) (sym mid) k.2) i.1

same_number : (n m : ℕ) → Some (word.Number n) ≡ Some (word.Number m) → n ≡ m
same_number n m h = cc (h)

get_once : (p : Part) (t from at : ℕ) (r s : Reply) → Replies p t (call.Get from at) r → Replies p t (call.Get from at) s → bare_reply r ≡ bare_reply s
get_once p t from at (reply.Number n) (reply.Number m) h k = ap reply.Number (same_number n m (sym h ∙ k))
get_once p t from at (reply.Number n) _ h k = absurd k
get_once p t from at _ _ h k = absurd h

collect_once : (p : Part) (t : ℕ) (r s : Reply) → Replies p t call.CollectLocal r → Replies p t call.CollectLocal s → bare_reply r ≡ bare_reply s
collect_once p t (reply.Reclaimed g) (reply.Reclaimed d) h k = ap (λ ids. reply.Reclaimed (record { list = ids; spare = 0 })) (lists_once _ g.list d.list h k)
collect_once p t (reply.Reclaimed g) _ h k = absurd k
collect_once p t _ _ h k = absurd h

abbrev told : Part → ℕ → Call → Reply
told p t (call.New to layout actions) = reply.Block (Some (id_of t p.serials))
told p t (call.Load to from at) = reply.Block (referent (word_within p from at))
told p t c = reply.Done

told_reply : (p : Part) (t : ℕ) (c : Call) (r : Reply) → ((from at : ℕ) → c ≡ call.Get from at → ⊥) → (c ≡ call.CollectLocal → ⊥) → Replies p t c r → r ≡ told p t c
told_reply p t (call.New to layout actions) (reply.Block id) g l h = ap reply.Block h
told_reply p t (call.Load to from at) (reply.Block b) g l h = ap reply.Block h
told_reply p t (call.Store into at from) reply.Done g l h = refl
told_reply p t (call.Put into at number) reply.Done g l h = refl
told_reply p t (call.Copy to from) reply.Done g l h = refl
told_reply p t (call.DropReg reg) reply.Done g l h = refl
told_reply p t (call.Get from at) r g l h = absurd (g from at refl)
told_reply p t call.CollectLocal r g l h = absurd (l refl)
told_reply p t _ _ g l h = absurd h

replies_once : (p : Part) (t : ℕ) (c : Call) (r s : Reply) → Replies p t c r → Replies p t c s → bare_reply r ≡ bare_reply s
replies_once p t (call.Get from at) r s h k = get_once p t from at r s h k
replies_once p t call.CollectLocal r s h k = collect_once p t r s h k
replies_once p t c r s h k = ap bare_reply (told_reply p t c r (λ from at e. cc (e)) (λ e. cc (e)) h ∙ sym (told_reply p t c s (λ from at e. cc (e)) (λ e. cc (e)) k))

-- a part and a local call have one reply, but for room
pub local_once : (p : Part) (t : ℕ) (e f : Entry) (a b : Part) → LocalStep p t e a → LocalStep p t f b → e.call ≡ f.call → bare_entry e ≡ bare_entry f
local_once p t e f a b h k c =
    ap₂ (λ u d. replied u d (bare_reply e.reply)) (h.thread ∙ sym k.thread) c ∙ ap (replied f.thread f.call) (by (misuse_within p e.call) h.does (subst (λ d. MatchOption (misuse_within p d) (Replies p t d f.reply × (b ≡ part_after p d f.reply)) (λ m. (f.reply ≡ reply.Misuse m) × (b ≡ p))) (sym c) k.does))
  where
    by : (m : Option Misuse) → MatchOption m (Replies p t e.call e.reply × (a ≡ part_after p e.call e.reply)) (λ m. (e.reply ≡ reply.Misuse m) × (a ≡ p))
        → MatchOption m (Replies p t e.call f.reply × (b ≡ part_after p e.call f.reply)) (λ m. (f.reply ≡ reply.Misuse m) × (b ≡ p)) → bare_reply e.reply ≡ bare_reply f.reply
    by None x y = replies_once p t e.call e.reply f.reply x.0 y.0
    by (Some m) x y = ap bare_reply (x.0 ∙ sym y.0)
