-- A local call changes nothing that isn't its thread's own, and gains no reference to what is shared
use Rattle.std.proofs.Common.{◌≡◌, ℕ, Bool, true, false, cond, not, List, [], ◌∷◌, ◌++◌, Option, Some, None, IsTrue, refl, sym, ap, subst, ◌∙◌, is_some, is_none, slice_set, append_assoc}
use Rattle.std.specs.Option.{option_map}
use Rattle.std.specs.declared.cmp.Ordering.{Ordering}
use Rattle.std.specs.declared.cmp.Ordering.TheVariants.{Less, Equal, Greater}
use Rattle.std.specs.Ordering.{is_eq}
use Rattle.std.specs.FinMap.{get, get-insert}
use Rattle.az_base.specs.declared.block_id.BlockId.{BlockId}
use Rattle.az_base.specs.declared.misuse.Misuse.{Misuse}
use Rattle.az_base.specs.declared.word.Word.{Word}
use Rattle.az_base.specs.declared.word.Word.TheVariants as word
use Rattle.az_base.specs.Ids.{id_cmp, id_of, among, ids_total, exact_ids}
use Rattle.block_layouts.specs.declared.layout.Layout.{Layout}
use Rattle.zone_model.specs.declared.call.Call.{Call}
use Rattle.zone_model.specs.declared.call.Call.TheVariants as call
use Rattle.zone_model.specs.declared.entry.Reply.{Reply}
use Rattle.zone_model.specs.declared.entry.Reply.TheVariants as reply
use Rattle.zone_model.specs.declared.entry.Entry.{Entry}
use Rattle.zone_model.specs.State.{State, Block, Cycle, Moment, moment, with_edit, with_word, without_blocks, is_own, reference}
use Rattle.zone_model.specs.Misuses.{misuse_of}
use Rattle.zone_model.specs.Effect.{Effect, new_block, with_new}
use Rattle.zone_model.specs.Step.{Step, seen_now, with_moment}
use Rattle.zone_model.specs.Part.{part_of, is_within, is_local, passes_local}
use Rattle.zone_model.proofs.Steps.{plain_happens}
use Rattle.zone_model.proofs.Made.{AllMade}
use Rattle.zone_model.proofs.Intact.{Intact}
use Rattle.zone_model.specs.SameShared.{escaped_only, SeesMore, SameShared}
use Rattle.zone_model.proofs.Blocks.{is_inside, own_inside, edit_get, left_get}
use Rattle.zone_model.proofs.IntactSteps.{next_free}
use Rattle.zone_model.proofs.PartChanges.{born_in_part}
use Rattle.zone_model.proofs.PartNeeds.{in_part}
use Rattle.zone_model.proofs.LocalCalls.{local_needs, local_busy, happens_effect, plain_refused}

none_only : (o : Option Block) → IsTrue (is_inside o) → escaped_only o ≡ None
none_only None h = refl
none_only (Some b) h = by b.since h
  where
    by : (v : Option ℕ) → IsTrue (is_none v) → cond (is_some v) (Some b) None ≡ None
    by None h = refl
    by (Some n) h = cc (h)

sees_same : (c : Option Cycle) → SeesMore c c
sees_same None = tt
sees_same (Some c) = ([], refl)

sees_on : (c d e : Option Cycle) → SeesMore c d → SeesMore d e → SeesMore c e
sees_on None None None f g = tt
sees_on (Some c) (Some d) (Some e) f g = (g.0 ++ f.0, g.1 ∙ ap (λ (k : Cycle). record k { moments = g.0 ++ k.moments }) f.1 ∙ ap (λ es. record c { moments = es }) (sym (append_assoc g.0 f.0 c.moments)))
sees_on None (Some d) e f g = absurd f
sees_on (Some c) None e f g = absurd f
sees_on None None (Some e) f g = absurd g
sees_on (Some c) (Some d) None f g = absurd g

sees_now : (m : Moment) (c : Option Cycle) → SeesMore c (option_map (with_moment m) c)
sees_now m None = tt
sees_now m (Some c) = elim (is_some c.condemned) as (λ b. SeesMore (Some c) (Some (cond b c (record c { moments = m ∷ c.moments })))) [ true ↦ ([], refl) | false ↦ (m ∷ [], refl) ]

pub shared_on : (x y z : State) → SameShared x y → SameShared y z → SameShared x z
shared_on x y z f g = record {
  options = g.options ∙ f.options;
  blocks = λ q. g.blocks q ∙ f.blocks q;
  roots = g.roots ∙ f.roots;
  counts = g.counts ∙ f.counts;
  weak = g.weak ∙ f.weak;
  assocs = g.assocs ∙ f.assocs;
  reclaims = g.reclaims ∙ f.reclaims;
  cycle = sees_on x.cycle y.cycle z.cycle f.cycle g.cycle;
}

module _ (z : State) (t : ℕ) where
  -- an edit of a thread's own block
  edit_only : (id : BlockId) (f : Block → Block) → ((b : Block) → (f b).since ≡ b.since) → IsTrue (is_own z t id) → (q : BlockId) → escaped_only (get (with_edit z.blocks id f) q) ≡ escaped_only (get z.blocks q)
  edit_only id f same own q = ap escaped_only (edit_get z.blocks id f q) ∙ at (id_cmp q id) refl
    where
      inside_still : (o : Option Block) → IsTrue (is_inside o) → IsTrue (is_inside (option_map f o))
      inside_still None h = h
      inside_still (Some b) h = ap is_none (same b) ∙ h

      at : (r : Ordering) → id_cmp q id ≡ r → escaped_only (cond (is_eq r) (option_map f (get z.blocks q)) (get z.blocks q)) ≡ escaped_only (get z.blocks q)
      at Less e = refl
      at Equal e =
          let inside : IsTrue (is_inside (get z.blocks q)) = ap (λ x. is_inside (get z.blocks x)) (exact_ids q id e) ∙ own_inside z t id own in
          none_only (option_map f (get z.blocks q)) (inside_still (get z.blocks q) inside) ∙ sym (none_only (get z.blocks q) inside)
      at Greater e = refl

  word_shared : (a : Option BlockId) (at : ℕ) (w : Word) → is_within (part_of z t) a ≡ true → SameShared z (with_word z a at w)
  word_shared None at w h = record { options = refl; blocks = λ q. refl; roots = refl; counts = refl; weak = refl; assocs = refl; reclaims = refl; cycle = sees_same z.cycle }
  word_shared (Some id) at w h = record {
    options = refl;
    blocks = edit_only id (λ b. record b { words = slice_set b.words at w }) (λ b. refl) (sym (in_part z t id) ∙ h);
    roots = refl;
    counts = refl;
    weak = refl;
    assocs = refl;
    reclaims = refl;
    cycle = sees_same z.cycle;
  }

  gone_only : (gone : List BlockId) → ((q : BlockId) → among gone q ≡ true → IsTrue (is_own z t q)) → (q : BlockId) → escaped_only (get (without_blocks z gone).blocks q) ≡ escaped_only (get z.blocks q)
  gone_only gone own q = ap escaped_only (left_get z.blocks (among gone) q) ∙ by (among gone q) refl
    where
      by : (g : Bool) → among gone q ≡ g → escaped_only (cond g None (get z.blocks q)) ≡ escaped_only (get z.blocks q)
      by true e = sym (none_only (get z.blocks q) (own_inside z t q (own q e)))
      by false e = refl

  new_only : (to : ℕ) (l : Layout) → get z.blocks (id_of t (z.serials t)) ≡ None → not (passes_local (part_of z t) l) ≡ true → (q : BlockId) → escaped_only (get (with_new z t to l []).blocks q) ≡ escaped_only (get z.blocks q)
  new_only to l none small q = ap escaped_only (get-insert ids_total z.blocks (id_of t (z.serials t)) (new_block z t l []) q) ∙ at (id_cmp q (id_of t (z.serials t))) refl
    where
      not_born : (b : Bool) → not b ≡ true → b ≡ false
      not_born true h = sym h
      not_born false h = refl

      at : (r : Ordering) → id_cmp q (id_of t (z.serials t)) ≡ r → escaped_only (cond (is_eq r) (Some (new_block z t l [])) (get z.blocks q)) ≡ escaped_only (get z.blocks q)
      at Less e = refl
      at Equal e =
          ap (λ b. escaped_only (Some (record (new_block z t l []) { since = cond b (Some z.reclaims) None }))) (born_in_part z t to l [] ∙ not_born (passes_local (part_of z t) l) small)
          ∙ sym (ap escaped_only (ap (get z.blocks) (exact_ids q (id_of t (z.serials t)) e) ∙ none))
      at Greater e = refl

  pub same_shared : SameShared z z
  same_shared = record { options = refl; blocks = λ q. refl; roots = refl; counts = refl; weak = refl; assocs = refl; reclaims = refl; cycle = sees_same z.cycle }

  effect_shared : (c : Call) (r : Reply) (mid : State) → get z.blocks (id_of t (z.serials t)) ≡ None → is_local (part_of z t) c ≡ true → Effect z t c r mid → SameShared z mid × (mid.cycle ≡ z.cycle)
  effect_shared (call.New to layout []) (reply.Block id) mid none h k = subst (λ a. SameShared z a × (a.cycle ≡ z.cycle)) (sym k.1) (record { options = refl; blocks = new_only to layout none h; roots = refl; counts = refl; weak = refl; assocs = refl; reclaims = refl; cycle = sees_same z.cycle }, refl)
  effect_shared (call.New to layout (a ∷ actions)) (reply.Block id) mid none h k = cc
  effect_shared (call.Load to from at) (reply.Block b) mid none h k = subst (λ a. SameShared z a × (a.cycle ≡ z.cycle)) (sym k.1) (record { options = refl; blocks = λ q. refl; roots = refl; counts = refl; weak = refl; assocs = refl; reclaims = refl; cycle = sees_same z.cycle }, refl)
  effect_shared (call.Store into at from) reply.Done mid none h k = subst (λ a. SameShared z a × (a.cycle ≡ z.cycle)) (sym k) (word_shared (z.registers t into) at (reference (z.registers t from)) h, refl)
  effect_shared (call.Put into at number) reply.Done mid none h k = subst (λ a. SameShared z a × (a.cycle ≡ z.cycle)) (sym k) (word_shared (z.registers t into) at (word.Number number) h, refl)
  effect_shared (call.Get from at) (reply.Number n) mid none h k = subst (λ a. SameShared z a × (a.cycle ≡ z.cycle)) (sym k.1) (same_shared, refl)
  effect_shared (call.Copy to from) reply.Done mid none h k = subst (λ a. SameShared z a × (a.cycle ≡ z.cycle)) (sym k) (record { options = refl; blocks = λ q. refl; roots = refl; counts = refl; weak = refl; assocs = refl; reclaims = refl; cycle = sees_same z.cycle }, refl)
  effect_shared (call.DropReg reg) reply.Done mid none h k = subst (λ a. SameShared z a × (a.cycle ≡ z.cycle)) (sym k) (record { options = refl; blocks = λ q. refl; roots = refl; counts = refl; weak = refl; assocs = refl; reclaims = refl; cycle = sees_same z.cycle }, refl)
  effect_shared call.CollectLocal (reply.Reclaimed gone) mid none h k = subst (λ a. SameShared z a × (a.cycle ≡ z.cycle)) (sym k.1) (record { options = refl; blocks = gone_only gone.list (λ q taken. ((k.0.1 q).0 taken).0); roots = refl; counts = refl; weak = refl; assocs = refl; reclaims = refl; cycle = sees_same z.cycle }, refl)
  effect_shared (call.SetRoot root from) r mid none h k = cc (h)
  effect_shared (call.GetRoot to root) r mid none h k = cc (h)
  effect_shared (call.Retain reg) r mid none h k = cc (h)
  effect_shared (call.Release reg) r mid none h k = cc (h)
  effect_shared (call.Count reg) r mid none h k = cc (h)
  effect_shared (call.Take to id) r mid none h k = cc (h)
  effect_shared (call.SetAssoc object key value) r mid none h k = cc (h)
  effect_shared (call.GetAssoc to object key) r mid none h k = cc (h)
  effect_shared (call.SetWeak loc from) r mid none h k = cc (h)
  effect_shared (call.ReadWeak to loc) r mid none h k = cc (h)
  effect_shared call.Stats r mid none h k = cc (h)
  effect_shared (call.Begin mode) r mid none h k = cc (h)
  effect_shared call.Condemn r mid none h k = cc (h)
  effect_shared call.Finalise r mid none h k = cc (h)
  effect_shared call.Reclaim r mid none h k = cc (h)
  effect_shared call.Leave r mid none h k = cc (h)
  effect_shared _ _ mid none h k = absurd k

seen_shared : (z mid : State) → SameShared z mid → SameShared z (seen_now mid)
seen_shared z mid s = record { options = s.options; blocks = s.blocks; roots = s.roots; counts = s.counts; weak = s.weak; assocs = s.assocs; reclaims = s.reclaims; cycle = sees_on z.cycle mid.cycle (seen_now mid).cycle s.cycle (sees_now (moment mid) mid.cycle) }

-- a local call changes nothing that is shared
pub step_shared : (z : State) (s : Intact z) (made : AllMade z) (e : Entry) (a : State) → Step z e a → is_local (part_of z e.thread) e.call ≡ true → SameShared z a
step_shared z s made e a k local = by_misuse (misuse_of z e.thread e.call (λ _. false)) refl
  where
    by_misuse : (m : Option Misuse) → misuse_of z e.thread e.call (λ _. false) ≡ m → SameShared z a
    by_misuse None right =
        let effect = happens_effect z e.thread e.call e.reply a (local_busy z (part_of z e.thread) e.thread e.call local) (plain_happens z e a k (local_needs z s e.thread e.call local) right) in
        let shared = effect_shared z e.thread e.call e.reply effect.0 (next_free z made e.thread) local effect.1 in
        subst (SameShared z) (sym effect.2) (seen_shared z effect.0 shared.0)
    by_misuse (Some m) wrong = subst (SameShared z) (sym (plain_refused z e a m k (local_needs z s e.thread e.call local) wrong).1) (same_shared z e.thread)
