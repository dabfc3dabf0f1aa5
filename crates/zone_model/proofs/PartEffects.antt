-- What each call does to the parts of the threads
use Rattle.std.proofs.Common.{◌≡◌, ◌+◌, ℕ, ◌==◌, Bool, true, false, cond, ◌&&◌, ◌||◌, List, [], ◌∷◌, Option, Some, None, IsTrue, IsFalse, refl, sym, ap, ◌∙◌, inl, inr, slice_set, eq-eqb, fold}
use Rattle.std.specs.Option.{option_map_or}
use Rattle.std.specs.FinMap.{FinMap, empty, get}
use Rattle.az_base.specs.declared.action.Action.{Action}
use Rattle.az_base.specs.declared.action.Action.TheVariants as action
use Rattle.az_base.specs.declared.block_id.BlockId.{BlockId}
use Rattle.az_base.specs.declared.word.Word.{Word}
use Rattle.az_base.specs.declared.word.Word.TheVariants as word
use Rattle.az_base.specs.Ids.{id_cmp, id_of}
use Rattle.zone_model.specs.declared.call.Call.{Call}
use Rattle.zone_model.specs.declared.call.Call.TheVariants as call
use Rattle.zone_model.specs.declared.entry.Reply.{Reply}
use Rattle.zone_model.specs.declared.entry.Reply.TheVariants as reply
use Rattle.zone_model.specs.State.{State, Block, with_register, with_word, without_blocks, with_count, with_assoc, with_weak, reference, is_escaped, is_own}
use Rattle.zone_model.specs.Collection.{with_action, actions_of, with_finalised, with_end}
use Rattle.zone_model.specs.Effect.{Effect, with_new, weak_loc}
use Rattle.zone_model.specs.Part.{Part, part_of, put_register, put_word, put_new, part_after}
use Rattle.zone_model.specs.Sound.{Knows}
use Rattle.zone_model.proofs.Intact.{Intact}
use Rattle.zone_model.proofs.Made.{actions_same}
use Rattle.zone_model.proofs.Blocks.{is_out, not_both, own_inside, own_thread}
use Rattle.zone_model.proofs.IntactCycles.{found_among, condemned_out}
use Rattle.zone_model.proofs.PartChanges.{edited_part, edited_others, left_part, left_others, left_none, new_part, new_others}

same_part : (p q : Part) → p.options ≡ q.options → p.registers ≡ q.registers → p.serials ≡ q.serials → p.ended ≡ q.ended → p.blocks ≡ q.blocks → p ≡ q
same_part p q options registers serials ended blocks = λ i. record { options = options i; registers = registers i; serials = serials i; ended = ended i; blocks = blocks i }

not_true : (b : Bool) → (b ≡ true → ⊥) → b ≡ false
not_true true h = absurd (h refl)
not_true false h = refl

-- an escaped block is no thread's own
pub out_not_own : (z : State) (t : ℕ) (q : BlockId) → IsTrue (is_escaped z q) → IsFalse (is_own z t q)
out_not_own z t q out = not_true (is_own z t q) (λ own. not_both (get z.blocks q) out (own_inside z t q own))

-- one thread's own block isn't another's
pub own_not_own : (z : State) (t u : ℕ) (q : BlockId) → (t == u) ≡ false → IsTrue (is_own z t q) → IsFalse (is_own z u q)
own_not_own z t u q other own = not_true (is_own z u q) (λ mine. let no : true ≡ false = sym (eq-eqb t u (sym (own_thread z t q own) ∙ own_thread z u q mine)) ∙ other in cc (no))

module _ (z : State) (t : ℕ) where
  pub register_part : (r : ℕ) (v : Option BlockId) → part_of (with_register z t r v) t ≡ put_register (part_of z t) r v
  register_part r v = ap (λ b. record (part_of z t) { registers = λ q. cond (b && (r == q)) v (z.registers t q) }) (eq-eqb t t refl)

  register_others : (r : ℕ) (v : Option BlockId) (u : ℕ) → (t == u) ≡ false → part_of (with_register z t r v) u ≡ part_of z u
  register_others r v u other = ap (λ b. record (part_of z u) { registers = λ q. cond (b && (r == q)) v (z.registers u q) }) other

  word_part : (a : Option BlockId) (at : ℕ) (w : Word) → part_of (with_word z a at w) t ≡ put_word (part_of z t) a at w
  word_part None at w = refl
  word_part (Some id) at w = ap (λ m. record (part_of z t) { blocks = m }) (edited_part z t id (λ b. record b { words = slice_set b.words at w }) (λ b. refl))

  word_others : (a : Option BlockId) (at : ℕ) (w : Word) (u : ℕ) → ((id : BlockId) → a ≡ Some id → IsFalse (is_own z u id)) → part_of (with_word z a at w) u ≡ part_of z u
  word_others None at w u other = refl
  word_others (Some id) at w u other = ap (λ m. record (part_of z u) { blocks = m }) (edited_others z u id (λ b. record b { words = slice_set b.words at w }) (λ b. refl) (other id refl))

  -- what changes no block and no register changes no part
  count_part : (o : Option BlockId) (n u : ℕ) → part_of (option_map_or (λ b. with_count z b n) o z) u ≡ part_of z u
  count_part None n u = refl
  count_part (Some b) n u = refl

  assoc_part : (o v : Option BlockId) (key u : ℕ) → part_of (option_map_or (λ a. with_assoc z a key v) o z) u ≡ part_of z u
  assoc_part None v key u = refl
  assoc_part (Some a) v key u = refl

  weak_part : (o : Option _) (v : Option BlockId) (u : ℕ) → part_of (option_map_or (λ l. with_weak z l v) o z) u ≡ part_of z u
  weak_part None v u = refl
  weak_part (Some l) v u = refl

actions_part : (b : BlockId) (actions : List Action) (z : State) (u : ℕ) → part_of (fold (with_action b) z actions) u ≡ part_of z u
actions_part b [] z u = refl
actions_part b (action.Keep g ∷ more) z u = actions_part b more (with_action b z (action.Keep g)) u
actions_part b (action.Pass g at ∷ more) z u = actions_part b more (with_action b z (action.Pass g at)) u

finalise_part : (z : State) (b : BlockId) (u : ℕ) → IsTrue (is_escaped z b) → part_of (with_finalised (fold (with_action b) z (actions_of z b)) b) u ≡ part_of z u
finalise_part z b u out =
    let y = fold (with_action b) z (actions_of z b) in
    ap (λ m. record (part_of y u) { blocks = m }) (edited_others y u b (λ k. record k { finalised = true }) (λ k. refl) (out_not_own y u b (ap (λ (m : FinMap id_cmp Block). is_out (get m b)) ((actions_same b (actions_of z b) z).1) ∙ out)))
    ∙ actions_part b (actions_of z b) z u

module _ (z : State) (s : Intact z) (t : ℕ) where
  held_others : (r u : ℕ) → (t == u) ≡ false → (id : BlockId) → z.registers t r ≡ Some id → IsFalse (is_own z u id)
  held_others r u other id h = by_knows (s.names.registers t r id h)
    where
      by_knows : Knows z t id → IsFalse (is_own z u id)
      by_knows (inl out) = out_not_own z u id out
      by_knows (inr own) = own_not_own z t u id other own

  -- the part of the thread
  pub effect_part : (c : Call) (r : Reply) (a : State) → get z.blocks (id_of t (z.serials t)) ≡ None → Effect z t c r a → part_of a t ≡ part_after (part_of z t) c r
  effect_part (call.New to layout actions) (reply.Block id) a free h =
      ap (λ y. part_of y t) h.1
      ∙ same_part (part_of (with_new z t to layout actions) t) (put_register (put_new (part_of z t) layout actions (Some (id_of t (z.serials t)))) to (Some (id_of t (z.serials t)))) refl
      (ap (λ b. λ q. cond (b && (to == q)) (Some (id_of t (z.serials t))) (z.registers t q)) (eq-eqb t t refl)) (ap (λ b. cond b (z.serials t + 1) (z.serials t)) (eq-eqb t t refl)) refl (new_part z t to layout actions free)
      ∙ ap (λ v. put_register (put_new (part_of z t) layout actions v) to v) (sym h.0)
  effect_part (call.Load to from at) (reply.Block b) a free h = ap (λ y. part_of y t) h.1 ∙ register_part z t to b
  effect_part (call.Store into at from) reply.Done a free h = ap (λ y. part_of y t) h ∙ word_part z t (z.registers t into) at (reference (z.registers t from))
  effect_part (call.Put into at number) reply.Done a free h = ap (λ y. part_of y t) h ∙ word_part z t (z.registers t into) at (word.Number number)
  effect_part (call.Get from at) (reply.Number k) a free h = ap (λ y. part_of y t) h.1
  effect_part (call.Copy to from) reply.Done a free h = ap (λ y. part_of y t) h ∙ register_part z t to (z.registers t from)
  effect_part (call.DropReg reg) reply.Done a free h = ap (λ y. part_of y t) h ∙ register_part z t reg None
  effect_part call.CollectLocal (reply.Reclaimed gone) a free h = ap (λ y. part_of y t) h.1 ∙ ap (λ m. record (part_of z t) { blocks = m }) (left_part z gone.list t)
  effect_part (call.SetRoot root from) reply.Done a free h = ap (λ y. part_of y t) h
  effect_part (call.GetRoot to root) (reply.Block b) a free h = ap (λ y. part_of y t) h.1 ∙ register_part z t to b
  effect_part (call.Retain reg) (reply.Number k) a free h = ap (λ y. part_of y t) h.1 ∙ count_part z t (z.registers t reg) k t
  effect_part (call.Release reg) (reply.Number k) a free h = ap (λ y. part_of y t) h.1 ∙ count_part z t (z.registers t reg) k t
  effect_part (call.Count reg) (reply.Number k) a free h = ap (λ y. part_of y t) h.1
  effect_part (call.Take to id) (reply.Block i) a free h = ap (λ y. part_of y t) h.1 ∙ register_part z t to i
  effect_part (call.SetAssoc object key value) (reply.Block b) a free h = ap (λ y. part_of y t) h.1 ∙ assoc_part z t (z.registers t object) (z.registers t value) key.0 t
  effect_part (call.GetAssoc to object key) (reply.Block b) a free h = ap (λ y. part_of y t) h.1 ∙ register_part z t to b
  effect_part (call.SetWeak loc from) (reply.Block v) a free h = ap (λ y. part_of y t) h.1 ∙ weak_part z t (weak_loc z t loc) v t
  effect_part (call.ReadWeak to loc) (reply.Block b) a free h = ap (λ y. part_of y t) h.1 ∙ register_part z t to b
  effect_part call.Stats (reply.Stats k) a free h = ap (λ y. part_of y t) h.1
  effect_part (call.Begin mode) reply.Begun a free h = ap (λ y. part_of y t) h.1
  effect_part call.Condemn (reply.Condemned r) a free h = ap (λ y. part_of y t) h.4
  effect_part call.Finalise (reply.Finalised b) a free h = ap (λ y. part_of y t) h.3 ∙ finalise_part z b t (condemned_out z s t h.0 h.1 b (found_among _ h.0 b h.2)).1
  effect_part call.Reclaim (reply.Settled gone kept) a free h =
      ap (λ y. part_of y t) h.does
      ∙ ap (λ m. record (part_of z t) { blocks = m }) (left_others z gone.list t (λ q taken. out_not_own z t q (condemned_out z s t h.r h.condemned q ((h.gone_ones.1 q).0 taken).0).1))
  effect_part call.Leave (reply.Reclaimed gone) a free h =
      ap (λ y. part_of y t) h.does
      ∙ same_part (part_of (with_end (without_blocks z gone.list) t) t) (record (part_of z t) { registers = λ r. None; blocks = empty; ended = true }) refl
      (ap (λ b. λ q. cond b None (z.registers t q)) (eq-eqb t t refl)) refl (ap (λ b. b || z.ended t) (eq-eqb t t refl)) (left_none z gone.list t (λ q own. (h.gone_ones.1 q).1 own))
  effect_part _ _ a free h = absurd h

  -- the parts of the others
  pub effect_others : (c : Call) (r : Reply) (a : State) (u : ℕ) → (t == u) ≡ false → Effect z t c r a → part_of a u ≡ part_of z u
  effect_others (call.New to layout actions) (reply.Block id) a u other h =
      ap (λ y. part_of y u) h.1
      ∙ same_part (part_of (with_new z t to layout actions) u) (part_of z u) refl
      (ap (λ b. λ q. cond (b && (to == q)) (Some (id_of t (z.serials t))) (z.registers u q)) other) (ap (λ b. cond b (z.serials t + 1) (z.serials u)) other) refl (new_others z t to layout actions u other)
  effect_others (call.Load to from at) (reply.Block b) a u other h = ap (λ y. part_of y u) h.1 ∙ register_others z t to b u other
  effect_others (call.Store into at from) reply.Done a u other h = ap (λ y. part_of y u) h ∙ word_others z t (z.registers t into) at (reference (z.registers t from)) u (held_others into u other)
  effect_others (call.Put into at number) reply.Done a u other h = ap (λ y. part_of y u) h ∙ word_others z t (z.registers t into) at (word.Number number) u (held_others into u other)
  effect_others (call.Get from at) (reply.Number k) a u other h = ap (λ y. part_of y u) h.1
  effect_others (call.Copy to from) reply.Done a u other h = ap (λ y. part_of y u) h ∙ register_others z t to (z.registers t from) u other
  effect_others (call.DropReg reg) reply.Done a u other h = ap (λ y. part_of y u) h ∙ register_others z t reg None u other
  effect_others call.CollectLocal (reply.Reclaimed gone) a u other h =
      ap (λ y. part_of y u) h.1 ∙ ap (λ m. record (part_of z u) { blocks = m }) (left_others z gone.list u (λ q taken. own_not_own z t u q other ((h.0.1 q).0 taken).0))
  effect_others (call.SetRoot root from) reply.Done a u other h = ap (λ y. part_of y u) h
  effect_others (call.GetRoot to root) (reply.Block b) a u other h = ap (λ y. part_of y u) h.1 ∙ register_others z t to b u other
  effect_others (call.Retain reg) (reply.Number k) a u other h = ap (λ y. part_of y u) h.1 ∙ count_part z t (z.registers t reg) k u
  effect_others (call.Release reg) (reply.Number k) a u other h = ap (λ y. part_of y u) h.1 ∙ count_part z t (z.registers t reg) k u
  effect_others (call.Count reg) (reply.Number k) a u other h = ap (λ y. part_of y u) h.1
  effect_others (call.Take to id) (reply.Block i) a u other h = ap (λ y. part_of y u) h.1 ∙ register_others z t to i u other
  effect_others (call.SetAssoc object key value) (reply.Block b) a u other h = ap (λ y. part_of y u) h.1 ∙ assoc_part z t (z.registers t object) (z.registers t value) key.0 u
  effect_others (call.GetAssoc to object key) (reply.Block b) a u other h = ap (λ y. part_of y u) h.1 ∙ register_others z t to b u other
  effect_others (call.SetWeak loc from) (reply.Block v) a u other h = ap (λ y. part_of y u) h.1 ∙ weak_part z t (weak_loc z t loc) v u
  effect_others (call.ReadWeak to loc) (reply.Block b) a u other h = ap (λ y. part_of y u) h.1 ∙ register_others z t to b u other
  effect_others call.Stats (reply.Stats k) a u other h = ap (λ y. part_of y u) h.1
  effect_others (call.Begin mode) reply.Begun a u other h = ap (λ y. part_of y u) h.1
  effect_others call.Condemn (reply.Condemned r) a u other h = ap (λ y. part_of y u) h.4
  effect_others call.Finalise (reply.Finalised b) a u other h = ap (λ y. part_of y u) h.3 ∙ finalise_part z b u (condemned_out z s t h.0 h.1 b (found_among _ h.0 b h.2)).1
  effect_others call.Reclaim (reply.Settled gone kept) a u other h =
      ap (λ y. part_of y u) h.does
      ∙ ap (λ m. record (part_of z u) { blocks = m }) (left_others z gone.list u (λ q taken. out_not_own z u q (condemned_out z s t h.r h.condemned q ((h.gone_ones.1 q).0 taken).0).1))
  effect_others call.Leave (reply.Reclaimed gone) a u other h =
      ap (λ y. part_of y u) h.does
      ∙ same_part (part_of (with_end (without_blocks z gone.list) t) u) (part_of z u) refl
      (ap (λ b. λ q. cond b None (z.registers u q)) other) refl (ap (λ b. b || z.ended u) other) (left_others z gone.list u (λ q taken. own_not_own z t u q other ((h.gone_ones.1 q).0 taken)))
  effect_others _ _ a u other h = absurd h
