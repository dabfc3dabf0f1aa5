-- What each call does where it is no misuse
use Rattle.std.specs.Prelude.{◌≡◌, ℕ, ◌+◌, false, List, Option, Some, None, if◌then◌else◌, option_map, option_and_then}
use Rattle.std.specs.Option.{option_map_or}
use Rattle.std.specs.FinMap.{get}
use Rattle.az_base.specs.declared.action.Action.{Action}
use Rattle.az_base.specs.declared.block_id.BlockId.{BlockId}
use Rattle.az_base.specs.declared.weak_loc.WeakLoc.{WeakLoc}
use Rattle.az_base.specs.declared.weak_loc.WeakLoc.TheVariants as weak
use Rattle.az_base.specs.declared.word.Word.TheVariants as word
use Rattle.block_layouts.specs.declared.layout.Layout.{Layout}
use Rattle.block_layouts.specs.Layouts.{first_words}
use Rattle.az_base.specs.Ids.{id_of}
use Rattle.zone_model.specs.declared.call.Call.{Call}
use Rattle.zone_model.specs.declared.call.Call.TheVariants as call
use Rattle.zone_model.specs.declared.call.Loc.{Loc}
use Rattle.zone_model.specs.declared.call.Loc.TheVariants as loc
use Rattle.zone_model.specs.declared.entry.Reply.{Reply}
use Rattle.zone_model.specs.declared.entry.Reply.TheVariants as reply
use Rattle.zone_model.specs.State.{State, Block, is_condemned, count_of, word_at, referent, reference, with_register, with_root, with_block, with_word, with_next_serial, with_count, with_assoc, with_weak}
use Rattle.zone_model.specs.Quanta.{is_born_escaped}
use Rattle.zone_model.specs.Stats.{stats_of}
use Rattle.zone_model.specs.Collection.{Begins, Condemns, Finalises, Reclaims, CollectsLocal, Leaves}

-- a new block, with null and 0 words
abbrev pub new_block : State → ℕ → Layout → List Action → Block
new_block z t layout actions = record {
  layout = layout;
  words = first_words layout;
  actions = actions;
  finalised = false;
  since = if is_born_escaped z t layout actions then Some z.reclaims else None;
}

-- the thread has made the block, and a register holds it
abbrev pub with_new : State → ℕ → ℕ → Layout → List Action → State
with_new z t to layout actions = let id = id_of t (z.serials t) in with_register (with_next_serial (with_block z id (new_block z t layout actions)) t) t to (Some id)

-- the value of an association of the object
abbrev pub assoc_of : State → Option BlockId → ℕ → Option BlockId
assoc_of z object key = option_and_then (λ id. get z.assocs (id, key)) object

-- where a call's weak location lies
abbrev pub weak_loc : State → ℕ → Loc → Option WeakLoc
weak_loc z t (loc.Root w) = Some (weak.Root w)
weak_loc z t (loc.Word a at) = option_map (λ id. weak.Word id at) (z.registers t a)

-- what a weak location shows
abbrev pub weak_value : State → Option WeakLoc → Option BlockId
weak_value z l = option_and_then (λ l. get z.weak l) l

-- what a weak location comes to show where a block is assigned to it: null where the open cycle has condemned the block
abbrev pub value_to_show : State → Option BlockId → Option BlockId
value_to_show z v = option_and_then (λ b. if is_condemned z b then None else Some b) v

-- the count of the block in a register
abbrev pub count_in : State → ℕ → ℕ → ℕ
count_in z t reg = option_map_or (λ b. count_of z b) (z.registers t reg) 0

-- the block in a register, if there is one, has this count
abbrev pub with_count_in : State → ℕ → ℕ → ℕ → State
with_count_in z t reg n = option_map_or (λ b. with_count z b n) (z.registers t reg) z

-- what a call of the thread does, and what it replies
abbrev pub Effect : State → ℕ → Call → Reply → State → Type 0
Effect z t (call.New to layout actions) (reply.Block id) after = (id ≡ Some (id_of t (z.serials t))) × (after ≡ with_new z t to layout actions)
Effect z t (call.Load to from at) (reply.Block b) after = (b ≡ referent (word_at z (z.registers t from) at)) × (after ≡ with_register z t to b)
Effect z t (call.Store into at from) reply.Done after = after ≡ with_word z (z.registers t into) at (reference (z.registers t from))
Effect z t (call.Put into at number) reply.Done after = after ≡ with_word z (z.registers t into) at (word.Number number)
Effect z t (call.Get from at) (reply.Number n) after = (word_at z (z.registers t from) at ≡ Some (word.Number n)) × (after ≡ z)
Effect z t (call.Copy to from) reply.Done after = after ≡ with_register z t to (z.registers t from)
Effect z t (call.DropReg reg) reply.Done after = after ≡ with_register z t reg None
Effect z t call.CollectLocal (reply.Reclaimed gone) after = CollectsLocal z t gone.list after
Effect z t (call.SetRoot root from) reply.Done after = after ≡ with_root z root.0 (z.registers t from)
Effect z t (call.GetRoot to root) (reply.Block b) after = (b ≡ z.roots root.0) × (after ≡ with_register z t to b)
Effect z t (call.Retain reg) (reply.Number n) after = (n ≡ count_in z t reg + 1) × (after ≡ with_count_in z t reg n)
Effect z t (call.Release reg) (reply.Number n) after = (n + 1 ≡ count_in z t reg) × (after ≡ with_count_in z t reg n)
Effect z t (call.Count reg) (reply.Number n) after = (n ≡ count_in z t reg) × (after ≡ z)
Effect z t (call.Take to id) (reply.Block b) after = (b ≡ Some id) × (after ≡ with_register z t to b)
Effect z t (call.SetAssoc object key value) (reply.Block b) after = (b ≡ assoc_of z (z.registers t object) key.0) × (after ≡ option_map_or (λ a. with_assoc z a key.0 (z.registers t value)) (z.registers t object) z)
Effect z t (call.GetAssoc to object key) (reply.Block b) after = (b ≡ assoc_of z (z.registers t object) key.0) × (after ≡ with_register z t to b)
Effect z t (call.SetWeak loc from) (reply.Block b) after = (b ≡ value_to_show z (z.registers t from)) × (after ≡ option_map_or (λ l. with_weak z l b) (weak_loc z t loc) z)
Effect z t (call.ReadWeak to loc) (reply.Block b) after = (b ≡ weak_value z (weak_loc z t loc)) × (after ≡ with_register z t to b)
Effect z t call.Stats (reply.Stats s) after = (s ≡ stats_of z) × (after ≡ z)
Effect z t (call.Begin mode) reply.Begun after = Begins z t mode after
Effect z t call.Condemn (reply.Condemned r) after = Condemns z t r.list after
Effect z t call.Finalise (reply.Finalised b) after = Finalises z t b after
Effect z t call.Reclaim (reply.Settled gone kept) after = Reclaims z t gone.list kept.list after
Effect z t call.Leave (reply.Reclaimed gone) after = Leaves z t gone.list after
Effect z t _ _ after = ⊥
