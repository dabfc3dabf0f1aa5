-- The words of a block that a call names, where it isn't one of the thread's own
use Rattle.std.proofs.Common.{◌≡◌, ℕ, Bool, true, false, cond, Option, Some, None, IfSome, IsTrue, is_some, slice_set, refl, sym, ap, subst, ◌∙◌}
use Rattle.std.specs.Option.{option_map, option_map_or, option_and_then}
use Rattle.std.specs.FinMap.{get, insert}
use Rattle.az_base.specs.declared.block_id.BlockId.{BlockId}
use Rattle.az_base.specs.declared.misuse.Misuse.{Misuse}
use Rattle.az_base.specs.declared.misuse.Misuse.TheVariants as misuse
use Rattle.az_base.specs.declared.word.Class.{Class}
use Rattle.az_base.specs.declared.word.Word.{Word}
use Rattle.az_base.specs.declared.word.Word.TheVariants as word
use Rattle.block_layouts.specs.Layouts.{class_at}
use Rattle.zone_model.specs.declared.call.Call.{Call}
use Rattle.zone_model.specs.declared.call.Call.TheVariants as call
use Rattle.zone_model.specs.declared.entry.Reply.{Reply}
use Rattle.zone_model.specs.declared.entry.Reply.TheVariants as reply
use Rattle.zone_model.specs.Escape.{Need, EscOf, HoldsEscaped, Tells, with_escaped}
use Rattle.zone_model.specs.Part.{Part, part_of, part_after, put_word, is_within, is_in}
use Rattle.zone_model.specs.State.{State, Block, reference}
use Rattle.zone_model.proofs.Blocks.{got_escaped}
use Rattle.zone_model.proofs.PartEffects.{out_not_own}
use Rattle.zone_model.proofs.PartNeeds.{in_part}
use Rattle.shared_heap.specs.Shared.{Shared}
use Rattle.heap_tables.specs.Standing.{kept_of, escaped_view}
use Rattle.shared_heap.specs.Stands.{Stands}
use Rattle.shared_heap.specs.Steps.{after_write}
use Rattle.block_table.specs.Stored.{HeapBlock}
use Rattle.shared_heap.specs.Words.{word_misuse, class_misuse}
use Rattle.local_set.specs.LocalSets.{LocalSet, part_in}
use Rattle.escape_plan.specs.Together.{Together}
use Rattle.zone_escape.specs.Making.{CanMake}
use Rattle.zone_escape.proofs.Exposed.{holder_out}
use Rattle.zone_escape.proofs.Shown.{is_out, held}

-- what isn't within the thread's part is a block, and not its own
pub not_within : (p : Part) (v : Option BlockId) → is_within p v ≡ false → option_map_or (is_in p) v false ≡ false
not_within p None outside = refl
not_within p (Some id) outside = outside

outside_holds : (p : Part) (z : State) (v : Option BlockId) → is_within p v ≡ false → is_out z v → HoldsEscaped z v
outside_holds p z None outside out = cc
outside_holds p z (Some id) outside out = out

-- so the register of a call holds one that has escaped
module _ (l : LocalSet) (h : Shared) (c : Call) (can : CanMake l h c) (reg : ℕ) (outside : is_within (part_in l) ((part_in l).registers reg) ≡ false) (z : State) (t : Together l h z) where
  pub register_holds : HoldsEscaped z (z.registers l.thread reg)
  register_holds =
      let v = (part_in l).registers reg in
      subst (HoldsEscaped z) (held l h c can z t reg v refl) (outside_holds (part_in l) z v outside (holder_out l h c can reg v refl (not_within (part_in l) v outside) z t))

-- what a store into an escaped block makes escape
pub store_tells : (z : State) (t : ℕ) (need : BlockId → Bool) (into at from : ℕ) → HoldsEscaped z (z.registers t into) → Tells need (EscOf z (z.registers t from)) → Tells need (Need z t (call.Store into at from))
store_tells z t need into at from holds tells c = (λ h. (holds, (tells c).0 h), λ n. (tells c).1 n.1)

-- a word of a block that isn't the thread's own changes no part
absent_word : (p : Part) (a : Option BlockId) (at : ℕ) (w : Word) → IfSome a (λ id. get p.blocks id ≡ None) → put_word p a at w ≡ p
absent_word p None at w h = refl
absent_word p (Some id) at w h = ap (λ (o : Option Block). record p { blocks = option_map_or (λ b. insert p.blocks id (record b { words = slice_set b.words at w })) o p.blocks }) h

out_absent : (z : State) (t : ℕ) (a : Option BlockId) → is_out z a → IfSome a (λ id. get (part_of z t).blocks id ≡ None)
out_absent z t None out = tt
out_absent z t (Some id) out = none (get (part_of z t).blocks id) (in_part z t id ∙ out_not_own z t id out)
  where
    none : (o : Option Block) → is_some o ≡ false → o ≡ None
    none None h = refl
    none (Some b) h = cc

pub put_still : (z : State) (t into at number : ℕ) (r : Reply) → is_out z (z.registers t into) → part_after (part_of z t) (call.Put into at number) r ≡ part_of z t
put_still z t into at number reply.Done out = absent_word (part_of z t) (z.registers t into) at (word.Number number) (out_absent z t (z.registers t into) out)
put_still z t into at number _ out = refl

pub store_still : (z : State) (t into at from : ℕ) (r : Reply) → is_out z (z.registers t into) → part_after (part_of z t) (call.Store into at from) r ≡ part_of z t
store_still z t into at from reply.Done out = absent_word (part_of z t) (z.registers t into) at (reference (z.registers t from)) (out_absent z t (z.registers t into) out)
store_still z t into at from _ out = refl

-- a write changes neither the holds, nor the room for an escape, nor the options
pub write_holds : (h : Shared) (a : Option BlockId) (at : ℕ) (w : Word) (r : Reply) → (after_write h a at w r).holds ≡ h.holds
write_holds h None at w reply.Done = refl
write_holds h (Some id) at w reply.Done = refl
write_holds h a at w _ = refl

pub write_room : (h : Shared) (a : Option BlockId) (at : ℕ) (w : Word) (r : Reply) → (after_write h a at w r).room ≡ h.room
write_room h None at w reply.Done = refl
write_room h (Some id) at w reply.Done = refl
write_room h a at w _ = refl

pub write_options : (h : Shared) (a : Option BlockId) (at : ℕ) (w : Word) (r : Reply) → (after_write h a at w r).options ≡ h.options
write_options h None at w reply.Done = refl
write_options h (Some id) at w reply.Done = refl
write_options h a at w _ = refl

-- the least misuse of a call that has one of the first three
pub first_some : (a b c : Bool) (m : Misuse) (rest : Option Misuse) → cond a (Some misuse.NullBlock) (cond b (Some misuse.NoWord) (cond c (Some misuse.WrongClass) None)) ≡ Some m
    → cond a (Some misuse.NullBlock) (cond b (Some misuse.NoWord) (cond c (Some misuse.WrongClass) rest)) ≡ Some m
first_some true b c m rest h = h
first_some false true c m rest h = h
first_some false false true m rest h = h
first_some false false false m rest h = cc

-- and of one that has none of them
pub first_none : (a b c : Bool) (rest : Option Misuse) → cond a (Some misuse.NullBlock) (cond b (Some misuse.NoWord) (cond c (Some misuse.WrongClass) None)) ≡ None
    → cond a (Some misuse.NullBlock) (cond b (Some misuse.NoWord) (cond c (Some misuse.WrongClass) rest)) ≡ rest
first_none true b c rest h = cc
first_none false true c rest h = cc
first_none false false true rest h = cc
first_none false false false rest h = refl

-- the word that a call names is of the same class after an escape
pub misuse_still : (h g : Shared) (z : State) (need : BlockId → Bool) (a : Option BlockId) (at : ℕ) (k : Class) → Stands h z → Stands g (with_escaped z need) → is_out z a → word_misuse g a at k ≡ word_misuse h a at k
misuse_still h g z need None at k s t out = refl
misuse_still h g z need (Some id) at k s t out = ap (class_misuse k) (go out)
  where
    escape_at : Bool → Block → Block
    escape_at t b = cond t (record b { since = Some z.reclaims }) b

    one : (b : Block) (v : Option ℕ) → b.since ≡ v → (t : Bool) → IsTrue (is_some b.since) → option_and_then (λ (e : HeapBlock). class_at e.layout at) (kept_of z.reclaims (escape_at t b)) ≡ option_and_then (λ (e : HeapBlock). class_at e.layout at) (kept_of z.reclaims b)
    one b None e t h = let no = rw e at h in cc (no)
    one b (Some n) e true h = rw e refl
    one b (Some n) e false h = refl

    same : (o : Option Block) → IsTrue (is_some (option_and_then (λ (b : Block). b.since) o)) → option_and_then (λ (e : HeapBlock). class_at e.layout at) (escaped_view z.reclaims (option_map (escape_at (need id)) o)) ≡ option_and_then (λ (e : HeapBlock). class_at e.layout at) (escaped_view z.reclaims o)
    same None h = cc
    same (Some b) h = one b b.since refl (need id) h

    go : IsTrue (is_some (option_and_then (λ (b : Block). b.since) (get z.blocks id))) → option_and_then (λ (e : HeapBlock). class_at e.layout at) (get g.blocks id) ≡ option_and_then (λ (e : HeapBlock). class_at e.layout at) (get h.blocks id)
    go out = ap (option_and_then (λ (e : HeapBlock). class_at e.layout at)) (t.blocks id ∙ ap (escaped_view z.reclaims) (got_escaped z need id)) ∙ same (get z.blocks id) out ∙ sym (ap (option_and_then (λ (e : HeapBlock). class_at e.layout at)) (s.blocks id))
