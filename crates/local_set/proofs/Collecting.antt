-- The blocks that no register leads to
use Rattle.std.proofs.Common.{◌≡◌, ℕ, ◌<◌, Bool, true, false, not, List, Option, Some, None, slice_get, option_and_then, refl, sym, ap, ◌∙◌, arith, IsTrue, ◌⊎◌, inl, inr, zero, suc}
use Rattle.std.specs.FinMap.{get, contains_key, retain_keys}
use Rattle.az_base.specs.declared.block_id.BlockId.{BlockId}
use Rattle.az_base.specs.Ids.{among}
use Rattle.zone_model.specs.State.{Block}
use Rattle.zone_model.specs.Collection.{Lists}
use Rattle.zone_model.specs.Part.{is_in}
use Rattle.zone_model.specs.LocalSteps.{IsFound}
use Rattle.zone_model.proofs.Totals.{total-retain_keys}
use Rattle.az_base.specs.Ids.{ids_total, exact_ids}
use Rattle.local_set.specs.LocalSets.{LocalSet, Table, part_in, held_in, blocks_of}
use Rattle.zone_model.specs.Holds.{words_to, word_holds}
use Rattle.local_set.specs.Tables.{NotesReferents}
use Rattle.local_set.specs.Walks.{IsReached}

held_there : (registers : List (Option BlockId)) (r : ℕ) (a : BlockId) → held_in registers r ≡ Some a → slice_get registers r ≡ Some (Some a)
held_there registers r a h = go (slice_get registers r) refl h
  where
    go : (o : Option (Option BlockId)) → slice_get registers r ≡ o → option_and_then (λ o. o) o ≡ Some a → slice_get registers r ≡ Some (Some a)
    go None e h = cc
    go (Some held) e h = e ∙ ap Some h

-- what the walk didn't find is what no register leads to
pub dead_listed : (l : LocalSet) (found ids : List BlockId) → IsReached (blocks_of l.blocks) l.registers found → Lists ids (λ b. (contains_key (blocks_of l.blocks) b ≡ true) × (among found b ≡ false))
    → Lists ids (λ b. IsTrue (is_in (part_in l) b) × ¬ IsFound (part_in l) b)
dead_listed l found ids reached lists = (
  lists.0,
  λ q. (
    λ h. let is = (lists.1 q).0 h in (is.0, λ f. never (among found q) ((reached q).1 (is.0, f.1, (f.0, held_there l.registers f.0 f.1 f.2), f.3)) is.1),
    λ h. (lists.1 q).1 (h.0, go q (among found q) refl h.1),
  ),
)
  where
    never : (b : Bool) → b ≡ true → b ≡ false → ⊥
    never true h k = cc
    never false h k = cc

    go : (q : BlockId) (b : Bool) → among found q ≡ b → ¬ IsFound (part_in l) q → among found q ≡ false
    go q true e missed = absurd (missed (let r = (reached q).0 e in (r.2.0, r.1, ap (option_and_then (λ o. o)) r.2.1, r.3)))
    go q false e missed = e

zero_or : (n : ℕ) → (n ≡ 0) ⊎ (0 < n)
zero_or zero = inl refl
zero_or (suc n) = inr (omega arith)

-- where the noted blocks go, others are referred to as before
pub holds_left : (old new : Table) (ids : List BlockId) (q : BlockId) → NotesReferents old new ids → among new.changed q ≡ false → word_holds (retain_keys (blocks_of old.list) (λ b. not (among ids b))) q ≡ word_holds (blocks_of old.list) q
holds_left old new ids q notes fresh = total-retain_keys ids_total exact_ids (λ id (b : Block). words_to q b.words) (blocks_of old.list) (λ b. not (among ids b)) (λ k b there gone.
    none k b there (listed (among ids k) gone) (zero_or (words_to q b.words)))
  where
    listed : (t : Bool) → not t ≡ false → t ≡ true
    listed true h = refl
    listed false h = cc

    none : (k : BlockId) (b : Block) → get (blocks_of old.list) k ≡ Some b → among ids k ≡ true → (words_to q b.words ≡ 0) ⊎ (0 < words_to q b.words) → words_to q b.words ≡ 0
    none k b there this (inl e) = e
    none k b there this (inr l) = let no : false ≡ true = sym fresh ∙ notes.more k q b this there l in cc (no)
