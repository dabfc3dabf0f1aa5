-- The associations of a heap
use Rattle.std.specs.Prelude.{ℕ, Option, Some, None}
use Rattle.std.specs.FinMap.{get}
use Rattle.az_base.specs.declared.block_id.BlockId.{BlockId}
use Rattle.az_base.specs.declared.misuse.Misuse.TheVariants as misuse
use Rattle.zone_model.specs.declared.entry.Reply.{Reply}
use Rattle.zone_model.specs.declared.entry.Reply.TheVariants as reply
use Rattle.az_base.specs.WithValue.{with_value}
use Rattle.shared_heap.specs.Shared.{Shared}

-- the value of the object under the key, or the misuse where there is no object
abbrev pub assoc_reply : Shared → Option BlockId → ℕ → Reply
assoc_reply h None key = reply.Misuse misuse.NullBlock
assoc_reply h (Some object) key = reply.Block (get h.assocs (object, key))

-- the object, if there is one, has this value under the key, or none there; the room for it was used
abbrev pub associated : Shared → Option BlockId → ℕ → Option BlockId → Shared
associated h None key v = h
associated h (Some object) key v = record h { assocs = with_value h.assocs (object, key) v; ready = record h.ready { object = None } }
