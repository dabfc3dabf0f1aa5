-- What the calls on counts do, told from what the heap holds
use Rattle.std.specs.Prelude.{ℕ, ◌==◌, Option, Some, None, if◌then◌else◌, unwrap_or}
use Rattle.std.specs.Option.{option_map_or}
use Rattle.std.specs.FinMap.{get}
use Rattle.az_base.specs.declared.block_id.BlockId.{BlockId}
use Rattle.az_base.specs.declared.misuse.Misuse.{Misuse}
use Rattle.az_base.specs.declared.misuse.Misuse.TheVariants as misuse
use Rattle.zone_model.specs.declared.entry.Reply.{Reply}
use Rattle.zone_model.specs.declared.entry.Reply.TheVariants as reply
use Rattle.az_base.specs.WithValue.{with_value}
use Rattle.zone_model.specs.State.{positive_count}
use Rattle.shared_heap.specs.Shared.{Shared}

-- the count of a block, 0 where it has none
abbrev pub count_of : Shared → BlockId → ℕ
count_of h id = unwrap_or (get h.counts id) 0

-- the count of the block, if there is one
abbrev pub count_at : Shared → Option BlockId → ℕ
count_at h a = option_map_or (λ id. count_of h id) a 0

-- the least misuse of a `retain`: NullBlock, or CountFull at the option counts
abbrev pub retain_misuse : Shared → Option BlockId → Option Misuse
retain_misuse h None = Some misuse.NullBlock
retain_misuse h (Some id) = if count_of h id == h.options.counts then Some misuse.CountFull else None

-- the least misuse of a `release`: NullBlock, or OverRelease at count 0
abbrev pub release_misuse : Shared → Option BlockId → Option Misuse
release_misuse h None = Some misuse.NullBlock
release_misuse h (Some id) = if count_of h id == 0 then Some misuse.OverRelease else None

-- the misuse of a `count`: NullBlock
abbrev pub count_misuse : Option BlockId → Option Misuse
count_misuse None = Some misuse.NullBlock
count_misuse (Some id) = None

-- the misuse of a `take`: NotHeld where the id has no positive count
abbrev pub take_misuse : Shared → BlockId → Option Misuse
take_misuse h id = if count_of h id == 0 then Some misuse.NotHeld else None

-- the block has this count; a count of 0 is taken away
abbrev pub recounted : Shared → BlockId → ℕ → Shared
recounted h id n = record h { counts = with_value h.counts id (positive_count n) }

-- the heap after a `release` with this reply
abbrev pub after_release : Shared → Option BlockId → Reply → Shared
after_release h (Some id) (reply.Number n) = recounted h id n
after_release h a _ = h

-- the heap after a `retain` with this reply, where there is so much room left for blocks with a count
abbrev pub after_retain : Shared → Option BlockId → ℕ → Reply → Shared
after_retain h (Some id) room (reply.Number n) = record (recounted h id n) { ready = record h.ready { counts = room } }
after_retain h a room _ = h
