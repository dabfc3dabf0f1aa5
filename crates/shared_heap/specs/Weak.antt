-- What a heap's weak locations show
use Rattle.std.specs.Prelude.{Option, Some, None, IsSome, if◌then◌else◌}
use Rattle.std.specs.Option.{option_and_then}
use Rattle.std.specs.FinMap.{get}
use Rattle.az_base.specs.declared.block_id.BlockId.{BlockId}
use Rattle.az_base.specs.declared.misuse.Misuse.{Misuse}
use Rattle.az_base.specs.declared.weak_loc.WeakLoc.{WeakLoc}
use Rattle.az_base.specs.declared.weak_loc.WeakLoc.TheVariants as weak
use Rattle.az_base.specs.declared.word.Class.TheVariants as class
use Rattle.zone_model.specs.declared.entry.Reply.{Reply}
use Rattle.zone_model.specs.declared.entry.Reply.TheVariants as reply
use Rattle.az_base.specs.WithValue.{with_value}
use Rattle.shared_heap.specs.Shared.{Shared, is_condemned_in}
use Rattle.shared_heap.specs.Words.{word_misuse}

-- the location is a weak root, or at a place of a block of the heap
abbrev pub IsPlaced : Shared → WeakLoc → Type 0
IsPlaced h (weak.Root w) = Unit {0}
IsPlaced h (weak.Word id at) = IsSome (get h.blocks id)

-- what is wrong with the location: NoWord, or WrongClass where the word isn't a Weak one
abbrev pub loc_misuse : Shared → WeakLoc → Option Misuse
loc_misuse h (weak.Root w) = None
loc_misuse h (weak.Word id at) = word_misuse h (Some id) at class.Weak

-- what a location comes to show where a block is assigned to it: null in place of a condemned one
abbrev pub shown_in : Shared → Option BlockId → Option BlockId
shown_in h v = option_and_then (λ b. if is_condemned_in h b then None else Some b) v

-- the location shows the block, or null, which takes the room that was ready for a value
abbrev pub showing : Shared → WeakLoc → Option BlockId → Shared
showing h loc v = record h { weak = with_value h.weak loc v; ready = record h.ready { value = None } }

-- the heap after a block was to be assigned to the location
abbrev pub after_assign : Shared → WeakLoc → Reply → Shared
after_assign h loc (reply.Block v) = showing h loc v
after_assign h loc _ = h
