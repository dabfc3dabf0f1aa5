-- What has a text: numbers within the ranges of their types
use Rattle.std.specs.Prelude.{List, All, Some, None}
use Rattle.az_base.specs.declared.block_id.BlockId.{BlockId}
use Rattle.zone_model.specs.declared.entry.Entry.{Entry}
use Rattle.zone_model.specs.declared.entry.Reply.{Reply}
use Rattle.zone_model.specs.declared.entry.Reply.TheVariants as reply
use Rattle.zone_model.specs.declared.entry.Stats.{Stats}
use Rattle.call_words.specs.Ranges.{IsNumber, IsThread, IsId, IsCall}

abbrev pub AreIds : List BlockId → Type 0
AreIds ids = All IsId ids

abbrev pub AreStats : Stats → Type 0
AreStats s = IsNumber s.blocks × IsNumber s.quanta × IsNumber s.retained × IsNumber s.weak × IsNumber s.assocs

-- the numbers of a reply are in their ranges
abbrev pub IsReply : Reply → Type 0
IsReply reply.Done = Unit {0}
IsReply (reply.Block None) = Unit {0}
IsReply (reply.Block (Some id)) = IsId id
IsReply (reply.Number n) = IsNumber n
IsReply reply.Busy = Unit {0}
IsReply reply.Begun = Unit {0}
IsReply (reply.Condemned r) = AreIds r.list
IsReply (reply.Finalised id) = IsId id
IsReply (reply.Reclaimed gone) = AreIds gone.list
IsReply (reply.Settled gone kept) = AreIds gone.list × AreIds kept.list
IsReply (reply.Stats s) = AreStats s
IsReply (reply.Misuse m) = Unit {0}

-- an entry whose numbers are in their ranges
pub record IsEntry (e : Entry) : Type 0 where
  pub thread : IsThread e.thread
  pub call : IsCall e.call
  pub reply : IsReply e.reply
