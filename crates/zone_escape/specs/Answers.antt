-- Replies that are given twice: to the caller, and into the entry
use Rattle.zone_model.specs.declared.entry.Reply.{Reply}
use Rattle.zone_model.specs.declared.entry.Reply.TheVariants as reply

-- the reply has no list, so that a copy of it takes no memory
abbrev pub IsPlain : Reply → Type 0
IsPlain (reply.Condemned r) = ⊥
IsPlain (reply.Reclaimed gone) = ⊥
IsPlain (reply.Settled gone kept) = ⊥
IsPlain _ = Unit {0}
