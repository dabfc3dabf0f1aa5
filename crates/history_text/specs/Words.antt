-- The grammar of histories: replies, entries and the last line as words
use Rattle.std.specs.Prelude.{ℕ, List, [], ◌∷◌, ◌++◌, Some, None, codes, map}
use Rattle.std.specs.Fmt.{decimal}
use Rattle.az_base.specs.declared.block_id.BlockId.{BlockId}
use Rattle.az_base.specs.Misuses.{misuse_number}
use Rattle.az_base.specs.Texts.{id_text, misuse_name}
use Rattle.zone_model.specs.declared.entry.Entry.{Entry}
use Rattle.zone_model.specs.declared.entry.Reply.{Reply}
use Rattle.zone_model.specs.declared.entry.Reply.TheVariants as reply
use Rattle.zone_model.specs.declared.entry.Stats.{Stats}
use Rattle.call_words.specs.Words.{words_of_call}

-- none, or the ids
unfoldable pub ids_words : List BlockId → List (List ℕ)
ids_words [] = codes "none" ∷ []
ids_words (id ∷ ids) = id_text id ∷ map id_text ids

-- the five numbers, each behind its name
unfoldable pub stats_words : Stats → List (List ℕ)
stats_words s =
    codes "blocks" ∷ decimal s.blocks ∷ codes "quanta" ∷ decimal s.quanta ∷ codes "retained" ∷ decimal s.retained
    ∷ codes "weak" ∷ decimal s.weak ∷ codes "assocs" ∷ decimal s.assocs ∷ []

-- a reply
unfoldable pub reply_words : Reply → List (List ℕ)
reply_words reply.Done = codes "ok" ∷ []
reply_words (reply.Block None) = codes "null" ∷ []
reply_words (reply.Block (Some id)) = id_text id ∷ []
reply_words (reply.Number n) = decimal n ∷ []
reply_words reply.Busy = codes "busy" ∷ []
reply_words reply.Begun = codes "begun" ∷ []
reply_words (reply.Condemned r) = codes "condemned" ∷ ids_words r.list
reply_words (reply.Finalised id) = codes "finalised" ∷ id_text id ∷ []
reply_words (reply.Reclaimed gone) = codes "reclaimed" ∷ ids_words gone.list
reply_words (reply.Settled gone kept) = codes "reclaimed" ∷ ids_words gone.list ++ codes "kept" ∷ ids_words kept.list
reply_words (reply.Stats s) = stats_words s
reply_words (reply.Misuse m) = codes "misuse" ∷ decimal (misuse_number m) ∷ misuse_name m ∷ []

-- a thread, its call, and the reply
unfoldable pub entry_words : Entry → List (List ℕ)
entry_words e = decimal e.thread ∷ words_of_call e.call ++ codes "=" ∷ reply_words e.reply

-- how many entries there are, and the statistics of their end
unfoldable pub end_words : ℕ → Stats → List (List ℕ)
end_words count s = codes "end" ∷ codes "entries" ∷ decimal count ∷ stats_words s
