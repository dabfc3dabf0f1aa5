-- The names of what histories have and scripts don't
use Rattle.std.specs.Prelude.{ℕ, List, [], ◌∷◌, Option, codes}
use Rattle.az_base.specs.declared.action.Mode.{Mode}
use Rattle.az_base.specs.declared.action.Mode.TheVariants as mode
use Rattle.az_base.specs.Texts.{mode_text}
use Rattle.az_words.specs.Names.{name_among}
use Rattle.history_text.specs.declared.names.ReplyName.{ReplyName}
use Rattle.history_text.specs.declared.names.ReplyName.TheVariants as reply
use Rattle.history_text.specs.declared.names.StepName.{StepName}
use Rattle.history_text.specs.declared.names.StepName.TheVariants as step

-- how a step is written
abbrev pub step_text : StepName → List ℕ
step_text step.Begin = codes "begin"
step_text step.Condemn = codes "condemn"
step_text step.Finalise = codes "finalise"
step_text step.Reclaim = codes "reclaim"
step_text step.Leave = codes "leave"

-- the step that a word names
unfoldable pub step_of : List ℕ → Option StepName
step_of word = name_among step_text (step.Begin ∷ step.Condemn ∷ step.Finalise ∷ step.Reclaim ∷ step.Leave ∷ []) word

-- what a collection looks at, as a word names it
unfoldable pub mode_of : List ℕ → Option Mode
mode_of word = name_among mode_text (mode.Young ∷ mode.Full ∷ []) word

-- the first word of a reply that is neither a number nor an id
abbrev pub reply_name_text : ReplyName → List ℕ
reply_name_text reply.Done = codes "ok"
reply_name_text reply.Null = codes "null"
reply_name_text reply.Busy = codes "busy"
reply_name_text reply.Begun = codes "begun"
reply_name_text reply.Condemned = codes "condemned"
reply_name_text reply.Finalised = codes "finalised"
reply_name_text reply.Reclaimed = codes "reclaimed"
reply_name_text reply.Stats = codes "blocks"
reply_name_text reply.Misuse = codes "misuse"

-- the reply that a word begins
unfoldable pub reply_name_of : List ℕ → Option ReplyName
reply_name_of word =
    name_among reply_name_text (reply.Done ∷ reply.Null ∷ reply.Busy ∷ reply.Begun ∷ reply.Condemned ∷ reply.Finalised ∷ reply.Reclaimed ∷ reply.Stats ∷ reply.Misuse ∷ []) word
