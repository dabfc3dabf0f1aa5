-- What a thread knows alone: its part of a zone, and how its calls change it
-- A call that is local depends on the part alone, so that a thread may make it without asking the others.
use Rattle.std.specs.Prelude.{◌≡◌, ℕ, ◌+◌, ◌&&◌, ◌||◌, ◌==◌, nat_lt, not, Bool, true, false, List, [], ◌∷◌, Option, Some, None, if◌then◌else◌, slice_set, ◌⊎◌, IsTrue}
use Rattle.std.specs.Option.{option_map_or}
use Rattle.std.specs.FinMap.{FinMap, empty, insert, contains_key, retain_keys}
use Rattle.az_base.specs.declared.action.Action.{Action}
use Rattle.az_base.specs.declared.block_id.BlockId.{BlockId}
use Rattle.az_base.specs.declared.options.Options.{Options}
use Rattle.az_base.specs.declared.word.Word.{Word}
use Rattle.az_base.specs.declared.word.Word.TheVariants as word
use Rattle.block_layouts.specs.declared.layout.Layout.{Layout}
use Rattle.az_base.specs.Ids.{id_cmp, among}
use Rattle.block_layouts.specs.Layouts.{quanta, len_of, first_words}
use Rattle.zone_model.specs.declared.call.Call.{Call}
use Rattle.zone_model.specs.declared.call.Call.TheVariants as call
use Rattle.zone_model.specs.declared.call.Loc.{Loc}
use Rattle.zone_model.specs.declared.call.Loc.TheVariants as loc
use Rattle.zone_model.specs.declared.entry.Reply.{Reply}
use Rattle.zone_model.specs.declared.entry.Reply.TheVariants as reply
use Rattle.zone_model.specs.declared.entry.Entry.{Entry}
use Rattle.zone_model.specs.State.{State, Block, is_nil, is_own, reference, with_edit}
use Rattle.zone_model.specs.Reach.{WordEdge, Leads}
use Rattle.zone_model.specs.Escape.{Tells}
use Rattle.zone_model.specs.Quanta.{quanta_where}

-- the options, a thread's registers, its number of serials, whether it has ended, and its unescaped blocks
pub record Part : Type 0 where
  pub options : Options
  pub registers : ℕ → Option BlockId
  pub serials : ℕ
  pub ended : Bool
  pub blocks : FinMap id_cmp Block

-- the part of a thread in a state
abbrev pub part_of : State → ℕ → Part
part_of z t = record {
  options = z.options;
  registers = z.registers t;
  serials = z.serials t;
  ended = z.ended t;
  blocks = retain_keys z.blocks (is_own z t);
}

-- the part of a thread that has done nothing
abbrev pub opening_part : Options → Part
opening_part o = record { options = o; registers = λ r. None; serials = 0; ended = false; blocks = empty }

-- a block of the part
abbrev pub is_in : Part → BlockId → Bool
is_in p id = contains_key p.blocks id

-- null, or a block of the part
abbrev pub is_within : Part → Option BlockId → Bool
is_within p a = option_map_or (is_in p) a true

-- the quanta of the part's blocks, and of one more, pass the option local
abbrev pub passes_local : Part → Layout → Bool
passes_local p layout = nat_lt p.options.local_quanta (quanta_where (λ id b. true) p.blocks + quanta (len_of layout))

-- which calls are local: those that need the thread's part alone
abbrev pub is_local : Part → Call → Bool
is_local p (call.Copy to from) = true
is_local p (call.DropReg reg) = true
is_local p call.CollectLocal = true
is_local p (call.Load to from at) = is_within p (p.registers from)
is_local p (call.Store into at from) = is_within p (p.registers into)
is_local p (call.Put into at number) = is_within p (p.registers into)
is_local p (call.Get from at) = is_within p (p.registers from)
is_local p (call.New to layout actions) = is_nil actions && not (passes_local p layout)
is_local p _ = false

-- the call of the thread is local at the state
abbrev pub is_local_at : State → ℕ → Call → Bool
is_local_at z t call = is_local (part_of z t) call

-- the blocks of the part at the end of a list of edges that begins at the block, if there is one
abbrev pub EscWithin : Part → Option BlockId → BlockId → Type 0
EscWithin p None c = ⊥
EscWithin p (Some b) c = IsTrue (is_in p c) × Leads (WordEdge p.blocks) b c

-- the block whose word a weak call names
abbrev pub named_within : Part → Loc → Option BlockId
named_within p (loc.Root w) = None
named_within p (loc.Word a at) = p.registers a

-- the blocks that the call makes escape, told from the part
abbrev pub NeedWithin : Part → Call → BlockId → Type 0
NeedWithin p (call.Store into at from) c = IsTrue (not (is_within p (p.registers into))) × EscWithin p (p.registers from) c
NeedWithin p (call.SetRoot root from) c = EscWithin p (p.registers from) c
NeedWithin p (call.Retain reg) c = EscWithin p (p.registers reg) c
NeedWithin p (call.SetAssoc object key value) c = EscWithin p (p.registers object) c ⊎ EscWithin p (p.registers value) c
NeedWithin p (call.SetWeak loc from) c = EscWithin p (p.registers from) c ⊎ EscWithin p (named_within p loc) c
NeedWithin p _ c = ⊥

-- a register of the part holds a block, or null
abbrev pub put_register : Part → ℕ → Option BlockId → Part
put_register p r v = record p { registers = λ q. if r == q then v else p.registers q }

-- a word of a block of the part is changed
abbrev pub put_word : Part → Option BlockId → ℕ → Word → Part
put_word p a at w = record p { blocks = option_map_or (λ id. with_edit p.blocks id (λ b. record b { words = slice_set b.words at w })) a p.blocks }

-- the blocks that pass the test leave the part
abbrev pub leave_part : Part → (BlockId → Bool) → Part
leave_part p test = record p { blocks = retain_keys p.blocks (λ id. not (test id)) }

-- a new block of the part
abbrev pub own_block : Layout → Block
own_block layout = record { layout = layout; words = first_words layout; actions = []; finalised = false; since = None }

-- the part has made a block: it is added unless it is born escaped
abbrev pub put_new : Part → Layout → List Action → Option BlockId → Part
put_new p layout actions id = record p {
  serials = p.serials + 1;
  blocks = if not (is_nil actions) || passes_local p layout then p.blocks else option_map_or (λ id. insert p.blocks id (own_block layout)) id p.blocks;
}

-- the part after a call with this reply
abbrev pub part_after : Part → Call → Reply → Part
part_after p (call.New to layout actions) (reply.Block id) = put_register (put_new p layout actions id) to id
part_after p (call.Load to from at) (reply.Block b) = put_register p to b
part_after p (call.GetRoot to root) (reply.Block b) = put_register p to b
part_after p (call.Take to id) (reply.Block b) = put_register p to b
part_after p (call.GetAssoc to object key) (reply.Block b) = put_register p to b
part_after p (call.ReadWeak to loc) (reply.Block b) = put_register p to b
part_after p (call.Store into at from) reply.Done = put_word p (p.registers into) at (reference (p.registers from))
part_after p (call.Put into at number) reply.Done = put_word p (p.registers into) at (word.Number number)
part_after p (call.Copy to from) reply.Done = put_register p to (p.registers from)
part_after p (call.DropReg reg) reply.Done = put_register p reg None
part_after p call.CollectLocal (reply.Reclaimed gone) = leave_part p (among gone.list)
part_after p call.Leave (reply.Reclaimed gone) = record p { registers = λ r. None; blocks = empty; ended = true }
part_after p _ _ = p

-- the part after one entry, from the part, the call and the reply alone: it stays after a misuse or Busy; else the blocks of Need leave it, and then the call changes it
abbrev pub PartStep : Part → Call → Reply → Part → Type 0
PartStep p call (reply.Misuse m) after = after ≡ p
PartStep p call reply.Busy after = after ≡ p
PartStep p call reply after = (need : BlockId → Bool) × Tells need (NeedWithin p call) × (after ≡ part_after (leave_part p need) call reply)

-- the parts that a list of entries leads through
abbrev pub PartRun : Part → List Entry → Part → Type 0
PartRun p [] last = last ≡ p
PartRun p (e ∷ es) last = (mid : Part) × PartStep p e.call e.reply mid × PartRun mid es last

-- the part after a thread's entries, from the opening part
abbrev pub Solo : Options → List Entry → Part → Type 0
Solo o es last = PartRun (opening_part o) es last
