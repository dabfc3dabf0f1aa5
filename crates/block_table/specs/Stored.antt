-- What is kept of a block
use Rattle.std.specs.Prelude.{◌≤◌, ℕ, ◌+◌, min, Bool, false, List, length}
use Rattle.az_base.specs.declared.action.Action.{Action}
use Rattle.az_base.specs.declared.word.Word.{Word}
use Rattle.block_layouts.specs.declared.layout.Layout.{Layout}
use Rattle.block_layouts.specs.Fitting.{Fits}
use Rattle.quantum_space.specs.declared.shade.Shade.{Shade}
use Rattle.block_table.specs.Holds.{Holds}

-- an escaped block
pub record HeapBlock : Type 0 where
  pub layout : Layout
  pub words : List Word
  pub actions : List Action
  pub finalised : Bool
  -- how many Reclaims there were since it escaped, at most 3
  pub age : ℕ

-- its words are as its layout says, it has at most eight actions, and its age is at most 3
pub record IsWhole (k : HeapBlock) : Type 0 where
  pub words : Fits k.layout k.words
  pub actions : length k.actions ≤ 8
  pub age : k.age ≤ 3

-- a block that has just escaped
abbrev pub newly : Layout → List Word → List Action → HeapBlock
newly layout words actions = record { layout = layout; words = words; actions = actions; finalised = false; age = 0 }

-- the block after one Reclaim more
abbrev pub older : HeapBlock → HeapBlock
older k = record k { age = min (k.age + 1) 3 }

-- an escaped block, who holds it, and the shade that a collection gave it
pub record Row : Type 0 where
  pub kept : HeapBlock
  pub holds : Holds
  pub shade : Shade

-- the same after one Reclaim more
abbrev pub older_row : Row → Row
older_row r = record r { kept = older r.kept }
