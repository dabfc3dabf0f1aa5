-- What can be written of calls: numbers within the ranges of their types, and finaliser actions of objects alone
use Rattle.std.specs.Prelude.{◌≡◌, ◌≤◌, ℕ, List, [], All, length}
use Rattle.az_base.specs.declared.action.Action.{Action}
use Rattle.az_base.specs.declared.action.Action.TheVariants as action
use Rattle.az_base.specs.declared.block_id.BlockId.{BlockId}
use Rattle.block_layouts.specs.declared.layout.Shape.{Shape}
use Rattle.block_layouts.specs.declared.layout.Shape.TheVariants as shape
use Rattle.block_layouts.specs.Shapes.{IsShape}
use Rattle.zone_model.specs.declared.act.Act.{Act}
use Rattle.zone_model.specs.declared.act.Act.TheVariants as act
use Rattle.zone_model.specs.declared.call.Call.{Call}
use Rattle.zone_model.specs.declared.call.Call.TheVariants as call
use Rattle.zone_model.specs.declared.call.Loc.{Loc}
use Rattle.zone_model.specs.declared.call.Loc.TheVariants as loc

-- the number of a register
abbrev pub IsReg : ℕ → Type 0
IsReg n = n ≤ 15

-- the number of a root, of a weak root or of a key
abbrev pub IsSmall : ℕ → Type 0
IsSmall n = n ≤ 255

-- a place, or a serial
abbrev pub IsPlace : ℕ → Type 0
IsPlace n = n ≤ 4294967295

-- a number of 64 bits
abbrev pub IsNumber : ℕ → Type 0
IsNumber n = n ≤ 18446744073709551615

-- the number of a thread
abbrev pub IsThread : ℕ → Type 0
IsThread n = (1 ≤ n) × (n ≤ 16)

abbrev pub IsId : BlockId → Type 0
IsId id = IsThread id.thread × IsPlace id.serial

abbrev pub IsAction : Action → Type 0
IsAction (action.Keep g) = IsSmall g.0
IsAction (action.Pass g at) = IsSmall g.0 × IsPlace at

abbrev pub AreActions : List Action → Type 0
AreActions actions = (length actions ≤ 8) × All IsAction actions

-- the number of words of a layout is one of 32 bits
abbrev pub IsLayout : Shape → Type 0
IsLayout (shape.Scanned n) = IsPlace n
IsLayout (shape.Unscanned n) = IsPlace n
IsLayout (shape.Object classes) = Unit {0}

abbrev pub IsLoc : Loc → Type 0
IsLoc (loc.Root w) = IsSmall w.0
IsLoc (loc.Word reg at) = IsReg reg × IsPlace at

-- the arguments of a call are in their ranges
abbrev pub IsCall : Call → Type 0
IsCall (call.New to layout actions) = IsReg to × IsLayout layout × AreActions actions
IsCall (call.Load to from at) = IsReg to × IsReg from × IsPlace at
IsCall (call.Store into at from) = IsReg into × IsPlace at × IsReg from
IsCall (call.Put into at number) = IsReg into × IsPlace at × IsNumber number
IsCall (call.Get from at) = IsReg from × IsPlace at
IsCall (call.Copy to from) = IsReg to × IsReg from
IsCall (call.DropReg reg) = IsReg reg
IsCall call.CollectLocal = Unit {0}
IsCall (call.SetRoot root from) = IsSmall root.0 × IsReg from
IsCall (call.GetRoot to root) = IsReg to × IsSmall root.0
IsCall (call.Retain reg) = IsReg reg
IsCall (call.Release reg) = IsReg reg
IsCall (call.Count reg) = IsReg reg
IsCall (call.Take to id) = IsReg to × IsId id
IsCall (call.SetAssoc object key value) = IsReg object × IsSmall key.0 × IsReg value
IsCall (call.GetAssoc to object key) = IsReg to × IsReg object × IsSmall key.0
IsCall (call.SetWeak loc from) = IsLoc loc × IsReg from
IsCall (call.ReadWeak to loc) = IsReg to × IsLoc loc
IsCall call.Stats = Unit {0}
IsCall (call.Begin mode) = Unit {0}
IsCall call.Condemn = Unit {0}
IsCall call.Finalise = Unit {0}
IsCall call.Reclaim = Unit {0}
IsCall call.Leave = Unit {0}

-- only an object has finaliser actions
abbrev pub ActsAsObject : Shape → List Action → Type 0
ActsAsObject (shape.Scanned n) actions = actions ≡ []
ActsAsObject (shape.Unscanned n) actions = actions ≡ []
ActsAsObject (shape.Object classes) actions = Unit {0}

-- a call that the grammar has: the layout of a new block is one that blocks may have
abbrev pub IsSpelled : Call → Type 0
IsSpelled (call.New to layout actions) = IsShape layout × ActsAsObject layout actions
IsSpelled _ = Unit {0}

-- what is asked for is such as the grammar has
abbrev pub IsSpelledAct : Act → Type 0
IsSpelledAct (act.Call c) = IsSpelled c
IsSpelledAct (act.Collect mode) = Unit {0}

-- what is asked for has its numbers in their ranges, and is such as the grammar has
abbrev pub ActFits : Act → Type 0
ActFits (act.Call c) = IsCall c × IsSpelled c
ActFits (act.Collect mode) = Unit {0}

-- a new block has at most so many finaliser actions
abbrev pub HasFewActions : ℕ → Act → Type 0
HasFewActions most (act.Call (call.New to layout actions)) = length actions ≤ most
HasFewActions most _ = Unit {0}

-- scripts and histories both name it: it is no step of a collection by itself, and no end of a thread
abbrev pub IsNamed : Act → Type 0
IsNamed (act.Call (call.Begin mode)) = ⊥
IsNamed (act.Call call.Condemn) = ⊥
IsNamed (act.Call call.Finalise) = ⊥
IsNamed (act.Call call.Reclaim) = ⊥
IsNamed (act.Call call.Leave) = ⊥
IsNamed _ = Unit {0}
