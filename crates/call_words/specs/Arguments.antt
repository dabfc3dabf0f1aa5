-- The arguments of the calls
use Rattle.std.specs.Prelude.{ℕ, List, [], ◌∷◌}
use Rattle.az_base.specs.declared.action.Action.{Action}
use Rattle.az_base.specs.declared.action.Mode.TheVariants as mode
use Rattle.az_base.specs.declared.block_id.BlockId.{BlockId}
use Rattle.az_base.specs.declared.numbers.Key.{Key}
use Rattle.az_base.specs.declared.numbers.RootNo.{RootNo}
use Rattle.block_layouts.specs.declared.layout.Shape.{Shape}
use Rattle.zone_model.specs.declared.act.Act.{Act}
use Rattle.zone_model.specs.declared.act.Act.TheVariants as act
use Rattle.zone_model.specs.declared.call.Call.TheVariants as call
use Rattle.zone_model.specs.declared.call.Loc.{Loc}
use Rattle.call_words.specs.declared.names.CallName.{CallName}
use Rattle.call_words.specs.declared.names.CallName.TheVariants as names
use Rattle.call_words.specs.declared.keywords.CollectName.{CollectName}
use Rattle.call_words.specs.declared.keywords.CollectName.TheVariants as kind

-- a kind of argument
pub data Argument : Type 0 where
  Register : Argument
  Root : Argument
  AssocKey : Argument
  Place : Argument
  Number : Argument
  Id : Argument
  Location : Argument
  Memory : Argument
  Collection : Argument

-- what an argument of a kind says; memory is a layout with its actions
abbrev pub Said : Argument → Type 0
Said Register = ℕ
Said Root = RootNo
Said AssocKey = Key
Said Place = ℕ
Said Number = ℕ
Said Id = BlockId
Said Location = Loc
Said Memory = Shape × List Action
Said Collection = CollectName

-- what arguments of these kinds say
abbrev pub AllSaid : List Argument → Type 0
AllSaid [] = Unit {0}
AllSaid (kind ∷ kinds) = Said kind × AllSaid kinds

-- the arguments of each call
abbrev pub arguments_of : CallName → List Argument
arguments_of names.New = Register ∷ Memory ∷ []
arguments_of names.Load = Register ∷ Register ∷ Place ∷ []
arguments_of names.Store = Register ∷ Place ∷ Register ∷ []
arguments_of names.Put = Register ∷ Place ∷ Number ∷ []
arguments_of names.Get = Register ∷ Place ∷ []
arguments_of names.Copy = Register ∷ Register ∷ []
arguments_of names.Drop = Register ∷ []
arguments_of names.Collect = Collection ∷ []
arguments_of names.SetRoot = Root ∷ Register ∷ []
arguments_of names.GetRoot = Register ∷ Root ∷ []
arguments_of names.Retain = Register ∷ []
arguments_of names.Release = Register ∷ []
arguments_of names.Count = Register ∷ []
arguments_of names.Take = Register ∷ Id ∷ []
arguments_of names.SetAssoc = Register ∷ AssocKey ∷ Register ∷ []
arguments_of names.GetAssoc = Register ∷ Register ∷ AssocKey ∷ []
arguments_of names.SetWeak = Location ∷ Register ∷ []
arguments_of names.ReadWeak = Register ∷ Location ∷ []
arguments_of names.Stats = []

-- the act of a collection of this kind
abbrev pub collect_act : CollectName → Act
collect_act kind.Local = act.Call call.CollectLocal
collect_act kind.Young = act.Collect mode.Young
collect_act kind.Full = act.Collect mode.Full

-- the act of a call with what its arguments say
abbrev pub act_of : (name : CallName) → AllSaid (arguments_of name) → Act
act_of names.New (to, (memory, end)) = act.Call (call.New to memory.0 memory.1)
act_of names.Load (to, (from, (at, end))) = act.Call (call.Load to from at)
act_of names.Store (into, (at, (from, end))) = act.Call (call.Store into at from)
act_of names.Put (into, (at, (number, end))) = act.Call (call.Put into at number)
act_of names.Get (from, (at, end)) = act.Call (call.Get from at)
act_of names.Copy (to, (from, end)) = act.Call (call.Copy to from)
act_of names.Drop (reg, end) = act.Call (call.DropReg reg)
act_of names.Collect (kind, end) = collect_act kind
act_of names.SetRoot (root, (from, end)) = act.Call (call.SetRoot root from)
act_of names.GetRoot (to, (root, end)) = act.Call (call.GetRoot to root)
act_of names.Retain (reg, end) = act.Call (call.Retain reg)
act_of names.Release (reg, end) = act.Call (call.Release reg)
act_of names.Count (reg, end) = act.Call (call.Count reg)
act_of names.Take (to, (id, end)) = act.Call (call.Take to id)
act_of names.SetAssoc (object, (key, (value, end))) = act.Call (call.SetAssoc object key value)
act_of names.GetAssoc (to, (object, (key, end))) = act.Call (call.GetAssoc to object key)
act_of names.SetWeak (loc, (from, end)) = act.Call (call.SetWeak loc from)
act_of names.ReadWeak (to, (loc, end)) = act.Call (call.ReadWeak to loc)
act_of names.Stats end = act.Call call.Stats
