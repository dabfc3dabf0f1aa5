-- What a weak location shows, told from the entries
use Rattle.std.specs.Prelude.{◌≡◌, ℕ, ◌⊎◌, ◌||◌, Bool, false, List, ◌∷◌, ◌++◌, Option, Some, None, if◌then◌else◌}
use Rattle.std.specs.List.{list_any}
use Rattle.az_base.specs.declared.block_id.BlockId.{BlockId}
use Rattle.az_base.specs.declared.options.Options.{Options}
use Rattle.az_base.specs.declared.misuse.Misuse.{Misuse}
use Rattle.az_base.specs.declared.weak_loc.WeakLoc.{WeakLoc}
use Rattle.az_base.specs.Ids.{among}
use Rattle.zone_model.specs.declared.call.Call.TheVariants as call
use Rattle.zone_model.specs.declared.call.Loc.{Loc}
use Rattle.zone_model.specs.declared.entry.Reply.{Reply}
use Rattle.zone_model.specs.declared.entry.Reply.TheVariants as reply
use Rattle.zone_model.specs.declared.entry.Entry.{Entry}
use Rattle.zone_model.specs.State.{State, is_condemned, opening}
use Rattle.zone_model.specs.Effect.{weak_loc}
use Rattle.zone_model.specs.Step.{Step}
use Rattle.zone_model.specs.History.{Run, Ends}

-- at this state the entry is a `setweak` without misuse that assigns this block, or null, to the location
abbrev pub Assigns : State → Entry → WeakLoc → Option BlockId → Type 0
Assigns z e l v = (loc : Loc) × (from : ℕ) × (e.call ≡ call.SetWeak loc from) × ((m : Misuse) → ¬ (e.reply ≡ reply.Misuse m))
    × (weak_loc z e.thread loc ≡ Some l) × (v ≡ z.registers e.thread from)

-- from this state on, none of the entries assigns to the location
abbrev pub NoneAssigns : State → List Entry → WeakLoc → Type 0
NoneAssigns z es l = (before : List Entry) (e : Entry) (later : List Entry) (mid : State) → es ≡ before ++ e ∷ later → Run z before mid → (v : Option BlockId) → ¬ Assigns mid e l v

-- the entry is a Condemn that lists the block
abbrev pub lists_condemned : BlockId → Reply → Bool
lists_condemned b (reply.Condemned r) = among r.list b
lists_condemned b _ = false

-- what is left of an assigned block: null where it lay in the open cycle's condemned set, or where a later Condemn lists it
abbrev pub left_of : State → List Entry → Option BlockId → Option BlockId
left_of z later None = None
left_of z later (Some b) = if is_condemned z b || list_any (λ e. lists_condemned b e.reply) later then None else Some b

-- the last entry of the history that assigns to the location, with the state before it, what it assigns, and what follows
pub record LastAssigned (o : Options) (history : List Entry) (l : WeakLoc) (z : State) (v : Option BlockId) (later : List Entry) : Type 0 where
  pub before : List Entry
  pub e : Entry
  pub mid : State
  pub split : history ≡ before ++ e ∷ later
  pub reaches : Ends o before z
  pub step : Step z e mid
  pub assigns : Assigns z e l v
  pub none_later : NoneAssigns mid later l

-- the location shows what is left of the block last assigned to it, and null where none was
abbrev pub WeakShows : Options → List Entry → WeakLoc → Option BlockId → Type 0
WeakShows o history l shows =
    (NoneAssigns (opening o) history l × (shows ≡ None))
    ⊎ ((z : State) × (v : Option BlockId) × (later : List Entry) × LastAssigned o history l z v later × (shows ≡ left_of z later v))
