-- Seats that one token has taken in, and what is known at the end
use Rattle.std.specs.Prelude.{◌≡◌, ⊤, ℕ, List, [], ◌∷◌, ◌++◌, Option, Some, All, Contains}
use mathlib.Core.Option.{some}
use mathlib.Core.List.{IsPrefix}
use lib.ListN.{get_elem?}
use Rattle.az_base.specs.declared.options.Options.{Options}
use Rattle.zone_model.specs.declared.entry.Entry.{Entry}
use Rattle.atomic_table.specs.Table.{Me}
use Rattle.zone_gate.specs.declared.view.View.{View}
use Rattle.zone_gate.specs.declared.view.Owned.{Owned}
use Rattle.zone_gate.specs.Owning.{Has, OwnIn, owned}
use Rattle.zone_gate.specs.Tokens.{AtRest}
use Rattle.zone_gate.specs.Shown.{SeatShown}

-- the view has seen what the seat had, and has its thread with its entries
abbrev pub Knows : View → SeatShown → Type 0
Knows v s = IsPrefix s.seen v.seen × Has (owned s.thread s.own) v.own

-- so it is with all of them
abbrev pub KnowsAll : View → List SeatShown → Type 0
KnowsAll v [] = ⊤
KnowsAll v (s ∷ ss) = Knows v s × KnowsAll v ss

-- a token that was `start` is now `me`, and of all seats these are left
pub record Gathered {X : Type 0} (start me : Me (Option X) View) (all left : List SeatShown) : Type 0 where
  pub taken : List SeatShown
  pub parts : all ≡ left ++ taken
  pub knows : KnowsAll me.0 taken
  pub at_rest : AtRest me
  pub seen : IsPrefix start.0.seen me.0.seen
  pub own : (x : Owned) → Has x start.0.own → Has x me.0.own
  pub options_are : me.0.options ≡ start.0.options

-- the value in the slot at the end: its list begins with what was seen, has each thread's own entries, and no others
module _ {X : Type 0} (list_of : X → List Entry) (options_of : X → Options) where
  pub record Last (options : Options) (threads : List ℕ) (seen : List Entry) (own : List Owned) (xs : List (Option X)) : Type 0 where
    pub value : X
    pub at : get_elem? xs 0 ≡ some (Some value)
    pub options_are : options_of value ≡ options
    pub begins : IsPrefix seen (list_of value)
    pub owns : OwnIn (list_of value) own
    pub named : All (λ e. Contains threads e.thread) (list_of value)
