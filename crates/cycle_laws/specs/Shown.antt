-- What a graph has to do with the state for which its owner stands
use Rattle.std.specs.Prelude.{◌≡◌, ◌⊎◌, ◌↔◌, IsTrue, IsFalse, List}
use Rattle.az_base.specs.declared.action.Mode.{Mode}
use Rattle.az_base.specs.declared.block_id.BlockId.{BlockId}
use Rattle.az_base.specs.Ids.{among}
use Rattle.quantum_space.specs.Shapes.{Shape, Has, edges, anchors}
use Rattle.gen_marker.specs.Marking.{in_scope}
use Rattle.zone_model.specs.State.{State, Cycle, is_escaped, is_unescaped}
use Rattle.zone_model.specs.Reach.{Edge, IsHeld, is_young}

-- an unescaped block refers to it
abbrev pub FromUnescaped : State → BlockId → Type 0
FromUnescaped z b = (a : BlockId) × IsTrue (is_unescaped z a) × Edge z a b

-- the graph has the escaped blocks' edges, and its anchors are the escaped blocks that are held or to which unescaped ones refer
pub record Shows (m : Mode) (z : State) (s : Shape) : Type 0 where
  -- its edges are edges of the state
  pub real : (a b : BlockId) → Has (edges s a) b → Edge z a b
  -- it has all that lead from escaped blocks
  pub full : (a b : BlockId) → IsTrue (is_escaped z a) → Edge z a b → Has (edges s a) b
  -- its blocks have escaped, and it knows their ages
  pub escaped : (a : BlockId) → Has s.blocks a → IsTrue (is_escaped z a)
  pub young : (a : BlockId) → Has s.blocks a → s.young a ≡ is_young z a
  -- its anchors: those that the collection may take have to be there
  pub held : (b : BlockId) → Has s.blocks b → IsTrue (in_scope m s b) → IsHeld z b → Has (anchors s) b
  pub below : (b : BlockId) → Has s.blocks b → IsTrue (in_scope m s b) → FromUnescaped z b → Has (anchors s) b
  pub anchor : (b : BlockId) → Has (anchors s) b → IsHeld z b ⊎ FromUnescaped z b

-- the graph's blocks are those of the cycle's start
pub record HasStart (c : Cycle) (s : Shape) : Type 0 where
  pub start : (b : BlockId) → IsTrue (c.start b) ↔ Has s.blocks b

-- what is remembered while condemned blocks wait: each escaped block outside them that refers to one, unless that one is an anchor
abbrev pub Watches : State → Shape → List BlockId → Type 0
Watches z s r = (a b : BlockId) → IsTrue (is_escaped z a) → IsFalse (among r a) → IsTrue (among r b) → Has (edges s a) b → Has s.remembered a ⊎ Has (anchors s) b

-- these are blocks of the graph that the collection may take
abbrev pub IsWithinScope : Mode → Shape → List BlockId → Type 0
IsWithinScope m s r = (b : BlockId) → IsTrue (among r b) → Has s.blocks b × IsTrue (in_scope m s b)
