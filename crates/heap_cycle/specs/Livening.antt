-- What a call that stores or reads a block makes of the collections
use Rattle.std.specs.Prelude.{◌≡◌, ◌&&◌, ◌⊎◌, List, [], ◌∷◌, Option, None, Some, IsTrue, if◌then◌else◌, option_map}
use Rattle.std.specs.FinMap.{empty}
use Rattle.az_base.specs.declared.block_id.BlockId.{BlockId}
use Rattle.az_base.specs.declared.word.Word.{Word}
use Rattle.az_base.specs.declared.word.Word.TheVariants as word
use Rattle.az_base.specs.Ids.{among}
use Rattle.quantum_space.specs.declared.shade.Shade.{Shade}
use Rattle.quantum_space.specs.declared.shade.Shade.TheVariants as shade
use Rattle.gen_marker.specs.Marking.{is_white}
use Rattle.heap_cycle.specs.Collector.{Collecting, Collector, shade_in}

-- a cycle without its shades
abbrev pub unshaded : Collecting → Collecting
unshaded g = record g { shades = empty }

-- the shade of a block where these were enlivened: grey in place of white
abbrev pub enlivened : List BlockId → Collecting → BlockId → Shade
enlivened live g b = if among live b && is_white (shade_in g b) then shade.Grey else shade_in g b

-- these blocks were enlivened, and these may have been remembered
pub record Livens (old new : Collector) (live carded : List BlockId) : Type 0 where
  -- of an open cycle all stays but its shades
  pub cycle : option_map unshaded new.cycle ≡ option_map unshaded old.cycle
  -- while it marks, those of the start that were white are grey, and the others have the shade that they had
  pub shades : (f g : Collecting) → old.cycle ≡ Some f → new.cycle ≡ Some g → f.condemned ≡ None → (b : BlockId) → IsTrue (among f.start b) → shade_in g b ≡ enlivened live f b
  -- who was remembered still is, and nobody else but these
  pub cards : (b : BlockId) → IsTrue (among old.cards b) → IsTrue (among new.cards b)
  pub fewer : (b : BlockId) → IsTrue (among new.cards b) → IsTrue (among old.cards b) ⊎ IsTrue (among carded b)

-- the block, if there is one
abbrev pub of_option : Option BlockId → List BlockId
of_option None = []
of_option (Some b) = b ∷ []

-- the blocks to which the words refer
abbrev pub blocks_in : List Word → List BlockId
blocks_in [] = []
blocks_in (word.Block b ∷ words) = b ∷ blocks_in words
blocks_in (w ∷ words) = blocks_in words
