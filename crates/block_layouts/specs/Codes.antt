-- The code of a layout
use Rattle.std.specs.Prelude.{◌≡◌, ℕ, ◌⊎◌, List, refl}
use Rattle.std.proofs.Common.{inl, inr}
use Rattle.std.specs.Coded.{Coded, code_by, coded⊎, coded_ℕ, coded_list}
use Rattle.az_base.specs.declared.word.Class.{Class}
use Rattle.az_base.specs.Codes.{coded_class}
use Rattle.block_layouts.specs.declared.layout.Layout.{Layout}
use Rattle.block_layouts.specs.declared.layout.Shape.TheVariants as shape

abbrev layout_code : Layout → ℕ ⊎ (ℕ ⊎ List Class)
layout_code (shape.Scanned n) = inl n
layout_code (shape.Unscanned n) = inr (inl n)
layout_code (shape.Object classes) = inr (inr classes)

abbrev layout_back : ℕ ⊎ (ℕ ⊎ List Class) → Layout
layout_back (inl n) = shape.Scanned n
layout_back (inr (inl n)) = shape.Unscanned n
layout_back (inr (inr classes)) = shape.Object classes

pub layout_again : (l : Layout) → layout_back (layout_code l) ≡ l
layout_again (shape.Scanned n) = refl
layout_again (shape.Unscanned n) = refl
layout_again (shape.Object classes) = refl

abbrev pub coded_layout : Coded Layout
coded_layout = code_by (ℕ ⊎ (ℕ ⊎ List Class)) (coded⊎ coded_ℕ (coded⊎ coded_ℕ (coded_list coded_class))) layout_code layout_back layout_again
