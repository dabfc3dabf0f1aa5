-- Codes of what models show
use Rattle.std.specs.Prelude.{ℕ, Bool, List, ◌≡◌, ◌⊎◌, refl}
use Rattle.std.proofs.Common.{inl, inr}
use Rattle.std.specs.Coded.{Coded, code_by, coded×, coded⊎, coded_ℕ, coded_list, coded_bool}
use base.Stored.{coded_unit}
use Rattle.std.specs.FinMap.{FinMap}
use Rattle.std.specs.FinMap as map
use Rattle.az_base.specs.declared.action.Action.{Action}
use Rattle.az_base.specs.declared.block_id.BlockId.{BlockId}
use Rattle.az_base.specs.declared.word.Word.{Word}
use Rattle.az_base.specs.Codes.{coded_action, coded_word}
use Rattle.az_base.specs.Id.{coded_id}
use Rattle.az_base.specs.Ids.{id_cmp}
use Rattle.block_layouts.specs.Codes.{coded_layout}
use Rattle.block_layouts.specs.declared.layout.Layout.{Layout}
use Rattle.quantum_space.specs.declared.shade.Shade.{Shade}
use Rattle.quantum_space.specs.declared.shade.Shade.TheVariants as shade
use Rattle.block_table.specs.Holds.{Holds}
use Rattle.block_table.specs.Stored.{HeapBlock}
use Rattle.block_table.specs.Table.{Table}
use Rattle.block_table.specs.Lying.{Kept'}

abbrev shade_code : Shade → Unit {0} ⊎ (Unit {0} ⊎ Unit {0})
shade_code shade.White = inl tt
shade_code shade.Grey = inr (inl tt)
shade_code shade.Black = inr (inr tt)

abbrev shade_back : Unit {0} ⊎ (Unit {0} ⊎ Unit {0}) → Shade
shade_back (inl u) = shade.White
shade_back (inr (inl u)) = shade.Grey
shade_back (inr (inr u)) = shade.Black

pub shade_again : (s : Shade) → shade_back (shade_code s) ≡ s
shade_again shade.White = refl
shade_again shade.Grey = refl
shade_again shade.Black = refl

abbrev pub coded_shade : Coded Shade
coded_shade = code_by (Unit {0} ⊎ (Unit {0} ⊎ Unit {0})) (coded⊎ coded_unit (coded⊎ coded_unit coded_unit)) shade_code shade_back shade_again

abbrev pub coded_holds : Coded Holds
coded_holds = map.code coded_ℕ coded_ℕ

abbrev pub coded_kept : Coded HeapBlock
coded_kept = code_by (Layout × (List Word × (List Action × (Bool × ℕ)))) (coded× coded_layout (coded× (coded_list coded_word) (coded× (coded_list coded_action) (coded× coded_bool coded_ℕ))))
    (λ k. (k.layout, (k.words, (k.actions, (k.finalised, k.age)))))
    (λ p. record { layout = p.0; words = p.1.0; actions = p.1.1.0; finalised = p.1.1.1.0; age = p.1.1.1.1 }) (λ _. refl)

abbrev pub coded_part : Coded Kept'
coded_part = code_by (List Action × (Holds × Bool)) (coded× (coded_list coded_action) (coded× coded_holds coded_bool))
    (λ k. (k.actions, (k.holds, k.finalised))) (λ p. record { actions = p.0; holds = p.1.0; finalised = p.1.1 }) (λ _. refl)

abbrev pub coded_table : Coded Table
coded_table = code_by (FinMap id_cmp HeapBlock × (FinMap id_cmp Holds × (FinMap id_cmp Shade × (List BlockId × (ℕ × List ℕ)))))
    (coded× (map.code coded_id coded_kept) (coded× (map.code coded_id coded_holds) (coded× (map.code coded_id coded_shade) (coded× (coded_list coded_id) (coded× coded_ℕ (coded_list coded_ℕ))))))
    (λ t. (t.blocks, (t.holds, (t.shades, (t.order, (t.began, t.room))))))
    (λ p. record { blocks = p.0; holds = p.1.0; shades = p.1.1.0; order = p.1.1.1.0; began = p.1.1.1.1.0; room = p.1.1.1.1.1 }) (λ _. refl)
