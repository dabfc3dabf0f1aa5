-- Codes of what collections show
use Rattle.std.specs.Prelude.{◌≡◌, ℕ, Bool, true, false, List, Option, refl}
use Rattle.std.specs.Coded.{Coded, code_by, coded×, coded_ℕ, coded_list, coded_option, coded_bool}
use Rattle.std.specs.FinMap.{FinMap}
use Rattle.std.specs.FinMap as map
use Rattle.az_base.specs.declared.action.Mode.{Mode}
use Rattle.az_base.specs.declared.action.Mode.TheVariants as mode
use Rattle.az_base.specs.declared.block_id.BlockId.{BlockId}
use Rattle.az_base.specs.Id.{coded_id}
use Rattle.az_base.specs.Ids.{id_cmp}
use Rattle.quantum_space.specs.declared.shade.Shade.{Shade}
use Rattle.block_table.specs.Codes.{coded_shade}
use Rattle.heap_cycle.specs.Collector.{Collecting, Collector}

abbrev mode_code : Mode → Bool
mode_code mode.Full = false
mode_code mode.Young = true

abbrev mode_back : Bool → Mode
mode_back false = mode.Full
mode_back true = mode.Young

pub mode_again : (m : Mode) → mode_back (mode_code m) ≡ m
mode_again mode.Full = refl
mode_again mode.Young = refl

abbrev pub coded_mode : Coded Mode
coded_mode = code_by Bool coded_bool mode_code mode_back mode_again

abbrev pub coded_collecting : Coded Collecting
coded_collecting = code_by (ℕ × (Mode × (List BlockId × (FinMap id_cmp Shade × (Option (List BlockId) × (ℕ × ℕ))))))
    (coded× coded_ℕ (coded× coded_mode (coded× (coded_list coded_id) (coded× (map.code coded_id coded_shade) (coded× (coded_option (coded_list coded_id)) (coded× coded_ℕ coded_ℕ))))))
    (λ g. (g.owner, (g.mode, (g.start, (g.shades, (g.condemned, (g.left, g.rooms)))))))
    (λ p. record { owner = p.0; mode = p.1.0; start = p.1.1.0; shades = p.1.1.1.0; condemned = p.1.1.1.1.0; left = p.1.1.1.1.1.0; rooms = p.1.1.1.1.1.1 }) (λ _. refl)

abbrev pub coded_collector : Coded Collector
coded_collector = code_by (List BlockId × Option Collecting) (coded× (coded_list coded_id) (coded_option coded_collecting)) (λ g. (g.cards, g.cycle)) (λ p. record { cards = p.0; cycle = p.1 }) (λ _. refl)
