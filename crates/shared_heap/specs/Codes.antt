-- Codes of what models show
use Rattle.std.specs.Prelude.{ℕ, List, Option, refl}
use Rattle.std.specs.Coded.{Coded, code_by, coded×, coded_ℕ, coded_list, coded_option}
use Rattle.std.specs.FinMap.{FinMap}
use Rattle.std.specs.FinMap as map
use Rattle.az_base.specs.declared.block_id.BlockId.{BlockId}
use Rattle.az_base.specs.declared.options.Options.{Options}
use Rattle.az_base.specs.Codes.{coded_loc, coded_options}
use Rattle.az_base.specs.Id.{coded_id}
use Rattle.az_base.specs.Ids.{id_cmp}
use Rattle.az_base.specs.Places.{pair_cmp, loc_cmp}
use Rattle.heap_cycle.specs.Codes.{coded_collector}
use Rattle.heap_cycle.specs.Collector.{Collector}
use Rattle.block_table.specs.Codes.{coded_holds, coded_kept}
use Rattle.block_table.specs.Holds.{Holds}
use Rattle.block_table.specs.Stored.{HeapBlock}
use Rattle.shared_heap.specs.Ready.{Ready, coded_ready}
use Rattle.shared_heap.specs.Shared.{Shared}

-- of the counts, the associations and the weak locations
abbrev coded_counts : Coded (FinMap id_cmp ℕ)
coded_counts = map.code coded_id coded_ℕ

abbrev coded_assocs : Coded (FinMap pair_cmp BlockId)
coded_assocs = map.code (coded× coded_id coded_ℕ) coded_id

abbrev coded_weak : Coded (FinMap loc_cmp BlockId)
coded_weak = map.code coded_loc coded_id

-- the tables
abbrev Tables : Type 0
Tables = FinMap id_cmp ℕ × (FinMap pair_cmp BlockId × FinMap loc_cmp BlockId)

abbrev pub coded_shared : Coded Shared
coded_shared = code_by (Options × (FinMap id_cmp HeapBlock × (FinMap id_cmp Holds × (List (Option BlockId) × (Tables × (Ready × (List ℕ × Collector)))))))
    (coded× coded_options (coded× (map.code coded_id coded_kept) (coded× (map.code coded_id coded_holds) (coded× (coded_list (coded_option coded_id)) (coded× (coded× coded_counts (coded× coded_assocs coded_weak)) (coded× coded_ready (coded× (coded_list coded_ℕ) coded_collector)))))))
    (λ h. (h.options, (h.blocks, (h.holds, (h.roots, ((h.counts, (h.assocs, h.weak)), (h.ready, (h.room, h.gc))))))))
    (λ p. record { options = p.0; blocks = p.1.0; holds = p.1.1.0; roots = p.1.1.1.0; counts = p.1.1.1.1.0.0; assocs = p.1.1.1.1.0.1.0; weak = p.1.1.1.1.0.1.1; ready = p.1.1.1.1.1.0; room = p.1.1.1.1.1.1.0; gc = p.1.1.1.1.1.1.1 }) (λ _. refl)
