-- The tables of a heap stand for the states that it serves, and its holds tell what threads hold
use Rattle.std.proofs.Common.{◌≡◌, ◌<◌, ℕ, Option, Some, None, IsSome, is_some, refl, sym, ap, ◌∙◌, arith}
use Rattle.std.specs.Option.{option_map_or}
use Rattle.std.specs.FinMap.{FinMap, get}
use Rattle.az_base.specs.declared.action.Mode.{Mode}
use Rattle.az_base.specs.declared.block_id.BlockId.{BlockId}
use Rattle.az_base.specs.declared.options.Options.{Options}
use Rattle.az_base.specs.Places.{loc_cmp}
use Rattle.zone_model.specs.State.{State}
use Rattle.block_table.specs.Holds.{Holds, times}
use Rattle.block_table.specs.Table.{IsTable}
use Rattle.cycle_laws.specs.Shown.{Shows}
use Rattle.heap_tables.specs.Graphs.{graph_of}
use Rattle.heap_tables.specs.Standing.{AreTables, HoldsTell, TablesStand}
use Rattle.heap_tables.specs.Standing as tables
use Rattle.heap_tables.specs.declared.tables.Tables.{Tables}
use Rattle.heap_tables.proofs.Showing.{shows}
use Rattle.heap_cycle.specs.Collector.{Collector}
use Rattle.shared_heap.specs.Holding.{Serves}
use Rattle.shared_heap.specs.Ready.{Ready}
use Rattle.shared_heap.specs.Shared.{Shared}
use Rattle.shared_heap.proofs.Tells.{holds_tell, register_told, below_told}

-- what a heap with these tables shows
abbrev pub seen_over : Options → Tables → FinMap loc_cmp BlockId → Ready → Collector → Shared
seen_over options t weak ready gc = record { options = options; blocks = t.blocks.blocks; holds = t.blocks.holds; roots = t.roots; counts = t.counts.counts; assocs = t.assocs.pairs; weak = weak; ready = ready; room = t.blocks.room; gc = gc }

module _ (options : Options) (t : Tables) (weak : FinMap loc_cmp BlockId) (ready : Ready) (gc : Collector) (z : State) (u : ℕ) (s : Serves (seen_over options t weak ready gc) z u) where
  stand : TablesStand t z
  stand = record { blocks = s.stands.blocks; roots = s.stands.roots; counts = s.stands.counts; assocs = s.stands.assocs }

  -- whoever is held is there
  there : IsTable t.blocks → (v : ℕ) (b : BlockId) → 0 < tables.held t v b → IsSome (get t.blocks.blocks b)
  there table v b more = by (get t.blocks.holds b) refl more
    where
      by : (o : Option Holds) → get t.blocks.holds b ≡ o → 0 < option_map_or (λ (m : Holds). times m v) o 0 → IsSome (get t.blocks.blocks b)
      by None e m = absurd (omega (arith, m))
      by (Some m) e n = sym (table.holds b) ∙ ap is_some e

  tell : IsTable t.blocks → HoldsTell t z
  tell table = record {
    holds = λ v b more. holds_tell (seen_over options t weak ready gc) z s.stands s.holds s.sound v b (there table v b more) more;
    register = λ b r out. register_told (seen_over options t weak ready gc) z s.stands s.holds s.sound s.range b r out;
    below = λ b f out. below_told (seen_over options t weak ready gc) z s.stands s.holds s.sound b f out;
  }

  -- so the graph of the tables shows the state
  pub shown_to : (m : Mode) → AreTables t → Shows m z (graph_of t)
  shown_to m are = shows m t z are stand (tell are.blocks)
