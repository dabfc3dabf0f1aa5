-- The quanta that blocks take
use Rattle.std.specs.Prelude.{ℕ, ◌+◌, ◌&&◌, ◌||◌, ◌==◌, nat_lt, Bool, not, List, if◌then◌else◌, is_some, is_none}
use Rattle.std.specs.FinMap.{FinMap}
use Rattle.az_base.specs.declared.action.Action.{Action}
use Rattle.az_base.specs.declared.block_id.BlockId.{BlockId}
use Rattle.block_layouts.specs.declared.layout.Layout.{Layout}
use Rattle.az_base.specs.Ids.{id_cmp}
use Rattle.block_layouts.specs.Layouts.{quanta, len_of}
use Rattle.zone_model.specs.Maps.{total}
use Rattle.zone_model.specs.State.{State, Block, is_nil}

-- the quanta of the blocks that pass a test
abbrev pub quanta_where : (BlockId → Block → Bool) → FinMap id_cmp Block → ℕ
quanta_where test blocks = total (λ id b. if test id b then quanta (len_of b.layout) else 0) blocks

-- the sum over the escaped blocks
abbrev pub used_quanta : State → ℕ
used_quanta z = quanta_where (λ id b. is_some b.since) z.blocks

-- the sum over the unescaped blocks of a thread
abbrev pub own_quanta : State → ℕ → ℕ
own_quanta z t = quanta_where (λ id b. (id.thread == t) && is_none b.since) z.blocks

-- the sum over the blocks that would escape
abbrev pub quanta_needed : State → (BlockId → Bool) → ℕ
quanta_needed z need = quanta_where (λ id b. need id) z.blocks

-- a block is born escaped where it has actions, or where the thread's unescaped blocks and it take more quanta than the option local
abbrev pub is_born_escaped : State → ℕ → Layout → List Action → Bool
is_born_escaped z t layout actions = not (is_nil actions) || nat_lt z.options.local_quanta (own_quanta z t + quanta (len_of layout))
