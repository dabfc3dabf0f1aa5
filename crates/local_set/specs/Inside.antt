-- What the fields of a local set keep
use Rattle.std.specs.Prelude.{◌≡◌, ◌≤◌, ◌^◌, ℕ, None, true, length}
use Rattle.std.specs.FinMap.{get}
use Rattle.az_base.specs.Ids.{id_of}
use Rattle.zone_model.specs.Quanta.{quanta_where}
use Rattle.local_set.specs.LocalSets.{blocks_of}
use Rattle.local_set.specs.declared.local.Local.TheInside.{Inside}

pub record IsLocal (l : Inside) : Type 0 where
  pub fits : quanta_where (λ id b. true) (blocks_of l.blocks.list) ≤ l.options.local_quanta
  pub most : l.options.local_quanta ≤ 65536
  pub few : l.serials ≤ l.options.serials
  pub range : l.options.serials ≤ 2 ^ 32
  -- no more entries wait than the option pending says
  pub queue : length l.waiting.list ≤ l.options.pending
  -- ids are given once
  pub fresh : (s : ℕ) → l.serials ≤ s → get (blocks_of l.blocks.list) (id_of l.thread s) ≡ None
