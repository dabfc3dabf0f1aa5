-- What a journal is seen as
use Rattle.std.specs.Prelude.{ℕ, List}
use Rattle.zone_model.specs.declared.entry.Entry.{Entry}

-- entries in their order, how many more there is room for, and for how many of these the room is owed
pub record Recorded : Type 0 where
  pub entries : List Entry
  pub spare : ℕ
  pub owed : ℕ
