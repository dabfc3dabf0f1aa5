-- A finite map in which one key gets a value or loses it
use Rattle.std.specs.Prelude.{Option, None, Some}
use Rattle.std.specs.FinMap.{FinMap, insert, remove}
use Rattle.std.specs.declared.cmp.Ordering.{Ordering}

module _ {K X : Type 0} {R : K → K → Ordering} where
  -- the map with this value at the key, or with none there
  abbrev pub with_value : FinMap R X → K → Option X → FinMap R X
  with_value m k None = remove m k
  with_value m k (Some x) = insert m k x
