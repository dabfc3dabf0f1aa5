-- Associations by object and key
use Rattle.std.specs.Prelude.{◌≡◌, ℕ, ◌<◌, ◌+◌, ◌^◌, not, List, [], ◌∷◌, ◌++◌, Option, Some, MatchOption, map, refl}
use Rattle.std.specs.Coded.{Coded, code_by, coded×, coded_option}
use Rattle.std.specs.FinMap as finite
use Rattle.std.specs.FinMap.{FinMap, entries, from_entries, retain_keys, empty, len}
use Rattle.std.specs.HashMap.{HashMap, spare}
use Rattle.std.specs.List.{IsDistinct}
use Rattle.std.specs.Map.{lookup, keys_of}
use Rattle.az_base.specs.declared.block_id.BlockId.{BlockId}
use Rattle.az_base.specs.declared.numbers.Key.{Key}
use Rattle.az_base.specs.Id.{coded_id}
pub use Rattle.az_base.specs.WithValue.{with_value}
use Rattle.az_base.specs.Ids.{id_eq, same_id}
use Rattle.az_base.specs.Places.{pair_cmp}
use Rattle.assoc_refs.specs.Values.{Values}
use Rattle.std.specs.Coded.{coded_ℕ}

-- the values by object and key, and the object for which there is room for one more, if there is one
pub record Associated : Type 0 where
  pub pairs : FinMap pair_cmp BlockId
  pub ready : Option BlockId

-- as a pair
abbrev pub coded_associated : Coded Associated
coded_associated =
    code_by (FinMap pair_cmp BlockId × Option BlockId) (coded× (finite.code (coded× coded_id coded_ℕ) coded_id) (coded_option coded_id))
    (λ a. (a.pairs, a.ready)) (λ p. record { pairs = p.0; ready = p.1 }) (λ _. refl)

-- without the pairs of the object
abbrev pub without_object : FinMap pair_cmp BlockId → BlockId → FinMap pair_cmp BlockId
without_object pairs object = retain_keys pairs (λ p. not (same_id object p.0))

-- the pairs of the object, in ascending keys
abbrev pub pairs_of : FinMap pair_cmp BlockId → BlockId → List (Key × BlockId)
pairs_of pairs object = map (λ (e : (BlockId × ℕ) × BlockId). let key : Key = record { 0 = e.0.1 } in (key, e.1)) (entries (retain_keys pairs (λ p. same_id object p.0)))

-- the object's values, each under the object and its key
abbrev pub lifted : BlockId → List (ℕ × BlockId) → List ((BlockId × ℕ) × BlockId)
lifted object es = map (λ (e : ℕ × BlockId). let r : (BlockId × ℕ) × BlockId = ((object, e.0), e.1) in r) es

-- all lists one after the other
abbrev pub all_pairs : List (BlockId × Values) → List ((BlockId × ℕ) × BlockId)
all_pairs [] = []
all_pairs (e ∷ es) = lifted e.0 (entries e.1.values) ++ all_pairs es

-- what the lists are together
abbrev pub shown_pairs : List (BlockId × Values) → FinMap pair_cmp BlockId
shown_pairs es = from_entries (all_pairs es)

-- one more pair of the object needs no memory: its list has room, or where it has none, there is room for its list and in the blank one
abbrev pub HasRoom : {S : Type 0} → HashMap BlockId Values S → Values → BlockId → Type 0
HasRoom lists blank object = MatchOption (lookup (id_eq object) lists.entries) ((0 < spare lists) × (0 < blank.spare)) (λ v. 0 < v.spare)

-- each object has one list and may have values, the pairs are counted, and there is room for the one that is ready
pub record IsTable {S : Type 0} (lists : HashMap BlockId Values S) (empty_list : Values) (count : ℕ) (ready : Option BlockId) (MayHave : BlockId → Type 0) : Type 0 where
  pub once : IsDistinct id_eq (keys_of lists.entries)
  pub total : count ≡ len (shown_pairs lists.entries)
  pub blank : empty_list.values ≡ empty
  pub room : (object : BlockId) → ready ≡ Some object → HasRoom lists empty_list object × (count + 1 < 2 ^ 64)
  pub met : (object : BlockId) (v : Values) → lookup (id_eq object) lists.entries ≡ Some v → MayHave object
