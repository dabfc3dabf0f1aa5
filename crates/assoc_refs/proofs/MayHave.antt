-- What has a list is in
use Rattle.std.proofs.Common.{◌≡◌, ℕ, Bool, true, false, cond, List, Option, Some, refl, sym, ap, subst, ◌∙◌}
use Rattle.std.specs.List.{IsDistinct}
use Rattle.std.specs.Map.{lookup, keys_of}
use Rattle.std.proofs.lemmas.Map.Entries.{place_from_lookup, lookup_from_place}
use Rattle.az_base.specs.declared.block_id.BlockId.{BlockId}
use Rattle.az_base.specs.Ids.{id_eq}
use Rattle.std.specs.Cmp.{IsEquivalence}
use Rattle.az_base.proofs.Ids.{eq_ids, eq_is, eq_self, same_turned}
use Rattle.assoc_refs.specs.Values.{Values}
use Rattle.assoc_refs.specs.Filter.{IsIn, HasAll}
use Rattle.assoc_refs.proofs.Keeping.{Relists}

equivalence : IsEquivalence id_eq
equivalence = record {
  refl = eq_self;
  symm = λ a b. eq_ids a b ∙ same_turned a b ∙ sym (eq_ids b a);
  congr = λ a b q e. ap (λ x. id_eq x q) (eq_is a b e);
}

pub found-in : (taken : List Bool) (mask : ℕ) (es : List (BlockId × Values)) → HasAll taken mask es → (q : BlockId) (v : Values) → lookup (id_eq q) es ≡ Some v → IsIn taken mask q
found-in taken mask es all q v e =
    let p = place_from_lookup (id_eq q) es v e in
    subst (IsIn taken mask) (sym (eq_is q p.1 p.3)) (all p.0 p.1 v p.2)

pub all-in : (taken : List Bool) (mask : ℕ) (es : List (BlockId × Values)) → IsDistinct id_eq (keys_of es) → ((q : BlockId) (v : Values) → lookup (id_eq q) es ≡ Some v → IsIn taken mask q) → HasAll taken mask es
all-in taken mask es once met n object v e = met object v (lookup_from_place equivalence es n object v once e)

-- where one object more has a list
pub joins : (taken : List Bool) (mask : ℕ) (es fs : List (BlockId × Values)) (object : BlockId) (x : Option Values) → HasAll taken mask es → IsIn taken mask object → Relists object x es fs
    → (q : BlockId) (v : Values) → lookup (id_eq q) fs ≡ Some v → IsIn taken mask q
joins taken mask es fs object x all is_in is q v e = by (id_eq object q) refl
  where
    by : (b : Bool) → id_eq object q ≡ b → IsIn taken mask q
    by true same = subst (IsIn taken mask) (eq_is object q same) is_in
    by false other = found-in taken mask es all q v (sym (ap (λ b. cond b x (lookup (id_eq q) es)) other) ∙ sym (is q) ∙ e)
