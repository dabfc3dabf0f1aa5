-- What holds of every table
use Rattle.std.proofs.Common.{◌≡◌, ℕ, suc, Bool, true, List, [], ◌∷◌, Option, Some, None, IsSome, length, is_some, refl, sym, ap, ◌∙◌, subst, arith}
use Rattle.std.specs.List.{list_any}
use Rattle.std.specs.Map.{lookup, keys_of}
use Rattle.std.proofs.lemmas.Map.Made.{is_some-lookup}
use Rattle.az_base.specs.declared.block_id.BlockId.{BlockId}
use Rattle.az_base.specs.Ids.{id_eq, among}
use Rattle.az_base.proofs.Ids.{eq_ids}
use Rattle.quantum_space.specs.Shapes.{Has, Once}
use Rattle.quantum_space.proofs.Lists.{has_among, among_has}
use Rattle.block_table.specs.Stored.{Row}
use Rattle.block_table.specs.Table.{Table, IsKept, IsTable, table_of}
use Rattle.block_table.proofs.Tables.{same_keys}
use Rattle.block_table.proofs.Found.{there_alike}

-- a key stands among the keys exactly where it is found
by_test : (b : BlockId) (ks : List BlockId) → list_any (id_eq b) ks ≡ among ks b
by_test b ks = ap (λ (t : BlockId → Bool). list_any t ks) (λ i y. eq_ids b y i)

pub key_there : (es : List (BlockId × Row)) (b : BlockId) → Has (keys_of es) b → is_some (lookup (id_eq b) es) ≡ true
key_there es b h = is_some-lookup (id_eq b) es ∙ by_test b (keys_of es) ∙ has_among (keys_of es) b h

pub there_key : (es : List (BlockId × Row)) (b : BlockId) → is_some (lookup (id_eq b) es) ≡ true → Has (keys_of es) b
there_key es b h = among_has (keys_of es) b (sym (is_some-lookup (id_eq b) es ∙ by_test b (keys_of es)) ∙ h)

some_is : {X : Type 0} (o : Option X) → is_some o ≡ true → IsSome o
some_is None e = cc
some_is (Some x) e = refl

is_some_of : {X : Type 0} (o : Option X) → IsSome o → is_some o ≡ true
is_some_of None e = cc
is_some_of (Some x) e = refl

pub long : (es : List (BlockId × Row)) → length (keys_of es) ≡ length es
long [] = refl
long (e ∷ es) = ap suc (long es)

pub tabled : (t : Table) (es : List (BlockId × Row)) (b u n : ℕ) (room : List ℕ) → table_of es b room ≡ t → Once (keys_of es) → IsKept es b u room n → IsTable t
tabled t es b u n room is once k = subst IsTable is (record {
  once = once;
  order = λ q. (
    (λ h. some_is _ (sym (there_alike (table_of es b room) es b room refl q _ refl) ∙ key_there es q h)),
    (λ h. there_key es q (there_alike (table_of es b room) es b room refl q _ refl ∙ is_some_of _ h)),
  );
  holds = λ q. same_keys (λ (r : Row). r.holds) (λ (r : Row). r.kept) es q;
  shades = λ q. same_keys (λ (r : Row). r.shade) (λ (r : Row). r.kept) es q;
  began = (let h = k.began in let l = long es in omega (arith, h, l));
  few = (let h = k.few in let l = long es in omega (arith, h, l));
})
