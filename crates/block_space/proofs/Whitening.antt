-- All blocks turn white
use Rattle.std.proofs.Common.{◌≡◌, ℕ, suc, ◌-◌, ◌%◌, ◌≤◌, Bool, true, false, if◌then◌else◌, List, [], ◌∷◌, None, refl, sym, ap, ◌∙◌, arith, length, get_or, map}
use Rattle.std.proofs.Math.ListN.{get_or-map}
use Rattle.quantum_space.specs.declared.spot.Kind.TheVariants as kind
use Rattle.quantum_space.specs.AdminBytes.{begins_block, whitened}
use Rattle.quantum_space.specs.AdminMaps.{AdminMap', with_bytes}
use Rattle.quantum_space.specs.Regions.{IsRenotedRegion, Region', no_id}
use Rattle.quantum_space.proofs.Noting.{white_tells}
use Rattle.quantum_space.specs.declared.admin.Admin.{Admin}
use Rattle.block_space.specs.Spaces.{IsRenotedSpace, Space'}
use Rattle.block_space.specs.Maps.{IsSound}
use Rattle.block_space.specs.Marking.{AreWhite, byte_in, forgotten, shade_told, unmarked_region, unshaded}
use Rattle.block_space.specs.Tables.{Table'}

-- lists of one length that are alike at each place are one list
same_list : (xs ys : List ℕ) → length xs ≡ length ys → ((k : ℕ) → get_or xs k 0 ≡ get_or ys k 0) → xs ≡ ys
same_list [] [] n e = refl
same_list [] (y ∷ ys) n e = cc
same_list (x ∷ xs) [] n e = cc
same_list (x ∷ xs) (y ∷ ys) n e = ap (λ l. x ∷ l) (same_list xs ys (let m : length xs ≡ length ys = cc in m) (λ k. e (suc k))) ∙ ap (λ z. z ∷ ys) (e 0)

count_map : (xs : List ℕ) → length (map unshaded xs) ≡ length xs
count_map [] = refl
count_map (x ∷ xs) = ap suc (count_map xs)

-- the byte tells the same but for the shade
white_off : (b : ℕ) → unshaded (whitened b) ≡ unshaded b
white_off b = go (begins_block b)
  where
    go : (t : Bool) → unshaded (if t then b - b % 4 else b) ≡ unshaded b
    go true = omega arith
    go false = refl

white_used : (b : ℕ) → 128 ≤ b → 128 ≤ whitened b
white_used b l = go (begins_block b)
  where
    go : (t : Bool) → 128 ≤ (if t then b - b % 4 else b)
    go true = omega (arith, l)
    go false = l

abbrev map_of : ℕ → ℕ → List ℕ → AdminMap'
map_of size subzones bytes = record { size = size; subzones = subzones; bytes = bytes }

abbrev with_map : Region' → AdminMap' → Region'
with_map r m = record { map = m; ids = r.ids; layouts = r.layouts; words = map forgotten r.words; width = r.width; opened = r.opened; top = r.top }

white_region : (r new : Region') → IsRenotedRegion whitened r new → unmarked_region new ≡ unmarked_region r
white_region r new e = ap unmarked_region e.rest ∙ ap (with_map r) maps
  where
    bytes : map unshaded new.map.bytes ≡ map unshaded r.map.bytes
    bytes = same_list _ _ (count_map new.map.bytes ∙ e.map.count ∙ sym (count_map r.map.bytes))
        (λ k. get_or-map unshaded new.map.bytes k 0 ∙ ap unshaded (e.map.bytes k) ∙ white_off (get_or r.map.bytes k 0) ∙ sym (get_or-map unshaded r.map.bytes k 0))

    maps : with_bytes new.map (map unshaded new.map.bytes) ≡ with_bytes r.map (map unshaded r.map.bytes)
    maps = ap (λ n. map_of n new.map.subzones (map unshaded new.map.bytes)) e.map.size ∙ ap (λ n. map_of r.map.size n (map unshaded new.map.bytes)) e.map.subzones ∙ ap (map_of r.map.size r.map.subzones) bytes

abbrev space_with : Region' → Region' → Table' → List ℕ → ℕ → Space'
space_with a b t ns n = record { small = a; medium = b; table = t; spare = ns; used = n }

pub white_all : (s new : Space') → IsSound s → IsRenotedSpace whitened s new → AreWhite s new
white_all s new sound is = record {
  layouts = λ x. ap (λ (r : Region'). get_or r.layouts x.at None) (is.each x.kind).rest;
  ids = λ x. ap (λ (r : Region'). get_or r.ids x.at no_id) (is.each x.kind).rest;
  used = λ x l. (let e = (is.each x.kind).map.bytes x.at in omega (arith, e, white_used (byte_in s x) l));
  white = λ x l e. ap shade_told ((is.each x.kind).map.bytes x.at) ∙ ap (λ (a : Admin). a.shade) (white_tells (byte_in s x) ((sound.regions x.kind).blocks x.at l e).begins);
  rest = ap (λ (r : Region'). space_with r (unmarked_region new.medium) new.table new.spare new.used) (white_region s.small new.small (is.each kind.Small))
      ∙ ap (λ (r : Region'). space_with (unmarked_region s.small) r new.table new.spare new.used) (white_region s.medium new.medium (is.each kind.Medium))
      ∙ ap (λ (t : Table'). space_with (unmarked_region s.small) (unmarked_region s.medium) t new.spare new.used) is.table
      ∙ ap (λ (ns : List ℕ). space_with (unmarked_region s.small) (unmarked_region s.medium) s.table ns new.used) is.spare
      ∙ ap (λ (n : ℕ). space_with (unmarked_region s.small) (unmarked_region s.medium) s.table s.spare n) is.used;
}
