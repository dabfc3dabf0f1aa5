-- Walks over the admin bytes of both kinds
use Rattle.std.proofs.Common.{◌≡◌, ℕ, ◌+◌, ◌-◌, ◌*◌, min, inl, inr, Option, Some, None, refl, sym, ap, ◌∙◌, arith, length, get_or, slice_get}
use Rattle.std.specs.Option.{option_and_then, option_map_or}
use Rattle.quantum_space.specs.declared.placed.PlacedWord.TheVariants as word
use Rattle.block_layouts.specs.declared.layout.Layout.{Layout}
use Rattle.quantum_space.specs.declared.admin.Admin.{Admin}
use Rattle.quantum_space.specs.declared.place.Place.{Place}
use Rattle.quantum_space.specs.declared.shade.Shade.TheVariants as shade
use Rattle.quantum_space.specs.AdminBytes.{admin_of, aged, whitened, with_age, with_shade}
use Rattle.quantum_space.specs.Regions.{IsFirstByte, IsRenotedRegion, Region', no_id, room_of}
use Rattle.quantum_space.proofs.Noting.{aged_tells, white_tells}
use Rattle.quantum_space.specs.declared.spot.Spot.{Spot}
use Rattle.quantum_space.specs.declared.spot.Kind.{Kind}
use Rattle.quantum_space.specs.declared.spot.Kind.TheVariants as kind
use Rattle.block_space.specs.Tables.{Table', numbers}
use Rattle.block_space.specs.Spaces.{IsCovered, IsRenotedSpace, IsSpace, Space', admin_at, block_quanta, byte_at, kind_quanta, layout_at, region, size_of, spot_in, spot_of, width_of}
use Rattle.block_space.specs.Maps.{AreNoted, IsSound}
use Rattle.block_space.proofs.Mapping.{byte_spot, some_spot}

-- the same room
same_room : (f : ℕ → ℕ) (r new : Region') → IsRenotedRegion f r new → room_of new ≡ room_of r
same_room f r new e =
    let o = ap (λ (x : Region'). x.opened) e.rest in
    let t = ap (λ (x : Region'). x.top) e.rest in
    ap (λ x. (new.opened * x - new.top) + (new.map.subzones - new.opened) * (x - 31)) e.map.size
    ∙ ap (λ x. (new.opened * r.map.size - new.top) + (x - new.opened) * (r.map.size - 31)) e.map.subzones
    ∙ ap (λ x. (x * r.map.size - new.top) + (r.map.subzones - x) * (r.map.size - 31)) o
    ∙ ap (λ x. (r.opened * r.map.size - x) + (r.map.subzones - r.opened) * (r.map.size - 31)) t

covered_renoted : (f : ℕ → ℕ) (n : ℕ) (r new : Region') → IsRenotedRegion f r new → IsCovered n r → IsCovered n new
covered_renoted f n r new e (inl z) = inl z
covered_renoted f n r new e (inr l) = inr (omega (arith, l, same_room f r new e))

pub space_renoted : (f : ℕ → ℕ) (s : Space') (a b : Region') → IsSpace s → IsRenotedRegion f s.small a → IsRenotedRegion f s.medium b
    → IsSpace (record { small = a; medium = b; table = s.table; spare = s.spare; used = s.used })
space_renoted f s a b inv e g = record {
  opened = opened;
  size = size;
  width = width;
  used = (let x = ap (λ (r : Region'). block_quanta r.layouts) e.rest in let y = ap (λ (r : Region'). block_quanta r.layouts) g.rest in omega (arith, inv.used, x, y));
  few = inv.few;
  lengths = inv.lengths;
  covered = covered;
  unopened = (let x = ap (λ (r : Region'). r.opened) e.rest in let y = ap (λ (r : Region'). r.opened) g.rest in omega (arith, inv.unopened, x, y, e.map.subzones, g.map.subzones));
  rooms = inv.rooms;
}
  where
    opened : (k : Kind) → length (numbers s.table k) ≡ (region (record { small = a; medium = b; table = s.table; spare = s.spare; used = s.used }) k).opened
    opened kind.Small = inv.opened kind.Small ∙ sym (ap (λ (r : Region'). r.opened) e.rest)
    opened kind.Medium = inv.opened kind.Medium ∙ sym (ap (λ (r : Region'). r.opened) g.rest)

    size : (k : Kind) → (region (record { small = a; medium = b; table = s.table; spare = s.spare; used = s.used }) k).map.size ≡ size_of k
    size kind.Small = e.map.size ∙ inv.size kind.Small
    size kind.Medium = g.map.size ∙ inv.size kind.Medium

    width : (k : Kind) → (region (record { small = a; medium = b; table = s.table; spare = s.spare; used = s.used }) k).width ≡ width_of k
    width kind.Small = ap (λ (r : Region'). r.width) e.rest ∙ inv.width kind.Small
    width kind.Medium = ap (λ (r : Region'). r.width) g.rest ∙ inv.width kind.Medium

    covered : (k : Kind) → IsCovered (kind_quanta k s.spare) (region (record { small = a; medium = b; table = s.table; spare = s.spare; used = s.used }) k)
    covered kind.Small = covered_renoted f _ _ _ e (inv.covered kind.Small)
    covered kind.Medium = covered_renoted f _ _ _ g (inv.covered kind.Medium)

pub both_renoted : (f : ℕ → ℕ) (s : Space') (a b : Region') → IsRenotedRegion f s.small a → IsRenotedRegion f s.medium b
    → IsRenotedSpace f s (record { small = a; medium = b; table = s.table; spare = s.spare; used = s.used })
both_renoted f s a b e g = record { each = each; table = refl; spare = refl; used = refl }
  where
    each : (k : Kind) → IsRenotedRegion f (region s k) (region (record { small = a; medium = b; table = s.table; spare = s.spare; used = s.used }) k)
    each kind.Small = e
    each kind.Medium = g

-- what is noted of each block is what the rule makes of what was
module _ (f : ℕ → ℕ) (g : Admin → Admin) (tells : (b : ℕ) → IsFirstByte b → admin_of (f b) ≡ g (admin_of b)) (s new : Space') (sound : IsSound s) (is : IsRenotedSpace f s new) where
  spots : (p : Place) → spot_of new p ≡ spot_of s p
  spots p = ap (λ (t : Table'). option_and_then (λ z. spot_in z p.quantum) (slice_get t.subzones p.subzone)) is.table

  layouts_by : (m : Option Spot) → option_and_then (λ x. get_or (region new x.kind).layouts x.at None) m ≡ option_and_then (λ x. get_or (region s x.kind).layouts x.at None) m
  layouts_by None = refl
  layouts_by (Some x) = ap (λ (r : Region'). get_or r.layouts x.at None) (is.each x.kind).rest

  ids_by : (m : Option Spot) → option_map_or (λ x. get_or (region new x.kind).ids x.at no_id) m no_id ≡ option_map_or (λ x. get_or (region s x.kind).ids x.at no_id) m no_id
  ids_by None = refl
  ids_by (Some x) = ap (λ (r : Region'). get_or r.ids x.at no_id) (is.each x.kind).rest

  words_by : (i : ℕ) (m : Option Spot) → option_map_or (λ x. get_or (region new x.kind).words (x.at * (region new x.kind).width + i) word.Null) m word.Null
      ≡ option_map_or (λ x. get_or (region s x.kind).words (x.at * (region s x.kind).width + i) word.Null) m word.Null
  words_by i None = refl
  words_by i (Some x) = ap (λ (r : Region'). get_or r.words (x.at * r.width + i) word.Null) (is.each x.kind).rest

  admin_by : (p : Place) (l : Layout) → layout_at s p ≡ Some l → admin_at new p ≡ g (admin_at s p)
  admin_by p l e =
      let x = some_spot s p l e in
      let b = get_or (region s x.0.kind).map.bytes x.0.at 0 in
      let now : byte_at new p ≡ f b = byte_spot new p x.0 (spots p ∙ x.1) ∙ (is.each x.0.kind).map.bytes x.0.at in
      let first : IsFirstByte b = ((sound.regions x.0.kind).blocks x.0.at l x.2).begins in
      ap admin_of now ∙ tells b first ∙ ap (λ n. g (admin_of n)) (sym (byte_spot s p x.0 x.1))

  pub are_noted : AreNoted g s new
  are_noted = record {
    layouts = λ p. ap (λ (m : Option Spot). option_and_then (λ x. get_or (region new x.kind).layouts x.at None) m) (spots p) ∙ layouts_by (spot_of s p);
    ids = λ p. ap (λ (m : Option Spot). option_map_or (λ x. get_or (region new x.kind).ids x.at no_id) m no_id) (spots p) ∙ ids_by (spot_of s p);
    words = λ p i. ap (λ (m : Option Spot). option_map_or (λ x. get_or (region new x.kind).words (x.at * (region new x.kind).width + i) word.Null) m word.Null) (spots p) ∙ words_by i (spot_of s p);
    admins = admin_by;
  }

pub all_white : (s new : Space') → IsSound s → IsRenotedSpace whitened s new → AreNoted (λ a. with_shade a shade.White) s new
all_white = are_noted whitened (λ a. with_shade a shade.White) white_tells

pub all_older : (s new : Space') → IsSound s → IsRenotedSpace aged s new → AreNoted (λ a. with_age a (min 3 (a.age + 1))) s new
all_older = are_noted aged (λ a. with_age a (min 3 (a.age + 1))) aged_tells
