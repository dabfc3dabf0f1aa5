-- What marking leaves as it is
use Rattle.std.proofs.Common.{◌≡◌, ℕ, zero, suc, ◌+◌, ◌*◌, ◌%◌, ◌/◌, Bool, true, false, if◌then◌else◌, List, Option, None, refl, ap, ◌∙◌, arith, get_or, map, nat_lt}
use Rattle.std.specs.Option.{option_map_or}
use Rattle.std.proofs.Math.Seq.{map-set_same}
use Rattle.std.proofs.Math.ListN.{get_or-map}
use Rattle.az_base.specs.declared.action.Mode.{Mode}
use Rattle.block_layouts.specs.declared.layout.Layout.{Layout}
use Rattle.block_layouts.specs.Layouts.{len_of}
use Rattle.quantum_space.specs.declared.placed.PlacedWord.{PlacedWord}
use Rattle.quantum_space.specs.declared.placed.PlacedWord.TheVariants as word
use Rattle.quantum_space.specs.declared.shade.Shade.{Shade}
use Rattle.quantum_space.specs.declared.shade.Shade.TheVariants as shade
use Rattle.quantum_space.specs.declared.spot.Spot.{Spot}
use Rattle.quantum_space.specs.declared.spot.Kind.{Kind}
use Rattle.quantum_space.specs.declared.spot.Kind.TheVariants as kind
use Rattle.quantum_space.specs.AdminMaps.{with_bytes}
use Rattle.quantum_space.specs.PlacedWords.{spot_at, unplaced, word_of}
use Rattle.quantum_space.specs.Regions.{Region', with_byte, with_word}
use Rattle.quantum_space.specs.Shapes.{Stack}
use Rattle.block_space.specs.Spaces.{Space', region, with_region}
use Rattle.block_space.specs.Marking.{IsGreyed, VisitsWord, VisitsWords, byte_in, forgotten, layout_in, len_in, shaded, unmarked, unmarked_region, unshaded, with_byte_in, with_word_in, word_in}

-- the parts of a kind
pub region_unmarked : (s : Space') (k : Kind) → region (unmarked s) k ≡ unmarked_region (region s k)
region_unmarked s kind.Small = refl
region_unmarked s kind.Medium = refl

abbrev with_map : Region' → List ℕ → Region'
with_map r bytes = record { map = with_bytes r.map bytes; ids = r.ids; layouts = r.layouts; words = map forgotten r.words; width = r.width; opened = r.opened; top = r.top }

abbrev with_words : Region' → List PlacedWord → Region'
with_words r ws = record { map = with_bytes r.map (map unshaded r.map.bytes); ids = r.ids; layouts = r.layouts; words = ws; width = r.width; opened = r.opened; top = r.top }

abbrev of_two : Space' → Region' → Region' → Space'
of_two s a b = record { small = a; medium = b; table = s.table; spare = s.spare; used = s.used }

-- another byte of the same block
noted_region : (r : Region') (at byte : ℕ) → unshaded byte ≡ unshaded (get_or r.map.bytes at 0) → unmarked_region (with_byte r at byte) ≡ unmarked_region r
noted_region r at byte e = ap (with_map r) (map-set_same unshaded r.map.bytes at byte 0 e)

pub unmarked_noted : (s : Space') (x : Spot) (byte : ℕ) → unshaded byte ≡ unshaded (byte_in s x) → unmarked (with_byte_in s x byte) ≡ unmarked s
unmarked_noted s x byte e = go x.kind x.at e
  where
    go : (k : Kind) (at : ℕ) → unshaded byte ≡ unshaded (get_or (region s k).map.bytes at 0) → unmarked (with_region s k (with_byte (region s k) at byte)) ≡ unmarked s
    go kind.Small at e = ap (λ (r : Region'). of_two s r (unmarked_region s.medium)) (noted_region s.small at byte e)
    go kind.Medium at e = ap (λ (r : Region'). of_two s (unmarked_region s.small) r) (noted_region s.medium at byte e)

-- the shade isn't told any more
pub shaded_off : (x : Shade) (b : ℕ) → unshaded (shaded x b) ≡ unshaded b
shaded_off shade.White b = omega arith
shaded_off shade.Grey b = omega arith
shaded_off shade.Black b = omega arith

pub unmarked_shaded : (s : Space') (x : Spot) (c : Shade) → unmarked (with_byte_in s x (shaded c (byte_in s x))) ≡ unmarked s
unmarked_shaded s x c = unmarked_noted s x (shaded c (byte_in s x)) (shaded_off c (byte_in s x))

-- another word that refers to the same block
referred_region : (r : Region') (at i : ℕ) (w : PlacedWord) → word_of w ≡ word_of (get_or r.words (at * r.width + i) word.Null) → unmarked_region (with_word r at i w) ≡ unmarked_region r
referred_region r at i w e = ap (with_words r) (map-set_same forgotten r.words (at * r.width + i) w word.Null (ap unplaced e))

pub unmarked_referred : (s : Space') (x : Spot) (i : ℕ) (w : PlacedWord) → word_of w ≡ word_of (word_in s x i) → unmarked (with_word_in s x i w) ≡ unmarked s
unmarked_referred s x i w e = go x.kind x.at e
  where
    go : (k : Kind) (at : ℕ) → word_of w ≡ word_of (get_or (region s k).words (at * (region s k).width + i) word.Null) → unmarked (with_region s k (with_word (region s k) at i w)) ≡ unmarked s
    go kind.Small at e = ap (λ (r : Region'). of_two s r (unmarked_region s.medium)) (referred_region s.small at i w e)
    go kind.Medium at e = ap (λ (r : Region'). of_two s (unmarked_region s.small) r) (referred_region s.medium at i w e)

-- visits
pub unmarked_greyed : (m : Mode) (s : Space') (x : Spot) (is_new : Bool) (new : Space') → IsGreyed m s x is_new new → unmarked new ≡ unmarked s
unmarked_greyed m s x is_new new g = go is_new g.changed
  where
    go : (t : Bool) → new ≡ (if t then with_byte_in s x (shaded shade.Grey (byte_in s x)) else s) → unmarked new ≡ unmarked s
    go true e = ap unmarked e ∙ unmarked_shaded s x shade.Grey
    go false e = ap unmarked e

pub unmarked_visited : (m : Mode) (w : PlacedWord) (s : Space') (g : Stack) (new : Space') (onto : Stack) → VisitsWord m w s g new onto → unmarked new ≡ unmarked s
unmarked_visited m word.Null s g new onto v = ap unmarked v.0
unmarked_visited m (word.Block id) s g new onto v = absurd v
unmarked_visited m (word.InSmall id at) s g new onto v = unmarked_greyed m s (spot_at kind.Small at) v.is_new new v.greyed
unmarked_visited m (word.InMedium id at) s g new onto v = unmarked_greyed m s (spot_at kind.Medium at) v.is_new new v.greyed
unmarked_visited m (word.Number n) s g new onto v = ap unmarked v.0

pub unmarked_words : (m : Mode) (x : Spot) (from n : ℕ) (s : Space') (g : Stack) (new : Space') (onto : Stack) → VisitsWords m x from n s g new onto → unmarked new ≡ unmarked s
unmarked_words m x from zero s g new onto v = ap unmarked v.0
unmarked_words m x from (suc n) s g new onto v = unmarked_visited m (word_in s x (from + n)) v.0 v.1 new onto v.3 ∙ unmarked_words m x from n s g v.0 v.1 v.2

-- what is read there
word_again : (w : PlacedWord) → word_of (forgotten w) ≡ word_of w
word_again word.Null = refl
word_again (word.Block id) = refl
word_again (word.InSmall id at) = refl
word_again (word.InMedium id at) = refl
word_again (word.Number n) = refl

pub word_unmarked : (s : Space') (x : Spot) (i : ℕ) → word_of (word_in (unmarked s) x i) ≡ word_of (word_in s x i)
word_unmarked s x i =
    ap (λ (r : Region'). word_of (get_or r.words (x.at * r.width + i) word.Null)) (region_unmarked s x.kind)
    ∙ ap word_of (get_or-map forgotten (region s x.kind).words (x.at * (region s x.kind).width + i) word.Null)
    ∙ word_again (word_in s x i)

pub byte_unmarked : (s : Space') (x : Spot) → byte_in (unmarked s) x ≡ unshaded (byte_in s x)
byte_unmarked s x = ap (λ (r : Region'). get_or r.map.bytes x.at 0) (region_unmarked s x.kind) ∙ get_or-map unshaded (region s x.kind).map.bytes x.at 0

pub layout_unmarked : (s : Space') (x : Spot) → layout_in (unmarked s) x ≡ layout_in s x
layout_unmarked s x = ap (λ (r : Region'). get_or r.layouts x.at None) (region_unmarked s x.kind)

pub len_unmarked : (s : Space') (x : Spot) → len_in (unmarked s) x ≡ len_in s x
len_unmarked s x = ap (λ (o : Option Layout). option_map_or len_of o 0) (layout_unmarked s x)

pub young_unmarked : (b : ℕ) → nat_lt ((unshaded b / 4) % 8) 3 ≡ nat_lt ((b / 4) % 8) 3
young_unmarked b = let e : unshaded b / 4 ≡ b / 4 = omega arith in ap (λ n. nat_lt (n % 8) 3) e
