-- Visits change admin bytes alone
use Rattle.std.proofs.Common.{◌≡◌, ℕ, ◌+◌, ◌*◌, ◌<◌, Bool, true, false, if◌then◌else◌, List, Option, Some, None, MatchOption, refl, sym, ap, ◌∙◌, subst, arith, get_or}
use Rattle.std.specs.Option.{option_map_or}
use Rattle.az_base.specs.declared.action.Mode.{Mode}
use Rattle.block_layouts.specs.declared.layout.Layout.{Layout}
use Rattle.block_layouts.specs.Layouts.{len_of}
use Rattle.quantum_space.specs.declared.placed.PlacedWord.{PlacedWord}
use Rattle.quantum_space.specs.declared.placed.PlacedWord.TheVariants as word
use Rattle.quantum_space.specs.declared.shade.Shade.TheVariants as shade
use Rattle.quantum_space.specs.declared.spot.Spot.{Spot}
use Rattle.quantum_space.specs.declared.spot.Kind.{Kind}
use Rattle.quantum_space.specs.declared.spot.Kind.TheVariants as kind
use Rattle.quantum_space.specs.PlacedWords.{spot_at}
use Rattle.quantum_space.specs.Regions.{HasWord, Region', with_byte}
use Rattle.quantum_space.specs.Shapes.{Stack}
use Rattle.block_space.specs.Spaces.{Space', region, with_region}
use Rattle.block_space.specs.Marking.{HasSameBlocks, IsGreyed, VisitsWord, byte_in, layout_in, len_in, shaded, with_byte_in, word_in}

-- what a kind's blocks share with those before stays where those of one kind keep it
module _ {X : Type 0} (f : Region' → X) where
  pub same_of : (s : Space') (c : Kind) (r : Region') → f r ≡ f (region s c) → (k : Kind) → f (region (with_region s c r) k) ≡ f (region s k)
  same_of s kind.Small r e kind.Small = e
  same_of s kind.Small r e kind.Medium = refl
  same_of s kind.Medium r e kind.Small = refl
  same_of s kind.Medium r e kind.Medium = e

pub same_itself : (s : Space') → HasSameBlocks s s
same_itself s = record { layouts = λ k. refl; ids = λ k. refl; words = λ k. refl; width = λ k. refl }

pub same_more : (a b c : Space') → HasSameBlocks a b → HasSameBlocks b c → HasSameBlocks a c
same_more a b c e f = record {
  layouts = λ k. f.layouts k ∙ e.layouts k;
  ids = λ k. f.ids k ∙ e.ids k;
  words = λ k. f.words k ∙ e.words k;
  width = λ k. f.width k ∙ e.width k;
}

pub noted_same : (s : Space') (x : Spot) (byte : ℕ) → HasSameBlocks s (with_byte_in s x byte)
noted_same s x byte = record {
  layouts = same_of (λ r. r.layouts) s x.kind (with_byte (region s x.kind) x.at byte) refl;
  ids = same_of (λ r. r.ids) s x.kind (with_byte (region s x.kind) x.at byte) refl;
  words = same_of (λ r. r.words) s x.kind (with_byte (region s x.kind) x.at byte) refl;
  width = same_of (λ r. r.width) s x.kind (with_byte (region s x.kind) x.at byte) refl;
}

pub greyed_same : (m : Mode) (s : Space') (x : Spot) (is_new : Bool) (new : Space') → IsGreyed m s x is_new new → HasSameBlocks s new
greyed_same m s x is_new new g = go is_new g.changed
  where
    go : (t : Bool) → new ≡ (if t then with_byte_in s x (shaded shade.Grey (byte_in s x)) else s) → HasSameBlocks s new
    go true e = subst (λ (y : Space'). HasSameBlocks s y) (sym e) (noted_same s x (shaded shade.Grey (byte_in s x)))
    go false e = subst (λ (y : Space'). HasSameBlocks s y) (sym e) (same_itself s)

pub visited_same : (m : Mode) (w : PlacedWord) (s : Space') (g : Stack) (new : Space') (onto : Stack) → VisitsWord m w s g new onto → HasSameBlocks s new
visited_same m word.Null s g new onto v = subst (λ (y : Space'). HasSameBlocks s y) (sym v.0) (same_itself s)
visited_same m (word.Block id) s g new onto v = absurd v
visited_same m (word.InSmall id at) s g new onto v = greyed_same m s (spot_at kind.Small at) v.is_new new v.greyed
visited_same m (word.InMedium id at) s g new onto v = greyed_same m s (spot_at kind.Medium at) v.is_new new v.greyed
visited_same m (word.Number n) s g new onto v = subst (λ (y : Space'). HasSameBlocks s y) (sym v.0) (same_itself s)

-- the words are those before
pub same_word : (s new : Space') (x : Spot) (i : ℕ) → HasSameBlocks s new → word_in new x i ≡ word_in s x i
same_word s new x i e =
    ap (λ (ws : List PlacedWord). get_or ws (x.at * (region new x.kind).width + i) word.Null) (e.words x.kind)
    ∙ ap (λ n. get_or (region s x.kind).words (x.at * n + i) word.Null) (e.width x.kind)

-- a block of so many words has the word
pub has_word : (s : Space') (x : Spot) (i : ℕ) → i < len_in s x → HasWord (region s x.kind) x.at i
has_word s x i lt = go (layout_in s x) lt
  where
    go : (m : Option Layout) → i < option_map_or len_of m 0 → MatchOption m ⊥ (λ l. i < len_of l)
    go None h = absurd (omega (arith, h))
    go (Some l) h = h

pub same_len : (s new : Space') (x : Spot) → HasSameBlocks s new → len_in new x ≡ len_in s x
same_len s new x e = ap (λ (ls : List (Option Layout)). option_map_or len_of (get_or ls x.at None) 0) (e.layouts x.kind)
