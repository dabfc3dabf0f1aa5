-- Words that know where their blocks lie
use Rattle.std.specs.Bool.{⊤}
use Rattle.std.proofs.Common.{Bool, true, false, ◌^◌, nat_lt, if◌then◌else◌, MatchOption, ◌≡◌, inl, inr, ℕ, zero, suc, ◌+◌, ◌*◌, ◌<◌, List, [], ◌∷◌, Option, Some, None, refl, sym, ap, ◌∙◌, subst, get_or, set, get_or-set_same}
use Rattle.az_base.specs.declared.block_id.BlockId.{BlockId}
use Rattle.az_base.specs.declared.word.Class.{Class}
use Rattle.az_base.specs.declared.word.Class.TheVariants as class
use Rattle.az_base.specs.declared.word.Word.{Word}
use Rattle.az_base.specs.declared.word.Word.TheVariants as plain
use Rattle.block_layouts.specs.declared.layout.Layout.{Layout}
use Rattle.block_layouts.specs.Layouts.{class_at, len_of}
use Rattle.quantum_space.specs.declared.placed.PlacedWord.{PlacedWord}
use Rattle.quantum_space.specs.declared.placed.PlacedWord.TheVariants as word
use Rattle.quantum_space.specs.PlacedWords.{in_kind, knowing, unplaced}
use Rattle.quantum_space.specs.Regions.{HasBlock, IsPlaced, IsRegion, IsRenotedRegion, IsRoomier, Region', new_word, no_id, with_byte, with_word}
use Rattle.quantum_space.specs.declared.spot.Spot.{Spot}
use Rattle.quantum_space.specs.declared.spot.Kind.{Kind}
use Rattle.quantum_space.specs.declared.spot.Kind.TheVariants as kind
use Rattle.block_space.specs.Tables.{Table'}
use Rattle.block_space.specs.Spaces.{AreRight, BeginsAt, IsRight, IsSpace, IsWhole, Space', altered, other, region, space_of}
use Rattle.block_space.proofs.Keeping.{IsKind, kept, unopened_both}
use Rattle.block_space.proofs.Still.{placed_only, placed_still}

-- each block of a region is there in another, with its id and words
pub record Keeps (r new : Region') : Type 0 where
  pub layouts : (k : ℕ) (o : Layout) → get_or r.layouts k None ≡ Some o → get_or new.layouts k None ≡ Some o
  pub ids : (k : ℕ) (o : Layout) → get_or r.layouts k None ≡ Some o → get_or new.ids k no_id ≡ get_or r.ids k no_id
  pub words : (k : ℕ) (o : Layout) (i : ℕ) → get_or r.layouts k None ≡ Some o → i < len_of o → get_or new.words (k * new.width + i) word.Null ≡ get_or r.words (k * r.width + i) word.Null

-- and there is no other
abbrev pub HasNoOther : Region' → Region' → Type 0
HasNoOther r new = (k : ℕ) (o : Layout) → get_or new.layouts k None ≡ Some o → get_or r.layouts k None ≡ Some o

pub keeps_itself : (r : Region') → Keeps r r
keeps_itself r = record { layouts = λ k o e. e; ids = λ k o e. refl; words = λ k o i e l. refl }

pub begins_still : (r new : Region') (at : ℕ) (id : BlockId) → Keeps r new → BeginsAt r.layouts r.ids at id → BeginsAt new.layouts new.ids at id
begins_still r new at id keeps h = go (get_or r.layouts at None) refl h
  where
    go : (m : Option Layout) → get_or r.layouts at None ≡ m → MatchOption m ⊥ (λ l. get_or r.ids at no_id ≡ id) → BeginsAt new.layouts new.ids at id
    go None e f = absurd f
    go (Some o) e f = subst (λ (m : Option Layout). MatchOption m ⊥ (λ l. get_or new.ids at no_id ≡ id)) (sym (keeps.layouts at o e)) (keeps.ids at o e ∙ f)

-- a word that was right is right where the blocks are kept
module _ (a b c d : Region') (small : Keeps a c) (medium : Keeps b d) where
  pub right_still : (w : PlacedWord) → IsRight a.layouts b.layouts a.ids b.ids w → IsRight c.layouts d.layouts c.ids d.ids w
  right_still word.Null h = h
  right_still (word.Block id) h = h
  right_still (word.InSmall id at) h = begins_still a c at id small h
  right_still (word.InMedium id at) h = begins_still b d at id medium h
  right_still (word.Number n) h = h

  pub rights_still : (r new : Region') → Keeps r new → HasNoOther r new → AreRight r a b → AreRight new c d
  rights_still r new keeps only right at l e i b =
      let was = only at l e in
      subst (λ (w : PlacedWord). IsRight c.layouts d.layouts c.ids d.ids w) (sym (keeps.words at l i was b)) (right_still (get_or r.words (at * r.width + i) word.Null) (right at l was i b))

pub keeps_roomier : (r new : Region') → IsRoomier r new → Keeps r new
keeps_roomier r new e = record {
  layouts = λ k o f. e.layouts k ∙ f;
  ids = λ k o f. e.ids k;
  words = λ k o i f l. ap (λ w. get_or new.words (k * w + i) word.Null) e.width ∙ e.words (k * r.width + i);
}

pub none_roomier : (r new : Region') → IsRoomier r new → HasNoOther r new
none_roomier r new e k o f = sym (e.layouts k) ∙ f

pub keeps_renoted : (f : ℕ → ℕ) (r new : Region') → IsRenotedRegion f r new → Keeps r new
keeps_renoted f r new e = record {
  layouts = λ k o g. ap (λ (x : Region'). get_or x.layouts k None) e.rest ∙ g;
  ids = λ k o g. ap (λ (x : Region'). get_or x.ids k no_id) e.rest;
  words = λ k o i g l. ap (λ (x : Region'). get_or x.words (k * x.width + i) word.Null) e.rest;
}

pub none_renoted : (f : ℕ → ℕ) (r new : Region') → IsRenotedRegion f r new → HasNoOther r new
none_renoted f r new e k o g = sym (ap (λ (x : Region'). get_or x.layouts k None) e.rest) ∙ g

-- words of new blocks refer to none
new_right : (ls ms : List (Option Layout)) (is js : List BlockId) (c : Option Class) → IsRight ls ms is js (new_word c)
new_right ls ms is js (Some class.Plain) = tt
new_right ls ms is js (Some class.Strong) = tt
new_right ls ms is js (Some class.Weak) = tt
new_right ls ms is js None = tt

-- a word of which nobody knows where its block lies
pub unplaced_right : (ls ms : List (Option Layout)) (is js : List BlockId) (w : Word) → IsRight ls ms is js (unplaced w)
unplaced_right ls ms is js plain.Null = tt
unplaced_right ls ms is js (plain.Block id) = tt
unplaced_right ls ms is js (plain.Number n) = tt

-- a block more
module _ (r new : Region') (inv : IsRegion r) (id : BlockId) (l : Layout) (f : ℕ × ℕ) (at : ℕ) (placed : IsPlaced r new id l f at) where
  pub keeps_placed : Keeps r new
  keeps_placed = record {
    layouts = λ k o e. (placed_still r new inv id l f at placed k o e).layout;
    ids = λ k o e. (placed_still r new inv id l f at placed k o e).id;
    words = λ k o i e b. (placed_still r new inv id l f at placed k o e).words i b;
  }

  pub rights_placed : (a b c d : Region') → Keeps a c → Keeps b d → AreRight r a b → AreRight new c d
  rights_placed a b c d small medium right k o e i lt = elim (placed_only r new inv id l f at placed k o e) [
    | inl s ↦ (let stored : get_or new.layouts at None ≡ Some l = ap (λ (xs : List (Option Layout)). get_or xs at None) placed.layouts ∙ get_or-set_same r.layouts at (Some l) None placed.inside in
        let here : get_or new.layouts at None ≡ Some o = ap (λ j. get_or new.layouts j None) (sym s) ∙ e in
        let same : o ≡ l = cc in
        let short : i < len_of l = subst (λ (x : Layout). i < len_of x) same lt in
        let w : get_or new.words (k * new.width + i) word.Null ≡ new_word (class_at l i) =
        ap (λ j. get_or new.words (j * new.width + i) word.Null) s ∙ ap (λ v. get_or new.words (at * v + i) word.Null) placed.width ∙ placed.words i short in
        subst (λ (x : PlacedWord). IsRight c.layouts d.layouts c.ids d.ids x) (sym w) (new_right c.layouts d.layouts c.ids d.ids (class_at l i)))
    | inr was ↦ subst (λ (x : PlacedWord). IsRight c.layouts d.layouts c.ids d.ids x) (sym (keeps_placed.words k o i was lt)) (right_still a b c d small medium (get_or r.words (k * r.width + i) word.Null) (right k o was i lt))
  ]

-- another word
set_keeps : (P : PlacedWord → Type 0) (ws : List PlacedWord) (j k : ℕ) (w : PlacedWord) → P w → P (get_or ws k word.Null) → P (get_or (set ws j w) k word.Null)
set_keeps P [] zero k w a b = b
set_keeps P [] (suc j) k w a b = b
set_keeps P (x ∷ ws) zero zero w a b = a
set_keeps P (x ∷ ws) zero (suc k) w a b = b
set_keeps P (x ∷ ws) (suc j) zero w a b = b
set_keeps P (x ∷ ws) (suc j) (suc k) w a b = set_keeps P ws j k w a b

pub rights_written : (r a b : Region') (at i : ℕ) (w : PlacedWord) → IsRight a.layouts b.layouts a.ids b.ids w → AreRight r a b → AreRight (with_word r at i w) a b
rights_written r a b at i w h right k o e j l = set_keeps (λ x. IsRight a.layouts b.layouts a.ids b.ids x) r.words (at * r.width + i) (k * r.width + j) w h (right k o e j l)

pub no_words : (r a b : Region') → ((k : ℕ) → get_or r.layouts k None ≡ None) → AreRight r a b
no_words r a b none at l e i k = absurd (let f = none at in let g : None ≡ Some l = sym f ∙ e in cc)

-- a whole space with other blocks of a kind, which keep those that were there
pub whole_small : (s : Space') (r : Region') (t : Table') (ns : List ℕ) (n : ℕ) → IsWhole s → Keeps s.small r → HasNoOther s.small r → IsSpace (altered s kind.Small r t ns n) → IsWhole (altered s kind.Small r t ns n)
whole_small s r t ns n inv keeps only space = record {
  space = space;
  small = rights_still s.small s.medium r s.medium keeps (keeps_itself s.medium) s.small r keeps only inv.small;
  medium = rights_still s.small s.medium r s.medium keeps (keeps_itself s.medium) s.medium s.medium (keeps_itself s.medium) (λ k o e. e) inv.medium;
}

pub whole_medium : (s : Space') (r : Region') (t : Table') (ns : List ℕ) (n : ℕ) → IsWhole s → Keeps s.medium r → HasNoOther s.medium r → IsSpace (altered s kind.Medium r t ns n) → IsWhole (altered s kind.Medium r t ns n)
whole_medium s r t ns n inv keeps only space = record {
  space = space;
  small = rights_still s.small s.medium s.small r (keeps_itself s.small) keeps s.small s.small (keeps_itself s.small) (λ k o e. e) inv.small;
  medium = rights_still s.small s.medium s.small r (keeps_itself s.small) keeps s.medium r keeps only inv.medium;
}

-- and with a block more
pub more_small : (s : Space') (r : Region') (t : Table') (ns : List ℕ) (n : ℕ) (id : BlockId) (l : Layout) (f : ℕ × ℕ) (at : ℕ) → IsWhole s → IsRegion s.small → IsPlaced s.small r id l f at → IsSpace (altered s kind.Small r t ns n)
    → IsWhole (altered s kind.Small r t ns n)
more_small s r t ns n id l f at inv region placed space =
    let keeps = keeps_placed s.small r region id l f at placed in
    record {
      space = space;
      small = rights_placed s.small r region id l f at placed s.small s.medium r s.medium keeps (keeps_itself s.medium) inv.small;
      medium = rights_still s.small s.medium r s.medium keeps (keeps_itself s.medium) s.medium s.medium (keeps_itself s.medium) (λ k o e. e) inv.medium;
    }

pub more_medium : (s : Space') (r : Region') (t : Table') (ns : List ℕ) (n : ℕ) (id : BlockId) (l : Layout) (f : ℕ × ℕ) (at : ℕ) → IsWhole s → IsRegion s.medium → IsPlaced s.medium r id l f at → IsSpace (altered s kind.Medium r t ns n)
    → IsWhole (altered s kind.Medium r t ns n)
more_medium s r t ns n id l f at inv region placed space =
    let keeps = keeps_placed s.medium r region id l f at placed in
    record {
      space = space;
      small = rights_still s.small s.medium s.small r (keeps_itself s.small) keeps s.small s.small (keeps_itself s.small) (λ k o e. e) inv.small;
      medium = rights_placed s.medium r region id l f at placed s.small s.medium s.small r (keeps_itself s.small) keeps inv.medium;
    }

-- bytes alone have changed
pub whole_renoted : (f : ℕ → ℕ) (s : Space') (a b : Region') → IsWhole s → IsRenotedRegion f s.small a → IsRenotedRegion f s.medium b → IsSpace (space_of a b s.table s.spare s.used) → IsWhole (space_of a b s.table s.spare s.used)
whole_renoted f s a b inv e g space = record {
  space = space;
  small = rights_still s.small s.medium a b (keeps_renoted f s.small a e) (keeps_renoted f s.medium b g) s.small a (keeps_renoted f s.small a e) (none_renoted f s.small a e) inv.small;
  medium = rights_still s.small s.medium a b (keeps_renoted f s.small a e) (keeps_renoted f s.medium b g) s.medium b (keeps_renoted f s.medium b g) (none_renoted f s.medium b g) inv.medium;
}

-- another word for a block
kind_written : (s : Space') (k : Kind) (at i : ℕ) (w : PlacedWord) → IsSpace s → IsKind s k (with_word (region s k) at i w) s.table s.spare s.used
kind_written s k at i w inv = record {
  opened = inv.opened k;
  other_opened = inv.opened (other k);
  size = refl;
  width = refl;
  used = refl;
  few = inv.few;
  lengths = inv.lengths;
  covered = inv.covered k;
  other_covered = inv.covered (other k);
  unopened = unopened_both s k inv;
  rooms = inv.rooms;
}

pub written_small : (s : Space') (at i : ℕ) (w : PlacedWord) → IsWhole s → IsRight s.small.layouts s.medium.layouts s.small.ids s.medium.ids w → IsWhole (altered s kind.Small (with_word s.small at i w) s.table s.spare s.used)
written_small s at i w inv right = record {
  space = kept s kind.Small (with_word s.small at i w) s.table s.spare s.used inv.space (kind_written s kind.Small at i w inv.space);
  small = rights_written s.small s.small s.medium at i w right inv.small;
  medium = inv.medium;
}

pub written_medium : (s : Space') (at i : ℕ) (w : PlacedWord) → IsWhole s → IsRight s.small.layouts s.medium.layouts s.small.ids s.medium.ids w → IsWhole (altered s kind.Medium (with_word s.medium at i w) s.table s.spare s.used)
written_medium s at i w inv right = record {
  space = kept s kind.Medium (with_word s.medium at i w) s.table s.spare s.used inv.space (kind_written s kind.Medium at i w inv.space);
  small = inv.small;
  medium = rights_written s.medium s.small s.medium at i w right inv.medium;
}

-- another admin byte for a block
kind_noted : (s : Space') (k : Kind) (at byte : ℕ) → IsSpace s → IsKind s k (with_byte (region s k) at byte) s.table s.spare s.used
kind_noted s k at byte inv = record {
  opened = inv.opened k;
  other_opened = inv.opened (other k);
  size = refl;
  width = refl;
  used = refl;
  few = inv.few;
  lengths = inv.lengths;
  covered = inv.covered k;
  other_covered = inv.covered (other k);
  unopened = unopened_both s k inv;
  rooms = inv.rooms;
}

pub noted_small : (s : Space') (at byte : ℕ) → IsWhole s → IsWhole (altered s kind.Small (with_byte s.small at byte) s.table s.spare s.used)
noted_small s at byte inv = record {
  space = kept s kind.Small (with_byte s.small at byte) s.table s.spare s.used inv.space (kind_noted s kind.Small at byte inv.space);
  small = inv.small;
  medium = inv.medium;
}

pub noted_medium : (s : Space') (at byte : ℕ) → IsWhole s → IsWhole (altered s kind.Medium (with_byte s.medium at byte) s.table s.spare s.used)
noted_medium s at byte inv = record {
  space = kept s kind.Medium (with_byte s.medium at byte) s.table s.spare s.used inv.space (kind_noted s kind.Medium at byte inv.space);
  small = inv.small;
  medium = inv.medium;
}

-- a block that may have turned grey
pub greyed_small : (s : Space') (at byte : ℕ) (is_new : Bool) → IsWhole s → IsWhole (altered s kind.Small (if is_new then with_byte s.small at byte else s.small) s.table s.spare s.used)
greyed_small s at byte true inv = noted_small s at byte inv
greyed_small s at byte false inv = inv

pub greyed_medium : (s : Space') (at byte : ℕ) (is_new : Bool) → IsWhole s → IsWhole (altered s kind.Medium (if is_new then with_byte s.medium at byte else s.medium) s.table s.spare s.used)
greyed_medium s at byte true inv = noted_medium s at byte inv
greyed_medium s at byte false inv = inv

-- a reference to a block that is there
pub knowing_right : (s : Space') (x : Spot) (id : BlockId) → HasBlock (region s x.kind) x.at → id ≡ get_or (region s x.kind).ids x.at no_id → IsRight s.small.layouts s.medium.layouts s.small.ids s.medium.ids (knowing id x)
knowing_right s x id has e = go (nat_lt x.at (2 ^ 32)) x.kind has e
  where
    begins : (m : Option Layout) (n : BlockId) → id ≡ n → MatchOption m ⊥ (λ l. ⊤) → MatchOption m ⊥ (λ l. n ≡ id)
    begins None n e h = absurd h
    begins (Some l) n e h = sym e

    go : (b : Bool) (k : Kind) → HasBlock (region s k) x.at → id ≡ get_or (region s k).ids x.at no_id → IsRight s.small.layouts s.medium.layouts s.small.ids s.medium.ids (if b then in_kind k id x.at else word.Block id)
    go false k h e = tt
    go true kind.Small h e = begins (get_or s.small.layouts x.at None) (get_or s.small.ids x.at no_id) e h
    go true kind.Medium h e = begins (get_or s.medium.layouts x.at None) (get_or s.medium.ids x.at no_id) e h
