-- Walks that change what is noted of all blocks
use Rattle.std.proofs.Common.{◌≡◌, ℕ, ◌+◌, ◌-◌, ◌*◌, ◌/◌, ◌%◌, ◌<◌, ◌≤◌, ◌==◌, ◌&&◌, nat_le, nat_lt, min, Bool, true, false, if◌then◌else◌, List, refl, sym, ap, ◌∙◌, subst, arith, length, get_or}
use Rattle.std.proofs.lemmas.Bool.{le-leb, leb-true, lt-ltb, ltb-true, ltb-false, ne_eqb}
use Rattle.block_layouts.specs.declared.layout.Layout.{Layout}
use Rattle.quantum_space.specs.declared.admin.Admin.{Admin}
use Rattle.quantum_space.specs.declared.shade.Shade.{Shade}
use Rattle.quantum_space.specs.declared.shade.Shade.TheVariants as shade
use Rattle.quantum_space.specs.AdminBytes.{admin_of, aged, begins_block, shade_of, whitened, with_age, with_shade}
use Rattle.quantum_space.specs.AdminMaps.{AdminMap', AreCursors, IsRenoted, with_bytes}
use Rattle.quantum_space.specs.Regions.{IsFirstByte, IsRegion, Lies, Region', further_byte}
use Rattle.quantum_space.proofs.Cursors.{cursors_fewer}

-- free quanta stay free, further ones further ones, and a block may begin with what its first byte becomes
pub record IsRule (f : ℕ → ℕ) : Type 0 where
  pub free : f 0 ≡ 0
  pub used : (b : ℕ) → f b ≡ 0 → b ≡ 0
  pub further : f further_byte ≡ further_byte
  pub first : (b : ℕ) → IsFirstByte b → IsFirstByte (f b)

begins_first : (b : ℕ) → IsFirstByte b → begins_block b ≡ true
begins_first b first = ap (λ t. if t then false else nat_le 128 b) (ne_eqb b 131 first.1) ∙ le-leb 128 b first.0

begins_used : (b : ℕ) → begins_block b ≡ true → 128 ≤ b
begins_used b e = go (b == 131) e
  where
    go : (t : Bool) → (if t then false else nat_le 128 b) ≡ true → 128 ≤ b
    go true e = cc
    go false e = leb-true 128 b e

-- white blocks
white_first : (b : ℕ) → IsFirstByte b → whitened b ≡ b - b % 4
white_first b first = ap (λ t. if t then b - b % 4 else b) (begins_first b first)

white_may_begin : (b : ℕ) → IsFirstByte b → IsFirstByte (b - b % 4)
white_may_begin b first =
    let used : 128 ≤ b = first.0 in
    let quarter : (b - b % 4) / 4 ≡ b / 4 = omega arith in
    (omega (arith, used), λ e. omega (arith, e), subst (λ n. n % 8 ≤ 3) (sym quarter) first.2)

white_used : (b : ℕ) → whitened b ≡ 0 → b ≡ 0
white_used b e = go (begins_block b) refl e
  where
    go : (t : Bool) → begins_block b ≡ t → (if t then b - b % 4 else b) ≡ 0 → b ≡ 0
    go true s z = absurd (omega (arith, begins_used b s, z))
    go false s z = z

pub white_rule : IsRule whitened
white_rule = record {
  free = refl;
  used = white_used;
  further = refl;
  first = λ b first. subst (λ n. IsFirstByte n) (sym (white_first b first)) (white_may_begin b first);
}

abbrev of_four : Shade → ℕ → Bool → Bool → Admin
of_four s n c d = record { shade = s; age = n; card = c; finalised = d }

alike : (a b : Admin) → a.shade ≡ b.shade → a.age ≡ b.age → a.card ≡ b.card → a.finalised ≡ b.finalised → a ≡ b
alike a b e f g h =
    ap (λ (x : Shade). of_four x a.age a.card a.finalised) e ∙ ap (λ n. of_four b.shade n a.card a.finalised) f
    ∙ ap (λ (x : Bool). of_four b.shade b.age x a.finalised) g ∙ ap (λ (x : Bool). of_four b.shade b.age b.card x) h

pub white_tells : (b : ℕ) → IsFirstByte b → admin_of (whitened b) ≡ with_shade (admin_of b) shade.White
white_tells b first =
    let none : (b - b % 4) % 4 ≡ 0 = omega arith in
    let quarter : (b - b % 4) / 4 ≡ b / 4 = omega arith in
    let card : (b - b % 4) / 32 ≡ b / 32 = omega arith in
    let done : (b - b % 4) / 64 ≡ b / 64 = omega arith in
    ap admin_of (white_first b first) ∙ alike _ _ (ap shade_of none) (ap (λ n. n % 8) quarter) (ap (λ n. n % 2 == 1) card) (ap (λ n. n % 2 == 1) done)

-- older blocks
older : (b : ℕ) → begins_block b ≡ true → (b / 4) % 8 < 3 → aged b ≡ b + 4
older b e l = ap (λ t. if t && nat_lt ((b / 4) % 8) 3 then b + 4 else b) e ∙ ap (λ t. if t then b + 4 else b) (lt-ltb ((b / 4) % 8) 3 l)

as_old : (b : ℕ) → begins_block b ≡ true → nat_lt ((b / 4) % 8) 3 ≡ false → aged b ≡ b
as_old b e l = ap (λ t. if t && nat_lt ((b / 4) % 8) 3 then b + 4 else b) e ∙ ap (λ t. if t then b + 4 else b) l

older_may_begin : (b : ℕ) → IsFirstByte b → (b / 4) % 8 < 3 → IsFirstByte (b + 4)
older_may_begin b first l =
    let used : 128 ≤ b = first.0 in
    let age : ((b + 4) / 4) % 8 ≡ (b / 4) % 8 + 1 = omega (arith, l) in
    (omega (arith, used), λ e. omega (arith, e, l), omega (arith, age, l))

aged_first : (b : ℕ) → IsFirstByte b → IsFirstByte (aged b)
aged_first b first = go (nat_lt ((b / 4) % 8) 3) refl
  where
    go : (t : Bool) → nat_lt ((b / 4) % 8) 3 ≡ t → IsFirstByte (aged b)
    go true e = (let l = ltb-true ((b / 4) % 8) 3 e in subst (λ n. IsFirstByte n) (sym (older b (begins_first b first) l)) (older_may_begin b first l))
    go false e = subst (λ n. IsFirstByte n) (sym (as_old b (begins_first b first) e)) first

aged_used : (b : ℕ) → aged b ≡ 0 → b ≡ 0
aged_used b e = go (begins_block b && nat_lt ((b / 4) % 8) 3) e
  where
    go : (t : Bool) → (if t then b + 4 else b) ≡ 0 → b ≡ 0
    go true z = absurd (omega (arith, z))
    go false z = z

pub age_rule : IsRule aged
age_rule = record { free = refl; used = aged_used; further = refl; first = aged_first }

pub aged_tells : (b : ℕ) → IsFirstByte b → admin_of (aged b) ≡ with_age (admin_of b) (min 3 ((admin_of b).age + 1))
aged_tells b first = go (nat_lt ((b / 4) % 8) 3) refl
  where
    go : (t : Bool) → nat_lt ((b / 4) % 8) 3 ≡ t → admin_of (aged b) ≡ with_age (admin_of b) (min 3 ((b / 4) % 8 + 1))
    go true e =
        let l : (b / 4) % 8 < 3 = ltb-true ((b / 4) % 8) 3 e in
        let low : (b + 4) % 4 ≡ b % 4 = omega arith in
        let age : ((b + 4) / 4) % 8 ≡ min 3 ((b / 4) % 8 + 1) = omega (arith, l) in
        let card : (b + 4) / 32 ≡ b / 32 = omega (arith, l) in
        let done : (b + 4) / 64 ≡ b / 64 = omega (arith, l) in
        ap admin_of (older b (begins_first b first) l) ∙ alike _ _ (ap shade_of low) age (ap (λ n. n % 2 == 1) card) (ap (λ n. n % 2 == 1) done)
    go false e =
        let top : (b / 4) % 8 ≤ 3 = first.2 in
        let age : (b / 4) % 8 ≡ min 3 ((b / 4) % 8 + 1) = omega (arith, top, ltb-false ((b / 4) % 8) 3 e) in
        ap admin_of (as_old b (begins_first b first) e) ∙ alike _ _ refl age refl refl

-- what a walk by a rule keeps
module _ (f : ℕ → ℕ) (rule : IsRule f) where
  pub cursors_renoted : (m : AdminMap') (after low first : List ℕ) → AreCursors m low first → length after ≡ length m.bytes
      → ((k : ℕ) → get_or after k 0 ≡ f (get_or m.bytes k 0)) → AreCursors (with_bytes m after) low first
  cursors_renoted m after low first c same each = cursors_fewer m after low first c same (λ k e. rule.used _ (sym (each k) ∙ e))

  pub region_renoted : (r : Region') (m : AdminMap') → IsRegion r → IsRenoted f r.map m
      → IsRegion (record { map = m; ids = r.ids; layouts = r.layouts; words = r.words; width = r.width; opened = r.opened; top = r.top })
  region_renoted r m inv e = record {
    wide = inv.wide;
    large = omega (arith, inv.large, e.size);
    sized = e.count ∙ inv.sized ∙ ap (λ x. x * r.map.size) (sym e.subzones) ∙ ap (λ x. m.subzones * x) (sym e.size);
    ids = inv.ids ∙ sym e.count;
    layouts = inv.layouts ∙ sym e.count;
    words = inv.words ∙ ap (λ x. x * r.width) (sym e.count);
    enough = omega (arith, inv.enough, e.subzones);
    top_opened = (let s : r.opened * m.size ≡ r.opened * r.map.size = ap (λ x. r.opened * x) e.size in omega (arith, s, inv.top_opened));
    last = (let s : r.opened * m.size ≡ r.opened * r.map.size = ap (λ x. r.opened * x) e.size in omega (arith, s, inv.last, e.size));
    above = λ k b. e.bytes k ∙ ap f (inv.above k b) ∙ rule.free;
    blocks = λ at l stored. still at l (inv.blocks at l stored);
  }
    where
      still : (at : ℕ) (l : Layout) → Lies r at l → Lies (record { map = m; ids = r.ids; layouts = r.layouts; words = r.words; width = r.width; opened = r.opened; top = r.top }) at l
      still at l lies = record {
        subzone = lies.subzone;
        quantum = lies.quantum;
        place = lies.place ∙ ap (λ x. lies.subzone * x + lies.quantum) (sym e.size);
        there = omega (arith, lies.there, e.subzones);
        within = omega (arith, lies.within, e.size);
        begins = subst (λ n. IsFirstByte n) (sym (e.bytes at)) (rule.first _ lies.begins);
        goes_on = λ k b c. e.bytes k ∙ ap f (lies.goes_on k b c) ∙ rule.further;
      }
