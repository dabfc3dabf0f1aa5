-- What one write after another does to a sink that may stop telling its bytes.
use Rattle.std.specs.Prelude.{◌≡◌, false, ℕ, ◌≤◌, ◌++◌, [], List, length}
use Rattle.std.proofs.Common.{◌∙◌, ap, append_assoc, append-nil, le_trans, le-add_right, length-append, refl, subst, sym}
use Rattle.az_outside.specs.InMemory.{SureStore}

-- as long as the sink tells its bytes they grew by these, and within its room it goes on telling them
pub record GrewWithinRoom (old new : SureStore) (bytes : List ℕ) : Type 0 where
  pub grew : new.over ≡ false → (old.over ≡ false) × (new.bytes ≡ old.bytes ++ bytes)
  pub tells : old.over ≡ false → length (old.bytes ++ bytes) ≤ old.room → new.over ≡ false
  pub same_room : new.room ≡ old.room

-- nothing was appended to a sink that stays as it is
pub grew_by_nothing : (a : SureStore) → GrewWithinRoom a a []
grew_by_nothing a = record { grew = λ told. (told, sym (append-nil a.bytes)); tells = λ told _. told; same_room = refl }

-- a list that grew isn't shorter
pub front_is_shorter : (front rest : List ℕ) → length front ≤ length (front ++ rest)
front_is_shorter front rest =
    subst (λ n. length front ≤ n) (sym (length-append front rest)) (le-add_right (length front) (length rest))

-- two pieces, one after the other
pub grew_by_both : (a b c : SureStore) (first second : List ℕ)
    → GrewWithinRoom a b first → GrewWithinRoom b c second → GrewWithinRoom a c (first ++ second)
grew_by_both a b c first second p q = record {
  grew = λ told.
      let mid = q.grew told in
      let start = p.grew mid.0 in
      (start.0, mid.1 ∙ ap (λ bytes. bytes ++ second) start.1 ∙ append_assoc a.bytes first second);
  tells = λ told fits.
      let both : length ((a.bytes ++ first) ++ second) ≤ a.room =
      subst (λ bytes. length bytes ≤ a.room) (sym (append_assoc a.bytes first second)) fits in
      let mid = p.tells told (le_trans (front_is_shorter (a.bytes ++ first) second) both) in
      let from_mid : length (b.bytes ++ second) ≤ a.room =
      subst (λ bytes. length (bytes ++ second) ≤ a.room) (sym (p.grew mid).1) both in
      q.tells mid (subst (λ room. length (b.bytes ++ second) ≤ room) (sym p.same_room) from_mid);
  same_room = q.same_room ∙ p.same_room;
}
