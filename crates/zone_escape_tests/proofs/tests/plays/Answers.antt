use Rattle.std.proofs.Common.{◌≡◌, ◌==◌, ℕ, false, refl, ap, ◌∙◌}
use Rattle.zone_model.specs.State.{opening}
use Rattle.zone_escape.proofs.Belonging.{new_belongs}
use Rattle.zone_escape_tests.proofs.tests.plays.Goals as goal

apart : (t u a b : ℕ) → t ≡ a → u ≡ b → (a == b) ≡ false → (t == u) ≡ false
apart t u a b p q h = ap (λ x. x == u) p ∙ ap (λ x. a == x) q ∙ h

pub are_answered-requires : goal.are_answered-requires
are_answered-requires c =
    let k = c.in-Ok.core in
    let a = c.new-first in
    let b = c.new-second in
    let d = c.new-third in
    let one : a.result.thread ≡ 1 = a.ensures.thread ∙ c.in-Some-Some-Some.ensures.1 in
    let two : b.result.thread ≡ 2 = b.ensures.thread ∙ c.in-Some-Some-Some.ensures'.1 in
    let three : d.result.thread ≡ 3 = d.ensures.thread ∙ c.in-Some-Some-Some.ensures''.1 in
    record {
      state = (opening c.args.options, c.in-Ok.ensures.opened);
      first = new_belongs a.result k c.args.options c.in-Ok.ensures.opened record { part = a.ensures.part; out = a.ensures.waiting; published = a.ensures.published };
      second = new_belongs b.result k c.args.options c.in-Ok.ensures.opened record { part = b.ensures.part; out = b.ensures.waiting; published = b.ensures.published };
      third = new_belongs d.result k c.args.options c.in-Ok.ensures.opened record { part = d.ensures.part; out = d.ensures.waiting; published = d.ensures.published };
      first_second = apart _ _ 1 2 one two refl;
      first_third = apart _ _ 1 3 one three refl;
      second_first = apart _ _ 2 1 two one refl;
      second_third = apart _ _ 2 3 two three refl;
      third_first = apart _ _ 3 1 three one refl;
      third_second = apart _ _ 3 2 three two refl;
    }
