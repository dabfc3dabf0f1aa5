-- Two reads, one after the other, and parts of a list.
use Rattle.std.proofs.Common.{◌≡◌, ℕ, ◌+◌, ◌-◌, ◌<◌, ◌≤◌, IfSome, None, Some, arith, length-drop, take_all, List, ◌++◌, length, take, drop, length-append, ap, sym, ◌∙◌, subst}
use Rattle.std.specs.declared.option.Option.{Option}
use Rattle.std.specs.Io.KnownBytes.{Consumes}
use Rattle.std.proofs.KnownBytes.{Consumes-trans}
use Rattle.std.proofs.lemmas.List.{take_at, length-take-le}
use Rattle.std.proofs.lemmas.List.Folds.{drop_split}
use Rattle.std.proofs.Math.Seq.{take-add}
use Rattle.az_outside.specs.Bytes.{TakesAtMost, Takes}

-- two reads take exactly what both take
pub takes_more : (a b c : Option (List ℕ)) (first second : List ℕ) (n : ℕ)
    → Consumes a b first → Consumes b c second → length first + length second ≡ n → Takes n a c
takes_more a b c first second n p q e =
    record { taken = first ++ second; consumed = Consumes-trans a b c first second p q; many = length-append first second ∙ e }

-- two reads take at most what both take
pub takes_few : (a b c : Option (List ℕ)) (first second : List ℕ) (n : ℕ)
    → Consumes a b first → Consumes b c second → length first + length second ≤ n → TakesAtMost n a c
takes_few a b c first second n p q e =
    let P : ℕ → Type 0 = λ k. k ≤ n in
    record { taken = first ++ second; consumed = Consumes-trans a b c first second p q; few = subst P (sym (length-append first second)) e }

-- a source that gave so many bytes had as many
pub had_more : (a c : Option (List ℕ)) (limit : ℕ) → Takes (limit + 1) a c → IfSome a (λ bytes. limit < length bytes)
had_more None c limit p = tt
had_more (Some xs) None limit p = absurd p.consumed
had_more (Some xs) (Some ys) limit p = omega (arith, ap length p.consumed, length-append p.taken ys, p.many)

-- what a write of the rest appends, after what came before it
pub take_more_of : (xs : List ℕ) (d n : ℕ) → take (d + n) xs ≡ take d xs ++ take n (take (length xs - d) (drop d xs))
take_more_of xs d n =
    take-add d n xs ∙ ap (λ r. take d xs ++ take n r) (sym (take_all (length xs - d) (drop d xs) (omega (arith, length-drop d xs))))

-- a part that was copied to the front of a buffer, and what stands after it
pub given_part : (items copy buf : List ℕ) (at n : ℕ)
    → copy ≡ take (at + n - at) (drop at items) → at + n ≤ length items
    → drop at items ≡ take n (copy ++ drop n buf) ++ drop (at + n) items
given_part items copy buf at n copied fits =
    let few : length copy ≡ n = ap length copied ∙ length-take-le (at + n - at) (drop at items) (omega (arith, length-drop at items)) ∙ omega arith in
    let front : take n (copy ++ drop n buf) ≡ copy = take_at copy (drop n buf) n few in
    drop_split items at (at + n) (omega arith) ∙ ap (λ r. r ++ drop (at + n) items) (sym (front ∙ copied))
