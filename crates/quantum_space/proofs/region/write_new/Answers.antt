use Rattle.std.proofs.Common.{◌≡◌, ◌≢◌, ◌+◌, ◌<◌, ◌∙◌, ℕ, List, inl, inr, arith, refl, ap, subst, length, get_or, set, get_or-set_other}
use Rattle.std.proofs.Math.ListN.{length-set}
use Rattle.quantum_space.specs.declared.placed.PlacedWord.{PlacedWord}
use Rattle.quantum_space.specs.declared.placed.PlacedWord.TheVariants as word
use Rattle.block_layouts.specs.declared.layout.Layout.{Layout}
use Rattle.block_layouts.specs.Layouts.{class_at, len_of}
use Rattle.quantum_space.specs.Regions.{AreNew, SameWords, new_word}
use Rattle.quantum_space.proofs.Cursors.{set_cases}
use Rattle.quantum_space.proofs.region.write_new.Goals as goal

one_more : (xs : List PlacedWord) (from i : ℕ) (l : Layout) (x : PlacedWord) → from + i < length xs → x ≡ new_word (class_at l i) → AreNew xs from i l → AreNew (set xs (from + i) x) from (i + 1) l
one_more xs from i l x b e new j k =
    set_cases (λ p y. p ≡ from + j → y ≡ new_word (class_at l j)) xs (from + i) x word.Null b
    (λ q. (let s : i ≡ j = omega (arith, q) in e ∙ ap (λ n. new_word (class_at l n)) s))
    (λ p a q. (let d : j ≢ i = λ s. a (q ∙ ap (λ n. from + n) s) in ap (λ n. get_or xs n word.Null) q ∙ new j (omega (arith, d, k)))) (from + j) refl

others_more : (was xs : List PlacedWord) (from i : ℕ) (x : PlacedWord) → SameWords was xs from (from + i) → SameWords was (set xs (from + i) x) from (from + (i + 1))
others_more was xs from i x same k (inl l) = get_or-set_other xs (from + i) k x word.Null (λ e. absurd (omega (arith, e, l))) ∙ same k (inl l)
others_more was xs from i x same k (inr l) = get_or-set_other xs (from + i) k x word.Null (λ e. absurd (omega (arith, e, l))) ∙ same k (inr (omega (arith, l)))

pub loop-i-preserved : goal.loop-i-preserved
loop-i-preserved c = record {
  count = length-set _ _ _ ∙ c.loop-i.invariant.count;
  written = one_more c.loop-i.words.items c.args.from c.loop-i.i c.args.layout.now c.new_word.result (omega (arith, c.loop-i.invariant.count, c.requires, c.loop-i-test.true, c.len-len.ensures.value)) (c.new_word.ensures ∙ ap (λ o. new_word o) c.class_at.ensures) c.loop-i.invariant.written;
  others = others_more c.args.words.now.items c.loop-i.words.items c.args.from c.loop-i.i c.new_word.result c.loop-i.invariant.others;
}

pub returns-clause-new : goal.returns-clause-new
returns-clause-new c = λ i l. c.loop-i.invariant.written i (omega (arith, l, c.loop-i-test.false, c.len-len.ensures.value))

pub returns-clause-others : goal.returns-clause-others
returns-clause-others c =
    let e : c.loop-i.i ≡ len_of c.args.layout.now = omega (arith, c.loop-i-test.false, c.loop-i.auto.i-end, c.len-len.ensures.value) in
    subst (λ n. SameWords c.args.words.now.items c.loop-i.words.items c.args.from (c.args.from + n)) e c.loop-i.invariant.others
