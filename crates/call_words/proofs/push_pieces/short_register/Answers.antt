use Rattle.std.proofs.Common.{◌≡◌, ◌∷◌, ◌+◌, ◌<◌, ℕ, [], sym, ap, ◌∙◌, arith}
use Rattle.std.proofs.lemmas.Fmt.{decimal_digit}
use Rattle.az_base.specs.Texts.{reg_text}
use Rattle.call_words.proofs.push_pieces.short_register.Goals as goal

-- the word of a register of one digit
word_is : (n digit : ℕ) → n ≡ digit → digit < 10 → 32 ∷ 114 ∷ (48 + digit) ∷ [] ≡ 32 ∷ reg_text n
unfolding reg_text
word_is n digit is few = ap (λ t. 32 ∷ 114 ∷ t) (sym (decimal_digit digit few)) ∙ ap (λ m. 32 ∷ reg_text m) (sym is)

pub returns-in-0 : goal.returns-in-0
returns-in-0 c = word_is c.args.number 0 c.in-0.is (omega arith)

pub returns-in-1 : goal.returns-in-1
returns-in-1 c = word_is c.args.number 1 c.in-1.is (omega arith)

pub returns-in-2 : goal.returns-in-2
returns-in-2 c = word_is c.args.number 2 c.in-2.is (omega arith)

pub returns-in-3 : goal.returns-in-3
returns-in-3 c = word_is c.args.number 3 c.in-3.is (omega arith)

pub returns-in-4 : goal.returns-in-4
returns-in-4 c = word_is c.args.number 4 c.in-4.is (omega arith)

pub returns-in-5 : goal.returns-in-5
returns-in-5 c = word_is c.args.number 5 c.in-5.is (omega arith)

pub returns-in-6 : goal.returns-in-6
returns-in-6 c = word_is c.args.number 6 c.in-6.is (omega arith)

pub returns-in-7 : goal.returns-in-7
returns-in-7 c = word_is c.args.number 7 c.in-7.is (omega arith)

pub returns-in-8 : goal.returns-in-8
returns-in-8 c = word_is c.args.number 8 c.in-8.is (omega arith)

pub returns-in-9 : goal.returns-in-9
returns-in-9 c = word_is c.args.number 9 c.in-9.is (omega arith)
