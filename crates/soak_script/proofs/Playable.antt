-- A generated script can be played
use Rattle.std.proofs.Common.{ℕ, zero, suc, ◌<◌, ◌%◌, ◌==◌, Bool, true, false, cond, nat_lt, arith}
use Rattle.std.proofs.Math.Nat.{mod-lt}
use Rattle.std.proofs.lemmas.List.Elements.{All-nil, All-push}
use Rattle.az_base.specs.OptionRanges.{usual_options, IsValid}
use Rattle.zone_model.specs.declared.act.Act.TheVariants as act
use Rattle.zone_model.specs.declared.call.Call.{Call}
use Rattle.call_words.specs.Ranges.{IsNamed, IsSpelledAct}
use Rattle.heap_script.specs.declared.line.Line.{Line}
use Rattle.heap_script.specs.Scripts.{IsThere, AllThreads, AllNamed, AllSpelled, CanBePlayed}
use Rattle.soak_script.specs.Generated.{number_after, bits_at, collection_by, call_by, act_by, line_by, lines_after, soak_script}

-- what holds of both sides of a choice holds of what is chosen
chosen : {X : Type 0} (P : X → Type 0) (b : Bool) (x y : X) → P x → P y → P (cond b x y)
chosen P true x y p q = p
chosen P false x y p q = q

collection_named : (c : ℕ) → IsNamed (collection_by c)
collection_named c = chosen IsNamed (c == 0) _ _ tt (chosen IsNamed (c == 1) _ _ tt (chosen IsNamed (c == 2) _ _ tt tt))

collection_spelled : (c : ℕ) → IsSpelledAct (collection_by c)
collection_spelled c = chosen IsSpelledAct (c == 0) _ _ tt (chosen IsSpelledAct (c == 1) _ _ tt (chosen IsSpelledAct (c == 2) _ _ tt tt))

call_named : (choice a b c : ℕ) → IsNamed (act.Call (call_by choice a b c))
call_named choice a b c =
    let P : Call → Type 0 = λ x. IsNamed (act.Call x) in
    chosen P (nat_lt choice 4) _ _ tt (chosen P (nat_lt choice 6) _ _ tt (chosen P (choice == 6) _ _ tt (chosen P (choice == 7) _ _ tt (chosen P (choice == 8) _ _ tt (chosen P (choice == 9) _ _ tt (chosen P (choice == 10) _ _ tt (chosen P (choice == 11) _ _ tt (chosen P (choice == 12) _ _ tt (chosen P (choice == 13) _ _ tt (chosen P (nat_lt c 2) _ _ tt tt))))))))))

call_spelled : (choice a b c : ℕ) → IsSpelledAct (act.Call (call_by choice a b c))
call_spelled choice a b c =
    let P : Call → Type 0 = λ x. IsSpelledAct (act.Call x) in
    chosen P (nat_lt choice 4) _ _ ((omega arith, omega arith), tt) (chosen P (nat_lt choice 6) _ _ tt (chosen P (choice == 6) _ _ tt (chosen P (choice == 7) _ _ tt (chosen P (choice == 8) _ _ tt (chosen P (choice == 9) _ _ tt (chosen P (choice == 10) _ _ tt (chosen P (choice == 11) _ _ tt (chosen P (choice == 12) _ _ tt (chosen P (choice == 13) _ _ tt (chosen P (nat_lt c 2) _ _ tt tt))))))))))

act_named : (choice a b c : ℕ) → IsNamed (act_by choice a b c)
act_named choice a b c = chosen IsNamed (choice == 15) _ _ (collection_named c) (call_named choice a b c)

act_spelled : (choice a b c : ℕ) → IsSpelledAct (act_by choice a b c)
act_spelled choice a b c = chosen IsSpelledAct (choice == 15) _ _ (collection_spelled c) (call_spelled choice a b c)

-- each line

line_there : (x : ℕ) → IsThere (line_by x)
unfolding line_by
line_there x = let low : bits_at 60 x % 4 < 4 = mod-lt (bits_at 60 x) (omega arith) in (omega arith, omega (arith, low))

line_named : (x : ℕ) → IsNamed (line_by x).act
unfolding line_by
line_named x = act_named (bits_at 52 x) (bits_at 48 x % 4) (bits_at 44 x % 4) (bits_at 40 x % 4)

line_spelled : (x : ℕ) → IsSpelledAct (line_by x).act
unfolding line_by
line_spelled x = act_spelled (bits_at 52 x) (bits_at 48 x % 4) (bits_at 44 x % 4) (bits_at 40 x % 4)

-- all lines

all_threads : (start n : ℕ) → AllThreads (lines_after start n)
all_threads start zero = All-nil IsThere
all_threads start (suc n) = All-push IsThere (lines_after start n) (line_by (number_after start (suc n))) (all_threads start n) (line_there (number_after start (suc n)))

all_named : (start n : ℕ) → AllNamed (lines_after start n)
all_named start zero = All-nil (λ (l : Line). IsNamed l.act)
all_named start (suc n) = All-push (λ (l : Line). IsNamed l.act) (lines_after start n) (line_by (number_after start (suc n))) (all_named start n) (line_named (number_after start (suc n)))

all_spelled : (start n : ℕ) → AllSpelled (lines_after start n)
all_spelled start zero = All-nil (λ (l : Line). IsSpelledAct l.act)
all_spelled start (suc n) = All-push (λ (l : Line). IsSpelledAct l.act) (lines_after start n) (line_by (number_after start (suc n))) (all_spelled start n) (line_spelled (number_after start (suc n)))

usual_valid : IsValid usual_options
usual_valid = record { heap = (omega arith, omega arith); «local» = omega arith; serials = (omega arith, omega arith); counts = (omega arith, omega arith); pending = (omega arith, omega arith) }

pub can_be_played : (start calls : ℕ) → CanBePlayed (soak_script start calls)
can_be_played start calls = record { options = usual_valid; threads = all_threads start calls; named = all_named start calls; spelled = all_spelled start calls }
