-- After a turn of one of three threads
use Rattle.std.proofs.Common.{◌==◌, List, refl, sym, ap, subst, ◌∙◌, inl, inr, Err}
use Rattle.zone_model.specs.declared.call.Call.{Call}
use Rattle.zone_model.specs.declared.entry.Entry.{Entry}
use Rattle.zone_model.specs.declared.entry.Reply.{Reply}
use Rattle.local_set.specs.Calls.{Answers, Made, Same}
use Rattle.local_set.specs.LocalSets.{LocalSet}
use Rattle.local_set.specs.declared.errors.LocalErr.{LocalErr}
use Rattle.local_set.specs.declared.errors.LocalErr.TheVariants as err
use Rattle.zone_escape.specs.Cores.{CoreShown, IsCore, BelongsTo}
use Rattle.zone_escape.specs.Publications.{Publishes, Flushed, Untouched, Stepped, Refused}
use Rattle.zone_escape.proofs.Belonging.{made_belongs, same_belongs, other_belongs, untouched_belongs}
use Rattle.zone_escape_tests.specs.Turns.{AreOf, Turned}

-- nothing was done
pub still : (l : LocalSet) (k : CoreShown) → IsCore k → BelongsTo l k → Turned l l k k
still l k state belongs = record { thread = refl; state = state; belongs = belongs; others = λ x other b. b }

pub made : (l m : LocalSet) (k : CoreShown) (c : Call) (r : Reply) → IsCore k → BelongsTo l k → Made l m c r → Turned l m k k
made l m k c r state belongs is = record { thread = is.thread; state = state; belongs = made_belongs l m k c r belongs is; others = λ x other b. b }

same : (l m : LocalSet) (k : CoreShown) → IsCore k → BelongsTo l k → Same l m → Turned l m k k
same l m k state belongs is = record { thread = ap (λ (s : LocalSet). s.thread) is; state = state; belongs = same_belongs l m k belongs is; others = λ x other b. b }

pub refused_local : (l m : LocalSet) (k : CoreShown) (c : Call) (e : LocalErr) → IsCore k → BelongsTo l k → Answers l m c (Err e) → Turned l m k k
refused_local l m k c err.NotLocal state belongs a = same l m k state belongs a.1
refused_local l m k c err.PendingFull state belongs a = same l m k state belongs a.2
refused_local l m k c err.NoMemory state belongs a = same l m k state belongs a.2

published : (l m : LocalSet) (k n : CoreShown) (es : List Entry) → IsCore k → IsCore n → Publishes l m k n es → Turned l m k n
published l m k n es before after p = record { thread = p.thread; state = after; belongs = p.belongs; others = λ x other b. other_belongs l.thread x k n before p.others other b }

pub flushed : (l m : LocalSet) (k n : CoreShown) → IsCore k → IsCore n → Flushed l m k n → Turned l m k n
flushed l m k n before after f = published l m k n l.waiting before after f.published

pub untouched : (l m : LocalSet) (k n : CoreShown) → IsCore k → IsCore n → BelongsTo l k → Untouched l m k n → Turned l m k n
untouched l m k n before after belongs u = record {
  thread = ap (λ (s : LocalSet). s.thread) u.local;
  state = after;
  belongs = subst (λ (x : LocalSet). BelongsTo x n) (sym u.local) (untouched_belongs l k n before u.state belongs);
  others = λ x other b. untouched_belongs x k n before u.state b;
}

pub stepped : (l m : LocalSet) (k n : CoreShown) (c : Call) (r : Reply) → IsCore k → IsCore n → Stepped l m k n c r → Turned l m k n
stepped l m k n c r before after s = published l m k n _ before after s.published

pub refused : (l m : LocalSet) (k n : CoreShown) → IsCore k → IsCore n → BelongsTo l k → Refused l m k n → Turned l m k n
refused l m k n before after belongs (inl u) = untouched l m k n before after belongs u
refused l m k n before after belongs (inr f) = flushed l m k n before after f

-- the three threads after a turn of each
module _ (k n : CoreShown) (a b c m : LocalSet) (are : AreOf k a b c) where
  pub first : Turned a m k n → AreOf n m b c
  first t = record {
    state = t.state;
    first = t.belongs;
    second = t.others b are.first_second are.second;
    third = t.others c are.first_third are.third;
    first_second = ap (λ u. u == b.thread) t.thread ∙ are.first_second;
    first_third = ap (λ u. u == c.thread) t.thread ∙ are.first_third;
    second_first = ap (λ u. b.thread == u) t.thread ∙ are.second_first;
    second_third = are.second_third;
    third_first = ap (λ u. c.thread == u) t.thread ∙ are.third_first;
    third_second = are.third_second;
  }

  pub second : Turned b m k n → AreOf n a m c
  second t = record {
    state = t.state;
    first = t.others a are.second_first are.first;
    second = t.belongs;
    third = t.others c are.second_third are.third;
    first_second = ap (λ u. a.thread == u) t.thread ∙ are.first_second;
    first_third = are.first_third;
    second_first = ap (λ u. u == a.thread) t.thread ∙ are.second_first;
    second_third = ap (λ u. u == c.thread) t.thread ∙ are.second_third;
    third_first = are.third_first;
    third_second = ap (λ u. c.thread == u) t.thread ∙ are.third_second;
  }

  pub third : Turned c m k n → AreOf n a b m
  third t = record {
    state = t.state;
    first = t.others a are.third_first are.first;
    second = t.others b are.third_second are.second;
    third = t.belongs;
    first_second = are.first_second;
    first_third = ap (λ u. a.thread == u) t.thread ∙ are.first_third;
    second_first = are.second_first;
    second_third = ap (λ u. b.thread == u) t.thread ∙ are.second_third;
    third_first = ap (λ u. u == a.thread) t.thread ∙ are.third_first;
    third_second = ap (λ u. u == b.thread) t.thread ∙ are.third_second;
  }
