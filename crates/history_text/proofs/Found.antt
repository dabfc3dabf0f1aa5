-- What is read is in the grammar
use Rattle.std.proofs.Common.{◌≡◌, ℕ, Bool, true, false, cond, leb, ◌&&◌, List, [], ◌∷◌, Option, Some, None, subst, codes}
use Rattle.std.specs.Str.{bytes_eq}
use Rattle.std.proofs.lemmas.Bool.{and_parts, leb-true}
use Rattle.zone_model.specs.declared.act.Act.{Act}
use Rattle.zone_model.specs.declared.act.Act.TheVariants as act
use Rattle.zone_model.specs.declared.call.Call.{Call}
use Rattle.zone_model.specs.declared.entry.Entry.{Entry}
use Rattle.call_words.specs.declared.names.CallName.{CallName}
use Rattle.call_words.specs.Laws.{ArgumentsAreRead}
use Rattle.call_words.specs.Names.{name_of}
use Rattle.call_words.specs.Reading.Words.{thread_of}
use Rattle.call_words.specs.Reading.Calls.{◌>>=◌, next_as, act_at}
use Rattle.call_words.proofs.Steps.{chosen, bind_some, some_same}
use Rattle.call_words.proofs.Spelled.{act_spelled}
use Rattle.history_text.specs.declared.lines.HistoryLine.{HistoryLine}
use Rattle.history_text.specs.declared.lines.HistoryLine.TheVariants as line
use Rattle.call_words.specs.declared.options.OptionName.{OptionName}
use Rattle.history_text.specs.declared.lines.Setting.{Setting}
use Rattle.history_text.specs.declared.names.StepName.{StepName}
use Rattle.history_text.specs.declared.names.StepName.TheVariants as steps
use Rattle.call_words.specs.Options.{option_of, least}
use Rattle.history_text.specs.Names.{step_of, mode_of}
use Rattle.call_words.specs.Ranges.{IsSpelled, IsSpelledAct}
use Rattle.history_text.specs.Lines.{most, IsSetting}
use Rattle.history_text.specs.Reading.{step_by, only_call, call_by, step_named, call_named, call_at, fixed_at, number_at, reply_of, entry_of, setting_to, setting_of, end_of, line_of}

-- what reading alone shows of a line: a setting in its range, a call that the grammar has
abbrev pub IsFound : HistoryLine → Type 0
IsFound (line.Setting s) = IsSetting s
IsFound (line.Entry e) = IsSpelled e.call
IsFound (line.End count s) = Unit {0}

only_spelled : (a : Act) (left : List (List ℕ)) (x : Call × List (List ℕ)) → only_call a left ≡ Some x → IsSpelledAct a → IsSpelled x.0
only_spelled (act.Call c) left x e h = let P : Call × List (List ℕ) → Type 0 = λ y. IsSpelled y.0 in subst P (some_same (c, left) x e) h
only_spelled (act.Collect mode) left x e h = cc

step_spelled : (name : StepName) (words : List (List ℕ)) (x : Call × List (List ℕ)) → step_by name words ≡ Some x → IsSpelled x.0
unfolding step_by
step_spelled steps.Begin words x e =
    let P : Call × List (List ℕ) → Type 0 = λ y. IsSpelled y.0 in
    let a = bind_some (next_as mode_of words) _ x e in
    subst P (some_same _ x a.2) tt
step_spelled steps.Condemn words x e = let P : Call × List (List ℕ) → Type 0 = λ y. IsSpelled y.0 in subst P (some_same _ x e) tt
step_spelled steps.Finalise words x e = let P : Call × List (List ℕ) → Type 0 = λ y. IsSpelled y.0 in subst P (some_same _ x e) tt
step_spelled steps.Reclaim words x e = let P : Call × List (List ℕ) → Type 0 = λ y. IsSpelled y.0 in subst P (some_same _ x e) tt
step_spelled steps.Leave words x e = let P : Call × List (List ℕ) → Type 0 = λ y. IsSpelled y.0 in subst P (some_same _ x e) tt

step_word_spelled : (o : Option StepName) (words : List (List ℕ)) (x : Call × List (List ℕ)) → step_named o words ≡ Some x → IsSpelled x.0
step_word_spelled None words x e = cc
step_word_spelled (Some name) words x e = step_spelled name words x e

named_spelled : ArgumentsAreRead → (o : Option CallName) (word : List ℕ) (words : List (List ℕ)) (x : Call × List (List ℕ)) → call_named o word words ≡ Some x → IsSpelled x.0
unfolding call_by
named_spelled asks (Some name) word words x e =
    let a = bind_some (act_at 8 name words) _ x e in
    only_spelled a.0.0 a.0.1 x a.2 (act_spelled 8 name words a.0.0 a.0.1 ((asks 8 name words a.0.0 a.0.1).0 a.1))
named_spelled asks None word words x e = step_word_spelled (step_of word) words x e

call_spelled : ArgumentsAreRead → (words : List (List ℕ)) (x : Call × List (List ℕ)) → call_at words ≡ Some x → IsSpelled x.0
unfolding call_at
call_spelled asks [] x e = cc
call_spelled asks (word ∷ words) x e = named_spelled asks (name_of word) word words x e

entry_found : ArgumentsAreRead → (words : List (List ℕ)) (e : Entry) → entry_of words ≡ Some e → IsSpelled e.call
unfolding entry_of
entry_found asks words x e =
    let a = bind_some (next_as thread_of words) _ x e in
    let b = bind_some (call_at a.0.1) _ x a.2 in
    let c = bind_some (fixed_at (codes "=") b.0.1) _ x b.2 in
    let d = bind_some (reply_of c.0.1) _ x c.2 in
    let P : Entry → Type 0 = λ y. IsSpelled y.call in
    subst P (some_same _ x d.2) (call_spelled asks a.0.1 b.0 b.1)

setting_ok : (name : OptionName) (n : ℕ) (s : Setting) → setting_to name n ≡ Some s → IsSetting s
setting_ok name n s e =
    let a = chosen (leb (least name) n && leb n (most name)) _ s e in
    let p = and_parts (leb (least name) n) (leb n (most name)) a.0 in
    subst IsSetting (some_same _ s a.1) (leb-true (least name) n p.0, leb-true n (most name) p.1)

setting_in_range : (words : List (List ℕ)) (s : Setting) → setting_of words ≡ Some s → IsSetting s
unfolding setting_of
setting_in_range words s e =
    let a = bind_some (next_as option_of words) _ s e in
    let b = bind_some (number_at a.0.1) _ s a.2 in
    setting_ok a.0.0 b.0.0 s b.2

setting_found : (words : List (List ℕ)) (h : HistoryLine) → (setting_of words >>= λ setting. Some (line.Setting setting)) ≡ Some h → IsFound h
setting_found words h e =
    let a = bind_some (setting_of words) _ h e in
    subst IsFound (some_same _ h a.2) (setting_in_range words a.0 a.1)

end_found : (words : List (List ℕ)) (h : HistoryLine) → (end_of words >>= λ end. Some (line.End end.0 end.1)) ≡ Some h → IsFound h
end_found words h e =
    let a = bind_some (end_of words) _ h e in
    subst IsFound (some_same _ h a.2) tt

other_found : ArgumentsAreRead → (words : List (List ℕ)) (h : HistoryLine) → (entry_of words >>= λ entry. Some (line.Entry entry)) ≡ Some h → IsFound h
other_found asks words h e =
    let a = bind_some (entry_of words) _ h e in
    subst IsFound (some_same _ h a.2) (entry_found asks words a.0 a.1)

found_by : ArgumentsAreRead → (b c : Bool) (words all : List (List ℕ)) (h : HistoryLine)
    → cond b (setting_of words >>= λ setting. Some (line.Setting setting)) (cond c (end_of words >>= λ end. Some (line.End end.0 end.1)) (entry_of all >>= λ entry. Some (line.Entry entry))) ≡ Some h → IsFound h
found_by asks true c words all h e = setting_found words h e
found_by asks false true words all h e = end_found words h e
found_by asks false false words all h e = other_found asks all h e

pub line_found : ArgumentsAreRead → (words : List (List ℕ)) (h : HistoryLine) → line_of words ≡ Some h → IsFound h
unfolding line_of
line_found asks [] h e = cc
line_found asks (word ∷ words) h e = found_by asks (bytes_eq word (codes "option")) (bytes_eq word (codes "end")) words (word ∷ words) h e
