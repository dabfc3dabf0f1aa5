-- The words that are written of a call are read as this call
use Rattle.std.proofs.Common.{◌≡◌, ℕ, List, ◌∷◌, ◌++◌, Some, refl, ap, ◌∙◌, codes}
use Rattle.az_base.specs.declared.action.Mode.TheVariants as mode
use Rattle.az_base.specs.Texts.{mode_text}
use Rattle.zone_model.specs.declared.act.Act.TheVariants as act
use Rattle.zone_model.specs.declared.call.Call.{Call}
use Rattle.zone_model.specs.declared.call.Call.TheVariants as call
use Rattle.call_words.specs.declared.keywords.Verb.TheVariants as verb
use Rattle.call_words.specs.Names.{name_of}
use Rattle.call_words.specs.Laws.{ArgumentsAreRead}
use Rattle.call_words.specs.Grammar.{NoAction}
use Rattle.call_words.specs.Ranges.{IsCall, IsSpelled, HasFewActions, IsNamed}
use Rattle.call_words.specs.Words.{words_of_call, act_words}
use Rattle.call_words.specs.Written.{IsAskedFor}
use Rattle.call_words.specs.Reading.Calls.{next_as}
use Rattle.call_words.proofs.WordLaws.{name_from}
use Rattle.call_words.proofs.WrittenActs.{asked}
use Rattle.history_text.specs.Names.{step_of, mode_of}
use Rattle.history_text.specs.Reading.{step_by, call_by, call_at}

-- the word before a reply begins no action
no_verb : (left : List (List ℕ)) → NoAction (codes "=" ∷ left)
no_verb left verb.Keep others e = cc
no_verb left verb.Pass others e = cc

few : (c : Call) → IsCall c → HasFewActions 8 (act.Call c)
few (call.New to layout actions) h = h.2.0
few c h = tt

-- a call that scripts name too
named : ArgumentsAreRead → (c : Call) (left : List (List ℕ)) → IsCall c → IsSpelled c → IsNamed (act.Call c) → call_at (words_of_call c ++ codes "=" ∷ left) ≡ Some (c, codes "=" ∷ left)
unfolding call_at call_by act_words
named asks c left h s is =
    let by : IsAskedFor 8 (act.Call c) (codes "=" ∷ left) = asked 8 (act.Call c) (codes "=" ∷ left) (h, s) is (few c h) (no_verb left) in
    ap call_at by.spelled ∙ rw (name_from by.name, (asks 8 by.name by.others (act.Call c) (codes "=" ∷ left)).1 by.asks) refl

pub call_again : ArgumentsAreRead → (c : Call) (left : List (List ℕ)) → IsCall c → IsSpelled c → call_at (words_of_call c ++ codes "=" ∷ left) ≡ Some (c, codes "=" ∷ left)
unfolding call_at words_of_call name_of step_of mode_of step_by mode_text next_as
call_again asks (call.Begin mode.Young) left h s = refl
call_again asks (call.Begin mode.Full) left h s = refl
call_again asks call.Condemn left h s = refl
call_again asks call.Finalise left h s = refl
call_again asks call.Reclaim left h s = refl
call_again asks call.Leave left h s = refl
call_again asks c left h s = named asks c left h s tt
