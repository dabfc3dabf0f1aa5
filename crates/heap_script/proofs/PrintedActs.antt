-- What is printed of a line asks for what the line does
use Rattle.std.proofs.Common.{◌≡◌, ℕ, List, [], ◌∷◌, ◌∙◌, sym, append-nil}
use Rattle.zone_model.specs.declared.act.Act.{Act}
use Rattle.zone_model.specs.declared.act.Act.TheVariants as act
use Rattle.zone_model.specs.declared.call.Call.TheVariants as call
use Rattle.call_words.specs.declared.keywords.Verb.TheVariants as verb
use Rattle.call_words.specs.declared.names.CallName.{CallName}
use Rattle.call_words.specs.Names.{name_text}
use Rattle.call_words.specs.Grammar.{NoAction, AsksAt}
use Rattle.call_words.specs.Ranges.{ActFits, HasFewActions, IsNamed}
use Rattle.call_words.specs.Spacing.{ArePlain}
use Rattle.call_words.specs.Words.{act_words}
use Rattle.call_words.specs.Written.{IsAskedFor}
use Rattle.call_words.proofs.WrittenActs as written

-- how a line asks: by a name, and by the words after it
pub record Asked (a : Act) : Type 0 where
  pub name : CallName
  pub others : List (List ℕ)
  pub spelled : act_words a ≡ name_text name ∷ others
  pub plain : ArePlain (act_words a)
  pub asks : AsksAt 8 name others a []

nothing_begins : NoAction []
nothing_begins verb.Keep others e = cc
nothing_begins verb.Pass others e = cc

-- an object has no more actions than its list has room for
few : (a : Act) → ActFits a → HasFewActions 8 a
few (act.Call (call.New to layout actions)) h = h.0.2.0
few (act.Call c) h = tt
few (act.Collect mode) h = tt

pub asked : (a : Act) → ActFits a → IsNamed a → Asked a
asked a h named =
    let by : IsAskedFor 8 a [] = written.asked 8 a [] h named (few a h) nothing_begins in
    record { name = by.name; others = by.others; spelled = sym (append-nil (act_words a)) ∙ by.spelled; plain = written.plain a h; asks = by.asks }
