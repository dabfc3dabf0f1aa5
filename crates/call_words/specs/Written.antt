-- What is known of calls that are written
use Rattle.std.specs.Prelude.{◌≡◌, ℕ, List, ◌∷◌, ◌++◌}
use Rattle.zone_model.specs.declared.act.Act.{Act}
use Rattle.call_words.specs.declared.names.CallName.{CallName}
use Rattle.call_words.specs.Names.{name_text}
use Rattle.call_words.specs.Grammar.{AsksAt}
use Rattle.call_words.specs.Words.{act_words}

-- what is written of an act is the name of a call and its arguments, which ask for this act, and these words are left
pub record IsAskedFor (most : ℕ) (a : Act) (left : List (List ℕ)) : Type 0 where
  pub name : CallName
  pub others : List (List ℕ)
  pub spelled : act_words a ++ left ≡ name_text name ∷ others
  pub asks : AsksAt most name others a left
