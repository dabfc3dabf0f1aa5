-- How calls are written, as words
use Rattle.std.specs.Prelude.{ℕ, List, [], ◌∷◌, ◌++◌, codes}
use Rattle.std.specs.List.{flat_map}
use Rattle.std.specs.Fmt.{decimal}
use Rattle.az_base.specs.declared.action.Action.{Action}
use Rattle.az_base.specs.declared.action.Action.TheVariants as action
use Rattle.az_base.specs.declared.word.Class.{Class}
use Rattle.az_base.specs.declared.word.Class.TheVariants as class
use Rattle.az_base.specs.Texts.{reg_text, root_text, weak_text, key_text, id_text, mode_text}
use Rattle.block_layouts.specs.declared.layout.Shape.{Shape}
use Rattle.block_layouts.specs.declared.layout.Shape.TheVariants as shape
use Rattle.zone_model.specs.declared.act.Act.{Act}
use Rattle.zone_model.specs.declared.act.Act.TheVariants as act
use Rattle.zone_model.specs.declared.call.Call.{Call}
use Rattle.zone_model.specs.declared.call.Call.TheVariants as call
use Rattle.zone_model.specs.declared.call.Loc.{Loc}
use Rattle.zone_model.specs.declared.call.Loc.TheVariants as loc

-- the letter of a class
abbrev pub letter_text : Class → List ℕ
letter_text class.Strong = codes "S"
letter_text class.Weak = codes "W"
letter_text class.Plain = codes "P"

-- a layout: its kind, and its number of words or the letters of their classes
unfoldable pub layout_words : Shape → List (List ℕ)
layout_words (shape.Scanned n) = codes "scanned" ∷ decimal n ∷ []
layout_words (shape.Unscanned n) = codes "unscanned" ∷ decimal n ∷ []
layout_words (shape.Object classes) = codes "object" ∷ flat_map letter_text classes ∷ []

-- a finaliser action
unfoldable pub action_words : Action → List (List ℕ)
action_words (action.Keep g) = codes "keep" ∷ root_text g.0 ∷ []
action_words (action.Pass g at) = codes "pass" ∷ root_text g.0 ∷ decimal at ∷ []

-- finaliser actions, one after the other
abbrev pub actions_words : List Action → List (List ℕ)
actions_words actions = flat_map action_words actions

-- a weak location: a weak root, or a register and a place
unfoldable pub loc_words : Loc → List (List ℕ)
loc_words (loc.Root w) = weak_text w.0 ∷ []
loc_words (loc.Word reg at) = reg_text reg ∷ decimal at ∷ []

-- a call with its arguments; those after stats are no calls of scripts
unfoldable pub words_of_call : Call → List (List ℕ)
words_of_call (call.New to layout actions) = codes "new" ∷ reg_text to ∷ layout_words layout ++ actions_words actions
words_of_call (call.Load to from at) = codes "load" ∷ reg_text to ∷ reg_text from ∷ decimal at ∷ []
words_of_call (call.Store into at from) = codes "store" ∷ reg_text into ∷ decimal at ∷ reg_text from ∷ []
words_of_call (call.Put into at number) = codes "put" ∷ reg_text into ∷ decimal at ∷ decimal number ∷ []
words_of_call (call.Get from at) = codes "get" ∷ reg_text from ∷ decimal at ∷ []
words_of_call (call.Copy to from) = codes "copy" ∷ reg_text to ∷ reg_text from ∷ []
words_of_call (call.DropReg reg) = codes "drop" ∷ reg_text reg ∷ []
words_of_call call.CollectLocal = codes "collect" ∷ codes "local" ∷ []
words_of_call (call.SetRoot root from) = codes "setroot" ∷ root_text root.0 ∷ reg_text from ∷ []
words_of_call (call.GetRoot to root) = codes "getroot" ∷ reg_text to ∷ root_text root.0 ∷ []
words_of_call (call.Retain reg) = codes "retain" ∷ reg_text reg ∷ []
words_of_call (call.Release reg) = codes "release" ∷ reg_text reg ∷ []
words_of_call (call.Count reg) = codes "count" ∷ reg_text reg ∷ []
words_of_call (call.Take to id) = codes "take" ∷ reg_text to ∷ id_text id ∷ []
words_of_call (call.SetAssoc object key value) = codes "setassoc" ∷ reg_text object ∷ key_text key.0 ∷ reg_text value ∷ []
words_of_call (call.GetAssoc to object key) = codes "getassoc" ∷ reg_text to ∷ reg_text object ∷ key_text key.0 ∷ []
words_of_call (call.SetWeak loc from) = codes "setweak" ∷ loc_words loc ++ reg_text from ∷ []
words_of_call (call.ReadWeak to loc) = codes "readweak" ∷ reg_text to ∷ loc_words loc
words_of_call call.Stats = codes "stats" ∷ []
words_of_call (call.Begin mode) = codes "begin" ∷ mode_text mode ∷ []
words_of_call call.Condemn = codes "condemn" ∷ []
words_of_call call.Finalise = codes "finalise" ∷ []
words_of_call call.Reclaim = codes "reclaim" ∷ []
words_of_call call.Leave = codes "leave" ∷ []

-- what a line of a script asks for
unfoldable pub act_words : Act → List (List ℕ)
act_words (act.Call call) = words_of_call call
act_words (act.Collect mode) = codes "collect" ∷ mode_text mode ∷ []
