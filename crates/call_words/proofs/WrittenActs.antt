-- What is written of a call asks for this call, and its words are plain
use Rattle.std.proofs.Common.{ℕ, ◌≤◌, zero, suc, List, [], ◌∷◌, ◌++◌, length, refl, sym, subst, arith, append_assoc}
use Rattle.std.specs.List.{All}
use Rattle.std.specs.Fmt.{decimal}
use Rattle.az_base.specs.declared.action.Action.{Action}
use Rattle.az_base.specs.declared.action.Action.TheVariants as action
use Rattle.az_base.specs.declared.action.Mode.TheVariants as mode
use Rattle.az_base.specs.Texts.{reg_text, mode_text}
use Rattle.block_layouts.specs.declared.layout.Shape.{Shape}
use Rattle.block_layouts.specs.declared.layout.Shape.TheVariants as shape
use Rattle.block_layouts.specs.Shapes.{IsShape}
use Rattle.zone_model.specs.declared.act.Act.{Act}
use Rattle.zone_model.specs.declared.act.Act.TheVariants as act
use Rattle.zone_model.specs.declared.call.Call.{Call}
use Rattle.zone_model.specs.declared.call.Call.TheVariants as call
use Rattle.zone_model.specs.declared.call.Loc.{Loc}
use Rattle.zone_model.specs.declared.call.Loc.TheVariants as loc
use Rattle.call_words.specs.declared.keywords.CollectName.TheVariants as kind
use Rattle.call_words.specs.declared.names.CallName.TheVariants as names
use Rattle.call_words.specs.Spacing.{IsPlain, ArePlain}
use Rattle.call_words.specs.Ranges.{IsReg, IsPlace, IsAction, IsLoc, ActsAsObject, IsCall, IsSpelled, ActFits, HasFewActions, IsNamed}
use Rattle.call_words.specs.Grammar.{OneWord, IsLettered, SaysPlace, LocationAt, ActionAt, NoAction, ActionsAt, MemoryAt}
use Rattle.call_words.specs.Words.{layout_words, action_words, actions_words, loc_words, words_of_call, act_words}
use Rattle.call_words.specs.Written.{IsAskedFor}
use Rattle.call_words.proofs.PlainWords.{plain_together}
use Rattle.call_words.proofs.WrittenNumbers.{decimal_in, decimal_plain, reg_in, root_in, weak_in, key_in, id_in, reg_plain, root_plain, weak_plain, key_plain, id_plain, letters_plain, object_in}

place_in : (at : ℕ) → IsPlace at → SaysPlace (decimal at) at
place_in at h = decimal_in 0 4294967295 at (omega arith) h (omega arith)

place_plain : (at : ℕ) → IsPlace at → IsPlain (decimal at)
place_plain at h = decimal_plain at (omega arith)

-- a register as the first word
reg : (r : ℕ) (left : List (List ℕ)) → IsReg r → OneWord (IsLettered 114 15) (reg_text r ∷ left) r left
reg r left h = (reg_text r, refl, reg_in r h)

-- actions

action_plain : (a : Action) → IsAction a → ArePlain (action_words a)
unfolding action_words
action_plain (action.Keep root) h = (record { some = omega arith; visible = refl }, (root_plain root.0 h, tt))
action_plain (action.Pass root at) h = (record { some = omega arith; visible = refl }, (root_plain root.0 h.0, (place_plain at h.1, tt)))

actions_plain : (actions : List Action) → All IsAction actions → ArePlain (actions_words actions)
actions_plain [] h = tt
actions_plain (a ∷ actions) h = plain_together (action_words a) (actions_words actions) (action_plain a (h 0 a (omega arith))) (actions_plain actions (λ k d m. h (suc k) d (omega arith)))

action_asked : (a : Action) (left : List (List ℕ)) → IsAction a → ActionAt (action_words a ++ left) a left
unfolding action_words
action_asked (action.Keep root) left h = (_, refl, root_in root.0 h)
action_asked (action.Pass root at) left h = (_, _, refl, root_in root.0 h.0, place_in at h.1)

actions_asked : (room : ℕ) (actions : List Action) (left : List (List ℕ)) → length actions ≤ room → All IsAction actions → NoAction left → ActionsAt room (actions_words actions ++ left) actions left
actions_asked zero [] left few h none = refl
actions_asked zero (a ∷ actions) left few h none = absurd (omega arith)
actions_asked (suc room) [] left few h none = (refl, none)
actions_asked (suc room) (a ∷ actions) left few h none =
    let rest = actions_words actions ++ left in (
      rest,
      subst (λ ws. ActionAt ws a rest) (sym (append_assoc (action_words a) (actions_words actions) left)) (action_asked a rest (h 0 a (omega arith))),
      actions_asked room actions left (omega arith) (λ k d m. h (suc k) d (omega arith)) none,
    )

-- layouts

layout_plain : (layout : Shape) → IsShape layout → ArePlain (layout_words layout)
unfolding layout_words
layout_plain (shape.Scanned n) h = (record { some = omega arith; visible = refl }, (decimal_plain n (omega arith), tt))
layout_plain (shape.Unscanned n) h = (record { some = omega arith; visible = refl }, (decimal_plain n (omega arith), tt))
layout_plain (shape.Object classes) h = (record { some = omega arith; visible = refl }, (letters_plain classes h.0, tt))

memory_asked : (most : ℕ) (layout : Shape) (actions : List Action) (left : List (List ℕ)) → IsShape layout → ActsAsObject layout actions → length actions ≤ most → All IsAction actions → NoAction left
    → MemoryAt most ((layout_words layout ++ actions_words actions) ++ left) (layout, actions) left
unfolding layout_words
memory_asked most (shape.Scanned n) [] left s may few h none = (_, refl, ((_, refl, decimal_in 0 4096 n (omega arith) s (omega arith)), refl))
memory_asked most (shape.Scanned n) (a ∷ actions) left s may few h none = cc
memory_asked most (shape.Unscanned n) [] left s may few h none = (_, refl, ((_, refl, decimal_in 0 4096 n (omega arith) s (omega arith)), refl))
memory_asked most (shape.Unscanned n) (a ∷ actions) left s may few h none = cc
memory_asked most (shape.Object classes) actions left s may few h none = (_, refl, (actions_words actions ++ left, (_, refl, object_in classes s.0 s.1), actions_asked most actions left few h none))

-- locations

loc_plain : (l : Loc) → IsLoc l → ArePlain (loc_words l)
unfolding loc_words
loc_plain (loc.Root root) h = (weak_plain root.0 h, tt)
loc_plain (loc.Word r at) h = (reg_plain r h.0, (place_plain at h.1, tt))

loc_asked : (l : Loc) (left : List (List ℕ)) → IsLoc l → LocationAt (loc_words l ++ left) l left
unfolding loc_words
loc_asked (loc.Root root) left h = (_, refl, weak_in root.0 h)
loc_asked (loc.Word r at) left h = (_, _, refl, reg_in r h.0, place_in at h.1)

-- calls

pub asked : (most : ℕ) (a : Act) (left : List (List ℕ)) → ActFits a → IsNamed a → HasFewActions most a → NoAction left → IsAskedFor most a left
unfolding act_words words_of_call mode_text
asked most (act.Call (call.New to layout actions)) left h named few none =
    record {
      name = names.New;
      others = _;
      spelled = refl;
      asks = record {
        said = (to, ((layout, actions), tt));
        arguments = (_, reg to _ h.0.0, (left, memory_asked most layout actions left h.1.0 h.1.1 few h.0.2.1 none, refl));
        asked = refl;
      };
    }
asked most (act.Call (call.Load to from at)) left h named few none =
    record { name = names.Load; others = _; spelled = refl; asks = record { said = (to, (from, (at, tt))); arguments = (_, reg to _ h.0.0, (_, reg from _ h.0.1, (_, (_, refl, place_in at h.0.2), refl))); asked = refl } }
asked most (act.Call (call.Store into at from)) left h named few none =
    record { name = names.Store; others = _; spelled = refl; asks = record { said = (into, (at, (from, tt))); arguments = (_, reg into _ h.0.0, (_, (_, refl, place_in at h.0.1), (_, reg from _ h.0.2, refl))); asked = refl } }
asked most (act.Call (call.Put into at n)) left h named few none =
    record {
      name = names.Put;
      others = _;
      spelled = refl;
      asks = record {
        said = (into, (at, (n, tt)));
        arguments = (_, reg into _ h.0.0, (_, (_, refl, place_in at h.0.1), (_, (_, refl, decimal_in 0 18446744073709551615 n (omega arith) h.0.2 (omega arith)), refl)));
        asked = refl;
      };
    }
asked most (act.Call (call.Get from at)) left h named few none =
    record { name = names.Get; others = _; spelled = refl; asks = record { said = (from, (at, tt)); arguments = (_, reg from _ h.0.0, (_, (_, refl, place_in at h.0.1), refl)); asked = refl } }
asked most (act.Call (call.Copy to from)) left h named few none =
    record { name = names.Copy; others = _; spelled = refl; asks = record { said = (to, (from, tt)); arguments = (_, reg to _ h.0.0, (_, reg from _ h.0.1, refl)); asked = refl } }
asked most (act.Call (call.DropReg r)) left h named few none =
    record { name = names.Drop; others = _; spelled = refl; asks = record { said = (r, tt); arguments = (_, reg r _ h.0, refl); asked = refl } }
asked most (act.Call call.CollectLocal) left h named few none =
    record { name = names.Collect; others = _; spelled = refl; asks = record { said = (kind.Local, tt); arguments = (_, (_, refl, refl), refl); asked = refl } }
asked most (act.Call (call.SetRoot g from)) left h named few none =
    record { name = names.SetRoot; others = _; spelled = refl; asks = record { said = (g, (from, tt)); arguments = (_, (_, refl, root_in g.0 h.0.0), (_, reg from _ h.0.1, refl)); asked = refl } }
asked most (act.Call (call.GetRoot to g)) left h named few none =
    record { name = names.GetRoot; others = _; spelled = refl; asks = record { said = (to, (g, tt)); arguments = (_, reg to _ h.0.0, (_, (_, refl, root_in g.0 h.0.1), refl)); asked = refl } }
asked most (act.Call (call.Retain r)) left h named few none =
    record { name = names.Retain; others = _; spelled = refl; asks = record { said = (r, tt); arguments = (_, reg r _ h.0, refl); asked = refl } }
asked most (act.Call (call.Release r)) left h named few none =
    record { name = names.Release; others = _; spelled = refl; asks = record { said = (r, tt); arguments = (_, reg r _ h.0, refl); asked = refl } }
asked most (act.Call (call.Count r)) left h named few none =
    record { name = names.Count; others = _; spelled = refl; asks = record { said = (r, tt); arguments = (_, reg r _ h.0, refl); asked = refl } }
asked most (act.Call (call.Take to id)) left h named few none =
    record { name = names.Take; others = _; spelled = refl; asks = record { said = (to, (id, tt)); arguments = (_, reg to _ h.0.0, (_, (_, refl, id_in id h.0.1), refl)); asked = refl } }
asked most (act.Call (call.SetAssoc object k value)) left h named few none =
    record { name = names.SetAssoc; others = _; spelled = refl; asks = record { said = (object, (k, (value, tt))); arguments = (_, reg object _ h.0.0, (_, (_, refl, key_in k.0 h.0.1), (_, reg value _ h.0.2, refl))); asked = refl } }
asked most (act.Call (call.GetAssoc to object k)) left h named few none =
    record { name = names.GetAssoc; others = _; spelled = refl; asks = record { said = (to, (object, (k, tt))); arguments = (_, reg to _ h.0.0, (_, reg object _ h.0.1, (_, (_, refl, key_in k.0 h.0.2), refl))); asked = refl } }
asked most (act.Call (call.SetWeak l from)) left h named few none =
    record {
      name = names.SetWeak;
      others = _;
      spelled = refl;
      asks = record {
        said = (l, (from, tt));
        arguments = (
          reg_text from ∷ left,
          subst (λ ws. LocationAt ws l (reg_text from ∷ left)) (sym (append_assoc (loc_words l) (reg_text from ∷ []) left)) (loc_asked l (reg_text from ∷ left) h.0.0),
          (_, reg from _ h.0.1, refl),
        );
        asked = refl;
      };
    }
asked most (act.Call (call.ReadWeak to l)) left h named few none =
    record { name = names.ReadWeak; others = _; spelled = refl; asks = record { said = (to, (l, tt)); arguments = (_, reg to _ h.0.0, (left, loc_asked l left h.0.1, refl)); asked = refl } }
asked most (act.Call call.Stats) left h named few none = record { name = names.Stats; others = _; spelled = refl; asks = record { said = tt; arguments = refl; asked = refl } }
asked most (act.Collect mode.Young) left h named few none =
    record { name = names.Collect; others = _; spelled = refl; asks = record { said = (kind.Young, tt); arguments = (_, (_, refl, refl), refl); asked = refl } }
asked most (act.Collect mode.Full) left h named few none =
    record { name = names.Collect; others = _; spelled = refl; asks = record { said = (kind.Full, tt); arguments = (_, (_, refl, refl), refl); asked = refl } }
asked most (act.Call (call.Begin m)) left h named few none = absurd named
asked most (act.Call call.Condemn) left h named few none = absurd named
asked most (act.Call call.Finalise) left h named few none = absurd named
asked most (act.Call call.Reclaim) left h named few none = absurd named
asked most (act.Call call.Leave) left h named few none = absurd named

-- plain words

call_plain : (c : Call) → IsCall c → IsSpelled c → ArePlain (words_of_call c)
unfolding words_of_call mode_text
call_plain (call.New to layout actions) h s =
    (record { some = omega arith; visible = refl }, (reg_plain to h.0, plain_together (layout_words layout) (actions_words actions) (layout_plain layout s.0) (actions_plain actions h.2.1)))
call_plain (call.Load to from at) h s = (record { some = omega arith; visible = refl }, (reg_plain to h.0, (reg_plain from h.1, (place_plain at h.2, tt))))
call_plain (call.Store into at from) h s = (record { some = omega arith; visible = refl }, (reg_plain into h.0, (place_plain at h.1, (reg_plain from h.2, tt))))
call_plain (call.Put into at n) h s = (record { some = omega arith; visible = refl }, (reg_plain into h.0, (place_plain at h.1, (decimal_plain n (omega (arith, h.2)), tt))))
call_plain (call.Get from at) h s = (record { some = omega arith; visible = refl }, (reg_plain from h.0, (place_plain at h.1, tt)))
call_plain (call.Copy to from) h s = (record { some = omega arith; visible = refl }, (reg_plain to h.0, (reg_plain from h.1, tt)))
call_plain (call.DropReg r) h s = (record { some = omega arith; visible = refl }, (reg_plain r h, tt))
call_plain call.CollectLocal h s = (record { some = omega arith; visible = refl }, (record { some = omega arith; visible = refl }, tt))
call_plain (call.SetRoot g from) h s = (record { some = omega arith; visible = refl }, (root_plain g.0 h.0, (reg_plain from h.1, tt)))
call_plain (call.GetRoot to g) h s = (record { some = omega arith; visible = refl }, (reg_plain to h.0, (root_plain g.0 h.1, tt)))
call_plain (call.Retain r) h s = (record { some = omega arith; visible = refl }, (reg_plain r h, tt))
call_plain (call.Release r) h s = (record { some = omega arith; visible = refl }, (reg_plain r h, tt))
call_plain (call.Count r) h s = (record { some = omega arith; visible = refl }, (reg_plain r h, tt))
call_plain (call.Take to id) h s = (record { some = omega arith; visible = refl }, (reg_plain to h.0, (id_plain id h.1, tt)))
call_plain (call.SetAssoc object k value) h s = (record { some = omega arith; visible = refl }, (reg_plain object h.0, (key_plain k.0 h.1, (reg_plain value h.2, tt))))
call_plain (call.GetAssoc to object k) h s = (record { some = omega arith; visible = refl }, (reg_plain to h.0, (reg_plain object h.1, (key_plain k.0 h.2, tt))))
call_plain (call.SetWeak l from) h s = (record { some = omega arith; visible = refl }, plain_together (loc_words l) (reg_text from ∷ []) (loc_plain l h.0) (reg_plain from h.1, tt))
call_plain (call.ReadWeak to l) h s = (record { some = omega arith; visible = refl }, (reg_plain to h.0, loc_plain l h.1))
call_plain call.Stats h s = (record { some = omega arith; visible = refl }, tt)
call_plain (call.Begin mode.Young) h s = (record { some = omega arith; visible = refl }, (record { some = omega arith; visible = refl }, tt))
call_plain (call.Begin mode.Full) h s = (record { some = omega arith; visible = refl }, (record { some = omega arith; visible = refl }, tt))
call_plain call.Condemn h s = (record { some = omega arith; visible = refl }, tt)
call_plain call.Finalise h s = (record { some = omega arith; visible = refl }, tt)
call_plain call.Reclaim h s = (record { some = omega arith; visible = refl }, tt)
call_plain call.Leave h s = (record { some = omega arith; visible = refl }, tt)

pub plain : (a : Act) → ActFits a → ArePlain (act_words a)
unfolding act_words mode_text
plain (act.Call c) h = call_plain c h.0 h.1
plain (act.Collect mode.Young) h = (record { some = omega arith; visible = refl }, (record { some = omega arith; visible = refl }, tt))
plain (act.Collect mode.Full) h = (record { some = omega arith; visible = refl }, (record { some = omega arith; visible = refl }, tt))
