-- What is read of a call is spelled as the grammar has it
use Rattle.std.proofs.Common.{◌≡◌, ℕ, suc, ◌+◌, ◌≤◌, Bool, true, false, cond, not, List, [], ◌∷◌, length, Option, Some, None, is_none, refl, sym, ap, ◌∙◌, subst, arith}
use Rattle.std.specs.List.{prefix_len}
use Rattle.std.proofs.lemmas.Bool.{ltb-false}
use Rattle.az_base.specs.declared.action.Action.{Action}
use Rattle.az_base.specs.declared.word.Class.{Class}
use Rattle.block_layouts.specs.declared.layout.Shape.{Shape}
use Rattle.block_layouts.specs.declared.layout.Shape.TheVariants as shape
use Rattle.block_layouts.specs.Letters.{class_of, is_other, first_other, classes_of}
use Rattle.block_layouts.specs.Shapes.{IsShape}
use Rattle.zone_model.specs.declared.act.Act.{Act}
use Rattle.call_words.specs.declared.names.CallName.{CallName}
use Rattle.call_words.specs.declared.names.CallName.TheVariants as names
use Rattle.call_words.specs.declared.keywords.CollectName.{CollectName}
use Rattle.call_words.specs.declared.keywords.CollectName.TheVariants as kind
use Rattle.call_words.specs.Arguments.{AllSaid, arguments_of, act_of, collect_act}
use Rattle.call_words.specs.Grammar.{LayoutAt, ArgumentsAt, AsksAt}
use Rattle.call_words.specs.Ranges.{ActsAsObject, IsSpelledAct}

-- each letter has a class
letters_by : (b : ℕ) (bs : List ℕ) (o : Option Class) → class_of b ≡ o → length (b ∷ bs) ≤ cond (not (is_none (class_of b))) (1 + prefix_len (λ x. not (is_other x)) bs) 0
    → (length bs ≤ prefix_len (λ x. not (is_other x)) bs → length (classes_of bs) ≡ length bs) → length (classes_of (b ∷ bs)) ≡ length (b ∷ bs)
letters_by b bs None is l rec = let k : length (b ∷ bs) ≤ 0 = rw is at l in absurd (omega arith)
letters_by b bs (Some class) is l rec = let k : length (b ∷ bs) ≤ 1 + prefix_len (λ x. not (is_other x)) bs = rw is at l in rw is (ap suc (rec (omega arith)))

letters_all : (word : List ℕ) → length word ≤ prefix_len (λ x. not (is_other x)) word → length (classes_of word) ≡ length word
letters_all [] l = refl
letters_all (b ∷ bs) l = letters_by b bs (class_of b) refl l (letters_all bs)

none_given : (b : Bool) (n : ℕ) → cond b (Some n) None ≡ None → b ≡ false
none_given true n e = cc
none_given false n e = refl

letters_count : (word : List ℕ) → first_other word ≡ None → length (classes_of word) ≡ length word
letters_count word none = letters_all word (ltb-false _ _ (none_given _ _ none))

shape_classes : (a b : List Class) → shape.Object a ≡ shape.Object b → a ≡ b
shape_classes a b e = cc

layout_spelled : (most : ℕ) (words : List (List ℕ)) (s : Shape) (actions : List Action) (left : List (List ℕ)) → LayoutAt most words s actions left → IsShape s × ActsAsObject s actions
layout_spelled most words (shape.Scanned n) actions left h = (h.0.2.high_enough, h.1)
layout_spelled most words (shape.Unscanned n) actions left h = (h.0.2.high_enough, h.1)
layout_spelled most words (shape.Object classes) actions left h =
    let letters = h.1.0 in
    let object = h.1.2 in
    let many : length classes ≡ length letters = ap length (shape_classes classes (classes_of letters) object.3) ∙ letters_count letters object.0 in
    ((omega (arith, many, object.1), omega (arith, many, object.2)), tt)

collect_spelled : (k : CollectName) → IsSpelledAct (collect_act k)
collect_spelled kind.Local = tt
collect_spelled kind.Young = tt
collect_spelled kind.Full = tt

said_spelled : (most : ℕ) (name : CallName) (words : List (List ℕ)) (said : AllSaid (arguments_of name)) (left : List (List ℕ)) → ArgumentsAt most (arguments_of name) words said left → IsSpelledAct (act_of name said)
said_spelled most names.New words said left h = layout_spelled most h.2.1.0 said.1.0.0 said.1.0.1 h.2.0 h.2.1.2
said_spelled most names.Load words said left h = tt
said_spelled most names.Store words said left h = tt
said_spelled most names.Put words said left h = tt
said_spelled most names.Get words said left h = tt
said_spelled most names.Copy words said left h = tt
said_spelled most names.Drop words said left h = tt
said_spelled most names.Collect words said left h = collect_spelled said.0
said_spelled most names.SetRoot words said left h = tt
said_spelled most names.GetRoot words said left h = tt
said_spelled most names.Retain words said left h = tt
said_spelled most names.Release words said left h = tt
said_spelled most names.Count words said left h = tt
said_spelled most names.Take words said left h = tt
said_spelled most names.SetAssoc words said left h = tt
said_spelled most names.GetAssoc words said left h = tt
said_spelled most names.SetWeak words said left h = tt
said_spelled most names.ReadWeak words said left h = tt
said_spelled most names.Stats words said left h = tt

pub act_spelled : (most : ℕ) (name : CallName) (words : List (List ℕ)) (a : Act) (left : List (List ℕ)) → AsksAt most name words a left → IsSpelledAct a
act_spelled most name words a left h = subst IsSpelledAct (sym h.asked) (said_spelled most name words h.said left h.arguments)
