-- What is read is an argument of the grammar, and each argument of the grammar is read.
use Rattle.std.proofs.Common.{◌≡◌, ℕ, zero, suc, List, [], ◌∷◌, Option, Some, None, refl, sym, ap, ◌∙◌, subst}
use Rattle.az_base.specs.declared.action.Action.{Action}
use Rattle.az_base.specs.declared.action.Action.TheVariants as action
use Rattle.az_base.specs.declared.numbers.RootNo.{RootNo}
use Rattle.az_base.specs.declared.numbers.WeakNo.{WeakNo}
use Rattle.az_base.specs.declared.numbers.Key.{Key}
use Rattle.az_words.specs.Numerals.{number_in}
use Rattle.az_words.specs.Grammar.{IsNumberIn}
use Rattle.az_words.specs.Laws.{NumbersAreRead}
use Rattle.block_layouts.specs.declared.layout.Shape.{Shape}
use Rattle.block_layouts.specs.declared.layout.Shape.TheVariants as shape
use Rattle.zone_model.specs.declared.act.Act.{Act}
use Rattle.zone_model.specs.declared.call.Loc.{Loc}
use Rattle.zone_model.specs.declared.call.Loc.TheVariants as loc
use Rattle.call_words.specs.declared.names.CallName.{CallName}
use Rattle.call_words.specs.declared.keywords.LayoutName.{LayoutName}
use Rattle.call_words.specs.declared.keywords.LayoutName.TheVariants as layout
use Rattle.call_words.specs.declared.keywords.Verb.{Verb}
use Rattle.call_words.specs.declared.keywords.Verb.TheVariants as verb
use Rattle.call_words.specs.Names.{layout_of, layout_text, verb_text, verb_of, collect_of, collect_text}
use Rattle.call_words.specs.Arguments.{Argument, Register, Root, AssocKey, Place, Number, Id, Location, Memory, Collection, Said, AllSaid, arguments_of, act_of}
use Rattle.call_words.specs.Grammar.{OneWord, IsLettered, SaysPlace, SaysId, IsObject, LocationAt, ActionAt, NoAction, ActionsAt, kind_of, LayoutAt, MemoryAt, ArgumentAt, ArgumentsAt, AsksAt}
use Rattle.call_words.specs.Reading.Words.{reg_of, root_of, weak_of, key_of, block_of, object_of}
use Rattle.call_words.specs.Reading.Calls.{next_as, place_at, location_by, location_at, action_by, begun_by, next_action, onto_actions, actions_at, memory_by, memory_at, argument_at, arguments_at, act_at}
use Rattle.call_words.proofs.Steps.{bind_some, some_same, next_some}
use Rattle.call_words.proofs.WordLaws.{one_ok, one_from, verb_ok, verb_from, collect_ok, collect_from, layout_name_ok, layout_name_from, reg_ok, reg_from, root_ok, root_from, weak_ok, weak_from, reg_is_not_weak, key_ok, key_from, id_ok, id_from_parts, object_ok, object_from}

-- places
pub place_ok : (numbers : NumbersAreRead) → (words : List (List ℕ)) (x : ℕ × List (List ℕ)) → place_at words ≡ Some x → OneWord SaysPlace words x.0 x.1
unfolding place_at
place_ok numbers words x e = one_ok (number_in 0 4294967295) SaysPlace (λ word n h. (numbers 0 4294967295 word n).0 h) words x e

place_from : (numbers : NumbersAreRead) → (words : List (List ℕ)) (at : ℕ) (left : List (List ℕ)) → OneWord SaysPlace words at left → place_at words ≡ Some (at, left)
unfolding place_at
place_from numbers words at left h = one_from (number_in 0 4294967295) SaysPlace (λ word n p. (numbers 0 4294967295 word n).1 p) words at left h

-- weak locations
located : (numbers : NumbersAreRead) → (word : List ℕ) (words : List (List ℕ)) (w : Option WeakNo) (r : Option ℕ) (x : Loc × List (List ℕ)) → weak_of word ≡ w → reg_of word ≡ r
    → location_by w r words ≡ Some x → LocationAt (word ∷ words) x.0 x.1
located numbers word words (Some root) r x isw isr e =
    let P : Loc × List (List ℕ) → Type 0 = λ y. LocationAt (word ∷ words) y.0 y.1 in
    let start : P (loc.Root root, words) = (word, refl, weak_ok numbers word root isw) in
    subst P (some_same _ x e) start
located numbers word words None None x isw isr e = cc
located numbers word words None (Some reg) x isw isr e =
    let a = bind_some (place_at words) _ x e in
    let p = place_ok numbers words a.0 a.1 in
    let P : Loc × List (List ℕ) → Type 0 = λ y. LocationAt (word ∷ words) y.0 y.1 in
    let start : P (loc.Word reg a.0.0, a.0.1) = (word, p.0, ap (λ ws. word ∷ ws) p.1, reg_ok numbers word reg isr, p.2) in
    subst P (some_same _ x a.2) start

location_ok : (numbers : NumbersAreRead) → (words : List (List ℕ)) (x : Loc × List (List ℕ)) → location_at words ≡ Some x → LocationAt words x.0 x.1
unfolding location_at
location_ok numbers [] x e = cc
location_ok numbers (word ∷ words) x e = located numbers word words (weak_of word) (reg_of word) x refl refl e

location_from : (numbers : NumbersAreRead) → (words : List (List ℕ)) (l : Loc) (left : List (List ℕ)) → LocationAt words l left → location_at words ≡ Some (l, left)
unfolding location_at
location_from numbers words (loc.Root root) left h = rw (h.1, weak_from numbers h.0 root h.2) refl
location_from numbers words (loc.Word reg at) left h =
    rw (h.2, reg_is_not_weak numbers h.0 reg h.3, reg_from numbers h.0 reg h.3, place_from numbers (h.1 ∷ left) at left (h.1, refl, h.4)) refl

-- actions
action_ok : (numbers : NumbersAreRead) → (verb : Verb) (words : List (List ℕ)) (x : Action × List (List ℕ)) → action_by verb words ≡ Some x → ActionAt (verb_text verb ∷ words) x.0 x.1
unfolding action_by
action_ok numbers verb.Keep words x e =
    let a = bind_some (next_as root_of words) _ x e in
    let r = next_some root_of words a.0 a.1 in
    let P : Action × List (List ℕ) → Type 0 = λ y. ActionAt (verb_text verb.Keep ∷ words) y.0 y.1 in
    let start : P (action.Keep a.0.0, a.0.1) = (r.0, ap (λ ws. verb_text verb.Keep ∷ ws) r.1, root_ok numbers r.0 a.0.0 r.2) in
    subst P (some_same _ x a.2) start
action_ok numbers verb.Pass words x e =
    let a = bind_some (next_as root_of words) _ x e in
    let r = next_some root_of words a.0 a.1 in
    let b = bind_some (place_at a.0.1) _ x a.2 in
    let p = place_ok numbers a.0.1 b.0 b.1 in
    let P : Action × List (List ℕ) → Type 0 = λ y. ActionAt (verb_text verb.Pass ∷ words) y.0 y.1 in
    let start : P (action.Pass a.0.0 b.0.0, b.0.1) = (r.0, p.0, ap (λ ws. verb_text verb.Pass ∷ ws) (r.1 ∙ ap (λ ws. r.0 ∷ ws) p.1), root_ok numbers r.0 a.0.0 r.2, p.2) in
    subst P (some_same _ x b.2) start

-- the next action, or none
Begun : List (List ℕ) → Option Action → List (List ℕ) → Type 0
Begun words None left = (words ≡ left) × NoAction words
Begun words (Some a) left = ActionAt words a left

head_same : (a b : List ℕ) (xs ys : List (List ℕ)) → a ∷ xs ≡ b ∷ ys → a ≡ b
head_same a b xs ys e = cc

no_verb : (word : List ℕ) (words : List (List ℕ)) → verb_of word ≡ None → NoAction (word ∷ words)
no_verb word words e = λ verb others spelled.
    let some : verb_of word ≡ Some verb = ap verb_of (head_same word (verb_text verb) words others spelled) ∙ verb_from verb in
    absurd (cc)

begun_ok : (numbers : NumbersAreRead) → (word : List ℕ) (words : List (List ℕ)) (v : Option Verb) (x : Option Action × List (List ℕ)) → verb_of word ≡ v
    → begun_by v (word ∷ words) words ≡ Some x → Begun (word ∷ words) x.0 x.1
unfolding Begun
begun_ok numbers word words None x is e =
    let P : Option Action × List (List ℕ) → Type 0 = λ y. Begun (word ∷ words) y.0 y.1 in
    let start : P (None, word ∷ words) = (refl, no_verb word words is) in
    subst P (some_same _ x e) start
begun_ok numbers word words (Some v) x is e =
    let a = bind_some (action_by v words) _ x e in
    let P : Option Action × List (List ℕ) → Type 0 = λ y. Begun (word ∷ words) y.0 y.1 in
    let start : P (Some a.0.0, a.0.1) = subst (λ (w : List ℕ). ActionAt (w ∷ words) a.0.0 a.0.1) (sym (verb_ok word v is)) (action_ok numbers v words a.0 a.1) in
    subst P (some_same _ x a.2) start

nothing_begins : NoAction []
nothing_begins = λ verb others e. absurd (cc)

next_action_ok : (numbers : NumbersAreRead) → (words : List (List ℕ)) (x : Option Action × List (List ℕ)) → next_action words ≡ Some x → Begun words x.0 x.1
unfolding next_action Begun
next_action_ok numbers [] x e =
    let P : Option Action × List (List ℕ) → Type 0 = λ y. Begun [] y.0 y.1 in
    let start : P (None, []) = (refl, nothing_begins) in
    subst P (some_same _ x e) start
next_action_ok numbers (word ∷ words) x e = begun_ok numbers word words (verb_of word) x refl e

none_by : (word : List ℕ) (words : List (List ℕ)) (v : Option Verb) → verb_of word ≡ v → NoAction (word ∷ words) → begun_by v (word ∷ words) words ≡ Some (None, word ∷ words)
none_by word words None is h = refl
none_by word words (Some v) is h = absurd (h v words (ap (λ w. w ∷ words) (verb_ok word v is)))

no_action : (words : List (List ℕ)) → NoAction words → next_action words ≡ Some (None, words)
unfolding next_action
no_action [] h = refl
no_action (word ∷ words) h = none_by word words (verb_of word) refl h

action_from : (numbers : NumbersAreRead) → (words : List (List ℕ)) (a : Action) (left : List (List ℕ)) → ActionAt words a left → next_action words ≡ Some (Some a, left)
unfolding next_action action_by
action_from numbers words (action.Keep root) left h =
    rw (h.1, verb_from verb.Keep, one_from root_of (λ w (g : RootNo). IsLettered 103 255 w g.0) (root_from numbers) (h.0 ∷ left) root left (h.0, refl, h.2)) refl
action_from numbers words (action.Pass root at) left h =
    rw (
      h.2,
      verb_from verb.Pass,
      one_from root_of (λ w (g : RootNo). IsLettered 103 255 w g.0) (root_from numbers) (h.0 ∷ h.1 ∷ left) root (h.1 ∷ left) (h.0, refl, h.3),
      place_from numbers (h.1 ∷ left) at left (h.1, refl, h.4),
    ) refl

onto_ok : (numbers : NumbersAreRead) → (room : ℕ) (words left : List (List ℕ)) (o : Option Action) (x : List Action × List (List ℕ)) → Begun words o left
    → ((ws : List (List ℕ)) (y : List Action × List (List ℕ)) → actions_at room ws ≡ Some y → ActionsAt room ws y.0 y.1)
    → onto_actions o left (actions_at room) ≡ Some x → ActionsAt (suc room) words x.0 x.1
unfolding Begun
onto_ok numbers room words left None x h rec e =
    let P : List Action × List (List ℕ) → Type 0 = λ y. ActionsAt (suc room) words y.0 y.1 in
    let start : P ([], left) = h in
    subst P (some_same _ x e) start
onto_ok numbers room words left (Some a) x h rec e =
    let b = bind_some (actions_at room left) _ x e in
    let P : List Action × List (List ℕ) → Type 0 = λ y. ActionsAt (suc room) words y.0 y.1 in
    let start : P (a ∷ b.0.0, b.0.1) = (left, h, rec left b.0 b.1) in
    subst P (some_same _ x b.2) start

actions_ok : (numbers : NumbersAreRead) → (room : ℕ) (words : List (List ℕ)) (x : List Action × List (List ℕ)) → actions_at room words ≡ Some x → ActionsAt room words x.0 x.1
unfolding actions_at
actions_ok numbers zero words x e =
    let P : List Action × List (List ℕ) → Type 0 = λ y. ActionsAt zero words y.0 y.1 in
    let start : P ([], words) = refl in
    subst P (some_same _ x e) start
actions_ok numbers (suc room) words x e =
    let a = bind_some (next_action words) _ x e in
    onto_ok numbers room words a.0.1 a.0.0 x (next_action_ok numbers words a.0 a.1) (actions_ok numbers room) a.2

actions_from : (numbers : NumbersAreRead) → (room : ℕ) (words : List (List ℕ)) (actions : List Action) (left : List (List ℕ)) → ActionsAt room words actions left → actions_at room words ≡ Some (actions, left)
unfolding actions_at
actions_from numbers zero words [] left h = ap {B = Option (List Action × List (List ℕ))} (λ ws. Some ([], ws)) h
actions_from numbers zero words (first ∷ more) left h = absurd h
actions_from numbers (suc room) words [] left h = rw (no_action words h.1) (ap {B = Option (List Action × List (List ℕ))} (λ ws. Some ([], ws)) h.0)
actions_from numbers (suc room) words (first ∷ more) left h = rw (action_from numbers words first h.0 h.1, actions_from numbers room h.0 more left h.2) refl

-- layouts
LayoutRead : ℕ → LayoutName → List (List ℕ) → (Shape × List Action) × List (List ℕ) → Type 0
LayoutRead most name words x = (kind_of x.0.0 ≡ name) × LayoutAt most words x.0.0 x.0.1 x.1

count_ok : (numbers : NumbersAreRead) → (words : List (List ℕ)) (x : ℕ × List (List ℕ)) → next_as (number_in 0 4096) words ≡ Some x → OneWord (IsNumberIn 0 4096) words x.0 x.1
count_ok numbers words x e = one_ok (number_in 0 4096) (IsNumberIn 0 4096) (λ word n h. (numbers 0 4096 word n).0 h) words x e

count_from : (numbers : NumbersAreRead) → (words : List (List ℕ)) (n : ℕ) (left : List (List ℕ)) → OneWord (IsNumberIn 0 4096) words n left → next_as (number_in 0 4096) words ≡ Some (n, left)
count_from numbers words n left h = one_from (number_in 0 4096) (IsNumberIn 0 4096) (λ word m p. (numbers 0 4096 word m).1 p) words n left h

is_object : (word : List ℕ) (s : Shape) → IsObject word s → kind_of s ≡ layout.Object
is_object word s h = ap kind_of h.3

object_layout : (most : ℕ) (words rest : List (List ℕ)) (s : Shape) (actions : List Action) (left : List (List ℕ)) → OneWord IsObject words s rest → ActionsAt most rest actions left → LayoutAt most words s actions left
object_layout most words rest (shape.Scanned n) actions left o h = absurd (cc)
object_layout most words rest (shape.Unscanned n) actions left o h = absurd (cc)
object_layout most words rest (shape.Object classes) actions left o h = (rest, o, h)

layout_ok : (numbers : NumbersAreRead) → (most : ℕ) (name : LayoutName) (words : List (List ℕ)) (x : (Shape × List Action) × List (List ℕ)) → memory_by most name words ≡ Some x → LayoutRead most name words x
unfolding memory_by LayoutRead
layout_ok numbers most layout.Scanned words x e =
    let a = bind_some (next_as (number_in 0 4096) words) _ x e in
    let start : LayoutRead most layout.Scanned words ((shape.Scanned a.0.0, []), a.0.1) = (refl, (count_ok numbers words a.0 a.1, refl)) in
    subst (LayoutRead most layout.Scanned words) (some_same _ x a.2) start
layout_ok numbers most layout.Unscanned words x e =
    let a = bind_some (next_as (number_in 0 4096) words) _ x e in
    let start : LayoutRead most layout.Unscanned words ((shape.Unscanned a.0.0, []), a.0.1) = (refl, (count_ok numbers words a.0 a.1, refl)) in
    subst (LayoutRead most layout.Unscanned words) (some_same _ x a.2) start
layout_ok numbers most layout.Object words x e =
    let a = bind_some (next_as object_of words) _ x e in
    let o = one_ok object_of IsObject object_ok words a.0 a.1 in
    let b = bind_some (actions_at most a.0.1) _ x a.2 in
    let start : LayoutRead most layout.Object words ((a.0.0, b.0.0), b.0.1) =
    (is_object o.0 a.0.0 o.2, object_layout most words a.0.1 a.0.0 b.0.0 b.0.1 o (actions_ok numbers most a.0.1 b.0 b.1)) in
    subst (LayoutRead most layout.Object words) (some_same _ x b.2) start

layout_from : (numbers : NumbersAreRead) → (most : ℕ) (words : List (List ℕ)) (s : Shape) (actions : List Action) (left : List (List ℕ)) → LayoutAt most words s actions left
    → memory_by most (kind_of s) words ≡ Some ((s, actions), left)
unfolding memory_by
layout_from numbers most words (shape.Scanned n) actions left h = rw (count_from numbers words n left h.0, h.1) refl
layout_from numbers most words (shape.Unscanned n) actions left h = rw (count_from numbers words n left h.0, h.1) refl
layout_from numbers most words (shape.Object classes) actions left h =
    rw (one_from object_of IsObject object_from words (shape.Object classes) h.0 h.1, actions_from numbers most h.0 actions left h.2) refl

memory_ok : (numbers : NumbersAreRead) → (most : ℕ) (words : List (List ℕ)) (x : (Shape × List Action) × List (List ℕ)) → memory_at most words ≡ Some x → MemoryAt most words x.0 x.1
unfolding memory_at LayoutRead
memory_ok numbers most words x e =
    let a = bind_some (next_as layout_of words) _ x e in
    let k = next_some layout_of words a.0 a.1 in
    let named = layout_name_ok k.0 a.0.0 k.2 in
    let l = layout_ok numbers most a.0.0 a.0.1 x a.2 in
    (a.0.1, k.1 ∙ ap (λ w. w ∷ a.0.1) (named ∙ ap layout_text (sym l.0)), l.1)

memory_from : (numbers : NumbersAreRead) → (most : ℕ) (words : List (List ℕ)) (m : Shape × List Action) (left : List (List ℕ)) → MemoryAt most words m left → memory_at most words ≡ Some (m, left)
unfolding memory_at next_as
memory_from numbers most words m left h = rw (h.1, layout_name_from (kind_of m.0), layout_from numbers most h.0 m.0 m.1 left h.2) refl

-- arguments
argument_ok : (numbers : NumbersAreRead) → (most : ℕ) (kind : Argument) (words : List (List ℕ)) (x : Said kind × List (List ℕ)) → argument_at most kind words ≡ Some x → ArgumentAt most kind words x.0 x.1
argument_ok numbers most Register words x e = one_ok reg_of (IsLettered 114 15) (reg_ok numbers) words x e
argument_ok numbers most Root words x e = one_ok root_of (λ w (g : RootNo). IsLettered 103 255 w g.0) (root_ok numbers) words x e
argument_ok numbers most AssocKey words x e = one_ok key_of (λ w (k : Key). IsLettered 107 255 w k.0) (key_ok numbers) words x e
argument_ok numbers most Place words x e = place_ok numbers words x e
argument_ok numbers most Number words x e =
    one_ok (number_in 0 18446744073709551615) (IsNumberIn 0 18446744073709551615) (λ word n h. (numbers 0 18446744073709551615 word n).0 h) words x e
argument_ok numbers most Id words x e = one_ok block_of SaysId (id_ok numbers) words x e
argument_ok numbers most Location words x e = location_ok numbers words x e
argument_ok numbers most Memory words x e = memory_ok numbers most words x e
argument_ok numbers most Collection words x e = one_ok collect_of (λ w kind. w ≡ collect_text kind) collect_ok words x e

argument_from : (numbers : NumbersAreRead) → (most : ℕ) (kind : Argument) (words : List (List ℕ)) (x : Said kind) (left : List (List ℕ)) → ArgumentAt most kind words x left → argument_at most kind words ≡ Some (x, left)
argument_from numbers most Register words x left h = one_from reg_of (IsLettered 114 15) (reg_from numbers) words x left h
argument_from numbers most Root words x left h = one_from root_of (λ w (g : RootNo). IsLettered 103 255 w g.0) (root_from numbers) words x left h
argument_from numbers most AssocKey words x left h = one_from key_of (λ w (k : Key). IsLettered 107 255 w k.0) (key_from numbers) words x left h
argument_from numbers most Place words x left h = place_from numbers words x left h
argument_from numbers most Number words x left h =
    one_from (number_in 0 18446744073709551615) (IsNumberIn 0 18446744073709551615) (λ word n p. (numbers 0 18446744073709551615 word n).1 p) words x left h
argument_from numbers most Id words x left h = one_from block_of SaysId (id_from_parts numbers) words x left h
argument_from numbers most Location words x left h = location_from numbers words x left h
argument_from numbers most Memory words x left h = memory_from numbers most words x left h
argument_from numbers most Collection words x left h = one_from collect_of (λ w kind. w ≡ collect_text kind) collect_from words x left h

arguments_ok : (numbers : NumbersAreRead) → (most : ℕ) (kinds : List Argument) (words : List (List ℕ)) (x : AllSaid kinds × List (List ℕ)) → arguments_at most kinds words ≡ Some x → ArgumentsAt most kinds words x.0 x.1
arguments_ok numbers most [] words x e = ap (λ (y : Unit {0} × List (List ℕ)). y.1) (some_same (tt, words) x e)
arguments_ok numbers most (kind ∷ kinds) words x e =
    let a = bind_some (argument_at most kind words) _ x e in
    let b = bind_some (arguments_at most kinds a.0.1) _ x a.2 in
    let P : AllSaid (kind ∷ kinds) × List (List ℕ) → Type 0 = λ y. ArgumentsAt most (kind ∷ kinds) words y.0 y.1 in
    let start : P ((a.0.0, b.0.0), b.0.1) = (a.0.1, argument_ok numbers most kind words a.0 a.1, arguments_ok numbers most kinds a.0.1 b.0 b.1) in
    subst P (some_same _ x b.2) start

arguments_from : (numbers : NumbersAreRead) → (most : ℕ) (kinds : List Argument) (words : List (List ℕ)) (said : AllSaid kinds) (left : List (List ℕ)) → ArgumentsAt most kinds words said left
    → arguments_at most kinds words ≡ Some (said, left)
arguments_from numbers most [] words said left h = ap {B = Option (Unit {0} × List (List ℕ))} (λ ws. Some (tt, ws)) h
arguments_from numbers most (kind ∷ kinds) words said left h = rw (argument_from numbers most kind words said.0 h.0 h.1, arguments_from numbers most kinds h.0 said.1 left h.2) refl

-- a call with its arguments
pub asks_ok : (numbers : NumbersAreRead) → (most : ℕ) (name : CallName) (words : List (List ℕ)) (act : Act) (left : List (List ℕ)) → act_at most name words ≡ Some (act, left) → AsksAt most name words act left
unfolding act_at
asks_ok numbers most name words act left e =
    let a = bind_some (arguments_at most (arguments_of name) words) _ (act, left) e in
    let P : Act × List (List ℕ) → Type 0 = λ y. AsksAt most name words y.0 y.1 in
    let start : P (act_of name a.0.0, a.0.1) = record { said = a.0.0; arguments = arguments_ok numbers most (arguments_of name) words a.0 a.1; asked = refl } in
    subst P (some_same _ (act, left) a.2) start

pub asks_from : (numbers : NumbersAreRead) → (most : ℕ) (name : CallName) (words : List (List ℕ)) (act : Act) (left : List (List ℕ)) → AsksAt most name words act left → act_at most name words ≡ Some (act, left)
unfolding act_at
asks_from numbers most name words act left h =
    rw (arguments_from numbers most (arguments_of name) words h.said left h.arguments) (ap (λ a. Some (a, left)) (sym h.asked))
