-- What single words say, as it is read and as the grammar has it
use Rattle.std.proofs.Common.{◌≡◌, ℕ, ◌≤◌, Bool, true, false, cond, eqb, ltb, leb, ◌&&◌, List, [], ◌∷◌, ◌++◌, length, Option, Some, None, is_none, refl, sym, ap, ◌∙◌, subst, arith}
use Rattle.std.specs.List.{list_all}
use Rattle.std.specs.Char.{is_ascii_digit}
use Rattle.std.specs.Option.{option_map}
use Rattle.std.proofs.lemmas.Bool.{eqb-true, ne_eqb, ltb-true, leb-true, lt-ltb, le-leb, and_parts}
use Rattle.az_base.specs.declared.block_id.BlockId.{BlockId}
use Rattle.az_base.specs.declared.numbers.Key.{Key}
use Rattle.az_base.specs.declared.numbers.RootNo.{RootNo}
use Rattle.az_base.specs.declared.numbers.WeakNo.{WeakNo}
use Rattle.az_base.specs.Ids.{id_of}
use Rattle.az_words.specs.Numerals.{number_in}
use Rattle.az_words.specs.Parts.{cut_at}
use Rattle.az_words.specs.Laws.{NumbersAreRead}
use Rattle.block_layouts.specs.declared.layout.Shape.{Shape}
use Rattle.block_layouts.specs.declared.layout.Shape.TheVariants as shape
use Rattle.block_layouts.specs.Letters.{first_other, classes_of}
use Rattle.az_words.proofs.NameLaws.{among_ok}
use Rattle.call_words.specs.declared.names.CallName.{CallName}
use Rattle.call_words.specs.declared.names.CallName.TheVariants as names
use Rattle.call_words.specs.declared.keywords.LayoutName.{LayoutName}
use Rattle.call_words.specs.declared.keywords.LayoutName.TheVariants as layout
use Rattle.call_words.specs.declared.keywords.Verb.{Verb}
use Rattle.call_words.specs.declared.keywords.Verb.TheVariants as verb
use Rattle.call_words.specs.declared.keywords.CollectName.{CollectName}
use Rattle.call_words.specs.declared.keywords.CollectName.TheVariants as kind
use Rattle.call_words.specs.Names.{name_text, all_names, name_of, layout_text, layout_of, verb_text, verb_of, collect_text, collect_of}
use Rattle.call_words.specs.Reading.Words.{lettered, reg_of, root_of, weak_of, key_of, id_from, id_by, block_of, object_of}
use Rattle.call_words.specs.Reading.Calls.{next_as}
use Rattle.call_words.specs.Grammar.{OneWord, IsLettered, SaysId, IsObject}
use Rattle.call_words.proofs.Steps.{chosen, some_same, next_some}

-- one word, by the law of what it says
pub one_ok : {A : Type 0} (read : List ℕ → Option A) (says : List ℕ → A → Type 0) → ((word : List ℕ) (x : A) → read word ≡ Some x → says word x)
    → (words : List (List ℕ)) (x : A × List (List ℕ)) → next_as read words ≡ Some x → OneWord says words x.0 x.1
one_ok read says law words x e =
    let p = next_some read words x e in
    (p.0, p.1, law p.0 x.0 p.2)

pub one_from : {A : Type 0} (read : List ℕ → Option A) (says : List ℕ → A → Type 0) → ((word : List ℕ) (x : A) → says word x → read word ≡ Some x)
    → (words : List (List ℕ)) (x : A) (left : List (List ℕ)) → OneWord says words x left → next_as read words ≡ Some (x, left)
unfolding next_as
one_from read says law words x left h = rw (h.1, law h.0 x h.2) refl

pub name_ok : (word : List ℕ) (c : CallName) → name_of word ≡ Some c → word ≡ name_text c
unfolding name_of
name_ok word c e = among_ok name_text all_names word c e

pub name_from : (c : CallName) → name_of (name_text c) ≡ Some c
unfolding name_of
name_from names.New = refl
name_from names.Load = refl
name_from names.Store = refl
name_from names.Put = refl
name_from names.Get = refl
name_from names.Copy = refl
name_from names.Drop = refl
name_from names.Collect = refl
name_from names.SetRoot = refl
name_from names.GetRoot = refl
name_from names.Retain = refl
name_from names.Release = refl
name_from names.Count = refl
name_from names.Take = refl
name_from names.SetAssoc = refl
name_from names.GetAssoc = refl
name_from names.SetWeak = refl
name_from names.ReadWeak = refl
name_from names.Stats = refl

pub layout_name_ok : (word : List ℕ) (c : LayoutName) → layout_of word ≡ Some c → word ≡ layout_text c
unfolding layout_of
layout_name_ok word c e = among_ok layout_text (layout.Scanned ∷ layout.Unscanned ∷ layout.Object ∷ []) word c e

pub layout_name_from : (c : LayoutName) → layout_of (layout_text c) ≡ Some c
unfolding layout_of
layout_name_from layout.Scanned = refl
layout_name_from layout.Unscanned = refl
layout_name_from layout.Object = refl

pub verb_ok : (word : List ℕ) (c : Verb) → verb_of word ≡ Some c → word ≡ verb_text c
unfolding verb_of
verb_ok word c e = among_ok verb_text (verb.Keep ∷ verb.Pass ∷ []) word c e

pub verb_from : (c : Verb) → verb_of (verb_text c) ≡ Some c
unfolding verb_of
verb_from verb.Keep = refl
verb_from verb.Pass = refl

pub collect_ok : (word : List ℕ) (c : CollectName) → collect_of word ≡ Some c → word ≡ collect_text c
unfolding collect_of
collect_ok word c e = among_ok collect_text (kind.Local ∷ kind.Young ∷ kind.Full ∷ []) word c e

collect_text_from : (c : CollectName) → collect_of (collect_text c) ≡ Some c
unfolding collect_of
collect_text_from kind.Local = refl
collect_text_from kind.Young = refl
collect_text_from kind.Full = refl

pub collect_from : (word : List ℕ) (c : CollectName) → word ≡ collect_text c → collect_of word ≡ Some c
collect_from word c e = ap collect_of e ∙ collect_text_from c

-- a letter and a numeral
lettered_ok : (numbers : NumbersAreRead) → (letter high : ℕ) (word : List ℕ) (n : ℕ) → lettered letter high word ≡ Some n → IsLettered letter high word n
lettered_ok numbers letter high [] n e = cc
lettered_ok numbers letter high (c ∷ word) n e =
    let a = chosen (eqb c letter) _ n e in
    (word, ap (λ k. k ∷ word) (eqb-true c letter a.0), (numbers 0 high word n).0 a.1)

lettered_same : (letter : ℕ) → eqb letter letter ≡ true
lettered_same letter = search arith

lettered_from : (numbers : NumbersAreRead) → (letter high : ℕ) (word : List ℕ) (n : ℕ) → IsLettered letter high word n → lettered letter high word ≡ Some n
lettered_from numbers letter high word n h = rw (h.1, lettered_same letter) ((numbers 0 high h.0 n).1 h.2)

mapped : {B : Type 0} (f : ℕ → B) (g : B → ℕ) → ((n : ℕ) → g (f n) ≡ n) → (o : Option ℕ) (b : B) → option_map f o ≡ Some b → o ≡ Some (g b)
mapped f g law None b e = cc
mapped f g law (Some n) b e = ap Some (sym (law n) ∙ ap g (some_same (f n) b e))

pub reg_ok : (numbers : NumbersAreRead) → (word : List ℕ) (n : ℕ) → reg_of word ≡ Some n → IsLettered 114 15 word n
unfolding reg_of
reg_ok numbers word n e = lettered_ok numbers 114 15 word n e

pub reg_from : (numbers : NumbersAreRead) → (word : List ℕ) (n : ℕ) → IsLettered 114 15 word n → reg_of word ≡ Some n
unfolding reg_of
reg_from numbers word n h = lettered_from numbers 114 15 word n h

pub root_ok : (numbers : NumbersAreRead) → (word : List ℕ) (g : RootNo) → root_of word ≡ Some g → IsLettered 103 255 word g.0
unfolding root_of
root_ok numbers word g e = lettered_ok numbers 103 255 word g.0 (mapped (λ n. record { 0 = n }) (λ (x : RootNo). x.0) (λ n. refl) (lettered 103 255 word) g e)

pub root_from : (numbers : NumbersAreRead) → (word : List ℕ) (g : RootNo) → IsLettered 103 255 word g.0 → root_of word ≡ Some g
unfolding root_of
root_from numbers word g h = rw (lettered_from numbers 103 255 word g.0 h) refl

pub weak_ok : (numbers : NumbersAreRead) → (word : List ℕ) (g : WeakNo) → weak_of word ≡ Some g → IsLettered 119 255 word g.0
unfolding weak_of
weak_ok numbers word g e = lettered_ok numbers 119 255 word g.0 (mapped (λ n. record { 0 = n }) (λ (x : WeakNo). x.0) (λ n. refl) (lettered 119 255 word) g e)

pub weak_from : (numbers : NumbersAreRead) → (word : List ℕ) (g : WeakNo) → IsLettered 119 255 word g.0 → weak_of word ≡ Some g
unfolding weak_of
weak_from numbers word g h = rw (lettered_from numbers 119 255 word g.0 h) refl

-- a register is no weak root
pub reg_is_not_weak : (numbers : NumbersAreRead) → (word : List ℕ) (n : ℕ) → IsLettered 114 15 word n → weak_of word ≡ None
unfolding weak_of
reg_is_not_weak numbers word n h = rw h.1 refl

pub key_ok : (numbers : NumbersAreRead) → (word : List ℕ) (k : Key) → key_of word ≡ Some k → IsLettered 107 255 word k.0
unfolding key_of
key_ok numbers word k e = lettered_ok numbers 107 255 word k.0 (mapped (λ n. record { 0 = n }) (λ (x : Key). x.0) (λ n. refl) (lettered 107 255 word) k e)

pub key_from : (numbers : NumbersAreRead) → (word : List ℕ) (k : Key) → IsLettered 107 255 word k.0 → key_of word ≡ Some k
unfolding key_of
key_from numbers word k h = rw (lettered_from numbers 107 255 word k.0 h) refl

-- the parts of a word make the word
parts_map : (b : ℕ) (o : Option (List ℕ × List ℕ)) (p : List ℕ × List ℕ) → option_map (λ q. (b ∷ q.0, q.1)) o ≡ Some p → (q : List ℕ × List ℕ) × (o ≡ Some q) × ((b ∷ q.0, q.1) ≡ p)
parts_map b None p e = cc
parts_map b (Some q) p e = (q, refl, some_same (b ∷ q.0, q.1) p e)

cut_by : (byte b : ℕ) (word : List ℕ) (c : Bool) (p : List ℕ × List ℕ) → eqb b byte ≡ c → cond c (Some ([], word)) (option_map (λ q. (b ∷ q.0, q.1)) (cut_at byte word)) ≡ Some p
    → ((q : List ℕ × List ℕ) → cut_at byte word ≡ Some q → word ≡ q.0 ++ byte ∷ q.1) → b ∷ word ≡ p.0 ++ byte ∷ p.1
cut_by byte b word true p is e rec =
    let same : ([], word) ≡ p = some_same ([], word) p e in
    let start : b ∷ word ≡ [] ++ byte ∷ word = ap (λ k. k ∷ word) (eqb-true b byte is) in
    subst (λ (q : List ℕ × List ℕ). b ∷ word ≡ q.0 ++ byte ∷ q.1) same start
cut_by byte b word false p is e rec =
    let q = parts_map b (cut_at byte word) p e in
    subst (λ (r : List ℕ × List ℕ). b ∷ word ≡ r.0 ++ byte ∷ r.1) q.2 (ap (λ ws. b ∷ ws) (rec q.0 q.1))

cut_ok : (byte : ℕ) (word : List ℕ) (p : List ℕ × List ℕ) → cut_at byte word ≡ Some p → word ≡ p.0 ++ byte ∷ p.1
cut_ok byte [] p e = cc
cut_ok byte (b ∷ word) p e = cut_by byte b word (eqb b byte) p refl e (cut_ok byte word)

id_parts : (t s : Option ℕ) (id : BlockId) → id_from t s ≡ Some id → (t ≡ Some id.thread) × (s ≡ Some id.serial)
id_parts (Some t) (Some s) id e =
    let same : id_of t s ≡ id = some_same (id_of t s) id e in
    (ap (λ (i : BlockId). Some i.thread) same, ap (λ (i : BlockId). Some i.serial) same)
id_parts (Some t) None id e = cc
id_parts None (Some s) id e = cc
id_parts None None id e = cc

id_cut : (numbers : NumbersAreRead) → (word : List ℕ) (o : Option (List ℕ × List ℕ)) (id : BlockId) → cut_at 46 word ≡ o → id_by o ≡ Some id → SaysId word id
id_cut numbers word None id c e = cc
id_cut numbers word (Some p) id c e =
    let q = id_parts (number_in 1 16 p.0) (number_in 0 4294967295 p.1) id e in
    (p.0, p.1, cut_ok 46 word p c, (numbers 1 16 p.0 id.thread).0 q.0, (numbers 0 4294967295 p.1 id.serial).0 q.1)

pub id_ok : (numbers : NumbersAreRead) → (word : List ℕ) (id : BlockId) → block_of word ≡ Some id → SaysId word id
unfolding block_of
id_ok numbers word id e = id_cut numbers word (cut_at 46 word) id refl e

-- a digit is no dot
no_dot : (b : ℕ) → is_ascii_digit b ≡ true → eqb b 46 ≡ false
no_dot b h =
    let p = and_parts (leb 48 b) (leb b 57) h in
    let l : 48 ≤ b = leb-true 48 b p.0 in
    ne_eqb b 46 (λ e. omega arith)

cut_digits : (front back : List ℕ) → list_all is_ascii_digit front ≡ true → cut_at 46 (front ++ 46 ∷ back) ≡ Some (front, back)
cut_digits [] back h = refl
cut_digits (b ∷ front) back h =
    let p = and_parts (is_ascii_digit b) (list_all is_ascii_digit front) h in
    rw (no_dot b p.0, cut_digits front back p.1) refl

pub id_from_parts : (numbers : NumbersAreRead) → (word : List ℕ) (id : BlockId) → SaysId word id → block_of word ≡ Some id
unfolding block_of
id_from_parts numbers word id h =
    rw (h.2, cut_digits h.0 h.1 h.3.numeral.digits, (numbers 1 16 h.0 id.thread).1 h.3, (numbers 0 4294967295 h.1 id.serial).1 h.4) refl

none_is : (o : Option ℕ) → is_none o ≡ true → o ≡ None
none_is None e = refl
none_is (Some n) e = cc

pub object_ok : (word : List ℕ) (s : Shape) → object_of word ≡ Some s → IsObject word s
unfolding object_of
object_ok word s e =
    let a = chosen (is_none (first_other word) && ltb 0 (length word) && leb (length word) 4096) _ s e in
    let p = and_parts (is_none (first_other word) && ltb 0 (length word)) (leb (length word) 4096) a.0 in
    let q = and_parts (is_none (first_other word)) (ltb 0 (length word)) p.0 in
    (none_is (first_other word) q.0, ltb-true 0 (length word) q.1, leb-true (length word) 4096 p.1, sym (some_same (shape.Object (classes_of word)) s a.1))

pub object_from : (word : List ℕ) (s : Shape) → IsObject word s → object_of word ≡ Some s
unfolding object_of
object_from word s h =
    let some : ltb 0 (length word) ≡ true = lt-ltb 0 (length word) h.1 in
    let few : leb (length word) 4096 ≡ true = le-leb (length word) 4096 h.2 in
    rw (h.0, some, few) (ap Some (sym h.3))
