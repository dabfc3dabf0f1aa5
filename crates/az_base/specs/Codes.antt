-- The codes of what models hold: a number for each value
use Rattle.std.specs.Prelude.{◌≡◌, ℕ, ◌⊎◌, refl}
use Rattle.std.proofs.Common.{inl, inr}
use Rattle.std.specs.Coded.{Coded, code_by, coded×, coded⊎, coded_ℕ}
use base.Stored.{coded_unit}
use Rattle.az_base.specs.declared.action.Action.{Action}
use Rattle.az_base.specs.declared.action.Action.TheVariants as action
use Rattle.az_base.specs.declared.block_id.BlockId.{BlockId}
use Rattle.az_base.specs.declared.options.Options.{Options}
use Rattle.az_base.specs.declared.weak_loc.WeakLoc.{WeakLoc}
use Rattle.az_base.specs.declared.weak_loc.WeakLoc.TheVariants as loc
use Rattle.az_base.specs.declared.word.Class.{Class}
use Rattle.az_base.specs.declared.word.Class.TheVariants as class
use Rattle.az_base.specs.declared.word.Word.{Word}
use Rattle.az_base.specs.declared.word.Word.TheVariants as word
use Rattle.az_base.specs.Id.{coded_id}

abbrev pub coded_options : Coded Options
coded_options = code_by (ℕ × (ℕ × (ℕ × (ℕ × ℕ)))) (coded× coded_ℕ (coded× coded_ℕ (coded× coded_ℕ (coded× coded_ℕ coded_ℕ))))
    (λ o. (o.heap_quanta, (o.local_quanta, (o.serials, (o.counts, o.pending)))))
    (λ p. record { heap_quanta = p.0; local_quanta = p.1.0; serials = p.1.1.0; counts = p.1.1.1.0; pending = p.1.1.1.1 }) (λ _. refl)

abbrev class_code : Class → Unit {0} ⊎ (Unit {0} ⊎ Unit {0})
class_code class.Strong = inl tt
class_code class.Weak = inr (inl tt)
class_code class.Plain = inr (inr tt)

abbrev class_back : Unit {0} ⊎ (Unit {0} ⊎ Unit {0}) → Class
class_back (inl u) = class.Strong
class_back (inr (inl u)) = class.Weak
class_back (inr (inr u)) = class.Plain

pub class_again : (c : Class) → class_back (class_code c) ≡ c
class_again class.Strong = refl
class_again class.Weak = refl
class_again class.Plain = refl

abbrev pub coded_class : Coded Class
coded_class = code_by (Unit {0} ⊎ (Unit {0} ⊎ Unit {0})) (coded⊎ coded_unit (coded⊎ coded_unit coded_unit)) class_code class_back class_again

abbrev word_code : Word → Unit {0} ⊎ (BlockId ⊎ ℕ)
word_code word.Null = inl tt
word_code (word.Block b) = inr (inl b)
word_code (word.Number n) = inr (inr n)

abbrev word_back : Unit {0} ⊎ (BlockId ⊎ ℕ) → Word
word_back (inl u) = word.Null
word_back (inr (inl b)) = word.Block b
word_back (inr (inr n)) = word.Number n

pub word_again : (w : Word) → word_back (word_code w) ≡ w
word_again word.Null = refl
word_again (word.Block b) = refl
word_again (word.Number n) = refl

abbrev pub coded_word : Coded Word
coded_word = code_by (Unit {0} ⊎ (BlockId ⊎ ℕ)) (coded⊎ coded_unit (coded⊎ coded_id coded_ℕ)) word_code word_back word_again

abbrev action_code : Action → ℕ ⊎ (ℕ × ℕ)
action_code (action.Keep g) = inl g.0
action_code (action.Pass g at) = inr (g.0, at)

abbrev action_back : ℕ ⊎ (ℕ × ℕ) → Action
action_back (inl g) = action.Keep (record { 0 = g })
action_back (inr p) = action.Pass (record { 0 = p.0 }) p.1

pub action_again : (a : Action) → action_back (action_code a) ≡ a
action_again (action.Keep g) = refl
action_again (action.Pass g at) = refl

abbrev pub coded_action : Coded Action
coded_action = code_by (ℕ ⊎ (ℕ × ℕ)) (coded⊎ coded_ℕ (coded× coded_ℕ coded_ℕ)) action_code action_back action_again

-- a location as a root's number, or a block and a place
abbrev split_loc : WeakLoc → ℕ ⊎ (BlockId × ℕ)
split_loc (loc.Root w) = inl w.0
split_loc (loc.Word b i) = inr (b, i)

-- the location of these
abbrev join_loc : ℕ ⊎ (BlockId × ℕ) → WeakLoc
join_loc (inl n) = loc.Root (record { 0 = n })
join_loc (inr p) = loc.Word p.0 p.1

pub loc_joins : (l : WeakLoc) → join_loc (split_loc l) ≡ l
loc_joins (loc.Root w) = refl
loc_joins (loc.Word b i) = refl

-- a location's code
abbrev pub coded_loc : Coded WeakLoc
coded_loc = code_by (ℕ ⊎ (BlockId × ℕ)) (coded⊎ coded_ℕ (coded× coded_id coded_ℕ)) split_loc join_loc loc_joins
