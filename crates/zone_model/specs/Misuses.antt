-- The misuses: each one where its sentence says, and then the least
use Rattle.std.specs.Prelude.{ℕ, ◌+◌, ◌&&◌, ◌==◌, nat_lt, nat_le, Bool, false, not, List, [], ◌∷◌, map, filter_map, Option, Some, None, if◌then◌else◌, is_none, option_and_then}
use Rattle.std.specs.List.{list_any}
use Rattle.std.specs.Option.{option_map_or}
use Rattle.std.specs.FinMap.{get}
use Rattle.az_base.specs.declared.action.Action.{Action}
use Rattle.az_base.specs.declared.action.Action.TheVariants as action
use Rattle.az_base.specs.declared.block_id.BlockId.{BlockId}
use Rattle.az_base.specs.declared.word.Class.{Class}
use Rattle.az_base.specs.declared.word.Class.TheVariants as class
use Rattle.az_base.specs.declared.misuse.Misuse.{Misuse}
use Rattle.az_base.specs.declared.misuse.Misuse.TheVariants as misuse
use Rattle.block_layouts.specs.declared.layout.Layout.{Layout}
use Rattle.block_layouts.specs.Layouts.{len_of, class_at, same_class, quanta}
use Rattle.zone_model.specs.declared.call.Call.{Call}
use Rattle.zone_model.specs.declared.call.Call.TheVariants as call
use Rattle.zone_model.specs.declared.call.Loc.TheVariants as loc
use Rattle.zone_model.specs.State.{State, count_of}
use Rattle.zone_model.specs.Quanta.{used_quanta, quanta_needed, is_born_escaped}

-- the register that must hold a block
abbrev pub holder : Call → Option ℕ
holder (call.Load to from at) = Some from
holder (call.Store into at from) = Some into
holder (call.Put into at number) = Some into
holder (call.Get from at) = Some from
holder (call.Retain reg) = Some reg
holder (call.Release reg) = Some reg
holder (call.Count reg) = Some reg
holder (call.SetAssoc object key value) = Some object
holder (call.GetAssoc to object key) = Some object
holder (call.SetWeak (loc.Word a at) from) = Some a
holder (call.ReadWeak to (loc.Word a at)) = Some a
holder _ = None

-- a word that a call names: the layout in which it stands, its place, and the class that the call needs there
pub record Named : Type 0 where
  pub layout : Layout
  pub at : ℕ
  pub class : Class

-- the word of the block in a register, if there is a block
abbrev pub word_in : State → ℕ → ℕ → ℕ → Class → List Named
word_in z t a at class = option_map_or (λ b. record { layout = b.layout; at = at; class = class } ∷ []) (option_and_then (λ id. get z.blocks id) (z.registers t a)) []

-- the place of a `pass` action
abbrev pub pass_place : Action → Option ℕ
pass_place (action.Keep g) = None
pass_place (action.Pass g at) = Some at

-- the words that the call names
abbrev pub words_named : State → ℕ → Call → List Named
words_named z t (call.New to layout actions) = map (λ at. record { layout = layout; at = at; class = class.Strong }) (filter_map pass_place actions)
words_named z t (call.Load to from at) = word_in z t from at class.Strong
words_named z t (call.Store into at from) = word_in z t into at class.Strong
words_named z t (call.Put into at number) = word_in z t into at class.Plain
words_named z t (call.Get from at) = word_in z t from at class.Plain
words_named z t (call.SetWeak (loc.Word a at) from) = word_in z t a at class.Weak
words_named z t (call.ReadWeak to (loc.Word a at)) = word_in z t a at class.Weak
words_named z t _ = []

-- 1 NullBlock: a register that must hold a block is null
abbrev pub null_block : State → ℕ → Call → Bool
null_block z t call = option_map_or (λ a. is_none (z.registers t a)) (holder call) false

-- 2 NoWord: the place isn't below the block's number of words
abbrev pub no_word : State → ℕ → Call → Bool
no_word z t call = list_any (λ w. nat_le (len_of w.layout) w.at) (words_named z t call)

-- 3 WrongClass: the word's class isn't the one that the call needs
abbrev pub wrong_class : State → ℕ → Call → Bool
wrong_class z t call = list_any (λ w. option_map_or (λ class. not (same_class class w.class)) (class_at w.layout w.at) false) (words_named z t call)

-- 4 OverRelease: `release` at count 0
abbrev pub over_release : State → ℕ → Call → Bool
over_release z t (call.Release reg) = option_map_or (λ b. count_of z b == 0) (z.registers t reg) false
over_release z t _ = false

-- 5 CountFull: `retain` at the count that is the option counts
abbrev pub count_full : State → ℕ → Call → Bool
count_full z t (call.Retain reg) = option_map_or (λ b. count_of z b == z.options.counts) (z.registers t reg) false
count_full z t _ = false

-- 6 SerialsUsed: `new` of a thread that has made as many blocks as the option serials says
abbrev pub serials_used : State → ℕ → Call → Bool
serials_used z t (call.New to layout actions) = z.serials t == z.options.serials
serials_used z t _ = false

-- the quanta are above the option heap, with those of the escaped blocks
abbrev pub is_overfull : State → ℕ → Bool
is_overfull z more = nat_lt z.options.heap_quanta (used_quanta z + more)

-- 7 ZoneFull: the quanta of the escaped blocks, and of what would escape or be born escaped, are above the option heap
abbrev pub zone_full : State → ℕ → Call → (BlockId → Bool) → Bool
zone_full z t (call.New to layout actions) need = is_born_escaped z t layout actions && is_overfull z (quanta (len_of layout))
zone_full z t (call.Store into at from) need = is_overfull z (quanta_needed z need)
zone_full z t (call.SetRoot root from) need = is_overfull z (quanta_needed z need)
zone_full z t (call.Retain reg) need = is_overfull z (quanta_needed z need)
zone_full z t (call.SetAssoc object key value) need = is_overfull z (quanta_needed z need)
zone_full z t (call.SetWeak loc from) need = is_overfull z (quanta_needed z need)
zone_full z t _ need = false

-- 8 NotHeld: `take` of an id that has no positive count
abbrev pub not_held : State → ℕ → Call → Bool
not_held z t (call.Take to id) = count_of z id == 0
not_held z t _ = false

-- the first misuse whose test holds
abbrev pub first_of : List (Bool × Misuse) → Option Misuse
first_of [] = None
first_of (m ∷ more) = if m.0 then Some m.1 else first_of more

-- the misuse of least number that holds, where these blocks would escape
abbrev pub misuse_of : State → ℕ → Call → (BlockId → Bool) → Option Misuse
misuse_of z t call need = first_of (
    (null_block z t call, misuse.NullBlock)
    ∷ (no_word z t call, misuse.NoWord)
    ∷ (wrong_class z t call, misuse.WrongClass)
    ∷ (over_release z t call, misuse.OverRelease)
    ∷ (count_full z t call, misuse.CountFull)
    ∷ (serials_used z t call, misuse.SerialsUsed)
    ∷ (zone_full z t call need, misuse.ZoneFull)
    ∷ (not_held z t call, misuse.NotHeld)
    ∷ [])
