-- What an option line says, and what one that is refused lacks
use Rattle.std.proofs.Common.{◌≡◌, ℕ, inl, inr, List, [], ◌∷◌, Result, Ok, Err, refl, sym, ap, ◌∙◌, subst}
use Rattle.az_words.specs.Numerals.{number_in}
use Rattle.az_words.specs.Laws.{NumbersAreRead}
use Rattle.call_words.specs.Reading.Calls.{next_as}
use Rattle.heap_script.specs.declared.cause.Cause.{Cause}
use Rattle.heap_script.specs.declared.cause.Cause.TheVariants.{NoCall, WrongArgument, TooManyArguments}
use Rattle.call_words.specs.declared.options.OptionName.{OptionName}
use Rattle.call_words.specs.Options.{option_text, option_of, least}
use Rattle.call_words.proofs.OptionNames.{option_ok, option_from}
use Rattle.heap_script.specs.declared.setting.Setting.{Setting}
use Rattle.heap_script.specs.Settings.{largest, setting_to}
use Rattle.heap_script.specs.Lines.{SettingAt}
use Rattle.heap_script.specs.Refusals.{NamesOption, SettingCause}
use Rattle.heap_script.specs.Reading.Scripts.{◌>>=◌, or_cause, no_more, setting_of}
use Rattle.heap_script.proofs.Steps.{or_ok, or_err, bind_ok, bind_err, ok_same, ok_is_not_err, next_some, next_none, no_more_ok, no_more_err, some_left}

-- what stands where the words were read this far
Front : List (List ℕ) → OptionName → List (List ℕ) → Type 0
Front words name others = words ≡ option_text name ∷ others

named : (words : List (List ℕ)) (x : OptionName × List (List ℕ)) → or_cause NoCall (next_as option_of words) ≡ Ok x → words ≡ option_text x.0 ∷ x.1
named words x e =
    let p = next_some option_of words x (or_ok NoCall (next_as option_of words) x e) in
    p.1 ∙ ap (λ w. w ∷ x.1) (option_ok p.0 x.0 p.2)

numbered : (numbers : NumbersAreRead) → (words : List (List ℕ)) (name : OptionName) (others : List (List ℕ)) (x : ℕ × List (List ℕ)) → words ≡ option_text name ∷ others
    → or_cause WrongArgument (next_as (number_in (least name) (largest name)) others) ≡ Ok x → SettingAt words (setting_to name x.0) x.1
numbered numbers words name others x spelled e =
    let p = next_some (number_in (least name) (largest name)) others x (or_ok WrongArgument (next_as (number_in (least name) (largest name)) others) x e) in
    (name, p.0, x.0, spelled ∙ ap (λ ws. option_text name ∷ ws) p.1, (numbers (least name) (largest name) p.0 x.0).0 p.2, refl)

pub setting_ok : (numbers : NumbersAreRead) → (words : List (List ℕ)) (set : Setting) → setting_of words ≡ Ok set → SettingAt words set []
unfolding setting_of
setting_ok numbers words set e =
    let a = bind_ok (or_cause NoCall (next_as option_of words)) _ set e in
    let b = bind_ok (or_cause WrongArgument (next_as (number_in (least a.0.0) (largest a.0.0)) a.0.1)) _ set a.2 in
    let c = bind_ok (no_more b.0.1) _ set b.2 in
    let at = numbered numbers words a.0.0 a.0.1 b.0 (named words a.0 a.1) b.1 in
    let end : SettingAt words (setting_to a.0.0 b.0.0) [] = subst (SettingAt words (setting_to a.0.0 b.0.0)) (no_more_ok b.0.1 c.0 c.1) at in
    subst (λ s. SettingAt words s []) (ok_same _ set c.2) end

-- the option line is right, and then come these words
setting_at : (numbers : NumbersAreRead) → (words : List (List ℕ)) (set : Setting) (left : List (List ℕ)) → SettingAt words set left → setting_of words ≡ (no_more left >>= λ end. Ok set)
unfolding setting_of next_as
setting_at numbers words set left h =
    rw (h.3, option_from h.0, (numbers (least h.0) (largest h.0) h.1 h.2).1 h.4, h.5) refl

pub setting_from : (numbers : NumbersAreRead) → (words : List (List ℕ)) (set : Setting) → SettingAt words set [] → setting_of words ≡ Ok set
unfolding no_more
setting_from numbers words set h = setting_at numbers words set [] h

-- what each cause says of the words after option
Says : List (List ℕ) → Cause → Type 0
Says words NoCall = ¬ NamesOption words
Says words WrongArgument = NamesOption words
Says words TooManyArguments = SettingCause words TooManyArguments
Says words _ = ⊥

said : (words : List (List ℕ)) (c d : Cause) → c ≡ d → Says words c → Says words d
said words c d e h = subst (Says words) e h

says : (numbers : NumbersAreRead) → (words : List (List ℕ)) (d : Cause) → setting_of words ≡ Err d → Says words d
unfolding setting_of Says
says numbers words d e =
    elim (bind_err (or_cause NoCall (next_as option_of words)) _ d e) [
      | inl h ↦
          (let p = or_err NoCall d (next_as option_of words) h in
          said words NoCall d p.0 (λ has. next_none option_of words p.1 (option_text has.0) has.1 has.0 has.2 (option_from has.0)))
      | inr a ↦
          (let spelled = named words a.0 a.1 in
          elim (bind_err (or_cause WrongArgument (next_as (number_in (least a.0.0) (largest a.0.0)) a.0.1)) _ d a.2) [
            | inl h ↦ said words WrongArgument d (or_err WrongArgument d (next_as (number_in (least a.0.0) (largest a.0.0)) a.0.1) h).0 (a.0.0, a.0.1, spelled)
            | inr b ↦
                elim (bind_err (no_more b.0.1) _ d b.2) [
                  | inl h ↦
                      (let m = some_left b.0.1 d h in
                      let at : SettingAt words (setting_to a.0.0 b.0.0) (m.0 ∷ m.1) = subst (SettingAt words (setting_to a.0.0 b.0.0)) m.2 (numbered numbers words a.0.0 a.0.1 b.0 spelled b.1) in
                      said words TooManyArguments d (no_more_err b.0.1 d h) (setting_to a.0.0 b.0.0, m.0, m.1, at))
                  | inr c ↦ absurd (ok_is_not_err _ d c.2)
                ]
          ])
    ]

too_many : (numbers : NumbersAreRead) → (words : List (List ℕ)) → SettingCause words TooManyArguments → setting_of words ≡ Err TooManyArguments
unfolding no_more
too_many numbers words h = setting_at numbers words h.0 (h.1 ∷ h.2) h.3

-- what was read, and what it says
Outcome : List (List ℕ) → Result Setting Cause → Type 0
Outcome words (Ok set) = SettingAt words set []
Outcome words (Err d) = Says words d

outcome : (numbers : NumbersAreRead) → (words : List (List ℕ)) (read : Result Setting Cause) → setting_of words ≡ read → Outcome words read
unfolding Outcome
outcome numbers words (Ok set) e = setting_ok numbers words set e
outcome numbers words (Err d) e = says numbers words d e

has_option : (words : List (List ℕ)) (set : Setting) (left : List (List ℕ)) → SettingAt words set left → NamesOption words
has_option words set left h = (h.0, h.1 ∷ left, h.3)

name_missing : (words : List (List ℕ)) (read : Result Setting Cause) → Outcome words read → ¬ NamesOption words → read ≡ Err NoCall
unfolding Outcome Says
name_missing words (Ok set) h none = absurd (none (has_option words set [] h))
name_missing words (Err NoCall) h none = refl
name_missing words (Err WrongArgument) h none = absurd (none h)
name_missing words (Err TooManyArguments) h none = absurd (none (has_option words h.0 (h.1 ∷ h.2) h.3))
name_missing words (Err d) h none = absurd h

number_wrong : (words : List (List ℕ)) (read : Result Setting Cause) → Outcome words read → NamesOption words → ((set : Setting) (left : List (List ℕ)) → ¬ SettingAt words set left) → read ≡ Err WrongArgument
unfolding Outcome Says
number_wrong words (Ok set) h has none = absurd (none set [] h)
number_wrong words (Err NoCall) h has none = absurd (h has)
number_wrong words (Err WrongArgument) h has none = refl
number_wrong words (Err TooManyArguments) h has none = absurd (none h.0 (h.1 ∷ h.2) h.3)
number_wrong words (Err d) h has none = absurd h

no_error : (left : List (List ℕ)) (set : Setting) → ◌≡◌ {A = Result Setting Cause} (no_more left >>= λ end. Ok set) (Err WrongArgument) → ⊥
unfolding no_more
no_error [] set e = cc
no_error (word ∷ words) set e = cc

pub settings_refused : (numbers : NumbersAreRead) → (words : List (List ℕ)) (cause : Cause) → setting_of words ≡ Err cause → SettingCause words cause
unfolding Says
settings_refused numbers words NoCall e = says numbers words NoCall e
settings_refused numbers words WrongArgument e = (says numbers words WrongArgument e, λ set left h. no_error left set (sym (setting_at numbers words set left h) ∙ e))
settings_refused numbers words TooManyArguments e = says numbers words TooManyArguments e
settings_refused numbers words cause e = says numbers words cause e

pub settings_refused_from : (numbers : NumbersAreRead) → (words : List (List ℕ)) (cause : Cause) → SettingCause words cause → setting_of words ≡ Err cause
settings_refused_from numbers words NoCall h = name_missing words (setting_of words) (outcome numbers words (setting_of words) refl) h
settings_refused_from numbers words WrongArgument h = number_wrong words (setting_of words) (outcome numbers words (setting_of words) refl) h.0 h.1
settings_refused_from numbers words TooManyArguments h = too_many numbers words h
settings_refused_from numbers words cause h = absurd h
