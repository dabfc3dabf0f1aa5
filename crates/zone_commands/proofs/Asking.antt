-- Words are a command exactly where the definition of commands says so
use Rattle.std.proofs.Common.{◌≡◌, ◌&&◌, ℕ, Bool, true, false, cond, List, [], ◌∷◌, Option, Some, None, nat_le, refl, sym, ap, ◌∙◌, subst, codes}
use Rattle.std.specs.Str.{bytes_eq}
use Rattle.std.proofs.lemmas.Bool.{and_parts, leb-true, le-leb}
use Rattle.std.proofs.lemmas.Slice.Eq.{bytes_eq-Decides}
use Rattle.zone_commands.specs.declared.words.Command.{Command}
use Rattle.zone_commands.specs.declared.words.Command.TheVariants as commands
use Rattle.zone_commands.specs.CommandLine.{number_of, soak_by, asked, AsksFor}
use Rattle.zone_commands.proofs.Numbers.{number_ok, number_from}

-- a choice that gave a command
given : (b : Bool) (o : Option Command) (c : Command) → cond b o None ≡ Some c → (b ≡ true) × (o ≡ Some c)
given true o c e = (refl, e)
given false o c e = cc

some_same : (a b : Command) → Some a ≡ Some b → a ≡ b
some_same a b e = cc

is_word : (word text : List ℕ) → bytes_eq word text ≡ true → word ≡ text
is_word word text e = (bytes_eq-Decides word text).0 e

soak_ok : (first second : List ℕ) (c : Command) (start calls : Option ℕ) → number_of first ≡ start → number_of second ≡ calls → soak_by start calls ≡ Some c → AsksFor (codes "soak" ∷ first ∷ second ∷ []) c
soak_ok first second c None calls f s e = cc
soak_ok first second c (Some start) None f s e = cc
soak_ok first second c (Some start) (Some calls) f s e =
    let p = given (nat_le 1 calls && nat_le calls 65536) (Some (commands.Soak start calls)) c e in
    let q = and_parts (nat_le 1 calls) (nat_le calls 65536) p.0 in
    let asks : AsksFor (codes "soak" ∷ first ∷ second ∷ []) (commands.Soak start calls) =
    (first, second, refl, number_ok first start f, number_ok second calls s, leb-true 1 calls q.0, leb-true calls 65536 q.1) in
    subst (AsksFor (codes "soak" ∷ first ∷ second ∷ [])) (some_same (commands.Soak start calls) c p.1) asks

script_ok : (word : List ℕ) (c : Command) (play run : Bool) → bytes_eq word (codes "play") ≡ play → bytes_eq word (codes "run") ≡ run → cond play (Some commands.Play) (cond run (Some commands.Run) None) ≡ Some c → AsksFor (word ∷ []) c
script_ok word c true run p r e =
    let asks : AsksFor (word ∷ []) commands.Play = ap (λ w. w ∷ []) (is_word word (codes "play") p) in
    subst (AsksFor (word ∷ [])) (some_same commands.Play c e) asks
script_ok word c false true p r e =
    let asks : AsksFor (word ∷ []) commands.Run = ap (λ w. w ∷ []) (is_word word (codes "run") r) in
    subst (AsksFor (word ∷ [])) (some_same commands.Run c e) asks
script_ok word c false false p r e = cc

pub asks_ok : (words : List (List ℕ)) (c : Command) → asked words ≡ Some c → AsksFor words c
asks_ok [] c e = cc
asks_ok (word ∷ []) c e =
    script_ok word c (bytes_eq word (codes "play")) (bytes_eq word (codes "run")) refl refl e
asks_ok (word ∷ first ∷ []) c e = cc
asks_ok (word ∷ first ∷ second ∷ []) c e =
    let p = given (bytes_eq word (codes "soak")) (soak_by (number_of first) (number_of second)) c e in
    subst (λ w. AsksFor (w ∷ first ∷ second ∷ []) c) (sym (is_word word (codes "soak") p.0)) (soak_ok first second c (number_of first) (number_of second) refl refl p.1)
asks_ok (word ∷ first ∷ second ∷ third ∷ more) c e = cc

pub asks_from : (words : List (List ℕ)) (c : Command) → AsksFor words c → asked words ≡ Some c
asks_from words commands.Play h = ap asked h
asks_from words commands.Run h = ap asked h
asks_from words (commands.Soak start calls) h =
    let soak : soak_by (Some start) (Some calls) ≡ Some (commands.Soak start calls) = rw (le-leb 1 calls h.5, le-leb calls 65536 h.6) refl in
    ap asked h.2 ∙ rw (number_from h.0 start h.3, number_from h.1 calls h.4) soak
