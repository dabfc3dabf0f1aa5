-- Lines of plain words are text, and are cut into the same lines
use Rattle.std.proofs.Common.{◌≡◌, ℕ, true, List, [], ◌∷◌, ◌++◌, map, refl, ap, ◌∙◌, arith, append_assoc}
use Rattle.std.specs.List.{flat_map, list_all}
use Rattle.std.specs.Str.{IsAscii, IsUtf8}
use Rattle.std.proofs.lemmas.Bool.{cond-false, and_parts}
use Rattle.std.proofs.lemmas.Str.{IsUtf8-from_ascii}
use Rattle.std.proofs.lemmas.Str.Ascii.{IsAscii-nil, IsAscii-cons}
use Rattle.az_words.specs.Lines.{is_feed, onto_first, lines_of}
use Rattle.call_words.specs.Spacing.{spaced, fed_line, ArePlain}
use Rattle.call_words.proofs.PlainWords.{is_shown, shown_range, not_feed, spaced_shown}

-- all words of all lines are plain
abbrev pub LinesArePlain : List (List (List ℕ)) → Type 0
LinesArePlain [] = Unit {0}
LinesArePlain (line ∷ lines) = ArePlain line × LinesArePlain lines

shown_ascii : (text : List ℕ) → list_all is_shown text ≡ true → IsAscii text
shown_ascii [] h = IsAscii-nil
shown_ascii (c ∷ text) h =
    let p = and_parts (is_shown c) (list_all is_shown text) h in
    let range = shown_range c p.0 in
    IsAscii-cons c text (omega (arith, range.1)) (shown_ascii text p.1)

pub spaced_text : (words : List (List ℕ)) → ArePlain words → IsUtf8 (spaced words)
spaced_text words h = IsUtf8-from_ascii (spaced words) (shown_ascii (spaced words) (spaced_shown words h))

-- lines

line_before : (line rest : List ℕ) → list_all is_shown line ≡ true → lines_of (line ++ 10 ∷ rest) ≡ line ∷ lines_of rest
line_before [] rest h = refl
line_before (c ∷ line) rest h =
    let p = and_parts (is_shown c) (list_all is_shown line) h in
    cond-false (is_feed c) ([] ∷ lines_of (line ++ 10 ∷ rest)) (onto_first c (lines_of (line ++ 10 ∷ rest))) (not_feed c p.0) ∙ ap (onto_first c) (line_before line rest p.1)

pub lines_are_cut : (lines : List (List (List ℕ))) → LinesArePlain lines → lines_of (flat_map fed_line lines) ≡ map spaced lines
lines_are_cut [] h = refl
lines_are_cut (line ∷ lines) h =
    ap lines_of (append_assoc (spaced line) (10 ∷ []) (flat_map fed_line lines))
    ∙ line_before (spaced line) (flat_map fed_line lines) (spaced_shown line h.0)
    ∙ ap (λ ls. spaced line ∷ ls) (lines_are_cut lines h.1)

pub lines_together : (a b : List (List (List ℕ))) → LinesArePlain a → LinesArePlain b → LinesArePlain (a ++ b)
lines_together [] b h g = g
lines_together (line ∷ a) b h g = (h.0, lines_together a b h.1 g)
