-- The words of a command line.
use Rattle.std.proofs.Common.{◌≡◌, ◌≤◌, ◌-◌, ℕ, List, [], ◌∷◌, length, map, get_or, take, drop, sym, ◌∙◌, ap, arith}
use Rattle.std.proofs.lemmas.List.{take_all}

-- the first word, and those behind it
pub first_word : {X : Type 0} (bytes : X → List ℕ) (words : List X) (w : X) (word : List ℕ) → 1 ≤ length words → w ≡ get_or words 0 w → bytes w ≡ word
    → map bytes words ≡ word ∷ map bytes (take (length words - 1) (drop 1 words))
first_word bytes [] w word some is e = absurd (omega (arith, some))
first_word bytes (x ∷ words) w word some is e =
    ap (λ b. b ∷ map bytes words) (ap bytes (sym is) ∙ e) ∙ ap (λ ws. word ∷ map bytes ws) (grind (arith, take_all))
