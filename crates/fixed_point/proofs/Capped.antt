-- A number that is cut at a cap on the way is the number cut at the end.
use Rattle.std.proofs.Common.{◌≡◌, ℕ, ◌+◌, ◌-◌, ◌*◌, ◌≤◌, List, [], ◌∷◌, length, ap, sym, ◌∙◌, arith, min, get_or, take, drop, IsTrue}
use Rattle.std.specs.List.{list_all}
use Rattle.std.proofs.lemmas.Grind.{common_steps}
use Rattle.std.proofs.lemmas.Bool.{and_parts}
use Rattle.fixed_point.specs.Decimal.{value_from}
use Rattle.desk_io.specs.Characters.{is_digit}

cut-twice : (c n : ℕ) → min (min n c) c ≡ min n c
cut-twice c n = omega arith

cut-digit : (c n k : ℕ) → min (10 * min n c + k) c ≡ min (10 * n + k) c
cut-digit c n k = omega arith

pub capped : (c n : ℕ) (ds : List ℕ) → min (value_from (min n c) ds) c ≡ min (value_from n ds) c
unfolding value_from
capped c n [] = cut-twice c n
capped c n (d ∷ ds) =
    sym (capped c (10 * min n c + (d - 48)) ds) ∙ ap (λ m. min (value_from m ds) c) (cut-digit c n (d - 48)) ∙ capped c (10 * n + (d - 48)) ds

-- One more digit is read.
pub digit-step : (v r c : ℕ) (xs : List ℕ) → 1 ≤ length xs → r ≡ min (10 * v + (get_or xs 0 0 - 48)) c → IsTrue (list_all is_digit xs) →
    (r ≤ c) × IsTrue (list_all is_digit (take (length xs - 1) (drop 1 xs))) × (min (value_from r (take (length xs - 1) (drop 1 xs))) c ≡ min (value_from v xs) c)
unfolding value_from
digit-step v r c [] h e d = absurd (omega (arith, h))
digit-step v r c (x ∷ xs) h e d = rw (rest-is x xs) (omega (arith, e), (and_parts (is_digit x) (list_all is_digit xs) d).1, ap (λ m. min (value_from m xs) c) e ∙ capped c (10 * v + (x - 48)) xs) where
  rest-is : (x : ℕ) (xs : List ℕ) → take (length (x ∷ xs) - 1) xs ≡ xs
  rest-is x xs = grind (arith, common_steps)
