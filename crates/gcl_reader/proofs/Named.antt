-- A search for what is written as a text.
use Rattle.std.proofs.Common.{◌≡◌, ℕ, ◌-◌, ◌<◌, ◌≤◌, List, [], ◌∷◌, length, get_or, take, drop, refl, arith, true, false, Some, None}
use Rattle.std.proofs.lemmas.Grind.{common_steps}
use Rattle.std.specs.Str.{bytes_eq}
use Rattle.gcl_reader.specs.Table.{named}

-- all but the first
pub rest-is : {X : Type 0} (x : X) (xs : List X) → take (length (x ∷ xs) - 1) xs ≡ xs
rest-is x xs = grind (arith, common_steps)

module _ {X : Type 0} (written : X → List ℕ) (text : List ℕ) where
  pub named-found : (x : X) (xs : List X) → 1 ≤ length xs → x ≡ get_or xs 0 x → bytes_eq text (written x) ≡ true → Some x ≡ named written xs text
  unfolding named
  named-found x [] h e t = absurd (omega (arith, h))
  named-found x (y ∷ ys) h e t = rw (← e, t) refl

  pub named-missed : (x : X) (xs : List X) → 1 ≤ length xs → x ≡ get_or xs 0 x → bytes_eq text (written x) ≡ false →
      named written (take (length xs - 1) (drop 1 xs)) text ≡ named written xs text
  unfolding named
  named-missed x [] h e t = absurd (omega (arith, h))
  named-missed x (y ∷ ys) h e t = rw (rest-is y ys, ← e, t) refl

  pub named-none : (xs : List X) → length xs < 1 → None ≡ named written xs text
  unfolding named
  named-none [] h = refl
  named-none (y ∷ ys) h = absurd (omega (arith, h))
