-- Plain facts of lists.
use Rattle.std.proofs.Common.{◌≡◌, ◌≢◌, List, [], ◌∷◌, length, true, false, ◌==◌, refl, sym, ◌∙◌, ap, arith, Result, Err}
use Rattle.std.proofs.lemmas.Bool.{eqb-true}

pub none_left : {X : Type 0} (xs : List X) → (length xs == 0) ≡ true → xs ≡ []
none_left [] e = refl
none_left (x ∷ xs) e = absurd (let h = eqb-true (length (x ∷ xs)) 0 e in omega (arith, h))

pub some_left : {X : Type 0} (xs : List X) → (length xs == 0) ≡ false → xs ≢ []
some_left xs e h = let g : true ≡ false = sym (ap (λ l. length l == 0) h) ∙ e in cc

pub same_err : {T E : Type 0} (a b : E) → ◌≡◌ {A = Result T E} (Err a) (Err b) → a ≡ b
same_err a b e = cc

pub none_of : {X : Type 0} (xs : List X) → length xs ≡ 0 → xs ≡ []
none_of [] e = refl
none_of (x ∷ xs) e = absurd (omega (arith, e))
