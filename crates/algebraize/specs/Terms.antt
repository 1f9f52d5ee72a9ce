-- Places in lists of terms.
use Rattle.std.specs.Prelude.{◌≡◌, ◌≢◌, ℕ, zero, suc, ℤ, ◌+ℤ◌, List, [], ◌∷◌}
use Rattle.std.specs.declared.cmp.Ordering.TheVariants.{Less, Equal}
use Rattle.poly_model.specs.Polynomial.{Polynomial, monomial_cmp, with_entry}
use Rattle.poly_model.specs.declared.term.Term.{Term}

-- A walk down the terms that are above the monomial stops at this place: at the first that is not, or at the end.
abbrev pub Stops : List ℕ → List Term → ℕ → Type 0
Stops es [] zero = Unit {0}
Stops es [] (suc i) = ⊥
Stops es (t ∷ ts) zero = monomial_cmp es t.exps ≢ Less
Stops es (t ∷ ts) (suc i) = (monomial_cmp es t.exps ≡ Less) × Stops es ts i

-- A term with the monomial stands at this place.
abbrev pub StandsAt : List ℕ → List Term → ℕ → Type 0
StandsAt es [] i = ⊥
StandsAt es (t ∷ ts) zero = monomial_cmp es t.exps ≡ Equal
StandsAt es (t ∷ ts) (suc i) = StandsAt es ts i

-- The number is added to the coefficient at this place. An entry whose coefficient becomes 0 goes.
abbrev pub with_coefficient : Polynomial → ℕ → ℤ → Polynomial
with_coefficient [] i c = []
with_coefficient ((fs, d) ∷ p) zero c = with_entry fs (c +ℤ d) p
with_coefficient ((fs, d) ∷ p) (suc i) c = (fs, d) ∷ with_coefficient p i c
