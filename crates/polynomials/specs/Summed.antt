-- The sum of two terms with one monomial.
use Rattle.std.specs.Prelude.{ℕ, ℤ, pos, negsuc, zero, suc, ◌+ℤ◌, List, [], ◌∷◌}
use Rattle.poly_model.specs.declared.term.Term.{Term}

-- A term, or none where the coefficient is 0.
abbrev pub term_or_none : List ℕ → ℤ → List Term
term_or_none es (pos zero) = []
term_or_none es (pos (suc n)) = record { coef = pos (suc n); exps = es } ∷ []
term_or_none es (negsuc n) = record { coef = negsuc n; exps = es } ∷ []

abbrev pub summed : Term → Term → List Term
summed x y = term_or_none y.exps (x.coef +ℤ y.coef)
