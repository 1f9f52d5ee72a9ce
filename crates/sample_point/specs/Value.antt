-- The value of a polynomial at whole numbers, in bounds.
use Rattle.std.specs.Prelude.{ℕ, zero, suc, ℤ, pos, ◌+ℤ◌, ◌*ℤ◌, List, [], ◌∷◌, Option, Some, None, true, false}
use Rattle.poly_model.specs.Polynomial.{Polynomial}
use Rattle.poly_model.specs.Standard.{is_bounded}

-- A number within the greatest size.
abbrev pub in_bounds : ℤ → Option ℤ
in_bounds z = elim (is_bounded z) [ true ↦ Some z | false ↦ None ]

-- A step that goes on with what the one before gives.
abbrev pub and_then : {A B : Type 0} → Option A → (A → Option B) → Option B
and_then None next = None
and_then (Some a) next = next a

-- A number times the e-th power of another, one factor at a time.
unfoldable pub times_power : ℕ → ℤ → ℤ → Option ℤ
times_power zero x z = Some z
times_power (suc e) x z = and_then (in_bounds (z *ℤ x)) (λ y. times_power e x y)

-- A number times the powers of a point's coordinates, the least variable first. A coordinate that is missing counts as one.
unfoldable pub times_powers : List ℕ → List ℤ → ℤ → Option ℤ
times_powers [] point z = Some z
times_powers (e ∷ es) [] z = Some z
times_powers (e ∷ es) (x ∷ xs) z = and_then (times_power e x z) (λ y. times_powers es xs y)

-- A number and the terms of a polynomial at a point, one term at a time.
unfoldable pub plus_terms : Polynomial → List ℤ → ℤ → Option ℤ
plus_terms [] point z = Some z
plus_terms (t ∷ p) point z = and_then (times_powers t.0 point t.1) (λ y. and_then (in_bounds (z +ℤ y)) (λ s. plus_terms p point s))

-- The value of a polynomial at a point; none where a product or a sum is out of bounds.
abbrev pub value_in : Polynomial → List ℤ → Option ℤ
value_in p point = plus_terms p point (pos 0)
