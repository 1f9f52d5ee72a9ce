-- A worked try, computed: two midpoints of a triangle.
use Rattle.std.proofs.Common.{◌≡◌, List, [], ◌∷◌, refl}
use Rattle.std.specs.Prelude.{pos, negsuc, Some}
use Rattle.poly_model.specs.Polynomial.{Polynomial}
use Rattle.sample_point.specs.Value.{times_power, times_powers, plus_terms}
use Rattle.sample_point.specs.Sampling.{no_values, with_all}

-- 2*x1 - u2, 2*x2 - u3, 2*x3 - u2 - u1, 2*x4 - u3
abbrev equations : List Polynomial
equations =
    ((0 ∷ 0 ∷ 0 ∷ 1 ∷ [], pos 2) ∷ (0 ∷ 1 ∷ 0 ∷ 0 ∷ [], negsuc 0) ∷ [])
    ∷ ((0 ∷ 0 ∷ 0 ∷ 0 ∷ 1 ∷ [], pos 2) ∷ (0 ∷ 0 ∷ 1 ∷ 0 ∷ 0 ∷ [], negsuc 0) ∷ [])
    ∷ ((0 ∷ 0 ∷ 0 ∷ 0 ∷ 0 ∷ 1 ∷ [], pos 2) ∷ (0 ∷ 1 ∷ 0 ∷ 0 ∷ 0 ∷ 0 ∷ [], negsuc 0) ∷ (1 ∷ 0 ∷ 0 ∷ 0 ∷ 0 ∷ 0 ∷ [], negsuc 0) ∷ [])
    ∷ ((0 ∷ 0 ∷ 0 ∷ 0 ∷ 0 ∷ 0 ∷ 1 ∷ [], pos 2) ∷ (0 ∷ 0 ∷ 1 ∷ 0 ∷ 0 ∷ 0 ∷ 0 ∷ [], negsuc 0) ∷ [])
    ∷ []

values : with_all equations 1 1 7 no_values ≡ Some (record {
  values = pos 10 ∷ pos 22 ∷ pos 38 ∷ pos 11 ∷ pos 19 ∷ pos 16 ∷ pos 19 ∷ [];
  scale = pos 2;
})
unfolding with_all times_power times_powers plus_terms
values = refl
