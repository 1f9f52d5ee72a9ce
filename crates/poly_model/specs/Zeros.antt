-- Zero sets with side conditions.
use Rattle.std.specs.Prelude.{◌≡◌, ◌≢◌, List, [], ◌∷◌}
use Rattle.poly_model.specs.Domain.{Operations}
use Rattle.poly_model.specs.Polynomial.{Polynomial, value_at}

-- Each polynomial is zero at the point.
abbrev pub AllZero : {M : Type 0} → Operations M → List Polynomial → List M → Type 0
AllZero o [] point = Unit {0}
AllZero o (p ∷ ps) point = (value_at o p point ≡ o.zero) × AllZero o ps point

-- No polynomial is zero at the point.
abbrev pub NoneZero : {M : Type 0} → Operations M → List Polynomial → List M → Type 0
NoneZero o [] point = Unit {0}
NoneZero o (p ∷ ps) point = (value_at o p point ≢ o.zero) × NoneZero o ps point

-- The point satisfies the equations under the conditions: each equation is zero there, and no condition is.
abbrev pub IsZero : {M : Type 0} → Operations M → List Polynomial → List Polynomial → List M → Type 0
IsZero o equations conditions point = AllZero o equations point × NoneZero o conditions point
