-- The places of variables: the n-th of a kind has n - 1 of its kind before it.
use Rattle.std.proofs.Common.{◌≡◌, ℕ, ◌+◌, ◌-◌, ◌<◌, ◌≤◌, zero, suc, List, [], ◌∷◌, length, get_or, max, true, nat_eq, nat_le, ap, arith}
use Rattle.std.proofs.lemmas.Bool.{eqb-true, and_parts}
use Rattle.poly_model.specs.declared.vars.VarName.{VarName}
use Rattle.poly_model.specs.declared.vars.VarName.TheVariants.{U, X}
use Rattle.poly_model.specs.declared.limits.TheConstants.{MOST_VARIABLES}
use Rattle.poly_model.specs.Names.{number, is_parameter, is_dependent, numbers_of, count_from, are_numbered, are_variables}
use Rattle.poly_text.specs.Reading.{Lacks}

-- a number is at most its place, where those before the first place are at most c
numbered_by : (c u x : ℕ) (names : List VarName) (i : ℕ) (d : VarName) → u ≤ c → x ≤ c → count_from u (numbers_of is_parameter names) ≡ true
    → count_from x (numbers_of is_dependent names) ≡ true → i < length names → number (get_or names i d) ≤ c + i
numbered_by c u x [] i d low high a b lt = absurd (omega (arith, lt))
numbered_by c u x (U m ∷ names) zero d low high a b lt =
    let p = and_parts (nat_eq m u) (count_from (u + 1) (numbers_of is_parameter names)) a in
    omega (arith, eqb-true m u p.0, low)
numbered_by c u x (X m ∷ names) zero d low high a b lt =
    let p = and_parts (nat_eq m x) (count_from (x + 1) (numbers_of is_dependent names)) b in
    omega (arith, eqb-true m x p.0, high)
numbered_by c u x (U m ∷ names) (suc i) d low high a b lt =
    let p = and_parts (nat_eq m u) (count_from (u + 1) (numbers_of is_parameter names)) a in
    let r = numbered_by (c + 1) (u + 1) x names i d (omega (arith, low)) (omega (arith, high)) p.1 b (omega (arith, lt)) in
    omega (arith, r)
numbered_by c u x (X m ∷ names) (suc i) d low high a b lt =
    let p = and_parts (nat_eq m x) (count_from (x + 1) (numbers_of is_dependent names)) b in
    let r = numbered_by (c + 1) u (x + 1) names i d (omega (arith, low)) (omega (arith, high)) a p.1 (omega (arith, lt)) in
    omega (arith, r)

-- a variable doesn't stand before the place of its number
pub not_before : (from start : ℕ) (name : VarName) (names : List VarName) → are_variables names ≡ true → start ≡ max from (number name - 1) → Lacks from start name names
not_before from start name names valid is i above below lt e =
    let p = (and_parts (nat_le (length names) MOST_VARIABLES) (are_numbered names) valid).1 in
    let q = and_parts (count_from 1 (numbers_of is_parameter names)) (count_from 1 (numbers_of is_dependent names)) p in
    let r = numbered_by 1 1 1 names i name (omega arith) (omega arith) q.0 q.1 lt in
    absurd (omega (arith, is, r, ap number e, above, below))
