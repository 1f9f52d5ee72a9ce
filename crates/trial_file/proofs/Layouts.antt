-- A program of few points has few variables, so its proves have their equations.
use Rattle.std.proofs.Common.{◌≡◌, ℕ, zero, suc, ◌+◌, ◌*◌, ◌≤◌, List, [], ◌∷◌, length, take, drop, true, Ok, refl, arith, length-append, nat_le}
use Rattle.std.proofs.lemmas.Bool.Decides.{nat_tests}
use Rattle.poly_model.specs.declared.limits.TheConstants.{MOST_VARIABLES}
use Rattle.gcl_names.specs.declared.program.Act.{Act}
use Rattle.gcl_names.specs.declared.program.Deed.{Deed}
use Rattle.gcl_names.specs.declared.program.Deed.TheVariants as deed
use Rattle.algebraize.specs.declared.points.NewPoints.{NewPoints}
use Rattle.algebraize.specs.declared.points.NewPoints.TheVariants as new
use Rattle.algebraize.specs.Layout.{Layout, new_points, with_points, layout_from, layout_of, empty}
use Rattle.algebraize.specs.Equations.{Equations, equations_of}
use Rattle.algebraize.specs.Problem.{problem_at, problem_of, problem_of_deed, problem_between, problems_from, acts_before, nothing_asked}

-- How many points a deed makes.
abbrev pub weight : NewPoints → ℕ
weight new.NoPoint = 0
weight new.Free = 1
weight new.SemiFree = 1
weight new.Dependent = 1
weight new.TwoDependent = 2

abbrev pub weight_of : Deed → ℕ
weight_of d = weight (new_points d)

abbrev pub weight_in : List Act → ℕ
weight_in [] = 0
weight_in (a ∷ acts) = weight_of a.deed + weight_in acts

-- Each has at most two variables.
abbrev variables : Layout → ℕ
variables l = length l.variables

points-few : (p : NewPoints) (l : Layout) → variables (with_points p l) ≤ variables l + 2 * weight p
points-few new.NoPoint l = omega arith
points-few new.Free l = grind (arith, length-append)
points-few new.SemiFree l = grind (arith, length-append)
points-few new.Dependent l = grind (arith, length-append)
points-few new.TwoDependent l = grind (arith, length-append)

-- So a front of a program has at most twice as many variables as the program has points.
front-few : (j : ℕ) (acts : List Act) (l : Layout) → variables (layout_from l (take j acts)) ≤ variables l + 2 * weight_in acts
unfolding layout_from
front-few zero acts l = omega arith
front-few (suc j) [] l = omega arith
front-few (suc j) (a ∷ acts) l =
    let here = points-few (new_points a.deed) l in
    let more = front-few j acts (with_points (new_points a.deed) l) in
    omega (arith, here, more)

-- ---- the problems
abbrev IsPosed : List Act → ℕ → Type 0
IsPosed acts k = (e : Equations) × (problem_of acts k ≡ Ok e)

deed-posed : (before : List Act) (a : Act) (d : Deed) → variables (layout_of before) ≤ MOST_VARIABLES → (e : Equations) × (problem_of_deed before a d ≡ Ok e)
unfolding problem_at
deed-posed before a (deed.Prove s points) few =
    let room : nat_le (variables (layout_of before)) MOST_VARIABLES ≡ true = grind (arith, nat_tests, few) in
    (equations_of before s points, rw room refl)
deed-posed before a d few = (nothing_asked, refl)

between-posed : (before acts : List Act) → variables (layout_of before) ≤ MOST_VARIABLES → (e : Equations) × (problem_between before acts ≡ Ok e)
between-posed before [] few = (nothing_asked, refl)
between-posed before (a ∷ acts) few = deed-posed before a a.deed few

posed : (acts : List Act) (k : ℕ) → 2 * weight_in acts ≤ MOST_VARIABLES → IsPosed acts k
posed acts k few =
    let front = front-few (acts_before k acts) acts empty in
    between-posed (take (acts_before k acts) acts) (drop (acts_before k acts) acts) (omega (arith, few, front))

pub all-posed : (acts : List Act) (k n : ℕ) → 2 * weight_in acts ≤ MOST_VARIABLES → (es : List Equations) × (problems_from acts k n ≡ Ok es)
unfolding problems_from
all-posed acts k zero few = ([], refl)
all-posed acts k (suc n) few =
    let first = posed acts k few in
    let others = all-posed acts (k + 1) n few in
    (first.0 ∷ others.0, rw (first.1, others.1) refl)
