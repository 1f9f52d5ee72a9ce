-- The coordinates of a layout are zero or one of its variables.
use Rattle.std.proofs.Common.{◌≤◌, ◌==◌, ℕ, List, [], ◌∷◌, ◌++◌, length, arith, true, false, if◌then◌else◌, length-append}
use Rattle.gcl_names.specs.declared.program.Act.{Act}
use Rattle.algebraize.specs.declared.layout.Coordinate.{Coordinate}
use Rattle.algebraize.specs.declared.layout.Coordinate.TheVariants as coordinate
use Rattle.algebraize.specs.declared.points.NewPoints.{NewPoints}
use Rattle.algebraize.specs.declared.points.NewPoints.TheVariants as new
use Rattle.algebraize.specs.Layout.{IsBelow, AreBelow, IsOwn, Layout, layout_of, layout_from, new_points, with_points, free_point, semi_free_point, dependent_point, empty, with_u, with_place, next}

IsBelow-more : (m n : ℕ) (c : Coordinate) → m ≤ n → IsBelow m c → IsBelow n c
IsBelow-more m n coordinate.Zero le b = tt
IsBelow-more m n (coordinate.Variable i) le b = omega arith

pub AreBelow-more : (m n : ℕ) (cs : List (Coordinate × Coordinate)) → m ≤ n → AreBelow m cs → AreBelow n cs
AreBelow-more m n [] le b = tt
AreBelow-more m n (c ∷ cs) le b = (IsBelow-more m n c.0 le b.0, IsBelow-more m n c.1 le b.1, AreBelow-more m n cs le b.2)

AreBelow-append : (n : ℕ) (cs ds : List (Coordinate × Coordinate)) → AreBelow n cs → AreBelow n ds → AreBelow n (cs ++ ds)
AreBelow-append n [] ds a b = b
AreBelow-append n (c ∷ cs) ds a b = (a.0, a.1, AreBelow-append n cs ds a.2 b)

-- one more place, over more variables
more : (m n : ℕ) (cs : List (Coordinate × Coordinate)) (x y : Coordinate) → AreBelow m cs → m ≤ n → IsBelow n x → IsBelow n y → AreBelow n (cs ++ (x, y) ∷ [])
more m n cs x y own le a b = AreBelow-append n cs ((x, y) ∷ []) (AreBelow-more m n cs le own) (a, b, tt)

IsOwn-dependent : (l : Layout) → IsOwn l → IsOwn (dependent_point l)
IsOwn-dependent l own = more (length l.variables) _ l.places _ _ own (simp length-append (omega arith)) (simp length-append (omega arith)) (simp length-append (omega arith))

IsOwn-semi_free : (l : Layout) → IsOwn l → IsOwn (semi_free_point l)
IsOwn-semi_free l own = more (length l.variables) _ l.places _ _ own (simp length-append (omega arith)) (simp length-append (omega arith)) (simp length-append (omega arith))

IsOwn-free : (l : Layout) → IsOwn l → IsOwn (free_point l)
IsOwn-free l own =
    elim (l.frees == 0) as (λ b. IsOwn (if b then with_place coordinate.Zero coordinate.Zero (record l { frees = 1 })
    else (if l.frees == 1 then with_place (next l) coordinate.Zero (record (with_u l) { frees = 2 }) else with_place (next l) (next (with_u l)) (with_u (with_u l))))) [
      | true ↦ more (length l.variables) _ l.places _ _ own (omega arith) tt tt
      | false ↦ elim (l.frees == 1) as (λ b. IsOwn (if b then with_place (next l) coordinate.Zero (record (with_u l) { frees = 2 }) else with_place (next l) (next (with_u l)) (with_u (with_u l)))) [
        | true ↦ more (length l.variables) _ l.places _ _ own (simp length-append (omega arith)) (simp length-append (omega arith)) tt
        | false ↦ more (length l.variables) _ l.places _ _ own (simp length-append (omega arith)) (simp length-append (omega arith)) (simp length-append (omega arith))
      ]
    ]

IsOwn-with : (n : NewPoints) (l : Layout) → IsOwn l → IsOwn (with_points n l)
IsOwn-with new.NoPoint l own = own
IsOwn-with new.Free l own = IsOwn-free l own
IsOwn-with new.SemiFree l own = IsOwn-semi_free l own
IsOwn-with new.Dependent l own = IsOwn-dependent l own
IsOwn-with new.TwoDependent l own = IsOwn-dependent (dependent_point l) (IsOwn-dependent l own)

pub IsOwn-layout : (l : Layout) (acts : List Act) → IsOwn l → IsOwn (layout_from l acts)
unfolding layout_from
IsOwn-layout l [] own = own
IsOwn-layout l (a ∷ acts) own = IsOwn-layout (with_points (new_points a.deed) l) acts (IsOwn-with (new_points a.deed) l own)

-- The coordinates of a program's points are zero or variables of the layout.
pub coordinates_own : (acts : List Act) → IsOwn (layout_of acts)
coordinates_own acts = IsOwn-layout empty acts tt
