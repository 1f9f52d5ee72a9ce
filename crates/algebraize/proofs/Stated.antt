-- What a program states: how many terms its expressions have, how many they are, and that each is its own primitive part.
use Rattle.std.proofs.Common.{IsTrue, ◌≡◌, ◌≤◌, ◌+◌, ◌==◌, ℕ, suc, List, [], ◌∷◌, length, map, refl, sym, ◌∙◌, ap, subst, arith, true, false, if◌then◌else◌, length-append}
use Rattle.std.specs.List.{list_all}
use Rattle.std.specs.Prelude.{pos}
use Rattle.std.specs.Cmp.Derive.{both_true}
use Rattle.poly_model.specs.Polynomial.{Polynomial, IsDescending}
use Rattle.poly_model.specs.Content.{primitive_part}
use Rattle.poly_model.specs.Standard.{is_standard}
use Rattle.poly_model.specs.Reduction.{same}
use Rattle.poly_model.specs.Equality.{same-self}
use Rattle.poly_model.specs.declared.limits.TheConstants.{MOST_VARIABLES}
use Rattle.poly_model.proofs.Ordered.{descending-sum, descending-negative, descending-product, descending-constant, descending-variable}
use Rattle.poly_model.proofs.Primitive.{own-primitive_part}
use Rattle.proof_steps.specs.Stated.{is_own_part, is_brief, AreStated, IsStated, IsWithinLimits}
use Rattle.proof_steps.specs.declared.problem.Problem.{Problem}
use Rattle.proof_steps.specs.declared.problem.TheConstants.{MOST_CONCLUSION_TERMS, MOST_STATED_TERMS}
use Rattle.gcl_reader.specs.declared.word.Statement.{Statement}
use Rattle.gcl_names.specs.declared.program.Act.{Act}
use Rattle.gcl_names.specs.declared.program.Deed.{Deed}
use Rattle.gcl_names.specs.declared.program.Deed.TheVariants as deed
use Rattle.algebraize.specs.declared.layout.Coordinate.{Coordinate}
use Rattle.algebraize.specs.declared.layout.Coordinate.TheVariants as coordinate
use Rattle.algebraize.specs.declared.points.NewPoints.{NewPoints}
use Rattle.algebraize.specs.declared.points.NewPoints.TheVariants as new
use Rattle.algebraize.specs.Vectors.{Vector, coordinates, plus, twice}
use Rattle.algebraize.specs.Curves.{Curves, no_curves}
use Rattle.algebraize.specs.Ratio.{numerator, denominator}
use Rattle.algebraize.specs.Rows as row
use Rattle.algebraize.specs.Figure.{Figure, effect, conditions, with_effect, conditions_from, conclusion}
use Rattle.algebraize.specs.Layout.{Layout, layout_of, layout_from, new_points, with_points, empty, with_u, with_place, next}
use Rattle.algebraize.specs.Formed.{equations}
use Rattle.algebraize.specs.Equations.{Equations, equations_of, polynomials, coordinate_polynomial, places_of, general_figure, expressions_of, hypotheses_of, conclusions_of}
use Rattle.algebraize.proofs.Lengths.{Within, within-plus, within-minus, within-twice, within-times, within-rot, dot-terms, cross-terms, sq_difference-terms}
use Rattle.algebraize.proofs.Table.{Each, IsBound, FigureFits, IsConclusion, acts-fine, all-sized, conclusion-fine, no_curves-fit}
use Rattle.algebraize.proofs.Over.{one_member, over_hypotheses, over_conclusions}
use Rattle.algebraize.proofs.Small.{length-primitive_part, le_true}
use Rattle.algebraize.proofs.Related as related
use Rattle.algebraize.proofs.Related.{IsKept}

-- ---- terms

-- A polynomial of few terms.
abbrev IsBrief : Polynomial → Type 0
IsBrief p = length p ≤ MOST_STATED_TERMS

brief-coordinates : (n : ℕ) (v : Vector Polynomial) → n ≤ MOST_STATED_TERMS → Within n v → Each IsBrief (coordinates v)
brief-coordinates n v le h = (omega (arith, h.0), (omega (arith, h.1), tt))

within-centred : (x y c : Vector Polynomial) → Within 1 x → Within 1 y → Within 1 c → Within 3 (row.centred polynomials x y c)
within-centred x y c hx hy hc =
    within-minus 2 1 (plus polynomials x y) (twice polynomials c) (within-plus 1 1 x y hx hy) (within-twice c hc)

-- A coordinate of a place has at most one term, and one of a direction at most two.
brief : IsBound (λ t. Unit {0}) (Within 1) (Within 2) IsBrief
brief = record {
  origin = (omega arith, omega arith);
  still = (omega arith, omega arith);
  one = omega arith;
  between = λ a b ha hb. within-minus 1 1 b a hb ha;
  turned = λ v h. within-rot 2 v h;
  parts = λ v h. brief-coordinates 2 v (omega arith) h;
  across = λ v w hv hw. omega (arith, dot-terms 2 2 v w hv hw);
  along = λ v w hv hw. omega (arith, cross-terms 2 2 v w hv hw);
  longer = λ v w hv hw. sq_difference-terms v w hv hw;
  across_centred = λ v x y c hv hx hy hc. omega (arith, dot-terms 2 3 v _ hv (within-centred x y c hx hy hc));
  along_centred = λ v x y c hv hx hy hc. omega (arith, cross-terms 2 3 v _ hv (within-centred x y c hx hy hc));
  midpoint = λ m a b hm ha hb. brief-coordinates 3 _ (omega arith) (within-minus 2 1 _ b (within-minus 1 1 _ a (within-twice m hm) ha) hb);
  translation = λ x a b c hx ha hb hc.
      brief-coordinates 4 _ (omega arith) (within-plus 3 1 _ a (within-minus 2 1 _ b (within-minus 1 1 x c hx hc) hb) ha);
  division = λ q x a b hs hx ha hb.
      let n = numerator q in
      let d = pos (denominator q) in
      brief-coordinates 4 _ (omega arith)
      (within-minus 2 2 _ _ (within-minus 1 1 _ _ (within-times 1 d x hx) (within-times 1 d a ha)) (within-times 2 n _ (within-minus 1 1 b a hb ha)));
}

single-coordinate : (c : Coordinate) → length (coordinate_polynomial c) ≤ 1
single-coordinate coordinate.Zero = omega arith
single-coordinate (coordinate.Variable i) = omega arith

single-places : (cs : List (Coordinate × Coordinate)) → FigureFits brief (places_of cs)
single-places [] = tt
single-places (c ∷ cs) = ((single-coordinate c.0, single-coordinate c.1), single-places cs)

-- ---- how many

length-conditions : (f : Figure Polynomial) (c : Curves Polynomial) (l : Layout) (d : Deed)
    → l.xs + length (conditions (effect polynomials f c d)) ≡ (with_points (new_points d) l).xs
length-conditions f c l (deed.Point p x y) =
    elim (l.frees == 0) as (λ b. l.xs + 0 ≡ (if b then with_place coordinate.Zero coordinate.Zero (record l { frees = 1 })
    else (if l.frees == 1 then with_place (next l) coordinate.Zero (record (with_u l) { frees = 2 }) else with_place (next l) (next (with_u l)) (with_u (with_u l)))).xs) [
      | true ↦ omega arith
      | false ↦ elim (l.frees == 1) as (λ b. l.xs + 0 ≡ (if b then with_place (next l) coordinate.Zero (record (with_u l) { frees = 2 }) else with_place (next l) (next (with_u l)) (with_u (with_u l))).xs) [
        | true ↦ omega arith
        | false ↦ omega arith
      ]
    ]
length-conditions f c l d = omega arith

length-acts : (f : Figure Polynomial) (c : Curves Polynomial) (l : Layout) (acts : List Act)
    → l.xs + length (conditions_from polynomials f c acts) ≡ (layout_from l acts).xs
unfolding conditions_from layout_from
length-acts f c l [] = omega arith
length-acts f c l (a ∷ acts) =
    let e = effect polynomials f c a.deed in
    let rest = conditions_from polynomials f (with_effect e c) acts in
    omega (arith, length-append (conditions e) rest, length-conditions f c l a.deed, length-acts f (with_effect e c) (with_points (new_points a.deed) l) acts)

-- the variables named x are among the variables
within-points : (n : NewPoints) (l : Layout) → l.xs ≤ length l.variables → (with_points n l).xs ≤ length (with_points n l).variables
within-points new.NoPoint l h = h
within-points new.Free l h =
    elim (l.frees == 0) as (λ b. (if b then with_place coordinate.Zero coordinate.Zero (record l { frees = 1 })
    else (if l.frees == 1 then with_place (next l) coordinate.Zero (record (with_u l) { frees = 2 }) else with_place (next l) (next (with_u l)) (with_u (with_u l)))).xs
    ≤ length (if b then with_place coordinate.Zero coordinate.Zero (record l { frees = 1 })
    else (if l.frees == 1 then with_place (next l) coordinate.Zero (record (with_u l) { frees = 2 }) else with_place (next l) (next (with_u l)) (with_u (with_u l)))).variables) [
      | true ↦ h
      | false ↦ elim (l.frees == 1) as (λ b. (if b then with_place (next l) coordinate.Zero (record (with_u l) { frees = 2 }) else with_place (next l) (next (with_u l)) (with_u (with_u l))).xs
          ≤ length (if b then with_place (next l) coordinate.Zero (record (with_u l) { frees = 2 }) else with_place (next l) (next (with_u l)) (with_u (with_u l))).variables) [
            | true ↦ simp length-append (omega arith)
            | false ↦ simp length-append (omega arith)
          ]
    ]
within-points new.SemiFree l h = simp length-append (omega arith)
within-points new.Dependent l h = simp length-append (omega arith)
within-points new.TwoDependent l h = simp length-append (omega arith)

within-layout : (l : Layout) (acts : List Act) → l.xs ≤ length l.variables → (layout_from l acts).xs ≤ length (layout_from l acts).variables
unfolding layout_from
within-layout l [] h = h
within-layout l (a ∷ acts) h = within-layout (with_points (new_points a.deed) l) acts (within-points (new_points a.deed) l h)

length-parts : (ps : List Polynomial) → length (map primitive_part ps) ≡ length ps
length-parts [] = refl
length-parts (p ∷ ps) = ap suc (length-parts ps)

-- ---- primitive parts

abbrev Descends : Polynomial → Unit {0} → Type 0
Descends p u = IsDescending MOST_VARIABLES p

descends : IsKept polynomials one_member Descends
descends = record {
  zero = tt;
  one = descending-constant MOST_VARIABLES (pos 1);
  add = λ a b c d p q. descending-sum MOST_VARIABLES a b p q;
  mul = λ a b c d p q. descending-product MOST_VARIABLES a b p q;
  neg = λ a c p. descending-negative MOST_VARIABLES a p;
}

descending-coordinate : (c : Coordinate) → IsDescending MOST_VARIABLES (coordinate_polynomial c)
descending-coordinate coordinate.Zero = tt
descending-coordinate (coordinate.Variable i) = descending-variable MOST_VARIABLES i

descending-places : (cs : List (Coordinate × Coordinate)) → related.FigureKept descends (places_of cs) (map (λ c. (tt, tt)) cs)
descending-places [] = tt
descending-places (c ∷ cs) = ((descending-coordinate c.0, descending-coordinate c.1), descending-places cs)

own_part : (p : Polynomial) → IsDescending MOST_VARIABLES p → is_own_part (primitive_part p) ≡ true
own_part p h = ap (same (primitive_part p)) (own-primitive_part MOST_VARIABLES p h) ∙ same-self (primitive_part p)

own_parts : (ps : List Polynomial) (us : List (Unit {0})) → related.AllKept descends ps us → list_all is_own_part (map primitive_part ps) ≡ true
own_parts [] us h = refl
own_parts (p ∷ ps) [] h = absurd h
own_parts (p ∷ ps) (u ∷ us) h = both_true (own_part p h.0) (own_parts ps us h.1)

brief_parts : (ps : List Polynomial) → Each IsBrief ps → list_all (is_brief MOST_STATED_TERMS) (map primitive_part ps) ≡ true
brief_parts [] h = refl
brief_parts (p ∷ ps) h = both_true (le_true _ MOST_STATED_TERMS (omega (arith, length-primitive_part p, h.0))) (brief_parts ps h.1)

-- ---- what is stated

few_hypotheses : (acts : List Act) → length (hypotheses_of acts) ≤ length (layout_of acts).variables
few_hypotheses acts =
    omega (arith, length-parts (expressions_of acts), length-acts (general_figure (layout_of acts)) no_curves empty acts, within-layout empty acts (omega arith))

hypotheses-stated : (acts : List Act) → IsTrue (list_all is_standard (hypotheses_of acts)) → AreStated (length (layout_of acts).variables) MOST_STATED_TERMS (hypotheses_of acts)
hypotheses-stated acts within = record {
  own = over_hypotheses acts;
  standard = within;
  parts = own_parts (expressions_of acts) _
      (related.kept-acts descends _ _ no_curves no_curves acts (descending-places (layout_of acts).places) (related.none-kept descends));
  brief = brief_parts (expressions_of acts)
      (acts-fine brief (general_figure (layout_of acts)) no_curves acts (all-sized _ (λ t. tt) acts) (single-places (layout_of acts).places) (no_curves-fit brief));
}

is_conclusion : (acts : List Act) (s : Statement) (points : List ℕ) → IsConclusion brief (conclusion polynomials (general_figure (layout_of acts)) s points)
is_conclusion acts s points = conclusion-fine brief (general_figure (layout_of acts)) s points (single-places (layout_of acts).places)

conclusions-stated : (acts : List Act) (s : Statement) (points : List ℕ) → IsTrue (list_all is_standard (conclusions_of acts s points))
    → AreStated (length (layout_of acts).variables) MOST_CONCLUSION_TERMS (conclusions_of acts s points)
conclusions-stated acts s points within = record {
  own = over_conclusions acts s points;
  standard = within;
  parts = own_parts (conclusion polynomials (general_figure (layout_of acts)) s points) _
      (related.kept-conclusion descends _ _ s points (descending-places (layout_of acts).places));
  brief = brief_parts (conclusion polynomials (general_figure (layout_of acts)) s points) (is_conclusion acts s points).0;
}

-- What a problem with these equations states.
pub stated_problem : (acts : List Act) (s : Statement) (points : List ℕ) (p : Problem) → equations p ≡ equations_of acts s points
    → length (layout_of acts).variables ≤ MOST_VARIABLES → IsWithinLimits p → IsStated p
stated_problem acts s points p is few within =
    let hyps = ap (λ (e : Equations). e.hypotheses) is in
    let cons = ap (λ (e : Equations). e.conclusions) is in
    let shown = is_conclusion acts s points in
    let count = ap length cons ∙ length-parts (conclusion polynomials (general_figure (layout_of acts)) s points) in
    record {
      hyps = subst (λ (e : Equations). AreStated (length e.variables) MOST_STATED_TERMS e.hypotheses) (sym is) (hypotheses-stated acts (subst (λ ps. IsTrue (list_all is_standard ps)) hyps within.hyps));
      cons = subst (λ (e : Equations). AreStated (length e.variables) MOST_CONCLUSION_TERMS e.conclusions) (sym is) (conclusions-stated acts s points (subst (λ ps. IsTrue (list_all is_standard ps)) cons within.cons));
      few_hyps = omega (arith, ap length hyps, few_hypotheses acts, few);
      some_con = omega (arith, count, shown.1);
      few_cons = omega (arith, count, shown.2);
    }
