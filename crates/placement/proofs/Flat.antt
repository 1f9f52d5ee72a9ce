-- Of whole numbers exactly the flat figures cannot be placed.
use Rattle.std.proofs.Common.{◌≡◌, ℕ, List, [], ◌∷◌, refl, ◌∙◌, ap, arith, true, false, inl, inr}
use Rattle.std.specs.Prelude.{ℤ, pos, neg_ℤ, ◌↔◌}
use Rattle.std.specs.Ordering.{int_eq}
use Rattle.std.proofs.lemmas.Bool.{and_parts, and_from, both_ways}
use Rattle.std.proofs.lemmas.Bool.Decides.{Decides-int_eq}
use Rattle.std.proofs.lemmas.Int.{ints}
use Rattle.poly_model.specs.Domain.{integers, gaussian}
use Rattle.poly_model.specs.Gaussian.{gaussian_domain}
use Rattle.poly_model.specs.Integers.{integers_ring}
use Rattle.poly_model.specs.Solve.{Var, Add, Mul, Neg, solve}
use Rattle.poly_model.specs.Solve as expression
use Rattle.algebraize.specs.Vectors.{Vector, minus, sq}
use Rattle.algebraize.specs.Figure.{Figure, place_of}
use Rattle.placement.specs.Placing.{free_points}
use Rattle.placement.specs.Images.{are_same, is_flat}
use Rattle.placement.specs.Laws.{AreApart, FlatCannotBePlaced}

-- a square is zero only of nothing: it is the vector times its mirror image, as Gaussian integers
square-zero : (v : Vector ℤ) → sq integers v ≡ pos 0 → (v.0 ≡ pos 0) × (v.1 ≡ pos 0)
square-zero v e =
    let mirror : ℤ × ℤ = (v.0, neg_ℤ v.1) in
    let first : (gaussian.mul v mirror).0 ≡ pos 0 =
    solve integers_ring (v.0 ∷ v.1 ∷ []) (Add (Mul (Var 0) (Var 0)) (Neg (Mul (Var 1) (Neg (Var 1))))) (Add (Mul (Var 0) (Var 0)) (Mul (Var 1) (Var 1))) refl ∙ e in
    let second : (gaussian.mul v mirror).1 ≡ pos 0 =
    solve integers_ring (v.0 ∷ v.1 ∷ []) (Add (Mul (Var 0) (Neg (Var 1))) (Mul (Var 1) (Var 0))) expression.Zero refl in
    elim (gaussian_domain.no_zero_divisors v mirror (λ i. (first i, second i))) [
      | inl z ↦ (ap (λ (p : ℤ × ℤ). p.0) z, ap (λ (p : ℤ × ℤ). p.1) z)
      | inr z ↦ (ap (λ (p : ℤ × ℤ). p.0) z, (let h : neg_ℤ v.1 ≡ pos 0 = ap (λ (p : ℤ × ℤ). p.1) z in omega (arith, ints, h)))
    ]

same-is : (p q : Vector ℤ) → are_same p q ≡ true → (p.0 ≡ q.0) × (p.1 ≡ q.1)
same-is p q h =
    let a = and_parts (int_eq p.0 q.0) (int_eq p.1 q.1) h in
    ((Decides-int_eq p.0 q.0).0 a.0, (Decides-int_eq p.1 q.1).0 a.1)

-- two places are one exactly where the vector between them has the square 0
same-square : (p q : Vector ℤ) → are_same p q ≡ true → sq integers (minus integers q p) ≡ pos 0
same-square p q h =
    let e = same-is p q h in
    let x : (minus integers q p).0 ≡ pos 0 = let a = e.0 in omega (arith, ints, a) in
    let y : (minus integers q p).1 ≡ pos 0 = let a = e.1 in omega (arith, ints, a) in
    λ i. integers.add (integers.mul (x i) (x i)) (integers.mul (y i) (y i))

square-same : (p q : Vector ℤ) → sq integers (minus integers q p) ≡ pos 0 → are_same p q ≡ true
square-same p q h =
    let z = square-zero (minus integers q p) h in
    let x : p.0 ≡ q.0 = let a = z.0 in omega (arith, ints, a) in
    let y : p.1 ≡ q.1 = let a = z.1 in omega (arith, ints, a) in
    and_from (int_eq p.0 q.0) (int_eq p.1 q.1) ((Decides-int_eq p.0 q.0).1 x) ((Decides-int_eq p.1 q.1).1 y)

flat : (f : Figure ℤ) (frees : List ℕ) → (is_flat f frees ≡ false) ↔ AreApart integers f frees
flat f [] = ((λ h. tt), (λ h. refl))
flat f (a ∷ []) = ((λ h. tt), (λ h. refl))
flat f (a ∷ b ∷ others) =
    let p = place_of integers f a in
    let q = place_of integers f b in (
      (λ h e. both_ways (are_same p q) h (square-same p q e)),
      (λ far. elim (are_same p q) as (λ t. are_same p q ≡ t → t ≡ false) [
        | true ↦ λ e. absurd (far (same-square p q e))
        | false ↦ λ e. refl
      ] refl),
    )

pub flat_cannot_be_placed : FlatCannotBePlaced
flat_cannot_be_placed acts f = flat f (free_points acts)
