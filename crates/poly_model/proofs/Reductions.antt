-- Elementary reductions are in order, keep zeros, and are what bounded reductions give.
use Rattle.std.proofs.Common.{◌≡◌, ◌≢◌, ℕ, ◌-◌, List, [], refl, sym, ◌∙◌, ap, true, false, ◌&&◌, ◌↔◌}
use Rattle.std.specs.Prelude.{ℤ, Result, Ok, Err}
use Rattle.poly_model.specs.Domain.{Operations, IsDomain}
use Rattle.poly_model.specs.Ring as ring
use Rattle.poly_model.specs.Values as values
use Rattle.poly_model.specs.Polynomial.{Polynomial, IsDescending, value_at, poly_product, poly_difference}
use Rattle.poly_model.specs.Reduction.{main_place, main_degree, degree_at, coefficient_at, initial_of, tail_of, factor_of, cross_difference, parts_of, reduction_of}
use Rattle.poly_model.specs.Bounded.{degrees_fit, bounded_rows, bounded_difference, and_then, bounded_cross, bounded_reduction}
use Rattle.poly_model.specs.declared.limits.Limit.{Limit}
use Rattle.poly_model.specs.declared.limits.Limit.TheVariants.{Degree}
use Rattle.poly_model.proofs.Ordered.{descending-product, descending-difference}
use Rattle.poly_model.proofs.Contents as contents
use Rattle.poly_model.proofs.Rows.{bounded_rows-are, rows-are, within-is}
use Rattle.poly_model.proofs.Parts.{descending-part, descending-without, descending-shifted}

pub descending-initial : (n : ℕ) (f : Polynomial) → IsDescending n f → IsDescending n (initial_of f)
descending-initial n f h = descending-part n (main_place f) (main_degree f) f h

pub descending-tail : (n : ℕ) (f : Polynomial) → IsDescending n f → IsDescending n (tail_of f)
descending-tail n f h = descending-without n (main_place f) (main_degree f) f h

pub descending-factor : (n : ℕ) (g f : Polynomial) → IsDescending n g → IsDescending n (factor_of g f)
descending-factor n g f h =
    let i = main_place f in
    let e = degree_at i g in
    descending-shifted n i (e - main_degree f) (coefficient_at i e g) (descending-part n i e g h)

pub descending-cross : (n : ℕ) (g f : Polynomial) → IsDescending n g → IsDescending n f → IsDescending n (cross_difference g f)
descending-cross n g f hg hf =
    descending-difference n _ _ (descending-product n _ _ (descending-initial n f hf) hg) (descending-product n _ _ (descending-factor n g f hg) hf)

-- what follows an outcome that is there
pub then-is : {A B : Type 0} (a : Result A Limit) (next : A → Result B Limit) (b : B) → and_then a next ≡ Ok b → (x : A) × (a ≡ Ok x) × (next x ≡ Ok b)
then-is (Ok x) next b e = (x, refl, e)
then-is (Err limit) next b e = absurd (cc)

pub bounded_cross-is : (n : ℕ) (a p b q t : Polynomial) → IsDescending n a → IsDescending n p → IsDescending n b → IsDescending n q → bounded_cross a p b q ≡ Ok t
    → t ≡ poly_difference (poly_product a p) (poly_product b q)
bounded_cross-is n a p b q t ha hp hb hq is =
    elim (degrees_fit a p && degrees_fit b q) as (λ w. elim w as (λ _. Result Polynomial Limit) [
      | false ↦ Err Degree
      | true ↦ and_then (bounded_rows a p []) (λ first. and_then (bounded_rows b q []) (λ second. bounded_difference first second))
    ] ≡ Ok t → t ≡ poly_difference (poly_product a p) (poly_product b q)) [
      | false ↦ λ e. absurd (cc)
      | true ↦ λ e.
          let one = then-is _ _ t e in
          let two = then-is _ _ t one.2 in
          let first : one.0 ≡ poly_product a p = bounded_rows-are a p [] one.0 one.1 ∙ rows-are n a p ha hp in
          let second : two.0 ≡ poly_product b q = bounded_rows-are b q [] two.0 two.1 ∙ rows-are n b q hb hq in
          within-is (poly_difference one.0 two.0) t two.2 ∙ (λ j. poly_difference (first j) (second j))
    ] is

-- the result of a step that has one
pub ok-is : {A : Type 0} (a b : A) → ◌≡◌ {A = Result A Limit} (Ok a) (Ok b) → a ≡ b
ok-is a b e = cc

pub bounded_reduction-is : (n : ℕ) (g f : Polynomial) (r : ℤ × Polynomial) → IsDescending n g → IsDescending n f → bounded_reduction g f ≡ Ok r → r ≡ reduction_of g f
bounded_reduction-is n g f r hg hf is =
    let cross = then-is _ _ r is in
    sym (ok-is (parts_of cross.0) r cross.2)
    ∙ ap parts_of (bounded_cross-is n (initial_of f) g (factor_of g f) f cross.0 (descending-initial n f hf) hg (descending-factor n g f hg) hf cross.1)

module _ {M : Type 0} {o : Operations M} (L : IsDomain o) where
  abbrev v : Polynomial → List M → M
  v p point = value_at o p point

  -- where f is zero, the difference is the initial times g
  at_zero : (g f : Polynomial) (point : List M) → v f point ≡ o.zero → v (cross_difference g f) point ≡ o.mul (v (initial_of f) point) (v g point)
  at_zero g f point h =
      let I = initial_of f in
      let c = factor_of g f in
      values.value_at-difference L.ring (poly_product I g) (poly_product c f) point
      ∙ (λ i. o.add (values.value_at-product L.ring I g point i) (o.neg (values.value_at-product L.ring c f point i)))
      ∙ ap (λ y. o.add (o.mul (v I point) (v g point)) (o.neg (o.mul (v c point) y))) h
      ∙ ap (λ y. o.add (o.mul (v I point) (v g point)) (o.neg y)) (ring.mul_zero L.ring (v c point))
      ∙ ap (o.add (o.mul (v I point) (v g point))) (sym (ring.zero_add L.ring (o.neg o.zero)) ∙ L.ring.add_neg o.zero)
      ∙ L.ring.add_zero _

  -- where f is zero and its initial is not, g is zero exactly if its reduction is
  pub reduction-zeros : (g f : Polynomial) (point : List M) → v f point ≡ o.zero → v (initial_of f) point ≢ o.zero
      → v g point ≡ o.zero ↔ v (reduction_of g f).1 point ≡ o.zero
  reduction-zeros g f point h i =
      let primitive = contents.primitive_part-zero L (cross_difference g f) point in (
        (λ z. primitive.0 (at_zero g f point h ∙ ap (o.mul (v (initial_of f) point)) z ∙ ring.mul_zero L.ring _)),
        (λ z. contents.other_factor L (v (initial_of f) point) (v g point) (sym (at_zero g f point h) ∙ primitive.1 z) i),
      )
