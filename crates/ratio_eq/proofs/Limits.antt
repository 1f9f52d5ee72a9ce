-- Where no limit is met, the conclusion is the one without limits.
use Rattle.std.proofs.Common.{◌≡◌, ℕ, ◌≤◌, List, [], ◌∷◌, ◌++◌, map, refl, sym, ap, subst, arith, true, false, cond}
use Rattle.std.specs.Prelude.{Result, Ok, Err, IsTrue}
use Rattle.poly_model.specs.Domain.{natural_in}
use Rattle.poly_model.specs.Polynomial.{Polynomial, poly_sum, poly_difference, poly_product}
use Rattle.poly_model.specs.Content.{primitive_part}
use Rattle.poly_model.specs.Reduction.{has_polynomial}
use Rattle.poly_model.specs.Standard.{is_standard}
use Rattle.poly_model.specs.Bounded.{bounded_sum, bounded_difference, bounded_product, and_then}
use Rattle.poly_model.specs.declared.limits.TheConstants.{MOST_VARIABLES, MOST_SIZE}
use Rattle.poly_model.specs.declared.limits.Limit.{Limit}
use Rattle.poly_model.proofs.Standing.{standard-descending}
use Rattle.poly_model.proofs.Rows.{within-is, bounded_product-is}
use Rattle.poly_model.proofs.Within.{within-of, standard-of, bounded_sum-standard, bounded_product-standard}
use Rattle.poly_model.proofs.Standards.{bounded_difference-standard, primitive-within}
use Rattle.ratio_terms.specs.Terms.{Term, Whole, Area, Pythagoras, Ratio, Sum, Product}
use Rattle.ratio_eq.proofs.Numbers.{natural-standard}
use Rattle.ratio_eq.specs.Vectors.{Vector, minus, dot, cross, sq}
use Rattle.ratio_eq.specs.Fractions.{polynomials, Fraction, fraction_of, squares_of, cross_of, with_new, once_behind, parts_once, product_onto, conclusion_of}
use Rattle.ratio_eq.specs.Bounded.{bounded_minus, bounded_dot, bounded_crossing, bounded_square, Formed, bounded_fraction, bounded_cross_of, bounded_onto, bounded_conclusion}
use Rattle.ratio_eq.specs.Laws.{IsStandardPlace, IsStandardTerm, BoundedIsUsual}

-- within the limits
record Standard (p : Polynomial) : Type 0 where
  is : IsTrue (is_standard p)

number : (k : ℕ) → k ≤ MOST_SIZE → Standard (natural_in polynomials k)
number k le = record { is = natural-standard k le }

one : Standard polynomials.one
one = record { is = refl }

-- ---- steps
-- What a step gives, if anything, is the usual thing, and within the limits.
record Right {A : Type 0} (In : A → Type 0) (plain : A) (r : Result A Limit) : Type 0 where
  right : (a : A) → r ≡ Ok a → (a ≡ plain) × In a

same_Ok : {A : Type 0} (a b : A) → ◌≡◌ {A = Result A Limit} (Ok a) (Ok b) → a ≡ b
same_Ok {A} a b e = ap (λ (r : Result A Limit). elim r as (λ _. A) [ Ok x ↦ x | Err l ↦ a ]) e

done : {A : Type 0} (In : A → Type 0) (a : A) → In a → Right In a (Ok a)
done In a h = record { right = λ b e. let s = same_Ok a b e in (sym s, subst In s h) }

-- a step, and what follows it
step : {A B : Type 0} (In : A → Type 0) (Out : B → Type 0) (plain : A) (r : Result A Limit) (next : A → Result B Limit) (after : B)
    → Right In plain r → (In plain → Right Out after (next plain)) → Right Out after (and_then r next)
step In Out plain (Err l) next after h k = record { right = λ b e. absurd (cc) }
step In Out plain (Ok a) next after h k =
    let w = h.right a refl in
    subst (λ x. Right Out after (next x)) (sym w.0) (k (subst In w.0 w.1))

sum : (p q : Polynomial) → Standard p → Standard q → Right Standard (poly_sum p q) (bounded_sum p q)
sum p q h k = record { right = λ r e. (within-is (poly_sum p q) r e, record { is = bounded_sum-standard p q r h.is k.is e }) }

difference : (p q : Polynomial) → Standard p → Standard q → Right Standard (poly_difference p q) (bounded_difference p q)
difference p q h k = record { right = λ r e. (within-is (poly_difference p q) r e, record { is = bounded_difference-standard p q r h.is k.is e }) }

product : (p q : Polynomial) → Standard p → Standard q → Right Standard (poly_product p q) (bounded_product p q)
product p q h k = record { right = λ r e. (bounded_product-is MOST_VARIABLES p q r (standard-descending p h.is) (standard-descending q k.is) e, record { is = bounded_product-standard p q r h.is k.is e }) }

record Place (p : Vector Polynomial) : Type 0 where
  first : Standard p.0
  second : Standard p.1

place : (p : Vector Polynomial) → IsStandardPlace p → Place p
place p h = record { first = record { is = h.0 }; second = record { is = h.1 } }

-- ---- vectors
vector : (p q : Vector Polynomial) → Place p → Place q → Right Place (minus polynomials p q) (bounded_minus p q)
vector p q h k =
    step Standard Place _ _ _ _ (difference p.0 q.0 h.first k.first) (λ x.
    step Standard Place _ _ _ _ (difference p.1 q.1 h.second k.second) (λ y. done Place (minus polynomials p q) (record { first = x; second = y })))

along : (p q : Vector Polynomial) → Place p → Place q → Right Standard (dot polynomials p q) (bounded_dot p q)
along p q h k =
    step Standard Standard _ _ _ _ (product p.0 q.0 h.first k.first) (λ x.
    step Standard Standard _ _ _ _ (product p.1 q.1 h.second k.second) (λ y. sum _ _ x y))

across : (p q : Vector Polynomial) → Place p → Place q → Right Standard (cross polynomials p q) (bounded_crossing p q)
across p q h k =
    step Standard Standard _ _ _ _ (product p.0 q.1 h.first k.second) (λ x.
    step Standard Standard _ _ _ _ (product p.1 q.0 h.second k.first) (λ y. difference _ _ x y))

square : (p q : Vector Polynomial) → Place p → Place q → Right Standard (sq polynomials (minus polynomials p q)) (bounded_square p q)
square p q h k = step Place Standard _ _ _ _ (vector p q h k) (λ u. along _ _ u u)

-- ---- fractions
abbrev Squares : List Polynomial → Type 0
Squares [] = Unit {0}
Squares (p ∷ ps) = Standard p × Squares ps

squares-append : (ps qs : List Polynomial) → Squares ps → Squares qs → Squares (ps ++ qs)
squares-append [] qs a b = b
squares-append (p ∷ ps) qs a b = (a.0, squares-append ps qs a.1 b)

record IsWhole (f : Formed) : Type 0 where
  over : Standard f.over
  under : Standard f.under
  squares : Squares f.squares

-- a fraction with the squares of its term
abbrev formed : Term (Vector Polynomial) → Formed
formed s =
    let f = fraction_of polynomials s in
    record { over = f.over; under = f.under; squares = squares_of polynomials s }

all : (f : Formed) → Standard f.over → Standard f.under → Squares f.squares → IsWhole f
all f h k l = record { over = h; under = k; squares = l }

fraction : (s : Term (Vector Polynomial)) → IsStandardTerm s → Right IsWhole (formed s) (bounded_fraction s)
fraction (Whole k) h = done IsWhole (formed (Whole k)) (all (formed (Whole k)) (number k h) one tt)
fraction (Area a b c) h =
    step Place IsWhole _ _ _ _ (vector b a (place b h.1) (place a h.0)) (λ u.
    step Place IsWhole _ _ _ _ (vector c a (place c h.2) (place a h.0)) (λ v.
    step Standard IsWhole _ _ _ _ (across _ _ u v) (λ n. done IsWhole (formed (Area a b c)) (all (formed (Area a b c)) n (number 2 (omega arith)) tt))))
fraction (Pythagoras a b c) h =
    step Standard IsWhole _ _ _ _ (square a b (place a h.0) (place b h.1)) (λ x.
    step Standard IsWhole _ _ _ _ (square c b (place c h.2) (place b h.1)) (λ y.
    step Standard IsWhole _ _ _ _ (sum _ _ x y) (λ s.
    step Standard IsWhole _ _ _ _ (square c a (place c h.2) (place a h.0)) (λ z.
    step Standard IsWhole _ _ _ _ (difference _ _ s z) (λ n. done IsWhole (formed (Pythagoras a b c)) (all (formed (Pythagoras a b c)) n one tt))))))
fraction (Ratio a b c d) h =
    step Place IsWhole _ _ _ _ (vector b a (place b h.1) (place a h.0)) (λ u.
    step Place IsWhole _ _ _ _ (vector d c (place d h.3) (place c h.2)) (λ v.
    step Standard IsWhole _ _ _ _ (along _ _ u v) (λ n.
    step Standard IsWhole _ _ _ _ (along _ _ v v) (λ m. done IsWhole (formed (Ratio a b c d)) (all (formed (Ratio a b c d)) n m (m, tt))))))
fraction (Sum s t) h =
    step IsWhole IsWhole _ _ _ _ (fraction s h.0) (λ x.
    step IsWhole IsWhole _ _ _ _ (fraction t h.1) (λ y.
    step Standard IsWhole _ _ _ _ (product _ _ x.over y.under) (λ a.
    step Standard IsWhole _ _ _ _ (product _ _ y.over x.under) (λ b.
    step Standard IsWhole _ _ _ _ (sum _ _ a b) (λ n.
    step Standard IsWhole _ _ _ _ (product _ _ x.under y.under) (λ m.
    done IsWhole (formed (Sum s t)) (all (formed (Sum s t)) n m (squares-append _ _ x.squares y.squares))))))))
fraction (Product s t) h =
    step IsWhole IsWhole _ _ _ _ (fraction s h.0) (λ x.
    step IsWhole IsWhole _ _ _ _ (fraction t h.1) (λ y.
    step Standard IsWhole _ _ _ _ (product _ _ x.over y.over) (λ n.
    step Standard IsWhole _ _ _ _ (product _ _ x.under y.under) (λ m.
    done IsWhole (formed (Product s t)) (all (formed (Product s t)) n m (squares-append _ _ x.squares y.squares))))))

-- ---- the conclusion
primitive : (p : Polynomial) → Standard p → Standard (primitive_part p)
primitive p h = record { is = standard-of (primitive_part p) (primitive-within p (within-of p h.is)) }

primitives : (ps : List Polynomial) → Squares ps → Squares (map primitive_part ps)
primitives [] h = tt
primitives (p ∷ ps) h = (primitive p h.0, primitives ps h.1)

with-new : (ps : List Polynomial) (p : Polynomial) → Squares ps → Standard p → Squares (with_new ps p)
with-new ps p h k =
    elim (has_polynomial ps p) as (λ b. Squares (cond b ps (ps ++ p ∷ []))) [
      | true ↦ h
      | false ↦ squares-append ps (p ∷ []) h (k, tt)
    ]

once : (seen ps : List Polynomial) → Squares seen → Squares ps → Squares (once_behind seen ps)
once seen [] h k = h
once seen (p ∷ ps) h k = once (with_new seen p) ps (with-new seen p h k.0) k.1

onto : (p : Polynomial) (qs : List Polynomial) → Standard p → Squares qs → Right Standard (product_onto p qs) (bounded_onto p qs)
onto p [] h k = done Standard p h
onto p (q ∷ qs) h k = step Standard Standard _ _ _ _ (product p q h k.0) (λ r. onto (poly_product p q) qs r k.1)

crossed : (x y : Formed) (f g : Fraction Polynomial) → f.over ≡ x.over → f.under ≡ x.under → IsWhole x → IsWhole y → g.over ≡ y.over → g.under ≡ y.under
    → Right Standard (cross_of polynomials f g) (bounded_cross_of x y)
crossed x y f g a b h k c d =
    subst (λ p. Right Standard p (bounded_cross_of x y)) (λ i. poly_difference (poly_product (sym a i) (sym d i)) (poly_product (sym c i) (sym b i)))
    (step Standard Standard _ _ _ _ (product x.over y.under h.over k.under) (λ n.
    step Standard Standard _ _ _ _ (product y.over x.under k.over h.under) (λ m. difference _ _ n m)))

conclusion : (s t : Term (Vector Polynomial)) → IsStandardTerm s → IsStandardTerm t → Right Standard (conclusion_of s t) (bounded_conclusion s t)
conclusion s t h k =
    step IsWhole Standard _ _ _ _ (fraction s h) (λ x.
    step IsWhole Standard _ _ _ _ (fraction t k) (λ y.
    step Standard Standard _ _ _ _ (crossed (formed s) (formed t) (fraction_of polynomials s) (fraction_of polynomials t) refl refl x y refl refl) (λ c.
    step Standard Standard _ _ _ _ (onto _ (parts_once (squares_of polynomials s ++ squares_of polynomials t)) (primitive _ c) (once [] _ tt (primitives _ (squares-append _ _ x.squares y.squares)))) (λ p.
    done Standard (conclusion_of s t) (primitive _ p)))))

pub bounded_usual : BoundedIsUsual
bounded_usual s t r h k e = let w = (conclusion s t h k).right r e in (w.0, w.1.is)
