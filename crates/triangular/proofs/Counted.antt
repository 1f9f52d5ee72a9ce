-- Polynomials of a class, counted one by one.
use Rattle.std.proofs.Common.{◌≡◌, ℕ, ◌+◌, List, [], ◌∷◌, length, map, arith, refl, sym, ◌∙◌, Bool, true, false, ◌&&◌}
use Rattle.std.specs.Prelude.{if◌then◌else◌, ◌==◌, count_by}
use Rattle.std.proofs.lemmas.List.Sums.{sum_by-cons}
use Rattle.poly_model.specs.Polynomial.{Polynomial}
use Rattle.poly_model.specs.Reduction.{class_of}
use Rattle.triangular.specs.Counting.{count_of}

pub count-is : (x : ℕ) (ps : List Polynomial) → count_of x ps ≡ count_by (λ p. class_of p == x) ps
count-is x [] = refl
count-is x (p ∷ ps) = (λ i. (if class_of p == x then 1 else 0) + count-is x ps i) ∙ sym (sum_by-cons (λ q. if class_of q == x then 1 else 0) p ps)

-- a test of three parts, by the first two
pub then-third : (a b c d : Bool) → (a && b) ≡ true → c ≡ d → c ≡ (a && (b && d))
then-third true true c d e f = f
then-third true false c d e f = absurd (let h : false ≡ true = e in cc)
then-third false b c d e f = absurd (let h : false ≡ true = e in cc)

pub not-third : (a b d : Bool) → (a && b) ≡ false → false ≡ (a && (b && d))
not-third true true d e = absurd (let h : true ≡ false = e in cc)
not-third true false d e = refl
not-third false b d e = refl

pub count-end : {A : Type 0} (x sum total : ℕ) (f : A → Polynomial) (ps : List A) → length ps ≡ 0 → sum + count_of x (map f ps) ≡ total → sum ≡ total
count-end x sum total f [] none e = omega (arith, e)
count-end x sum total f (p ∷ ps) none e = absurd (omega (arith, none))
