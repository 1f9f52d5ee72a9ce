-- Whole numbers as polynomials.
use Rattle.std.proofs.Common.{◌≡◌, ℕ, ◌≤◌, zero, suc, List, [], ◌∷◌, replicate, refl, ◌∙◌, ap, arith, true, ◌≢◌, sym}
use Rattle.std.specs.Prelude.{ℤ, pos, ◌+ℤ◌}
use Rattle.std.specs.Cmp.Derive.{both_true}
use Rattle.std.specs.declared.cmp.Ordering.{Ordering}
use Rattle.std.specs.declared.cmp.Ordering.TheVariants.{Less, Equal, Greater}
use Rattle.std.proofs.lemmas.Bool.{le-leb, lt-ltb}
use Rattle.std.proofs.lemmas.Int.{ints}
use Rattle.poly_model.specs.Domain.{natural_in}
use Rattle.poly_model.specs.Polynomial.{polynomial_operations, poly_constant, add_entry, with_entry, monomial_cmp}
use Rattle.poly_model.specs.Standard.{is_standard}
use Rattle.poly_model.specs.Values.{monomial_cmp-self}
use Rattle.poly_model.specs.declared.limits.TheConstants.{MOST_VARIABLES, MOST_SIZE}
use Rattle.ratio_eq.specs.Fractions.{polynomials}

added_equal : (e : List ℕ) (c d : ℤ) (r : Ordering) → r ≡ Equal
    → elim r [ Less ↦ (e, d) ∷ add_entry e c [] | Equal ↦ with_entry e (c +ℤ d) [] | Greater ↦ with_entry e c ((e, d) ∷ []) ] ≡ with_entry e (c +ℤ d) []
added_equal e c d Less h = cc
added_equal e c d Equal h = refl
added_equal e c d Greater h = cc

pub natural-constant : (n k : ℕ) → natural_in (polynomial_operations n) k ≡ poly_constant n (pos k)
natural-constant n zero = refl
natural-constant n (suc zero) = refl
natural-constant n (suc (suc k)) =
    ap (add_entry (replicate n 0) (pos 1)) (natural-constant n (suc k))
    ∙ added_equal (replicate n 0) (pos 1) (pos (suc k)) (monomial_cmp (replicate n 0) (replicate n 0)) (monomial_cmp-self (replicate n 0))
    ∙ ap (λ z. with_entry (replicate n 0) z []) (let e : pos 1 +ℤ pos (suc k) ≡ pos (suc (suc k)) = omega (arith, ints) in e)

constant-standard : (k : ℕ) → k ≤ MOST_SIZE → is_standard (poly_constant MOST_VARIABLES (pos k)) ≡ true
constant-standard zero le = refl
constant-standard (suc k) le = both_true (both_true (both_true (lt-ltb 0 (suc k) (omega arith)) (le-leb (suc k) MOST_SIZE le)) refl) refl

pub natural-standard : (k : ℕ) → k ≤ MOST_SIZE → is_standard (natural_in polynomials k) ≡ true
natural-standard k le = ap is_standard (natural-constant MOST_VARIABLES k) ∙ constant-standard k le

-- a number that is not 0 is one term
pub natural-some : (k : ℕ) → k ≢ 0 → (replicate MOST_VARIABLES 0, pos k) ∷ [] ≡ natural_in polynomials k
natural-some zero some = absurd (some refl)
natural-some (suc k) some = sym (natural-constant MOST_VARIABLES (suc k))
