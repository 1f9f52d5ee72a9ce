-- Lists that are copied with a change are the polynomials that the definitions give.
use Rattle.std.proofs.Common.{◌≡◌, ℕ, ◌+◌, ◌-◌, ◌<◌, ◌≤◌, refl, List, [], ◌∷◌, ◌++◌, length, get_or, set, sym, ◌∙◌, ap, subst, arith, Bool, true, false, cond, nat_lt}
use Rattle.std.specs.Prelude.{◌==◌, neg_ℤ}
use Rattle.std.specs.List.{list_all}
use Rattle.std.specs.Cmp.Derive.{both_true}
use Rattle.std.proofs.lemmas.Bool.{and_parts, le-leb}
use Rattle.std.proofs.lemmas.Bool.Decides.{nat_tests}
use Rattle.poly_model.specs.Polynomial.{Entry, Polynomial, IsDescending, poly_negative}
use Rattle.poly_model.specs.Content.{entries_divided, signed_by, quotient_of}
use Rattle.poly_model.specs.Standard.{is_bounded, are_bounded}
use Rattle.poly_model.specs.Reduction.{degree_at, coefficient_at, without_degree, shifted}
use Rattle.poly_model.specs.declared.limits.TheConstants.{MOST_VARIABLES, MOST_DEGREE}
use Rattle.poly_model.specs.Powers.{lowered}
use Rattle.poly_model.proofs.Powers.{AllReach}
use Rattle.polynomials.specs.Pieces.{pieces_of, negated, unchanged, raised, is_raisable, lowered_entry, is_lowerable, cofactor, other_power, has_place, divided, is_divisible}

pub pieces-unchanged : (p : Polynomial) → pieces_of unchanged p ≡ p
pieces-unchanged [] = refl
pieces-unchanged (e ∷ p) = ap (λ l. e ∷ l) (pieces-unchanged p)

pub pieces-negated : (p : Polynomial) → pieces_of negated p ≡ poly_negative p
pieces-negated [] = refl
pieces-negated ((es, c) ∷ p) = ap (λ l. (es, neg_ℤ c) ∷ l) (pieces-negated p)

pub pieces-raised : (i k : ℕ) (p : Polynomial) → pieces_of (raised i k) p ≡ shifted i k p
pieces-raised i k [] = refl
pieces-raised i k ((es, c) ∷ p) = ap (λ l. (set es i (get_or es i 0 + k), c) ∷ l) (pieces-raised i k p)

pub pieces-lowered : (i k : ℕ) (p : Polynomial) → pieces_of (lowered_entry i k) p ≡ lowered i k p
pieces-lowered i k [] = refl
pieces-lowered i k ((es, c) ∷ p) = ap (λ l. (set es i (get_or es i 0 - k), c) ∷ l) (pieces-lowered i k p)

pub pieces-cofactor : (i d : ℕ) (p : Polynomial) → pieces_of (cofactor i d) p ≡ coefficient_at i d p
pieces-cofactor i d [] = refl
pieces-cofactor i d ((es, c) ∷ p) =
    ap (λ l. cond (get_or es i 0 == d) ((set es i 0, c) ∷ []) [] ++ l) (pieces-cofactor i d p)
    ∙ elim (get_or es i 0 == d) as (λ b. cond b ((set es i 0, c) ∷ []) [] ++ coefficient_at i d p ≡ cond b ((set es i 0, c) ∷ coefficient_at i d p) (coefficient_at i d p)) [
      | true ↦ refl
      | false ↦ refl
    ]

pub pieces-other_power : (i d : ℕ) (p : Polynomial) → pieces_of (other_power i d) p ≡ without_degree i d p
pieces-other_power i d [] = refl
pieces-other_power i d ((es, c) ∷ p) =
    ap (λ l. cond (get_or es i 0 == d) [] ((es, c) ∷ []) ++ l) (pieces-other_power i d p)
    ∙ elim (get_or es i 0 == d) as (λ b. cond b [] ((es, c) ∷ []) ++ without_degree i d p ≡ cond b (without_degree i d p) ((es, c) ∷ without_degree i d p)) [
      | true ↦ refl
      | false ↦ refl
    ]

pub pieces-divided : (turned : Bool) (m : ℕ) (p : Polynomial) → pieces_of (divided turned m) p ≡ entries_divided turned m p
pieces-divided turned m [] = refl
pieces-divided turned m ((es, c) ∷ p) = ap (λ l. (es, signed_by turned (quotient_of c m)) ∷ l) (pieces-divided turned m p)

-- ---- what the changes take
below : (i n : ℕ) (es : List ℕ) → length es ≡ n → i < n → nat_lt i (length es) ≡ true
below i n es e h = subst (λ m. nat_lt i m ≡ true) (sym e) (lt i n h)
  where
    lt : (i n : ℕ) → i < n → nat_lt i n ≡ true
    lt i n h = grind (arith, nat_tests)

pub all-places : (i : ℕ) (p : Polynomial) → i < MOST_VARIABLES → IsDescending MOST_VARIABLES p → list_all (has_place i) p ≡ true
all-places i [] h d = refl
all-places i ((es, c) ∷ p) h d = both_true (below i MOST_VARIABLES es d.0 h) (all-places i p h d.3)

pub all-raisable : (i k : ℕ) (p : Polynomial) → i < MOST_VARIABLES → IsDescending MOST_VARIABLES p → degree_at i p + k ≤ MOST_DEGREE → list_all (is_raisable i k) p ≡ true
all-raisable i k [] h d f = refl
all-raisable i k ((es, c) ∷ p) h d f =
    both_true (both_true (below i MOST_VARIABLES es d.0 h) (le-leb (get_or es i 0 + k) MOST_DEGREE (omega (arith, f)))) (all-raisable i k p h d.3 (omega (arith, f)))

pub all-lowerable : (i k : ℕ) (p : Polynomial) → i < MOST_VARIABLES → IsDescending MOST_VARIABLES p → AllReach i k p → list_all (is_lowerable i k) p ≡ true
all-lowerable i k [] h d r = refl
all-lowerable i k ((es, c) ∷ p) h d r =
    both_true (both_true (below i MOST_VARIABLES es d.0 h) (le-leb k (get_or es i 0) r.0)) (all-lowerable i k p h d.3 r.1)

pub all-divisible : (m : ℕ) (p : Polynomial) → 0 < m → are_bounded p ≡ true → list_all (is_divisible m) p ≡ true
all-divisible m [] some b = refl
all-divisible m ((es, c) ∷ p) some b =
    let parts = and_parts (is_bounded c) (are_bounded p) b in both_true (both_true (lt m some) parts.0) (all-divisible m p some parts.1)
  where
    lt : (m : ℕ) → 0 < m → nat_lt 0 m ≡ true
    lt m h = grind (arith, nat_tests)

pub all-taken : (p : Polynomial) → list_all (λ (e : Entry). true) p ≡ true
all-taken [] = refl
all-taken (e ∷ p) = all-taken p
