-- The steps of a list that is copied with a change.
use Rattle.std.proofs.Common.{◌≡◌, ℕ, ◌+◌, ◌<◌, ◌≤◌, zero, suc, refl, List, [], ◌∷◌, ◌++◌, length, drop, get_or, sym, ◌∙◌, ap, arith, Bool, true}
use Rattle.std.specs.List.{list_all}
use Rattle.std.proofs.lemmas.Bool.{and_parts}
use Rattle.poly_model.specs.Polynomial.{Entry, Polynomial}
use Rattle.poly_model.specs.Standard.{entry_of, polynomial_of}
use Rattle.poly_model.specs.declared.term.Term.{Term}
use Rattle.polynomials.specs.Pieces.{pieces_of}
use Rattle.polynomials.proofs.Steps.{moved, dropped, all-dropped}

-- a term that becomes another
pub change-some : (piece : Entry → Polynomial) (out qs : List Term) (i : ℕ) (t x : Term) → i < length qs → t ≡ get_or qs i t → entry_of x ∷ [] ≡ piece (entry_of t)
    → polynomial_of (out ++ x ∷ []) ++ pieces_of piece (polynomial_of (drop (i + 1) qs)) ≡ polynomial_of out ++ pieces_of piece (polynomial_of (drop i qs))
change-some piece out qs i t x below at is =
    moved out x _
    ∙ ap (λ l. polynomial_of out ++ l)
    (ap (λ l. l ++ pieces_of piece (polynomial_of (drop (i + 1) qs))) is ∙ ap (λ l. pieces_of piece (polynomial_of l)) (sym (dropped qs i t below at)))

-- a term that becomes none
pub change-none : (piece : Entry → Polynomial) (out qs : List Term) (i : ℕ) (t : Term) → i < length qs → t ≡ get_or qs i t → [] ≡ piece (entry_of t)
    → polynomial_of out ++ pieces_of piece (polynomial_of (drop (i + 1) qs)) ≡ polynomial_of out ++ pieces_of piece (polynomial_of (drop i qs))
change-none piece out qs i t below at is =
    ap (λ l. polynomial_of out ++ l)
    (ap (λ l. l ++ pieces_of piece (polynomial_of (drop (i + 1) qs))) is ∙ ap (λ l. pieces_of piece (polynomial_of l)) (sym (dropped qs i t below at)))

pub change-end : (piece : Entry → Polynomial) (out qs : List Term) (n : ℕ) (all : Polynomial) → length qs ≤ n
    → polynomial_of out ++ pieces_of piece (polynomial_of (drop n qs)) ≡ all → polynomial_of out ≡ all
change-end piece out qs n all le e = sym (none (polynomial_of out)) ∙ ap (λ l. polynomial_of out ++ pieces_of piece (polynomial_of l)) (sym (all-dropped qs n le)) ∙ e
  where
    none : (p : Polynomial) → p ++ [] ≡ p
    none [] = refl
    none (x ∷ p) = ap (λ l. x ∷ l) (none p)

-- what holds of each entry holds of the one at a place
pub test-at : (test : Entry → Bool) (qs : List Term) (i : ℕ) (t : Term) → i < length qs → t ≡ get_or qs i t → list_all test (polynomial_of qs) ≡ true → test (entry_of t) ≡ true
test-at test [] i t below at h = absurd (omega arith)
test-at test (x ∷ qs) zero t below at h = ap (λ y. test (entry_of y)) at ∙ (and_parts (test (entry_of x)) (list_all test (polynomial_of qs)) h).0
test-at test (x ∷ qs) (suc i) t below at h = test-at test qs i t (omega arith) at (and_parts (test (entry_of x)) (list_all test (polynomial_of qs)) h).1
