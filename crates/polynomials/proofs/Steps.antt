-- The steps of rows and sums.
use Rattle.std.proofs.Common.{◌≡◌, ◌≢◌, ℕ, ◌+◌, ◌<◌, ◌≤◌, zero, suc, refl, List, [], ◌∷◌, ◌++◌, length, drop, get_or, sym, ◌∙◌, ap, arith, Bool, true, false, ◌&&◌, nat_le, append_assoc}
use Rattle.std.specs.Prelude.{ℤ, pos, ◌*ℤ◌, unsigned_abs}
use Rattle.std.proofs.lemmas.List.Folds.{list_all-append}
use Rattle.std.proofs.lemmas.Bool.Decides.{nat_tests}
use Rattle.poly_model.specs.Polynomial.{Entry, Polynomial, IsDescending, exponents_sum}
use Rattle.poly_model.specs.Standard.{entry_of, polynomial_of, are_low}
use Rattle.poly_model.specs.declared.term.Term.{Term}
use Rattle.poly_model.specs.declared.limits.TheConstants.{MOST_SIZE}
use Rattle.poly_model.specs.Standard.{are_bounded}
use Rattle.poly_model.specs.Bounded.{multiple}
use Rattle.term_store.specs.States.{State, IsLive, list_at}
use Rattle.term_store.specs.Changes.{Makes}
use Rattle.term_store.proofs.Making as making
use Rattle.poly_model.proofs.Within.{all_low}
use Rattle.std.proofs.lemmas.Bool.{and_parts}
use Rattle.std.specs.Cmp.Derive.{both_true}
use mathlib.Core.Bool.{and-false}

pub map-append : (xs ys : List Term) → polynomial_of (xs ++ ys) ≡ polynomial_of xs ++ polynomial_of ys
map-append [] ys = refl
map-append (x ∷ xs) ys = ap (λ l. entry_of x ∷ l) (map-append xs ys)

is_in : Entry → Bool
is_in e = nat_le (unsigned_abs e.1) MOST_SIZE

pub bounded-append : (p q : Polynomial) → are_bounded (p ++ q) ≡ (are_bounded p && are_bounded q)
bounded-append p q = list_all-append (λ e. nat_le (unsigned_abs e.1) MOST_SIZE) p q

-- one entry moves out
pub moved : (out : List Term) (x : Term) (rest : Polynomial) → polynomial_of (out ++ x ∷ []) ++ rest ≡ polynomial_of out ++ (entry_of x ∷ rest)
moved out x rest = ap (λ l. l ++ rest) (map-append out (x ∷ [])) ∙ append_assoc (polynomial_of out) (entry_of x ∷ []) rest

-- what is out is bounded, with one more
pub bounded-more : (out : List Term) (x : Term) → are_bounded (polynomial_of out) ≡ true → unsigned_abs x.coef ≤ MOST_SIZE → are_bounded (polynomial_of (out ++ x ∷ [])) ≡ true
bounded-more out x b le =
    ap are_bounded (map-append out (x ∷ [])) ∙ bounded-append (polynomial_of out) (entry_of x ∷ []) ∙ both_true b (both_true (small (unsigned_abs x.coef) MOST_SIZE le) refl)
  where
    small : (a b : ℕ) → a ≤ b → nat_le a b ≡ true
    small a b h = grind (arith, nat_tests)

pub dropped : (xs : List Term) (i : ℕ) (t : Term) → i < length xs → t ≡ get_or xs i t → drop i xs ≡ t ∷ drop (i + 1) xs
dropped [] i t below e = absurd (omega arith)
dropped (x ∷ xs) zero t below e = λ i. sym e i ∷ xs
dropped (x ∷ xs) (suc i) t below e =
    dropped xs i t (omega arith) e ∙ ap (λ k. t ∷ drop k (x ∷ xs)) (let h : suc (i + 1) ≡ suc i + 1 = omega arith in h)

pub all-dropped : (xs : List Term) (n : ℕ) → length xs ≤ n → drop n xs ≡ []
all-dropped [] zero le = refl
all-dropped [] (suc n) le = refl
all-dropped (x ∷ xs) zero le = absurd (omega arith)
all-dropped (x ∷ xs) (suc n) le = all-dropped xs n (omega arith)

-- ---- rows
pub row-step : (out qs : List Term) (es : List ℕ) (c : ℤ) (i : ℕ) (t x : Term) → i < length qs → t ≡ get_or qs i t → x.coef ≡ c *ℤ t.coef → x.exps ≡ exponents_sum es t.exps
    → polynomial_of (out ++ x ∷ []) ++ multiple es c (polynomial_of (drop (i + 1) qs)) ≡ polynomial_of out ++ multiple es c (polynomial_of (drop i qs))
row-step out qs es c i t x below at number exps =
    moved out x _ ∙ ap (λ l. polynomial_of out ++ l) ((λ j. (exps j, number j) ∷ multiple es c (polynomial_of (drop (i + 1) qs))) ∙ ap (λ l. multiple es c (polynomial_of l)) (sym (dropped qs i t below at)))

pub row-end : (out qs : List Term) (es : List ℕ) (c : ℤ) (n : ℕ) (all : Polynomial) → length qs ≤ n → polynomial_of out ++ multiple es c (polynomial_of (drop n qs)) ≡ all → polynomial_of out ≡ all
row-end out qs es c n all le e = sym (none (polynomial_of out)) ∙ ap (λ l. polynomial_of out ++ multiple es c (polynomial_of l)) (sym (all-dropped qs n le)) ∙ e
  where
    none : (p : Polynomial) → p ++ [] ≡ p
    none [] = refl
    none (x ∷ p) = ap (λ l. x ∷ l) (none p)

pub not_le : (a b : ℕ) → (a ≤ b → ⊥) → nat_le a b ≡ false
not_le a b n = grind (arith, nat_tests)

-- a product that passes
pub row-passes : (out qs : List Term) (es : List ℕ) (c : ℤ) (i : ℕ) (t : Term) (all : Polynomial) → i < length qs → t ≡ get_or qs i t → (unsigned_abs (c *ℤ t.coef) ≤ MOST_SIZE → ⊥)
    → polynomial_of out ++ multiple es c (polynomial_of (drop i qs)) ≡ all → are_bounded all ≡ false
row-passes out qs es c i t all below at passes e =
    ap are_bounded (sym e ∙ ap (λ l. polynomial_of out ++ multiple es c (polynomial_of l)) (dropped qs i t below at))
    ∙ bounded-append (polynomial_of out) _
    ∙ ap (λ b. are_bounded (polynomial_of out) && (b && are_bounded (multiple es c (polynomial_of (drop (i + 1) qs))))) (not_le _ _ passes)
    ∙ and-false (are_bounded (polynomial_of out))

-- what is known of a term of a list
pub bounded-at : (qs : List Term) (i : ℕ) (t : Term) → i < length qs → t ≡ get_or qs i t → are_bounded (polynomial_of qs) ≡ true → unsigned_abs t.coef ≤ MOST_SIZE
bounded-at [] i t below e b = absurd (omega arith)
bounded-at (x ∷ qs) zero t below e b = let h = (and_parts (nat_le (unsigned_abs x.coef) MOST_SIZE) (are_bounded (polynomial_of qs)) b).0 in large (unsigned_abs x.coef) (unsigned_abs t.coef) h (ap (λ (y : Term). unsigned_abs y.coef) e)
  where
    large : (a c : ℕ) → nat_le a MOST_SIZE ≡ true → c ≡ a → c ≤ MOST_SIZE
    large a c h e = grind (arith, nat_tests)
bounded-at (x ∷ qs) (suc i) t below e b = bounded-at qs i t (omega arith) e ((and_parts (nat_le (unsigned_abs x.coef) MOST_SIZE) (are_bounded (polynomial_of qs)) b).1)

pub lows-at : (qs : List Term) (i : ℕ) (t : Term) → i < length qs → t ≡ get_or qs i t → all_low (polynomial_of qs) ≡ true → are_low t.exps ≡ true
lows-at [] i t below e b = absurd (omega arith)
lows-at (x ∷ qs) zero t below e b = ap (λ (y : Term). are_low y.exps) e ∙ (and_parts (are_low x.exps) (all_low (polynomial_of qs)) b).0
lows-at (x ∷ qs) (suc i) t below e b = lows-at qs i t (omega arith) e ((and_parts (are_low x.exps) (all_low (polynomial_of qs)) b).1)

-- ---- reading a list beside a new one
pub read : (s t : State) (k j i : ℕ) (x : Term) → Makes s t k → IsLive s.lists j → i < length (list_at s.lists j) → x ≡ get_or (list_at t.lists j) i x
    → x ≡ get_or (list_at s.lists j) i x
read s t k j i x m live below at = at ∙ ap (λ l. get_or l i x) (making.makes-other s t k j m live)

pub readable : (s t : State) (k j i : ℕ) → Makes s t k → IsLive s.lists j → i < length (list_at s.lists j) → i < length (list_at t.lists j)
readable s t k j i m live below = omega (arith, ap length (making.makes-other s t k j m live))

pub dropped-length : (xs : List Term) (i : ℕ) → i ≤ length xs → length (drop i xs) + i ≡ length xs
dropped-length [] zero le = omega arith
dropped-length [] (suc i) le = absurd (omega arith)
dropped-length (x ∷ xs) zero le = omega arith
dropped-length (x ∷ xs) (suc i) le = omega (arith, dropped-length xs i (omega arith))

pub nothing : (l : List Term) → l ++ [] ≡ l
nothing [] = refl
nothing (t ∷ l) = ap (λ k. t ∷ k) (nothing l)

pub polynomial-length : (xs : List Term) → length (polynomial_of xs) ≡ length xs
polynomial-length [] = refl
polynomial-length (x ∷ xs) = ap suc (polynomial-length xs)

pub entry-at : (n : ℕ) (qs : List Term) (i : ℕ) (t : Term) → i < length qs → t ≡ get_or qs i t → IsDescending n (polynomial_of qs) → (length t.exps ≡ n) × (t.coef ≢ pos 0)
entry-at n [] i t below e h = absurd (omega arith)
entry-at n (x ∷ qs) zero t below e h = (ap (λ (y : Term). length y.exps) e ∙ h.0, (λ z. h.1 (sym (ap (λ (y : Term). y.coef) e) ∙ z)))
entry-at n (x ∷ qs) (suc i) t below e h = entry-at n qs i t (omega arith) e h.3

-- the item at a place, whatever stands for a missing one
pub own-item : (xs : List Term) (i : ℕ) (d : Term) → i < length xs → get_or xs i d ≡ get_or xs i (get_or xs i d)
own-item [] i d below = absurd (omega (arith, below))
own-item (x ∷ xs) zero d below = refl
own-item (x ∷ xs) (suc i) d below = own-item xs i d (omega (arith, below))
