-- The order of monomials.
use Rattle.std.proofs.Common.{◌≡◌, ℕ, ◌+◌, ◌<◌, zero, suc, refl, List, [], ◌∷◌, length, sym, ◌∙◌, ap, arith}
use Rattle.std.specs.Ordering.{nat_cmp, ordering_then}
use Rattle.std.specs.Cmp.{nat_cmp_is, ranked}
use Rattle.std.specs.declared.cmp.Ordering.TheVariants.{Less, Equal, Greater}
use Rattle.poly_model.specs.Polynomial.{monomial_cmp, exponents_sum}
use Rattle.poly_model.specs.Values.{monomial_cmp-same, monomial_cmp-self}

pub monomial_cmp-flip : (xs ys : List ℕ) → monomial_cmp xs ys ≡ Less → monomial_cmp ys xs ≡ Greater
monomial_cmp-flip [] [] e = absurd (cc)
monomial_cmp-flip [] (y ∷ ys) e = refl
monomial_cmp-flip (x ∷ xs) [] e = absurd (cc)
monomial_cmp-flip (x ∷ xs) (y ∷ ys) is =
    elim (monomial_cmp xs ys) as (λ r. monomial_cmp xs ys ≡ r → ordering_then r (nat_cmp x y) ≡ Less → monomial_cmp (y ∷ ys) (x ∷ xs) ≡ Greater) [
      | Less ↦ λ p e. ap (λ r. ordering_then r (nat_cmp y x)) (monomial_cmp-flip xs ys p)
      | Equal ↦ λ p e.
          let same = monomial_cmp-same xs ys p in
          ap (λ r. ordering_then r (nat_cmp y x)) (ap (λ zs. monomial_cmp ys zs) same ∙ monomial_cmp-self ys) ∙ sym (nat_cmp_is y x Greater (ranked x y Less (sym e)))
      | Greater ↦ λ p e. absurd (cc)
    ] refl is

pub monomial_cmp-trans : (xs ys zs : List ℕ) → monomial_cmp xs ys ≡ Greater → monomial_cmp ys zs ≡ Greater → monomial_cmp xs zs ≡ Greater
monomial_cmp-trans [] [] zs p q = absurd (cc)
monomial_cmp-trans [] (y ∷ ys) zs p q = absurd (cc)
monomial_cmp-trans (x ∷ xs) [] [] p q = absurd (cc)
monomial_cmp-trans (x ∷ xs) [] (z ∷ zs) p q = absurd (cc)
monomial_cmp-trans (x ∷ xs) (y ∷ ys) [] p q = refl
monomial_cmp-trans (x ∷ xs) (y ∷ ys) (z ∷ zs) is_p is_q =
    elim (monomial_cmp xs ys) as (λ r. monomial_cmp xs ys ≡ r → ordering_then r (nat_cmp x y) ≡ Greater → monomial_cmp (x ∷ xs) (z ∷ zs) ≡ Greater) [
      | Less ↦ λ p e. absurd (cc)
      | Equal ↦ λ p e.
          let same = monomial_cmp-same xs ys p in
          elim (monomial_cmp ys zs) as (λ r. monomial_cmp ys zs ≡ r → ordering_then r (nat_cmp y z) ≡ Greater → monomial_cmp (x ∷ xs) (z ∷ zs) ≡ Greater) [
            | Less ↦ λ q d. absurd (cc)
            | Equal ↦ λ q d.
                let g : y < x = ranked x y Greater (sym e) in
                let h : z < y = ranked y z Greater (sym d) in
                ap (λ r. ordering_then r (nat_cmp x z)) (ap (λ s. monomial_cmp s zs) same ∙ q) ∙ sym (nat_cmp_is x z Greater (omega arith))
            | Greater ↦ λ q d. ap (λ r. ordering_then r (nat_cmp x z)) (ap (λ s. monomial_cmp s zs) same ∙ q)
          ] refl is_q
      | Greater ↦ λ p e.
          elim (monomial_cmp ys zs) as (λ r. monomial_cmp ys zs ≡ r → ordering_then r (nat_cmp y z) ≡ Greater → monomial_cmp (x ∷ xs) (z ∷ zs) ≡ Greater) [
            | Less ↦ λ q d. absurd (cc)
            | Equal ↦ λ q d. ap (λ r. ordering_then r (nat_cmp x z)) (ap (monomial_cmp xs) (sym (monomial_cmp-same ys zs q)) ∙ p)
            | Greater ↦ λ q d. ap (λ r. ordering_then r (nat_cmp x z)) (monomial_cmp-trans xs ys zs p q)
          ] refl is_q
    ] refl is_p

pub exponents_sum-none : (xs : List ℕ) → exponents_sum xs [] ≡ xs
exponents_sum-none [] = refl
exponents_sum-none (x ∷ xs) = refl

pub exponents_sum-comm : (xs ys : List ℕ) → exponents_sum xs ys ≡ exponents_sum ys xs
exponents_sum-comm [] [] = refl
exponents_sum-comm [] (y ∷ ys) = refl
exponents_sum-comm (x ∷ xs) [] = refl
exponents_sum-comm (x ∷ xs) (y ∷ ys) = λ i. (let e : x + y ≡ y + x = omega arith in e) i ∷ exponents_sum-comm xs ys i

pub exponents_sum-assoc : (xs ys zs : List ℕ) → exponents_sum (exponents_sum xs ys) zs ≡ exponents_sum xs (exponents_sum ys zs)
exponents_sum-assoc [] ys zs = refl
exponents_sum-assoc (x ∷ xs) [] zs = refl
exponents_sum-assoc (x ∷ xs) (y ∷ ys) [] = refl
exponents_sum-assoc (x ∷ xs) (y ∷ ys) (z ∷ zs) = λ i. (let e : (x + y) + z ≡ x + (y + z) = omega arith in e) i ∷ exponents_sum-assoc xs ys zs i

pub exponents_sum-length : (n : ℕ) (xs ys : List ℕ) → length xs ≡ n → length ys ≡ n → length (exponents_sum xs ys) ≡ n
exponents_sum-length n [] ys p q = q
exponents_sum-length n (x ∷ xs) [] p q = p
exponents_sum-length zero (x ∷ xs) (y ∷ ys) p q = absurd (omega arith)
exponents_sum-length (suc n) (x ∷ xs) (y ∷ ys) p q = let e = exponents_sum-length n xs ys (omega arith) (omega arith) in omega (arith, e)
