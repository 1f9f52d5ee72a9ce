-- Groups of rows of a product, added to the sum so far.
use Rattle.std.proofs.Common.{◌≡◌, ℕ, ◌+◌, ◌*◌, ◌≤◌, ◌<◌, zero, suc, refl, List, [], ◌∷◌, ◌++◌, length, take, drop, get_or, sym, ◌∙◌, ap, subst, arith, true, append_assoc}
use Rattle.std.specs.Prelude.{ℤ, Result, Ok, Err}
use Rattle.poly_model.specs.Polynomial.{Polynomial, IsDescending, add_multiple, poly_sum, poly_product}
use Rattle.std.proofs.lemmas.Bool.{and_parts, leb-true, le-leb}
use Rattle.std.specs.Cmp.Derive.{both_true}
use Rattle.poly_model.specs.Standard.{entry_of, polynomial_of, is_bounded, are_bounded, are_low, is_standard}
use Rattle.poly_model.proofs.Within.{all_low, within-of, standard-of}
use Rattle.poly_model.specs.Bounded.{multiple, bounded_row, bounded_rows}
use Rattle.poly_model.specs.Integers.{integers_ring}
use Rattle.poly_model.specs.declared.term.Term.{Term}
use Rattle.poly_model.specs.declared.limits.Limit.{Limit}
use Rattle.poly_model.specs.declared.limits.TheConstants.{MOST_VARIABLES, MOST_SIZE, MOST_TERMS}
use Rattle.poly_model.proofs.Multiple.{descending-multiple}
use Rattle.poly_model.proofs.Ordered.{same_coefficients, descending-sum, descending-product, descending-add_multiple, at_monomial-additive}
use Rattle.poly_model.proofs.Rows.{add_multiple-is, rows_onto, bounded_rows-are}
use Rattle.poly_model.proofs.Sums as sums
use Rattle.polynomials.specs.Sizes.{sizes_of, part_of}
use Rattle.polynomials.proofs.Steps.{map-append, dropped, polynomial-length}
use Rattle.polynomials.proofs.Unlimited.{sizes-sum, bounded-sizes, rows-unlimited}
use Rattle.polynomials.proofs.Halving.{drop-more, sum-assoc, part-one, part-length, part-descending, sizes-product}
use Rattle.polynomials.proofs.Outcomes.{Summing, summing-next, summing-stops}

-- ---- rows that meet no limit make the product
sum-comm : (n : ℕ) (p q : Polynomial) → IsDescending n p → IsDescending n q → poly_sum p q ≡ poly_sum q p
sum-comm n p q h k =
    same_coefficients n (poly_sum p q) (poly_sum q p) (descending-sum n p q h k) (descending-sum n q p k h) (λ x. sums.same_add_comm integers_ring (at_monomial-additive x) p q)

onto-is : (n : ℕ) (p q sum : Polynomial) → IsDescending n p → IsDescending n q → IsDescending n sum → rows_onto p q sum ≡ poly_sum (poly_product p q) sum
onto-is n [] q sum h k l = refl
onto-is n ((es, c) ∷ p) q sum h k l =
    let row = multiple es c q in
    let rest = poly_product p q in
    let row_in = descending-multiple n es c q h.0 h.1 k in
    let rest_in = descending-product n p q h.3 k in
    onto-is n p q (add_multiple es c q sum) h.3 k (descending-add_multiple n es c q sum h.0 k l)
    ∙ ap (poly_sum rest) (add_multiple-is es c q sum)
    ∙ sym (sum-assoc n rest row sum rest_in row_in l)
    ∙ ap (λ p. poly_sum p sum) (sum-comm n rest row rest_in row_in ∙ sym (add_multiple-is es c q rest))

pub group-is : (n : ℕ) (p q sum : Polynomial) → IsDescending n p → IsDescending n q → IsDescending n sum → sizes_of sum + sizes_of p * sizes_of q ≤ MOST_SIZE → length sum + length p * length q ≤ MOST_TERMS
    → bounded_rows p q sum ≡ Ok (poly_sum (poly_product p q) sum)
group-is n p q sum h k l sizes terms =
    let some = rows-unlimited p q sum sizes terms in
    some.1 ∙ ap Ok (bounded_rows-are p q sum some.0 some.1 ∙ onto-is n p q sum h k l)

pub group-bounded : (p q sum : Polynomial) → sizes_of sum + sizes_of p * sizes_of q ≤ MOST_SIZE → are_bounded (poly_sum (poly_product p q) sum) ≡ true
group-bounded p q sum sizes =
    let both = sizes-sum (poly_product p q) sum in
    let product = sizes-product p q in
    bounded-sizes (poly_sum (poly_product p q) sum) (omega (arith, sizes, both, product))

-- ---- one row
one-is : (es : List ℕ) (c : ℤ) (q sum : Polynomial) → bounded_rows ((es, c) ∷ []) q sum ≡ bounded_row es c q sum
one-is es c q sum =
    elim (bounded_row es c q sum) as (λ b. elim b as (λ _. Result Polynomial Limit) [ Err limit ↦ Err limit | Ok s ↦ Ok s ] ≡ b) [ Err limit ↦ refl | Ok s ↦ refl ]

pub one-row : (xs : List Term) (i n : ℕ) (t : Term) (q sum : Polynomial) → i < length xs → t ≡ get_or xs i t → n ≡ 1 → bounded_rows (part_of xs i n) q sum ≡ bounded_row t.exps t.coef q sum
one-row xs i n t q sum below at e =
    ap (λ k. bounded_rows (part_of xs i k) q sum) e ∙ ap (λ p. bounded_rows p q sum) (part-one xs i t below at) ∙ one-is t.exps t.coef q sum

-- ---- what is left behind a group
take-rest : (n : ℕ) (xs : List Term) → xs ≡ take n xs ++ drop n xs
take-rest zero xs = refl
take-rest (suc n) [] = refl
take-rest (suc n) (x ∷ xs) = ap (λ l. x ∷ l) (take-rest n xs)

pub part-rest : (xs : List Term) (i n : ℕ) → polynomial_of (drop i xs) ≡ part_of xs i n ++ polynomial_of (drop (i + n) xs)
part-rest xs i n =
    ap polynomial_of (take-rest n (drop i xs)) ∙ map-append (take n (drop i xs)) (drop n (drop i xs)) ∙ ap (λ l. part_of xs i n ++ polynomial_of l) (sym (drop-more i n xs))

rows-next : (p r q sum next : Polynomial) (whole : Result Polynomial Limit) → IsDescending MOST_VARIABLES p → IsDescending MOST_VARIABLES q → Summing (p ++ r) q sum whole → bounded_rows p q sum ≡ Ok next
    → Summing r q next whole
rows-next [] r q sum next whole h k m e = subst (λ s. Summing r q s whole) (let same : sum ≡ next = cc in same) m
rows-next ((es, c) ∷ p) r q sum next whole h k m e =
    elim (bounded_row es c q sum) as (λ b. bounded_row es c q sum ≡ b → elim b as (λ _. Result Polynomial Limit) [ Err limit ↦ Err limit | Ok s ↦ bounded_rows p q s ] ≡ Ok next → Summing r q next whole) [
      | Err limit ↦ λ w f. absurd (cc)
      | Ok s ↦ λ w f. rows-next p r q s next whole h.3 k (summing-next es c (p ++ r) q sum s whole h.0 k m w) f
    ] refl e

rows-stop : (p r q sum : Polynomial) (l : Limit) (whole : Result Polynomial Limit) → IsDescending MOST_VARIABLES p → IsDescending MOST_VARIABLES q → Summing (p ++ r) q sum whole → bounded_rows p q sum ≡ Err l
    → whole ≡ Err l
rows-stop [] r q sum l whole h k m e = absurd (cc)
rows-stop ((es, c) ∷ p) r q sum l whole h k m e =
    elim (bounded_row es c q sum) as (λ b. bounded_row es c q sum ≡ b → elim b as (λ _. Result Polynomial Limit) [ Err limit ↦ Err limit | Ok s ↦ bounded_rows p q s ] ≡ Err l → whole ≡ Err l) [
      | Err limit ↦ λ w f. summing-stops es c (p ++ r) q sum limit whole m w ∙ f
      | Ok s ↦ λ w f. rows-stop p r q s l whole h.3 k (summing-next es c (p ++ r) q sum s whole h.0 k m w) f
    ] refl e

pub group-next : (xs : List Term) (i n : ℕ) (q sum next : Polynomial) (whole : Result Polynomial Limit) → IsDescending MOST_VARIABLES (polynomial_of xs) → IsDescending MOST_VARIABLES q
    → Summing (polynomial_of (drop i xs)) q sum whole → bounded_rows (part_of xs i n) q sum ≡ Ok next → Summing (polynomial_of (drop (i + n) xs)) q next whole
group-next xs i n q sum next whole h k m e =
    rows-next (part_of xs i n) (polynomial_of (drop (i + n) xs)) q sum next whole (part-descending MOST_VARIABLES i n xs h) k (subst (λ p. Summing p q sum whole) (part-rest xs i n) m) e

pub group-stops : (xs : List Term) (i n : ℕ) (q sum : Polynomial) (l : Limit) (whole : Result Polynomial Limit) → IsDescending MOST_VARIABLES (polynomial_of xs) → IsDescending MOST_VARIABLES q
    → Summing (polynomial_of (drop i xs)) q sum whole → bounded_rows (part_of xs i n) q sum ≡ Err l → whole ≡ Err l
group-stops xs i n q sum l whole h k m e =
    rows-stop (part_of xs i n) (polynomial_of (drop (i + n) xs)) q sum l whole (part-descending MOST_VARIABLES i n xs h) k (subst (λ p. Summing p q sum whole) (part-rest xs i n) m) e

-- ---- lengths of the lists and of what they stand for
pub group-terms : (xs qs ss : List Term) (i n : ℕ) → i + n ≤ length xs → length ss + n * length qs ≤ MOST_TERMS
    → length (polynomial_of ss) + length (part_of xs i n) * length (polynomial_of qs) ≤ MOST_TERMS
group-terms xs qs ss i n le h =
    subst (λ m. m + length (part_of xs i n) * length (polynomial_of qs) ≤ MOST_TERMS) (sym (polynomial-length ss))
    (subst (λ m. length ss + m * length (polynomial_of qs) ≤ MOST_TERMS) (sym (part-length xs i n le))
    (subst (λ m. length ss + n * m ≤ MOST_TERMS) (sym (polynomial-length qs)) h))

-- ---- parts within the limits
part-bounded : (xs : List Term) (i n : ℕ) → are_bounded (polynomial_of xs) ≡ true → are_bounded (part_of xs i n) ≡ true
part-bounded xs i zero h = refl
part-bounded [] zero (suc n) h = refl
part-bounded [] (suc i) (suc n) h = refl
part-bounded (x ∷ xs) zero (suc n) h =
    let parts = and_parts (is_bounded x.coef) (are_bounded (polynomial_of xs)) h in
    both_true parts.0 (part-bounded xs 0 n parts.1)
part-bounded (x ∷ xs) (suc i) (suc n) h = part-bounded xs i (suc n) (and_parts (is_bounded x.coef) (are_bounded (polynomial_of xs)) h).1

part-low : (xs : List Term) (i n : ℕ) → all_low (polynomial_of xs) ≡ true → all_low (part_of xs i n) ≡ true
part-low xs i zero h = refl
part-low [] zero (suc n) h = refl
part-low [] (suc i) (suc n) h = refl
part-low (x ∷ xs) zero (suc n) h =
    let parts = and_parts (are_low x.exps) (all_low (polynomial_of xs)) h in
    both_true parts.0 (part-low xs 0 n parts.1)
part-low (x ∷ xs) (suc i) (suc n) h = part-low xs i (suc n) (and_parts (are_low x.exps) (all_low (polynomial_of xs)) h).1

pub part-standard : (xs : List Term) (i n : ℕ) → i + n ≤ length xs → is_standard (polynomial_of xs) ≡ true → is_standard (part_of xs i n) ≡ true
part-standard xs i n le h =
    let w = within-of (polynomial_of xs) h in
    let all = leb-true (length (polynomial_of xs)) MOST_TERMS w.short in
    let long = polynomial-length xs in
    let few = part-length xs i n le in
    standard-of (part_of xs i n) record {
      descending = part-descending MOST_VARIABLES i n xs w.descending;
      bounded = part-bounded xs i n w.bounded;
      low = part-low xs i n w.low;
      short = le-leb (length (part_of xs i n)) MOST_TERMS (omega (arith, all, long, few, le));
    }

-- one term of a part moves out
pub part-step : (out xs : List Term) (i n : ℕ) (t : Term) → i < length xs → t ≡ get_or xs i t → (out ++ t ∷ []) ++ take n (drop (i + 1) xs) ≡ out ++ take (suc n) (drop i xs)
part-step out xs i n t below at = append_assoc out (t ∷ []) (take n (drop (i + 1) xs)) ∙ ap (λ l. out ++ take (suc n) l) (sym (dropped xs i t below at))
