-- Parts of lists, and the product of a part as the sum of those of its halves.
use Rattle.std.proofs.Common.{◌≡◌, ℕ, ◌+◌, ◌-◌, ◌*◌, ◌<◌, ◌≤◌, zero, suc, refl, List, [], ◌∷◌, ◌++◌, length, take, drop, get_or, sym, ◌∙◌, ap, subst, arith, Bool, true, false}
use Rattle.std.specs.Prelude.{ℤ, unsigned_abs}
use Rattle.std.proofs.Math.Nat.{suc-mul}
use Rattle.poly_model.specs.Polynomial.{Polynomial, IsAbove, IsDescending, poly_sum, add_multiple, poly_product}
use Rattle.poly_model.specs.Standard.{entry_of, polynomial_of, are_bounded}
use Rattle.poly_model.specs.Bounded.{multiple}
use Rattle.poly_model.specs.Integers.{integers_ring}
use Rattle.poly_model.specs.declared.term.Term.{Term}
use Rattle.poly_model.specs.declared.limits.TheConstants.{MOST_SIZE}
use Rattle.poly_model.proofs.Merge.{add_none}
use Rattle.poly_model.proofs.Multiple.{descending-multiple, multiple-length}
use Rattle.poly_model.proofs.Ordered.{same_coefficients, descending-sum, descending-product, at_monomial-additive}
use Rattle.poly_model.proofs.Rows.{add_multiple-is}
use Rattle.poly_model.proofs.Sums as sums
use Rattle.polynomials.specs.Sizes.{sizes_of, part_of}
use Rattle.polynomials.proofs.Steps.{map-append, dropped, polynomial-length}
use Rattle.polynomials.proofs.Unlimited.{sizes-sum, sizes-multiple, bounded-sizes, length-sum, sum-times}

-- ---- parts
take-none : (k : ℕ) → ◌≡◌ {A = List Term} (take k []) []
take-none zero = refl
take-none (suc k) = refl

split-take : (h n : ℕ) (xs : List Term) → h ≤ n → take n xs ≡ take h xs ++ take (n - h) (drop h xs)
split-take zero n xs le = ap (λ m. take m xs) (let e : n ≡ n - zero = omega arith in e)
split-take (suc h) zero xs le = absurd (omega arith)
split-take (suc h) (suc n) [] le = sym (take-none (suc n - suc h))
split-take (suc h) (suc n) (x ∷ xs) le =
    ap (λ l. x ∷ l) (split-take h n xs (omega arith)) ∙ ap (λ m. x ∷ (take h xs ++ take m (drop h xs))) (let e : n - h ≡ suc n - suc h = omega arith in e)

pub drop-more : (i h : ℕ) (xs : List Term) → drop (i + h) xs ≡ drop h (drop i xs)
drop-more zero h xs = ap (λ m. drop m xs) (let e : zero + h ≡ h = omega arith in e)
drop-more (suc i) h [] = ap (λ m. drop m []) (let e : suc i + h ≡ suc (i + h) = omega arith in e) ∙ sym (none h)
  where
    none : (k : ℕ) → ◌≡◌ {A = List Term} (drop k []) []
    none zero = refl
    none (suc k) = refl
drop-more (suc i) h (x ∷ xs) = ap (λ m. drop m (x ∷ xs)) (let e : suc i + h ≡ suc (i + h) = omega arith in e) ∙ drop-more i h xs

pub part-split : (xs : List Term) (i h n : ℕ) → h ≤ n → part_of xs i n ≡ part_of xs i h ++ part_of xs (i + h) (n - h)
part-split xs i h n le =
    ap polynomial_of (split-take h n (drop i xs) le) ∙ map-append (take h (drop i xs)) (take (n - h) (drop h (drop i xs)))
    ∙ ap (λ l. part_of xs i h ++ polynomial_of (take (n - h) l)) (sym (drop-more i h xs))

pub part-one : (xs : List Term) (i : ℕ) (t : Term) → i < length xs → t ≡ get_or xs i t → part_of xs i 1 ≡ entry_of t ∷ []
part-one xs i t below at = ap (λ l. polynomial_of (take 1 l)) (dropped xs i t below at)

pub part-all : (xs : List Term) → part_of xs 0 (length xs) ≡ polynomial_of xs
part-all [] = refl
part-all (x ∷ xs) = ap (λ l. entry_of x ∷ l) (part-all xs)

pub part-length : (xs : List Term) (i n : ℕ) → i + n ≤ length xs → length (part_of xs i n) ≡ n
part-length xs zero zero le = refl
part-length [] zero (suc n) le = absurd (omega arith)
part-length (x ∷ xs) zero (suc n) le = ap suc (part-length xs zero n (omega arith))
part-length [] (suc i) zero le = refl
part-length [] (suc i) (suc n) le = absurd (omega arith)
part-length (x ∷ xs) (suc i) n le = part-length xs i n (omega arith)

-- ---- a part is in order
above-take : (es : List ℕ) (n : ℕ) (xs : List Term) → IsAbove es (polynomial_of xs) → IsAbove es (polynomial_of (take n xs))
above-take es zero xs a = tt
above-take es (suc n) [] a = tt
above-take es (suc n) (x ∷ xs) a = (a.0, above-take es n xs a.1)

descending-take : (m n : ℕ) (xs : List Term) → IsDescending m (polynomial_of xs) → IsDescending m (polynomial_of (take n xs))
descending-take m zero xs h = tt
descending-take m (suc n) [] h = tt
descending-take m (suc n) (x ∷ xs) h = (h.0, h.1, above-take x.exps n xs h.2, descending-take m n xs h.3)

descending-drop : (m i : ℕ) (xs : List Term) → IsDescending m (polynomial_of xs) → IsDescending m (polynomial_of (drop i xs))
descending-drop m zero xs h = h
descending-drop m (suc i) [] h = tt
descending-drop m (suc i) (x ∷ xs) h = descending-drop m i xs h.3

pub part-descending : (m i n : ℕ) (xs : List Term) → IsDescending m (polynomial_of xs) → IsDescending m (part_of xs i n)
part-descending m i n xs h = descending-take m n (drop i xs) (descending-drop m i xs h)

-- ---- sizes
sizes-append : (p q : Polynomial) → sizes_of (p ++ q) ≡ sizes_of p + sizes_of q
sizes-append [] q = omega arith
sizes-append ((es, c) ∷ p) q = let h = sizes-append p q in omega (arith, h)

-- the sizes of both halves, times those of the other factor
pub part-sizes : (xs : List Term) (i h n k : ℕ) → h ≤ n
    → sizes_of (part_of xs i n) * k ≡ sizes_of (part_of xs i h) * k + sizes_of (part_of xs (i + h) (n - h)) * k
part-sizes xs i h n k le =
    ap (λ p. sizes_of p * k) (part-split xs i h n le) ∙ ap (λ m. m * k) (sizes-append (part_of xs i h) (part_of xs (i + h) (n - h)))
    ∙ sum-times (sizes_of (part_of xs i h)) (sizes_of (part_of xs (i + h) (n - h))) k

pub sizes-product : (p q : Polynomial) → sizes_of (poly_product p q) ≤ sizes_of p * sizes_of q
sizes-product [] q = omega arith
sizes-product ((es, c) ∷ p) q =
    let first = ap sizes_of (add_multiple-is es c q (poly_product p q)) in
    let both = sizes-sum (multiple es c q) (poly_product p q) in
    let row = sizes-multiple es c q in
    let rest = sizes-product p q in
    let all = sum-times (unsigned_abs c) (sizes_of p) (sizes_of q) in
    omega (arith, first, both, row, rest, all)

pub product-bounded : (p q : Polynomial) → sizes_of p * sizes_of q ≤ MOST_SIZE → are_bounded (poly_product p q) ≡ true
product-bounded p q h = let s = sizes-product p q in bounded-sizes (poly_product p q) (omega (arith, h, s))

-- ---- lengths
pub length-product : (p q : Polynomial) → length (poly_product p q) ≤ length p * length q
length-product [] q = omega arith
length-product ((es, c) ∷ p) q =
    let first = ap length (add_multiple-is es c q (poly_product p q)) in
    let both = length-sum (multiple es c q) (poly_product p q) in
    let row = multiple-length es c q in
    let rest = length-product p q in
    let all = suc-mul (length p) (length q) in
    omega (arith, first, both, row, rest, all)

pub times-split : (h n k : ℕ) → h ≤ n → n * k ≡ h * k + (n - h) * k
times-split h n k le = ap (λ m. m * k) (let e : n ≡ h + (n - h) = omega arith in e) ∙ sum-times h (n - h) k

-- ---- products
pub product-one : (n : ℕ) (es : List ℕ) (c : ℤ) (q : Polynomial) → IsDescending n ((es, c) ∷ []) → IsDescending n q → poly_product ((es, c) ∷ []) q ≡ multiple es c q
product-one n es c q h k = add_multiple-is es c q [] ∙ add_none n (multiple es c q) (descending-multiple n es c q h.0 h.1 k)

pub sum-assoc : (n : ℕ) (p q r : Polynomial) → IsDescending n p → IsDescending n q → IsDescending n r → poly_sum (poly_sum p q) r ≡ poly_sum p (poly_sum q r)
sum-assoc n p q r h k l =
    same_coefficients n (poly_sum (poly_sum p q) r) (poly_sum p (poly_sum q r)) (descending-sum n (poly_sum p q) r (descending-sum n p q h k) l) (descending-sum n p (poly_sum q r) h (descending-sum n q r k l))
    (λ x. sums.same_add_assoc integers_ring (at_monomial-additive x) p q r)

above-front : (es : List ℕ) (p r : Polynomial) → IsAbove es (p ++ r) → IsAbove es p
above-front es [] r a = tt
above-front es ((fs, d) ∷ p) r a = (a.0, above-front es p r a.1)

front : (n : ℕ) (p r : Polynomial) → IsDescending n (p ++ r) → IsDescending n p
front n [] r h = tt
front n ((es, c) ∷ p) r h = (h.0, h.1, above-front es p r h.2, front n p r h.3)

back : (n : ℕ) (p r : Polynomial) → IsDescending n (p ++ r) → IsDescending n r
back n [] r h = h
back n ((es, c) ∷ p) r h = back n p r h.3

pub product-append : (n : ℕ) (p r q : Polynomial) → IsDescending n (p ++ r) → IsDescending n q → poly_product (p ++ r) q ≡ poly_sum (poly_product p q) (poly_product r q)
product-append n [] r q h k = refl
product-append n ((es, c) ∷ p) r q h k =
    let row = multiple es c q in
    let first = poly_product p q in
    let second = poly_product r q in
    ap (add_multiple es c q) (product-append n p r q h.3 k) ∙ add_multiple-is es c q (poly_sum first second)
    ∙ sym (sum-assoc n row first second (descending-multiple n es c q h.0 h.1 k) (descending-product n p q (front n p r h.3) k) (descending-product n r q (back n p r h.3) k))
    ∙ ap (λ s. poly_sum s second) (sym (add_multiple-is es c q first))

pub product-halves : (n : ℕ) (xs : List Term) (q : Polynomial) (i h m : ℕ) → h ≤ m → IsDescending n (polynomial_of xs) → IsDescending n q
    → poly_product (part_of xs i m) q ≡ poly_sum (poly_product (part_of xs i h) q) (poly_product (part_of xs (i + h) (m - h)) q)
product-halves n xs q i h m le d k =
    let split = part-split xs i h m le in
    ap (λ p. poly_product p q) split
    ∙ product-append n (part_of xs i h) (part_of xs (i + h) (m - h)) q (subst (IsDescending n) split (part-descending n i m xs d)) k

-- ---- one row
one-sizes : (xs : List Term) (i n k : ℕ) (t : Term) → i < length xs → t ≡ get_or xs i t → n ≡ 1 → sizes_of (part_of xs i n) * k ≡ unsigned_abs t.coef * k
one-sizes xs i n k t below at e =
    ap (λ m. sizes_of (part_of xs i m) * k) e ∙ ap (λ p. sizes_of p * k) (part-one xs i t below at)
    ∙ ap (λ m. m * k) (let f : unsigned_abs t.coef + 0 ≡ unsigned_abs t.coef = omega arith in f)

pub one-bounded : (xs : List Term) (i n : ℕ) (t : Term) (q : Polynomial) → i < length xs → t ≡ get_or xs i t → n ≡ 1
    → sizes_of (part_of xs i n) * sizes_of q ≤ MOST_SIZE → are_bounded (multiple t.exps t.coef q) ≡ true
one-bounded xs i n t q below at e h =
    let same = one-sizes xs i n (sizes_of q) t below at e in
    let row = sizes-multiple t.exps t.coef q in
    bounded-sizes (multiple t.exps t.coef q) (omega (arith, same, row, h))

pub one-product : (m : ℕ) (xs : List Term) (i n : ℕ) (t : Term) (q : Polynomial) → i < length xs → t ≡ get_or xs i t → n ≡ 1
    → IsDescending m (polynomial_of xs) → IsDescending m q → poly_product (part_of xs i n) q ≡ multiple t.exps t.coef q
one-product m xs i n t q below at e d k =
    let here = part-one xs i t below at in
    ap (λ l. poly_product (part_of xs i l) q) e ∙ ap (λ p. poly_product p q) here
    ∙ product-one m t.exps t.coef q (subst (IsDescending m) here (part-descending m i 1 xs d)) k

-- the list of a product of a part is as short as the part and the other factor allow
pub product-few : (xs new : List Term) (q : Polynomial) (i n : ℕ) → i + n ≤ length xs → polynomial_of new ≡ poly_product (part_of xs i n) q → length new ≤ n * length q
product-few xs new q i n le e =
    let same = polynomial-length new in
    let value = ap length e in
    let few = length-product (part_of xs i n) q in
    let part = ap (λ k. k * length q) (part-length xs i n le) in
    omega (arith, same, value, few, part)

pub clash : (b : Bool) → b ≡ true → b ≡ false → ⊥
clash b p q = let e : true ≡ false = sym p ∙ q in cc

pub none-of : (xs : List Term) → length xs ≡ 0 → polynomial_of xs ≡ []
none-of [] e = refl
none-of (x ∷ xs) e = absurd (omega (arith, e))

pub part-whole : (xs : List Term) (n : ℕ) → n ≡ length xs → part_of xs 0 n ≡ polynomial_of xs
part-whole xs n e = ap (part_of xs 0) e ∙ part-all xs
