-- What arithmetic gives has no other variables than its operands.
use Rattle.std.proofs.Common.{◌≡◌, ℕ, ◌+◌, ◌-◌, ◌<◌, ◌≤◌, zero, suc, List, [], ◌∷◌, drop, get_or, set, refl, sym, ◌∙◌, ap, arith, Bool, true, false, ◌&&◌, cond, inl, inr, ◌⊎◌}
use Rattle.std.specs.Prelude.{ℤ, pos, negsuc, ◌+ℤ◌, ◌*ℤ◌, ◌==◌, nat_eq, nat_le}
use Rattle.std.specs.List.{list_all}
use Rattle.std.specs.Cmp.Derive.{both_true}
use Rattle.std.proofs.lemmas.Bool.{and_parts, eqb-true, leb-true, le-leb}
use Rattle.std.specs.declared.cmp.Ordering.TheVariants.{Less, Equal, Greater}
use Rattle.poly_model.specs.Polynomial.{Polynomial, is_over, monomial_cmp, exponents_sum, with_entry, add_entry, add_multiple, poly_sum, poly_negative, poly_difference, poly_product}
use Rattle.poly_model.specs.Content.{primitive_part, entries_divided, begins_negative, coefficients_gcd}
use Rattle.poly_model.specs.Reduction.{degree_at, coefficient_at, without_degree, shifted, main_place, main_degree, initial_of, factor_of, cross_difference, reduction_of}

-- The monomial has none but the first n variables.
abbrev pub are_over : ℕ → List ℕ → Bool
are_over n es = list_all (λ e. nat_eq e 0) (drop n es)

over-sum : (n : ℕ) (es fs : List ℕ) → are_over n es ≡ true → are_over n fs ≡ true → are_over n (exponents_sum es fs) ≡ true
over-sum zero [] fs a b = b
over-sum zero (e ∷ es) [] a b = a
over-sum zero (e ∷ es) (f ∷ fs) a b =
    let p = and_parts (nat_eq e 0) (are_over 0 es) a in
    let q = and_parts (nat_eq f 0) (are_over 0 fs) b in
    both_true ((λ i. nat_eq (eqb-true e 0 p.0 i + eqb-true f 0 q.0 i) 0)) (over-sum zero es fs p.1 q.1)
over-sum (suc n) [] fs a b = b
over-sum (suc n) (e ∷ es) [] a b = a
over-sum (suc n) (e ∷ es) (f ∷ fs) a b = over-sum n es fs a b

over-with_entry : (n : ℕ) (es : List ℕ) (c : ℤ) (p : Polynomial) → are_over n es ≡ true → is_over n p ≡ true → is_over n (with_entry es c p) ≡ true
over-with_entry n es (pos zero) p a b = b
over-with_entry n es (pos (suc k)) p a b = both_true a b
over-with_entry n es (negsuc k) p a b = both_true a b

over-add_entry : (n : ℕ) (es : List ℕ) (c : ℤ) (p : Polynomial) → are_over n es ≡ true → is_over n p ≡ true → is_over n (add_entry es c p) ≡ true
over-add_entry n es c [] a b = over-with_entry n es c [] a refl
over-add_entry n es c ((fs, d) ∷ p) a b =
    let parts = and_parts (are_over n fs) (is_over n p) b in
    elim (monomial_cmp es fs) as (λ r. is_over n (elim r [ Less ↦ (fs, d) ∷ add_entry es c p | Equal ↦ with_entry fs (c +ℤ d) p | Greater ↦ with_entry es c ((fs, d) ∷ p) ]) ≡ true) [
      | Less ↦ both_true parts.0 (over-add_entry n es c p a parts.1)
      | Equal ↦ over-with_entry n fs (c +ℤ d) p parts.0 parts.1
      | Greater ↦ over-with_entry n es c ((fs, d) ∷ p) a b
    ]

pub over-poly_sum : (n : ℕ) (p q : Polynomial) → is_over n p ≡ true → is_over n q ≡ true → is_over n (poly_sum p q) ≡ true
over-poly_sum n [] q a b = b
over-poly_sum n ((es, c) ∷ p) q a b =
    let parts = and_parts (are_over n es) (is_over n p) a in
    over-add_entry n es c (poly_sum p q) parts.0 (over-poly_sum n p q parts.1 b)

over-negative : (n : ℕ) (p : Polynomial) → is_over n (poly_negative p) ≡ is_over n p
over-negative n [] = refl
over-negative n ((es, c) ∷ p) = ap (λ b. are_over n es && b) (over-negative n p)

pub over-difference : (n : ℕ) (p q : Polynomial) → is_over n p ≡ true → is_over n q ≡ true → is_over n (poly_difference p q) ≡ true
over-difference n p q a b = over-poly_sum n p (poly_negative q) a (over-negative n q ∙ b)

over-add_multiple : (n : ℕ) (es : List ℕ) (c : ℤ) (q r : Polynomial) → are_over n es ≡ true → is_over n q ≡ true → is_over n r ≡ true → is_over n (add_multiple es c q r) ≡ true
over-add_multiple n es c [] r a b h = h
over-add_multiple n es c ((fs, d) ∷ q) r a b h =
    let parts = and_parts (are_over n fs) (is_over n q) b in
    over-add_entry n (exponents_sum es fs) (c *ℤ d) (add_multiple es c q r) (over-sum n es fs a parts.0) (over-add_multiple n es c q r a parts.1 h)

pub over-product : (n : ℕ) (p q : Polynomial) → is_over n p ≡ true → is_over n q ≡ true → is_over n (poly_product p q) ≡ true
over-product n [] q a b = refl
over-product n ((es, c) ∷ p) q a b =
    let parts = and_parts (are_over n es) (is_over n p) a in
    over-add_multiple n es c q (poly_product p q) parts.0 b (over-product n p q parts.1 b)

over-divided : (n : ℕ) (t : Bool) (m : ℕ) (p : Polynomial) → is_over n (entries_divided t m p) ≡ is_over n p
over-divided n t m [] = refl
over-divided n t m ((es, c) ∷ p) = ap (λ b. are_over n es && b) (over-divided n t m p)

pub over-primitive_part : (n : ℕ) (p : Polynomial) → is_over n (primitive_part p) ≡ is_over n p
over-primitive_part n p = over-divided n (begins_negative p) (coefficients_gcd p) p

-- ---- parts
over-cleared : (n i : ℕ) (es : List ℕ) → are_over n es ≡ true → are_over n (set es i 0) ≡ true
over-cleared n i [] a = a
over-cleared zero zero (e ∷ es) a = both_true refl (and_parts (nat_eq e 0) (are_over 0 es) a).1
over-cleared zero (suc i) (e ∷ es) a =
    let parts = and_parts (nat_eq e 0) (are_over 0 es) a in both_true parts.0 (over-cleared zero i es parts.1)
over-cleared (suc n) zero (e ∷ es) a = a
over-cleared (suc n) (suc i) (e ∷ es) a = over-cleared n i es a

pub over-set : (n i k : ℕ) (es : List ℕ) → i < n → are_over n es ≡ true → are_over n (set es i k) ≡ true
over-set zero i k es below a = absurd (omega (arith, below))
over-set (suc n) i k [] below a = a
over-set (suc n) zero k (e ∷ es) below a = a
over-set (suc n) (suc i) k (e ∷ es) below a = over-set n i k es (omega (arith, below)) a

pub none-at : (n i : ℕ) (es : List ℕ) → n ≤ i → are_over n es ≡ true → ◌≡◌ {A = ℕ} (get_or es i 0) 0
none-at n i [] le a = refl
none-at zero zero (e ∷ es) le a = eqb-true e 0 (and_parts (nat_eq e 0) (are_over 0 es) a).0
none-at zero (suc i) (e ∷ es) le a = none-at zero i es (omega arith) (and_parts (nat_eq e 0) (are_over 0 es) a).1
none-at (suc n) zero (e ∷ es) le a = absurd (omega (arith, le))
none-at (suc n) (suc i) (e ∷ es) le a = none-at n i es (omega (arith, le)) a

pub over-coefficient : (n i d : ℕ) (p : Polynomial) → is_over n p ≡ true → is_over n (coefficient_at i d p) ≡ true
over-coefficient n i d [] a = refl
over-coefficient n i d ((es, c) ∷ p) a =
    let parts = and_parts (are_over n es) (is_over n p) a in
    elim (get_or es i 0 == d) as (λ b. is_over n (cond b ((set es i 0, c) ∷ coefficient_at i d p) (coefficient_at i d p)) ≡ true) [
      | true ↦ both_true (over-cleared n i es parts.0) (over-coefficient n i d p parts.1)
      | false ↦ over-coefficient n i d p parts.1
    ]

pub over-without : (n i d : ℕ) (p : Polynomial) → is_over n p ≡ true → is_over n (without_degree i d p) ≡ true
over-without n i d [] a = refl
over-without n i d ((es, c) ∷ p) a =
    let parts = and_parts (are_over n es) (is_over n p) a in
    elim (get_or es i 0 == d) as (λ b. is_over n (cond b (without_degree i d p) ((es, c) ∷ without_degree i d p)) ≡ true) [
      | true ↦ over-without n i d p parts.1
      | false ↦ both_true parts.0 (over-without n i d p parts.1)
    ]

-- Variables past the first n have degree 0.
degree-over : (n i : ℕ) (p : Polynomial) → n ≤ i → is_over n p ≡ true → ◌≡◌ {A = ℕ} (degree_at i p) 0
degree-over n i [] le a = refl
degree-over n i ((es, c) ∷ p) le a =
    let parts = and_parts (are_over n es) (is_over n p) a in
    let f = none-at n i es le parts.0 in
    let r = degree-over n i p le parts.1 in
    omega (arith, f, r)

over-raised : (n i k : ℕ) (es : List ℕ) → (i < n) ⊎ ((n ≤ i) × (k ≡ 0)) → are_over n es ≡ true → are_over n (set es i (get_or es i 0 + k)) ≡ true
over-raised n i k es (inl below) a = over-set n i _ es below a
over-raised n i k es (inr h) a =
    let e : get_or es i 0 + k ≡ 0 = let z = none-at n i es h.0 a in let y = h.1 in omega (arith, z, y) in
    ap (λ m. are_over n (set es i m)) e ∙ over-cleared n i es a

over-shifted : (n i k : ℕ) (p : Polynomial) → (i < n) ⊎ ((n ≤ i) × (k ≡ 0)) → is_over n p ≡ true → is_over n (shifted i k p) ≡ true
over-shifted n i k [] h a = refl
over-shifted n i k ((es, c) ∷ p) h a =
    let parts = and_parts (are_over n es) (is_over n p) a in both_true (over-raised n i k es h parts.0) (over-shifted n i k p h parts.1)

pub over-initial : (n : ℕ) (f : Polynomial) → is_over n f ≡ true → is_over n (initial_of f) ≡ true
over-initial n f a = over-coefficient n (main_place f) (main_degree f) f a

pub over-factor : (n : ℕ) (g f : Polynomial) → is_over n g ≡ true → is_over n (factor_of g f) ≡ true
over-factor n g f a =
    let i = main_place f in
    let e = degree_at i g in
    over-shifted n i (e - main_degree f) (coefficient_at i e g)
    (elim (nat_le n i) as (λ b. nat_le n i ≡ b → (i < n) ⊎ ((n ≤ i) × (e - main_degree f ≡ 0))) [
      | true ↦ λ t. let le = leb-true n i t in inr (le, let z = degree-over n i g le a in omega (arith, z))
      | false ↦ λ t. inl (below n i t)
    ] refl)
    (over-coefficient n i e g a)
  where
    below : (n i : ℕ) → nat_le n i ≡ false → i < n
    below n i t = elim (le_or n i) [ inl le ↦ absurd (let h : true ≡ false = sym (le-leb n i le) ∙ t in cc) | inr lt ↦ lt ]
      where
        le_or : (n i : ℕ) → (n ≤ i) ⊎ (i < n)
        le_or zero i = inl (omega arith)
        le_or (suc n) zero = inr (omega arith)
        le_or (suc n) (suc i) = elim (le_or n i) [ inl h ↦ inl (omega (arith, h)) | inr h ↦ inr (omega (arith, h)) ]

pub over-reduction : (n : ℕ) (g f : Polynomial) → is_over n g ≡ true → is_over n f ≡ true → is_over n (reduction_of g f).1 ≡ true
over-reduction n g f a b =
    over-primitive_part n (cross_difference g f)
    ∙ over-difference n _ _ (over-product n _ _ (over-initial n f b) a) (over-product n _ _ (over-factor n g f a) b)
