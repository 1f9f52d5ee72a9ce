-- Lists of terms change as the definitions say.
use Rattle.std.proofs.Common.{◌≡◌, ◌≢◌, ℕ, ◌<◌, ◌≤◌, zero, suc, List, [], ◌∷◌, ◌++◌, length, get_or, set, refl, sym, ◌∙◌, ap, arith, IsTrue, nat_lt, true, false, Result, Ok, Err, IfOk}
use Rattle.std.specs.Prelude.{ℤ, pos, negsuc, ◌+ℤ◌, ◌*ℤ◌, unsigned_abs}
use Rattle.std.specs.List.{insert, remove}
use Rattle.std.specs.Ordering.{is_lt, is_eq}
use Rattle.std.proofs.lemmas.Bool.Decides.{nat_tests}
use Rattle.std.proofs.lemmas.Nat.Gcd.{mod-eq-zero_of_dvd}
use Prim.Native.Nat.{◌∣◌}
use Rattle.poly_model.proofs.Contents.{gcd-is}
use Rattle.std.specs.declared.cmp.Ordering.{Ordering}
use Rattle.std.specs.declared.cmp.Ordering.TheVariants.{Less, Equal, Greater}
use Rattle.poly_model.specs.declared.term.Term.{Term}
use Rattle.poly_model.specs.Polynomial.{Polynomial, IsDescending, monomial_cmp, with_entry, add_entry, exponents_sum, poly_sum, poly_product, add_multiple}
use Rattle.poly_model.specs.Content.{gcd, coefficients_gcd}
use Rattle.poly_model.specs.Standard.{entry_of, polynomial_of}
use Rattle.algebraize.specs.Terms.{Stops, StandsAt, with_coefficient}

pub with_entry-none : (es : List ℕ) (c : ℤ) (p : Polynomial) → c ≡ pos 0 → with_entry es c p ≡ p
with_entry-none es (pos zero) p e = refl
with_entry-none es (pos (suc n)) p e = cc
with_entry-none es (negsuc n) p e = cc

pub with_entry-some : (es : List ℕ) (c : ℤ) (p : Polynomial) → c ≢ pos 0 → with_entry es c p ≡ (es, c) ∷ p
with_entry-some es (pos zero) p n = absurd (n refl)
with_entry-some es (pos (suc k)) p n = refl
with_entry-some es (negsuc k) p n = refl

not_less : (r : Ordering) → r ≢ Less → r ≢ Equal → r ≡ Greater
not_less Less n m = absurd (n refl)
not_less Equal n m = absurd (m refl)
not_less Greater n m = refl

-- what the comparison of the monomials decides
abbrev added : List ℕ → ℤ → List ℕ → ℤ → Polynomial → Ordering → Polynomial
added es c fs d p Less = (fs, d) ∷ add_entry es c p
added es c fs d p Equal = with_entry fs (c +ℤ d) p
added es c fs d p Greater = with_entry es c ((fs, d) ∷ p)

-- behind a term that is above, an entry is added to the rest
pub add_entry-less : (es : List ℕ) (c : ℤ) (fs : List ℕ) (d : ℤ) (p : Polynomial) → monomial_cmp es fs ≡ Less → add_entry es c ((fs, d) ∷ p) ≡ (fs, d) ∷ add_entry es c p
add_entry-less es c fs d p e = ap (added es c fs d p) e

pub add_entry-equal : (es : List ℕ) (c : ℤ) (fs : List ℕ) (d : ℤ) (p : Polynomial) → monomial_cmp es fs ≡ Equal → add_entry es c ((fs, d) ∷ p) ≡ with_entry fs (c +ℤ d) p
add_entry-equal es c fs d p e = ap (added es c fs d p) e

pub add_entry-greater : (es : List ℕ) (c : ℤ) (fs : List ℕ) (d : ℤ) (p : Polynomial) → monomial_cmp es fs ≡ Greater → add_entry es c ((fs, d) ∷ p) ≡ with_entry es c ((fs, d) ∷ p)
add_entry-greater es c fs d p e = ap (added es c fs d p) e

-- The coefficients cancel.
pub removed : (c : ℤ) (ts : List Term) (i : ℕ) (t : Term) → i < length ts → t ≡ get_or ts i t → c +ℤ t.coef ≡ pos 0
    → polynomial_of (remove ts i) ≡ with_coefficient (polynomial_of ts) i c
removed c [] i t below is none = absurd (omega arith)
removed c (x ∷ ts) zero t below is none = sym (with_entry-none x.exps (c +ℤ x.coef) (polynomial_of ts) (ap (λ (y : Term). c +ℤ y.coef) (sym is) ∙ none))
removed c (x ∷ ts) (suc i) t below is none = ap (λ p. entry_of x ∷ p) (removed c ts i t (omega arith) is none)

-- The coefficients have another sum.
pub changed : (c : ℤ) (ts : List Term) (i : ℕ) (t u : Term) → i < length ts → t ≡ get_or ts i t → c +ℤ t.coef ≢ pos 0 → u.exps ≡ t.exps → u.coef ≡ c +ℤ t.coef
    → polynomial_of (set ts i u) ≡ with_coefficient (polynomial_of ts) i c
changed c [] i t u below is some same sum = absurd (omega arith)
changed c (x ∷ ts) zero t u below is some same sum =
    (λ j. (same j, sum j) ∷ polynomial_of ts) ∙ (λ j. ((is j).exps, c +ℤ (is j).coef) ∷ polynomial_of ts)
    ∙ sym (with_entry-some x.exps (c +ℤ x.coef) (polynomial_of ts) (λ e. some (ap (λ (y : Term). c +ℤ y.coef) is ∙ e)))
changed c (x ∷ ts) (suc i) t u below is some same sum = ap (λ p. entry_of x ∷ p) (changed c ts i t u (omega arith) is some same sum)

-- The entry's monomial stands at the place.
pub combined : (es : List ℕ) (c : ℤ) (ts : List Term) (i : ℕ) → Stops es ts i → StandsAt es ts i → with_coefficient (polynomial_of ts) i c ≡ add_entry es c (polynomial_of ts)
combined es c [] i stops stands = absurd stands
combined es c (x ∷ ts) zero stops stands = sym (add_entry-equal es c x.exps x.coef (polynomial_of ts) stands)
combined es c (x ∷ ts) (suc i) stops stands =
    ap (λ p. entry_of x ∷ p) (combined es c ts i stops.1 stands) ∙ sym (add_entry-less es c x.exps x.coef (polynomial_of ts) stops.0)

-- No term has the monomial, and the new term stands at the place.
pub inserted : (es : List ℕ) (c : ℤ) (ts : List Term) (i : ℕ) (u : Term) → Stops es ts i → (StandsAt es ts i → ⊥) → c ≢ pos 0 → u.exps ≡ es → u.coef ≡ c
    → polynomial_of (insert ts i u) ≡ add_entry es c (polynomial_of ts)
inserted es c [] zero u stops other some same coef = (λ j. (same j, coef j) ∷ []) ∙ sym (with_entry-some es c [] some)
inserted es c [] (suc i) u stops other some same coef = absurd stops
inserted es c (x ∷ ts) zero u stops other some same coef =
    (λ j. (same j, coef j) ∷ polynomial_of (x ∷ ts))
    ∙ sym (add_entry-greater es c x.exps x.coef (polynomial_of ts) (not_less (monomial_cmp es x.exps) stops other) ∙ with_entry-some es c (polynomial_of (x ∷ ts)) some)
inserted es c (x ∷ ts) (suc i) u stops other some same coef =
    ap (λ p. entry_of x ∷ p) (inserted es c ts i u stops.1 other some same coef)
    ∙ sym (add_entry-less es c x.exps x.coef (polynomial_of ts) stops.0)

-- No term has the monomial, and the coefficient is 0.
pub kept : (es : List ℕ) (c : ℤ) (ts : List Term) (i : ℕ) → Stops es ts i → (StandsAt es ts i → ⊥) → c ≡ pos 0 → polynomial_of ts ≡ add_entry es c (polynomial_of ts)
kept es c [] zero stops other none = sym (with_entry-none es c [] none)
kept es c [] (suc i) stops other none = absurd stops
kept es c (x ∷ ts) zero stops other none =
    sym (add_entry-greater es c x.exps x.coef (polynomial_of ts) (not_less (monomial_cmp es x.exps) stops other) ∙ with_entry-none es c (polynomial_of (x ∷ ts)) none)
kept es c (x ∷ ts) (suc i) stops other none =
    ap (λ p. entry_of x ∷ p) (kept es c ts i stops.1 other none)
    ∙ sym (add_entry-less es c x.exps x.coef (polynomial_of ts) stops.0)

pub stands-here : (es : List ℕ) (ts : List Term) (i : ℕ) (d : Term) → i < length ts → monomial_cmp es (get_or ts i d).exps ≡ Equal → StandsAt es ts i
stands-here es [] i d below equal = absurd (omega arith)
stands-here es (x ∷ ts) zero d below equal = equal
stands-here es (x ∷ ts) (suc i) d below equal = stands-here es ts i d (omega arith) equal

pub equal-here : (es : List ℕ) (ts : List Term) (i : ℕ) (d : Term) → StandsAt es ts i → monomial_cmp es (get_or ts i d).exps ≡ Equal
equal-here es [] i d stands = absurd stands
equal-here es (x ∷ ts) zero d stands = stands
equal-here es (x ∷ ts) (suc i) d stands = equal-here es ts i d stands

pub stands-below : (es : List ℕ) (ts : List Term) (i : ℕ) → StandsAt es ts i → i < length ts
stands-below es [] i stands = absurd stands
stands-below es (x ∷ ts) zero stands = omega arith
stands-below es (x ∷ ts) (suc i) stands = omega (arith, stands-below es ts i stands)

pub not-below : (a b : ℕ) → b ≤ a → IsTrue (nat_lt a b) → ⊥
not-below a b le t = grind (arith, nat_tests)

-- The last entry is added first.
pub poly_sum-last : (p : List Term) (t : Term) (q : Polynomial) → poly_sum (polynomial_of (p ++ t ∷ [])) q ≡ poly_sum (polynomial_of p) (add_entry t.exps t.coef q)
poly_sum-last [] t q = refl
poly_sum-last (x ∷ p) t q = ap (add_entry x.exps x.coef) (poly_sum-last p t q)

-- The product of p and q, added to r: the entries of p from the last on.
abbrev pub multiples : Polynomial → Polynomial → Polynomial → Polynomial
multiples [] q r = r
multiples ((es, c) ∷ p) q r = add_multiple es c q (multiples p q r)

pub multiples-none : (p q : Polynomial) → multiples p q [] ≡ poly_product p q
multiples-none [] q = refl
multiples-none ((es, c) ∷ p) q = ap (add_multiple es c q) (multiples-none p q)

pub multiples-last : (p : List Term) (t : Term) (q r : Polynomial) → multiples (polynomial_of (p ++ t ∷ [])) q r ≡ multiples (polynomial_of p) q (add_multiple t.exps t.coef q r)
multiples-last [] t q r = refl
multiples-last (x ∷ p) t q r = ap (add_multiple x.exps x.coef q) (multiples-last p t q r)

pub add_multiple-last : (es : List ℕ) (c : ℤ) (q : List Term) (t : Term) (r : Polynomial)
    → add_multiple es c (polynomial_of (q ++ t ∷ [])) r ≡ add_multiple es c (polynomial_of q) (add_entry (exponents_sum es t.exps) (c *ℤ t.coef) r)
add_multiple-last es c [] t r = refl
add_multiple-last es c (x ∷ q) t r = ap (add_entry (exponents_sum es x.exps) (c *ℤ x.coef)) (add_multiple-last es c q t r)

-- The greatest common divisor of the coefficients and of g.
abbrev pub gcd_with : Polynomial → ℕ → ℕ
gcd_with [] g = g
gcd_with ((es, c) ∷ p) g = gcd (unsigned_abs c) (gcd_with p g)

pub gcd_with-none : (p : Polynomial) → gcd_with p 0 ≡ coefficients_gcd p
gcd_with-none [] = refl
gcd_with-none ((es, c) ∷ p) = ap (gcd (unsigned_abs c)) (gcd_with-none p)

pub gcd_with-last : (p : List Term) (t : Term) (g : ℕ) → gcd_with (polynomial_of (p ++ t ∷ [])) g ≡ gcd_with (polynomial_of p) (gcd (unsigned_abs t.coef) g)
gcd_with-last [] t g = refl
gcd_with-last (x ∷ p) t g = ap (gcd (unsigned_abs x.coef)) (gcd_with-last p t g)

-- The first i terms are above the monomial.
abbrev pub AreAbove : List ℕ → List Term → ℕ → Type 0
AreAbove es ts zero = Unit {0}
AreAbove es [] (suc i) = ⊥
AreAbove es (t ∷ ts) (suc i) = (monomial_cmp es t.exps ≡ Less) × AreAbove es ts i

pub one_more : (es : List ℕ) (ts : List Term) (i : ℕ) (d : Term) → AreAbove es ts i → i < length ts → monomial_cmp es (get_or ts i d).exps ≡ Less → AreAbove es ts (suc i)
one_more es [] i d above below less = absurd (omega arith)
one_more es (t ∷ ts) zero d above below less = (less, tt)
one_more es (t ∷ ts) (suc i) d above below less = (above.0, one_more es ts i d above.1 (omega arith) less)

pub stops-end : (es : List ℕ) (ts : List Term) (i : ℕ) → AreAbove es ts i → length ts ≤ i → Stops es ts i
stops-end es [] zero above end = tt
stops-end es [] (suc i) above end = above
stops-end es (t ∷ ts) zero above end = absurd (omega arith)
stops-end es (t ∷ ts) (suc i) above end = (above.0, stops-end es ts i above.1 (omega arith))

pub stops-here : (es : List ℕ) (ts : List Term) (i : ℕ) (d : Term) → AreAbove es ts i → i < length ts → monomial_cmp es (get_or ts i d).exps ≢ Less → Stops es ts i
stops-here es [] i d above below other = absurd (omega arith)
stops-here es (t ∷ ts) zero d above below other = other
stops-here es (t ∷ ts) (suc i) d above below other = (above.0, stops-here es ts i d above.1 (omega arith) other)

pub less-from : (r : Ordering) → is_lt r ≡ true → r ≡ Less
less-from Less e = refl
less-from Equal e = absurd (let h : false ≡ true = e in cc)
less-from Greater e = absurd (let h : false ≡ true = e in cc)

pub not-less-from : (r : Ordering) → is_lt r ≡ false → r ≢ Less
not-less-from Less e n = let h : true ≡ false = e in cc
not-less-from Equal e n = cc
not-less-from Greater e n = cc

pub equal-from : (r : Ordering) → is_eq r ≡ true → r ≡ Equal
equal-from Less e = absurd (let h : false ≡ true = e in cc)
equal-from Equal e = refl
equal-from Greater e = absurd (let h : false ≡ true = e in cc)

-- the item at a place, whatever stands for a missing one
pub same-item : (ts : List Term) (i : ℕ) (t u : Term) → i < length ts → t ≡ get_or ts i t → u ≡ get_or ts i u → t ≡ u
same-item [] i t u below p q = absurd (omega arith)
same-item (x ∷ ts) zero t u below p q = p ∙ sym q
same-item (x ∷ ts) (suc i) t u below p q = same-item ts i t u (omega arith) p q

pub divisor-positive : (n : ℕ) (ts rest : List Term) (x : Term) → IsDescending n (polynomial_of ts) → ts ≡ x ∷ rest → 0 < coefficients_gcd (polynomial_of ts)
divisor-positive n [] rest x h e = cc
divisor-positive n (y ∷ ts) rest x h e =
    let g = gcd-is (unsigned_abs y.coef) (coefficients_gcd (polynomial_of ts)) in
    positive (unsigned_abs y.coef) (gcd (unsigned_abs y.coef) (coefficients_gcd (polynomial_of ts))) (some y.coef h.1) g.0
  where
    some : (c : ℤ) → c ≢ pos 0 → 0 < unsigned_abs c
    some (pos zero) n = absurd (n refl)
    some (pos (suc k)) n = omega arith
    some (negsuc k) n = omega arith

    positive : (a g : ℕ) → 0 < a → g ∣ a → 0 < g
    positive a zero lt d = absurd (omega (arith, mod-eq-zero_of_dvd 0 d))
    positive a (suc g) lt d = omega arith

pub above-length : (es : List ℕ) (ts : List Term) (i : ℕ) → AreAbove es ts i → i ≤ length ts
above-length es ts zero above = omega arith
above-length es [] (suc i) above = absurd above
above-length es (t ∷ ts) (suc i) above = omega (arith, above-length es ts i above.1)

-- what holds of a result holds of what follows
pub if_ok : {T E : Type 0} {P Q : T → Type 0} (r : Result T E) → ((x : T) → P x → Q x) → IfOk r P → IfOk r Q
if_ok (Ok x) f p = f x p
if_ok (Err e) f p = tt
