-- A standard list is in order, each entry_of above all that follow.
use Rattle.std.proofs.Common.{◌≡◌, ◌≢◌, [], ◌∷◌, length, true, false, ◌&&◌, refl, sym, ◌∙◌, ap, nat_eq, nat_lt, nat_le}
use Rattle.std.specs.Prelude.{ℤ, pos, unsigned_abs}
use Rattle.std.specs.Ordering.{is_gt}
use Rattle.std.specs.declared.cmp.Ordering.{Ordering}
use Rattle.std.specs.declared.cmp.Ordering.TheVariants.{Less, Equal, Greater}
use Rattle.std.proofs.lemmas.Bool.{eqb-true, and_parts}
use Rattle.poly_model.specs.Polynomial.{Entry, Polynomial, monomial_cmp, IsAbove, IsDescending}
use Rattle.poly_model.proofs.Ordered.{above-lower}
use Rattle.poly_model.specs.declared.limits.TheConstants.{MOST_VARIABLES, MOST_SIZE, MOST_TERMS}
use Rattle.poly_model.specs.Standard.{is_within, is_above, are_descending, are_low, is_standard}

greater : (r : Ordering) → is_gt r ≡ true → r ≡ Greater
greater Less e = absurd (let h : false ≡ true = e in cc)
greater Equal e = absurd (let h : false ≡ true = e in cc)
greater Greater e = refl

some : (c : ℤ) → nat_lt 0 (unsigned_abs c) ≡ true → c ≢ pos 0
some c e h = absurd (let g : false ≡ true = sym (ap (λ z. nat_lt 0 (unsigned_abs z)) h) ∙ e in cc)

above : (e : Entry) (p : Polynomial) → is_above e p ≡ true → IsDescending MOST_VARIABLES p → IsAbove e.0 p
above e [] a h = tt
above e ((f, d) ∷ p) a h = let g = greater (monomial_cmp e.0 f) a in (g, above-lower e.0 f p g h.2)

-- each entry within the limits and above the next: a polynomial in descending order
pub descending : (p : Polynomial) → are_descending p ≡ true → IsDescending MOST_VARIABLES p
descending [] e = tt
descending ((es, c) ∷ p) e =
    let parts = and_parts (is_within (es, c)) _ e in
    let rest = and_parts (is_above (es, c) p) _ parts.1 in
    let tail = descending p rest.1 in
    let head = and_parts (nat_eq (length es) MOST_VARIABLES && (nat_lt 0 (unsigned_abs c) && nat_le (unsigned_abs c) MOST_SIZE)) (are_low es) parts.0 in
    let size = and_parts (nat_eq (length es) MOST_VARIABLES) _ head.0 in
    (eqb-true _ _ size.0, some c (and_parts (nat_lt 0 (unsigned_abs c)) _ size.1).0, above (es, c) p rest.0 tail, tail)

pub standard-descending : (p : Polynomial) → is_standard p ≡ true → IsDescending MOST_VARIABLES p
standard-descending p e = descending p (and_parts (nat_le (length p) MOST_TERMS) _ e).1
