-- A sum of two polynomials in order, by their first entries.
use Rattle.std.proofs.Common.{◌≡◌, ◌≢◌, ℕ, zero, suc, refl, List, [], ◌∷◌, sym, ◌∙◌, ap, subst}
use Rattle.std.specs.Prelude.{ℤ, pos, negsuc, ◌+ℤ◌}
use Rattle.std.specs.declared.cmp.Ordering.TheVariants.{Less, Equal, Greater}
use Rattle.poly_model.specs.Polynomial.{Polynomial, IsAbove, IsDescending, monomial_cmp, with_entry, add_entry, poly_sum}
use Rattle.poly_model.specs.Values.{monomial_cmp-same, monomial_cmp-self}
use Rattle.poly_model.proofs.Order.{monomial_cmp-flip, monomial_cmp-trans}
use Rattle.poly_model.proofs.Ordered.{above-lower, above-add_entry}

pub with_some : (e : List ℕ) (c : ℤ) (p : Polynomial) → c ≢ pos 0 → with_entry e c p ≡ (e, c) ∷ p
with_some e (pos zero) p n = absurd (n refl)
with_some e (pos (suc k)) p n = refl
with_some e (negsuc k) p n = refl

pub put_top : (e : List ℕ) (c : ℤ) (p : Polynomial) → IsAbove e p → add_entry e c p ≡ with_entry e c p
put_top e c [] b = refl
put_top e c ((f, d) ∷ p) b = ap (λ r. elim r as (λ _. Polynomial) [ Less ↦ (f, d) ∷ add_entry e c p | Equal ↦ with_entry f (c +ℤ d) p | Greater ↦ with_entry e c ((f, d) ∷ p) ]) b.0

below_add : (g : List ℕ) (p q : Polynomial) → IsAbove g p → IsAbove g q → IsAbove g (poly_sum p q)
below_add g [] q b k = k
below_add g ((e, c) ∷ p) q b k = above-add_entry g e c (poly_sum p q) b.0 (below_add g p q b.1 k)

-- an entry above all of p comes first
add_under : (f : List ℕ) (d : ℤ) (p q : Polynomial) → IsAbove f p → poly_sum p ((f, d) ∷ q) ≡ (f, d) ∷ poly_sum p q
add_under f d [] q b = refl
add_under f d ((e, c) ∷ p) q b =
    ap (add_entry e c) (add_under f d p q b.1)
    ∙ ap (λ r. elim r as (λ _. Polynomial) [ Less ↦ (f, d) ∷ add_entry e c (poly_sum p q) | Equal ↦ with_entry f (c +ℤ d) (poly_sum p q) | Greater ↦ with_entry e c ((f, d) ∷ poly_sum p q) ]) (lower e f b.0)
  where
    lower : (e f : List ℕ) → monomial_cmp f e ≡ Greater → monomial_cmp e f ≡ Less
    lower e f h =
        elim (monomial_cmp e f) as (λ r. monomial_cmp e f ≡ r → r ≡ Less) [
          | Less ↦ λ q. refl
          | Equal ↦ λ q. absurd (let k : Equal ≡ Greater = sym (monomial_cmp-self e) ∙ ap (λ g. monomial_cmp g e) (monomial_cmp-same e f q) ∙ h in cc)
          | Greater ↦ λ q. absurd (let k : Equal ≡ Greater = sym (monomial_cmp-self e) ∙ monomial_cmp-trans e f e q h in cc)
        ] refl

pub add_greater : (n : ℕ) (e f : List ℕ) (c d : ℤ) (p q : Polynomial) → IsDescending n ((e, c) ∷ p) → IsDescending n ((f, d) ∷ q) → monomial_cmp e f ≡ Greater
    → poly_sum ((e, c) ∷ p) ((f, d) ∷ q) ≡ (e, c) ∷ poly_sum p ((f, d) ∷ q)
add_greater n e f c d p q h k g =
    put_top e c (poly_sum p ((f, d) ∷ q)) (below_add e p ((f, d) ∷ q) h.2 (g, above-lower e f q g k.2)) ∙ with_some e c _ h.1

pub add_less : (n : ℕ) (e f : List ℕ) (c d : ℤ) (p q : Polynomial) → IsDescending n ((e, c) ∷ p) → monomial_cmp e f ≡ Less
    → poly_sum ((e, c) ∷ p) ((f, d) ∷ q) ≡ (f, d) ∷ poly_sum ((e, c) ∷ p) q
add_less n e f c d p q h g =
    let above = monomial_cmp-flip e f g in
    add_under f d ((e, c) ∷ p) q (above, above-lower f e p above h.2)

pub add_equal : (n : ℕ) (e f : List ℕ) (c d : ℤ) (p q : Polynomial) → IsDescending n ((e, c) ∷ p) → monomial_cmp e f ≡ Equal
    → poly_sum ((e, c) ∷ p) ((f, d) ∷ q) ≡ with_entry f (c +ℤ d) (poly_sum p q)
add_equal n e f c d p q h g =
    ap (add_entry e c) (add_under f d p q (subst (λ x. IsAbove x p) (monomial_cmp-same e f g) h.2))
    ∙ ap (λ r. elim r as (λ _. Polynomial) [ Less ↦ (f, d) ∷ add_entry e c (poly_sum p q) | Equal ↦ with_entry f (c +ℤ d) (poly_sum p q) | Greater ↦ with_entry e c ((f, d) ∷ poly_sum p q) ]) g

pub add_none : (n : ℕ) (p : Polynomial) → IsDescending n p → poly_sum p [] ≡ p
add_none n [] h = refl
add_none n ((e, c) ∷ p) h = ap (add_entry e c) (add_none n p h.3) ∙ put_top e c p h.2 ∙ with_some e c p h.1
