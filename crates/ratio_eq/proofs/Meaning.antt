-- What the conclusion of an equality means.
use Rattle.std.proofs.Common.{◌≡◌, List, [], ◌∷◌, ◌++◌, map, refl, sym, ◌∙◌, ap, true, false, cond, inl, inr, ◌⊎◌}
use Rattle.std.specs.Prelude.{◌↔◌, pos}
use Rattle.std.proofs.lemmas.Bool.{or_cases}
use Rattle.poly_model.specs.Domain.{Operations, IsDomain}
use Rattle.poly_model.specs.Ring as ring
use Rattle.poly_model.specs.Polynomial.{Polynomial, value_at, poly_product}
use Rattle.poly_model.specs.Values as values
use Rattle.poly_model.specs.Content.{primitive_part}
use Rattle.poly_model.specs.Reduction.{same, has_polynomial}
use Rattle.poly_model.specs.Equality.{same-is}
use Rattle.poly_model.specs.declared.limits.TheConstants.{MOST_VARIABLES}
use Rattle.poly_model.proofs.Contents.{primitive_part-zero}
use Rattle.ratio_eq.specs.Fractions.{polynomials, fraction_of, squares_of, cross_of, SomeZero, with_new, once_behind, parts_once, product_onto}
use Rattle.ratio_eq.specs.Laws.{ConclusionsMean}
use Rattle.ratio_eq.proofs.Kept as keeps
use Rattle.ratio_eq.proofs.Kept.{IsKept}

module _ {M : Type 0} {o : Operations M} (L : IsDomain o) (point : List M) where
  abbrev v : Polynomial → M
  v p = value_at o p point

  abbrev HasValue : Polynomial → M → Type 0
  HasValue p m = value_at o p point ≡ m

  kept : IsKept polynomials o HasValue
  kept = record {
    zero = refl;
    one = values.value_at-constant L.ring MOST_VARIABLES (pos 1) point ∙ L.ring.add_zero o.one;
    add = λ a b c d p q. values.value_at-sum L.ring a b point ∙ (λ i. o.add (p i) (q i));
    mul = λ a b c d p q. values.value_at-product L.ring a b point ∙ (λ i. o.mul (p i) (q i));
    neg = λ a c p. values.value_at-negative L.ring a point ∙ ap o.neg p;
  }

  -- Some polynomial of a list is zero at the point.
  abbrev SomeAt : List Polynomial → Type 0
  SomeAt [] = ⊥
  SomeAt (p ∷ ps) = (v p ≡ o.zero) ⊎ SomeAt ps

  some-values : (ps : List Polynomial) (xs : List M) → keeps.AllKept kept ps xs → SomeAt ps ↔ SomeZero o xs
  some-values [] [] h = ((λ z. z), (λ z. z))
  some-values [] (x ∷ xs) h = absurd h
  some-values (p ∷ ps) [] h = absurd h
  some-values (p ∷ ps) (x ∷ xs) h =
      let k = some-values ps xs h.1 in
      ((λ s. elim s [ inl z ↦ inl (sym h.0 ∙ z) | inr w ↦ inr (k.0 w) ]), (λ s. elim s [ inl z ↦ inl (h.0 ∙ z) | inr w ↦ inr (k.1 w) ]))

  some-primitive : (ps : List Polynomial) → SomeAt ps ↔ SomeAt (map primitive_part ps)
  some-primitive [] = ((λ z. z), (λ z. z))
  some-primitive (p ∷ ps) =
      let h = primitive_part-zero L p point in
      let k = some-primitive ps in
      ((λ s. elim s [ inl z ↦ inl (h.0 z) | inr w ↦ inr (k.0 w) ]), (λ s. elim s [ inl z ↦ inl (h.1 z) | inr w ↦ inr (k.1 w) ]))

  -- one that is zero, behind others or not
  some-behind : (ps : List Polynomial) (p : Polynomial) → SomeAt ps ⊎ (v p ≡ o.zero) → SomeAt (ps ++ p ∷ [])
  some-behind [] p (inl s) = absurd s
  some-behind [] p (inr z) = inl z
  some-behind (q ∷ ps) p (inl (inl z)) = inl z
  some-behind (q ∷ ps) p (inl (inr s)) = inr (some-behind ps p (inl s))
  some-behind (q ∷ ps) p (inr z) = inr (some-behind ps p (inr z))

  some-before : (ps : List Polynomial) (p : Polynomial) → SomeAt (ps ++ p ∷ []) → SomeAt ps ⊎ (v p ≡ o.zero)
  some-before [] p (inl z) = inr z
  some-before [] p (inr w) = absurd w
  some-before (q ∷ ps) p (inl z) = inl (inl z)
  some-before (q ∷ ps) p (inr s) = elim (some-before ps p s) [ inl w ↦ inl (inr w) | inr z ↦ inr z ]

  -- one of a list is zero
  some-member : (ps : List Polynomial) (p : Polynomial) → has_polynomial ps p ≡ true → v p ≡ o.zero → SomeAt ps
  some-member [] p h z = cc
  some-member (q ∷ ps) p h z =
      elim (or_cases (same p q) (has_polynomial ps p) h) [
        | inl e ↦ inl (ap v (sym (same-is p q e)) ∙ z)
        | inr m ↦ inr (some-member ps p m z)
      ]

  some-new : (ps : List Polynomial) (p : Polynomial) → SomeAt ps ⊎ (v p ≡ o.zero) ↔ SomeAt (with_new ps p)
  some-new ps p =
      elim (has_polynomial ps p) as (λ b. has_polynomial ps p ≡ b → SomeAt ps ⊎ (v p ≡ o.zero) ↔ SomeAt (cond b ps (ps ++ p ∷ []))) [
        | true ↦ λ h. ((λ s. elim s [ inl w ↦ w | inr z ↦ some-member ps p h z ]), (λ w. inl w))
        | false ↦ λ h. (some-behind ps p, some-before ps p)
      ] refl

  some-once : (seen ps : List Polynomial) → SomeAt seen ⊎ SomeAt ps ↔ SomeAt (once_behind seen ps)
  some-once seen [] = ((λ s. elim s [ inl w ↦ w | inr w ↦ absurd w ]), (λ w. inl w))
  some-once seen (p ∷ ps) =
      let n = some-new seen p in
      let k = some-once (with_new seen p) ps in (
        (λ s. k.0 (elim s [
          | inl w ↦ inl (n.0 (inl w))
          | inr r ↦ elim r [ inl z ↦ inl (n.0 (inr z)) | inr w ↦ inr w ]
        ])),
        (λ s. elim (k.1 s) [
          | inl w ↦ elim (n.1 w) [ inl y ↦ inl y | inr z ↦ inr (inl z) ]
          | inr w ↦ inr (inr w)
        ]),
      )

  some-parts : (ps : List Polynomial) → SomeAt ps ↔ SomeAt (parts_once ps)
  some-parts ps =
      let k = some-primitive ps in
      let n = some-once [] (map primitive_part ps) in
      ((λ s. n.0 (inr (k.0 s))), (λ s. k.1 (elim (n.1 s) [ inl w ↦ absurd w | inr w ↦ w ])))

  -- a product is zero exactly where a factor is
  product-zero : (p : Polynomial) (qs : List Polynomial) → v (product_onto p qs) ≡ o.zero ↔ (v p ≡ o.zero) ⊎ SomeAt qs
  product-zero p [] = ((λ z. inl z), (λ s. elim s [ inl z ↦ z | inr w ↦ absurd w ]))
  product-zero p (q ∷ qs) =
      let k = product-zero (poly_product p q) qs in
      let e = values.value_at-product L.ring p q point in (
        (λ z. elim (k.0 z) [
          | inl y ↦ elim (L.no_zero_divisors (v p) (v q) (sym e ∙ y)) [ inl a ↦ inl a | inr b ↦ inr (inl b) ]
          | inr w ↦ inr (inr w)
        ]),
        (λ s. k.1 (elim s [
          | inl a ↦ inl (e ∙ ap (λ x. o.mul x (v q)) a ∙ ring.zero_mul L.ring (v q))
          | inr t ↦ elim t [
            | inl b ↦ inl (e ∙ ap (o.mul (v p)) b ∙ ring.mul_zero L.ring (v p))
            | inr w ↦ inr w
          ]
        ])),
      )

module _ {M : Type 0} {o : Operations M} (L : IsDomain o) where
  pub conclusions_mean : ConclusionsMean o
  conclusions_mean point s t x y h k =
      let d = cross_of polynomials (fraction_of polynomials s) (fraction_of polynomials t) in
      let squares = squares_of polynomials s ++ squares_of polynomials t in
      let factors = parts_once squares in
      let whole = primitive_part-zero L (product_onto (primitive_part d) factors) point in
      let product = product-zero L point (primitive_part d) factors in
      let difference = primitive_part-zero L d point in
      let same = keeps.kept-cross (kept L point) s t x y h k in
      let listed = some-values L point squares _ (keeps.all-append (kept L point) _ _ _ _ (keeps.kept-squares (kept L point) s x h) (keeps.kept-squares (kept L point) t y k)) in
      let parts = some-parts L point squares in (
        (λ z. elim (product.0 (whole.1 z)) [
          | inl a ↦ inr (sym same ∙ difference.1 a)
          | inr w ↦ inl (listed.0 (parts.1 w))
        ]),
        (λ m. whole.0 (product.1 (elim m [
          | inl w ↦ inr (parts.0 (listed.1 w))
          | inr a ↦ inl (difference.0 (same ∙ a))
        ]))),
      )
