-- A relation that the operations keep is kept by fractions and squares.
use Rattle.std.proofs.Common.{ℕ, zero, suc, List, [], ◌∷◌, ◌++◌, subst}
use Rattle.poly_model.specs.Domain.{Operations, natural_in}
use Rattle.ratio_terms.specs.Terms.{Term, Whole, Area, Pythagoras, Ratio, Sum, Product}
use Rattle.ratio_eq.specs.Vectors.{Vector, minus, dot, cross}
use Rattle.ratio_eq.specs.Fractions.{Fraction, fraction_of, squares_of, cross_of}
use Rattle.ratio_eq.specs.Laws.{Alike}

-- The relation is kept by the operations.
pub record IsKept {M N : Type 0} (o : Operations M) (k : Operations N) (R : M → N → Type 0) : Type 0 where
  pub zero : R o.zero k.zero
  pub one : R o.one k.one
  pub add : (a b : M) (c d : N) → R a c → R b d → R (o.add a b) (k.add c d)
  pub mul : (a b : M) (c d : N) → R a c → R b d → R (o.mul a b) (k.mul c d)
  pub neg : (a : M) (c : N) → R a c → R (o.neg a) (k.neg c)

module _ {M N : Type 0} {o : Operations M} {k : Operations N} {R : M → N → Type 0} (K : IsKept o k R) where
  natural : (n : ℕ) → R (natural_in o n) (natural_in k n)
  natural zero = K.zero
  natural (suc n) = K.add _ _ _ _ K.one (natural n)

  abbrev pub Both : Vector M → Vector N → Type 0
  Both p q = R p.0 q.0 × R p.1 q.1

  both-minus : (p q : Vector M) (a b : Vector N) → Both p a → Both q b → Both (minus o p q) (minus k a b)
  both-minus p q a b h j = (K.add _ _ _ _ h.0 (K.neg _ _ j.0), K.add _ _ _ _ h.1 (K.neg _ _ j.1))

  one-dot : (p q : Vector M) (a b : Vector N) → Both p a → Both q b → R (dot o p q) (dot k a b)
  one-dot p q a b h j = K.add _ _ _ _ (K.mul _ _ _ _ h.0 j.0) (K.mul _ _ _ _ h.1 j.1)

  one-cross : (p q : Vector M) (a b : Vector N) → Both p a → Both q b → R (cross o p q) (cross k a b)
  one-cross p q a b h j = K.add _ _ _ _ (K.mul _ _ _ _ h.0 j.1) (K.neg _ _ (K.mul _ _ _ _ h.1 j.0))

  -- fractions
  pub record FractionKept (p : Fraction M) (a : Fraction N) : Type 0 where
    pub over : R p.over a.over
    pub under : R p.under a.under

  pub kept-fraction : (s : Term (Vector M)) (t : Term (Vector N)) → Alike Both s t → FractionKept (fraction_of o s) (fraction_of k t)
  kept-fraction (Whole n) (Whole l) h = record { over = subst (λ i. R (natural_in o n) (natural_in k i)) h (natural n); under = K.one }
  kept-fraction (Area a b c) (Area d e f) h = record {
    over = one-cross _ _ _ _ (both-minus b a e d h.1 h.0) (both-minus c a f d h.2 h.0);
    under = natural 2;
  }
  kept-fraction (Pythagoras a b c) (Pythagoras d e f) h =
      let ab = both-minus a b d e h.0 h.1 in
      let cb = both-minus c b f e h.2 h.1 in
      let ca = both-minus c a f d h.2 h.0 in
      record { over = K.add _ _ _ _ (K.add _ _ _ _ (one-dot _ _ _ _ ab ab) (one-dot _ _ _ _ cb cb)) (K.neg _ _ (one-dot _ _ _ _ ca ca)); under = K.one }
  kept-fraction (Ratio a b c d) (Ratio e f g l) h =
      let ab = both-minus b a f e h.1 h.0 in
      let cd = both-minus d c l g h.3 h.2 in
      record { over = one-dot _ _ _ _ ab cd; under = one-dot _ _ _ _ cd cd }
  kept-fraction (Sum s t) (Sum x y) h =
      let a = kept-fraction s x h.0 in
      let b = kept-fraction t y h.1 in
      record { over = K.add _ _ _ _ (K.mul _ _ _ _ a.over b.under) (K.mul _ _ _ _ b.over a.under); under = K.mul _ _ _ _ a.under b.under }
  kept-fraction (Product s t) (Product x y) h =
      let a = kept-fraction s x h.0 in
      let b = kept-fraction t y h.1 in
      record { over = K.mul _ _ _ _ a.over b.over; under = K.mul _ _ _ _ a.under b.under }
  kept-fraction _ _ h = absurd h

  pub kept-cross : (s t : Term (Vector M)) (x y : Term (Vector N)) → Alike Both s x → Alike Both t y
      → R (cross_of o (fraction_of o s) (fraction_of o t)) (cross_of k (fraction_of k x) (fraction_of k y))
  kept-cross s t x y h j =
      let a = kept-fraction s x h in
      let b = kept-fraction t y j in
      K.add _ _ _ _ (K.mul _ _ _ _ a.over b.under) (K.neg _ _ (K.mul _ _ _ _ b.over a.under))

  -- squares
  abbrev pub AllKept : List M → List N → Type 0
  AllKept [] [] = Unit {0}
  AllKept [] (y ∷ ys) = ⊥
  AllKept (x ∷ xs) [] = ⊥
  AllKept (x ∷ xs) (y ∷ ys) = R x y × AllKept xs ys

  pub all-append : (xs ys : List M) (zs ws : List N) → AllKept xs zs → AllKept ys ws → AllKept (xs ++ ys) (zs ++ ws)
  all-append [] ys [] ws a b = b
  all-append [] ys (z ∷ zs) ws a b = absurd a
  all-append (x ∷ xs) ys [] ws a b = absurd a
  all-append (x ∷ xs) ys (z ∷ zs) ws a b = (a.0, all-append xs ys zs ws a.1 b)

  pub kept-squares : (s : Term (Vector M)) (t : Term (Vector N)) → Alike Both s t → AllKept (squares_of o s) (squares_of k t)
  kept-squares (Whole n) (Whole l) h = tt
  kept-squares (Area a b c) (Area d e f) h = tt
  kept-squares (Pythagoras a b c) (Pythagoras d e f) h = tt
  kept-squares (Ratio a b c d) (Ratio e f g l) h = let cd = both-minus d c l g h.3 h.2 in (one-dot _ _ _ _ cd cd, tt)
  kept-squares (Sum s t) (Sum x y) h = all-append _ _ _ _ (kept-squares s x h.0) (kept-squares t y h.1)
  kept-squares (Product s t) (Product x y) h = all-append _ _ _ _ (kept-squares s x h.0) (kept-squares t y h.1)
  kept-squares _ _ h = absurd h
