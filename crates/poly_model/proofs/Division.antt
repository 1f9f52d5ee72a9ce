-- The identity of pseudo-division.
use Rattle.std.proofs.Common.{◌≡◌, ◌≢◌, ℕ, zero, suc, refl, List, [], ◌∷◌, sym, ◌∙◌, ap}
use Rattle.std.specs.Prelude.{pos}
use Rattle.poly_model.specs.Domain.{Operations, IsCommutativeRing}
use Rattle.poly_model.specs.Solve.{Var, Add, Mul, Neg, solve}
use Rattle.poly_model.specs.Polynomial.{Polynomial, IsDescending, poly_sum, poly_product, poly_scaled, poly_constant, polynomial_operations, power}
use Rattle.poly_model.specs.Reduction.{initial_of, factor_of, cross_difference, parts_of}
use Rattle.poly_model.specs.Division.{Division, divided_once, division_of, IsDivision}
use Rattle.poly_model.proofs.Ordered.{OrderedPolynomial, same_lists, ordered_operations, ordered_ring, descending-product, descending-sum, descending-constant}
use Rattle.poly_model.proofs.Scaled.{constant-product, one-product, scaled-one, scaled-twice, times-some, descending-scaled, parts-times, parts-some, parts-descending}
use Rattle.poly_model.proofs.Reductions.{descending-initial, descending-factor, descending-cross}

module _ {M : Type 0} {o : Operations M} (L : IsCommutativeRing o) where
  -- from P*G = Q*F + m*R and I*R - c*F = k*S to (I*P)*G = (I*Q + m*c)*F + m*(k*S)
  pub one_step : (P G Q F m R I c k S : M) → o.mul P G ≡ o.add (o.mul Q F) (o.mul m R) → o.add (o.mul I R) (o.neg (o.mul c F)) ≡ o.mul k S
      → o.mul (o.mul I P) G ≡ o.add (o.mul (o.add (o.mul I Q) (o.mul m c)) F) (o.mul m (o.mul k S))
  one_step P G Q F m R I c k S first second =
      let p = Var 0 in let g = Var 1 in let q = Var 2 in let f = Var 3 in let n = Var 4 in let r = Var 5 in let i = Var 6 in let d = Var 7 in
      let point : List M = P ∷ G ∷ Q ∷ F ∷ m ∷ R ∷ I ∷ c ∷ [] in
      L.mul_assoc I P G ∙ ap (o.mul I) first
      ∙ solve L point (Mul i (Add (Mul q f) (Mul n r))) (Add (Mul (Add (Mul i q) (Mul n d)) f) (Mul n (Add (Mul i r) (Neg (Mul d f))))) refl
      ∙ ap (λ x. o.add (o.mul (o.add (o.mul I Q) (o.mul m c)) F) (o.mul m x)) second

pub record Standing (n : ℕ) (F G : Polynomial) (r : Division) : Type 0 where
  pub some : r.multiplier ≢ pos 0
  pub rest : IsDescending n r.rest
  pub quotient : IsDescending n r.quotient
  pub power : IsDescending n (power (polynomial_operations n) (initial_of F) r.steps)
  pub identity : IsDivision n G F r

lift : {n : ℕ} (p : Polynomial) → IsDescending n p → OrderedPolynomial n
lift p h = record { list = p; descending = h }

pub standing-next : (n : ℕ) (F G : Polynomial) (r : Division) → IsDescending n F → IsDescending n G → Standing n F G r → Standing n F G (divided_once F r)
unfolding lift
standing-next n F G r f g s =
    let I = initial_of F in
    let i = descending-initial n F f in
    let c = factor_of r.rest F in
    let hc = descending-factor n r.rest F s.rest in
    let T = cross_difference r.rest F in
    let ht = descending-cross n r.rest F s.rest f in
    let k = (parts_of T).0 in
    let S = (parts_of T).1 in
    let hs = parts-descending n T ht in
    let ks = parts-some n T ht in
    let m = r.multiplier in
    let M : OrderedPolynomial n = lift (poly_constant n m) (descending-constant n m) in
    let K : OrderedPolynomial n = lift (poly_constant n k) (descending-constant n k) in
    let P : OrderedPolynomial n = lift (power (polynomial_operations n) I r.steps) s.power in
    let first = same_lists ((ordered_operations n).mul P (lift G g)) ((ordered_operations n).add ((ordered_operations n).mul (lift r.quotient s.quotient) (lift F f)) ((ordered_operations n).mul M (lift r.rest s.rest)))
    (s.identity ∙ ap (poly_sum (poly_product r.quotient F)) (sym (constant-product n m r.rest s.some s.rest))) in
    let second = same_lists ((ordered_operations n).add ((ordered_operations n).mul (lift I i) (lift r.rest s.rest)) ((ordered_operations n).neg ((ordered_operations n).mul (lift c hc) (lift F f)))) ((ordered_operations n).mul K (lift S hs))
    (parts-times T ∙ sym (constant-product n k S ks hs)) in
    let whole = ap (λ (p : OrderedPolynomial n). p.list) (one_step (ordered_ring n) P (lift G g) (lift r.quotient s.quotient) (lift F f) M (lift r.rest s.rest) (lift I i) (lift c hc) K (lift S hs) first second) in
    record {
      some = times-some m k s.some ks;
      rest = hs;
      quotient = descending-sum n _ _ (descending-product n _ _ i s.quotient) (descending-scaled n m c s.some hc);
      power = descending-product n _ _ i s.power;
      identity = whole ∙ (λ j. poly_sum (poly_product (poly_sum (poly_product I r.quotient) (constant-product n m c s.some hc j)) F)
          ((ap (poly_product (poly_constant n m)) (constant-product n k S ks hs) ∙ constant-product n m (poly_scaled k S) s.some (descending-scaled n k S ks hs) ∙ scaled-twice m k S) j));
    }

pub standing : (n : ℕ) (F G : Polynomial) (s : ℕ) → IsDescending n F → IsDescending n G → Standing n F G (division_of G F s)
standing n F G zero f g = record {
  some = λ e. cc;
  rest = g;
  quotient = tt;
  power = descending-constant n (pos 1);
  identity = one-product n G g ∙ sym (scaled-one G);
}
standing n F G (suc s) f g = standing-next n F G (division_of G F s) f g (standing n F G s f g)
