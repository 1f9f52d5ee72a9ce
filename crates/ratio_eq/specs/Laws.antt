-- What the conclusion of an equality means, and that limits do not change it.
use Rattle.std.specs.Prelude.{◌≡◌, ◌≤◌, List, ◌↔◌, IsTrue, Ok}
use Rattle.poly_model.specs.Domain.{Operations}
use Rattle.poly_model.specs.Polynomial.{Polynomial, value_at}
use Rattle.poly_model.specs.Standard.{is_standard}
use Rattle.poly_model.specs.declared.limits.TheConstants.{MOST_SIZE}
use Rattle.ratio_terms.specs.Terms.{Term, Whole, Area, Pythagoras, Ratio, Sum, Product}
use Rattle.ratio_eq.specs.Vectors.{Vector}
use Rattle.ratio_eq.specs.Fractions.{MeetsEqual, conclusion_of}
use Rattle.ratio_eq.specs.Bounded.{bounded_conclusion}

-- The place has the values of two polynomials at a point.
abbrev pub HasValues : {M : Type 0} → Operations M → List M → Vector Polynomial → Vector M → Type 0
HasValues o point p v = (value_at o p.0 point ≡ v.0) × (value_at o p.1 point ≡ v.1)

-- The two terms are the same but for their places, which are related.
abbrev pub Alike : {A B : Type 0} → (A → B → Type 0) → Term A → Term B → Type 0
Alike R (Whole k) (Whole l) = k ≡ l
Alike R (Area a b c) (Area u v w) = R a u × R b v × R c w
Alike R (Pythagoras a b c) (Pythagoras u v w) = R a u × R b v × R c w
Alike R (Ratio a b c d) (Ratio t u v w) = R a t × R b u × R c v × R d w
Alike R (Sum s t) (Sum u v) = Alike R s u × Alike R t v
Alike R (Product s t) (Product u v) = Alike R s u × Alike R t v
Alike R _ _ = ⊥

-- The conclusion is zero at a point exactly where the places with the values there meet the equality.
abbrev pub ConclusionsMean : {M : Type 0} → Operations M → Type 0
ConclusionsMean {M} o = (point : List M) (s t : Term (Vector Polynomial)) (u v : Term (Vector M))
    → Alike (HasValues o point) s u → Alike (HasValues o point) t v
    → value_at o (conclusion_of s t) point ≡ o.zero ↔ MeetsEqual o u v

-- The places of a term are within the limits, and so are its numbers.
abbrev pub IsStandardPlace : Vector Polynomial → Type 0
IsStandardPlace p = IsTrue (is_standard p.0) × IsTrue (is_standard p.1)

abbrev pub IsStandardTerm : Term (Vector Polynomial) → Type 0
IsStandardTerm (Whole k) = k ≤ MOST_SIZE
IsStandardTerm (Area a b c) = IsStandardPlace a × IsStandardPlace b × IsStandardPlace c
IsStandardTerm (Pythagoras a b c) = IsStandardPlace a × IsStandardPlace b × IsStandardPlace c
IsStandardTerm (Ratio a b c d) = IsStandardPlace a × IsStandardPlace b × IsStandardPlace c × IsStandardPlace d
IsStandardTerm (Sum s t) = IsStandardTerm s × IsStandardTerm t
IsStandardTerm (Product s t) = IsStandardTerm s × IsStandardTerm t

-- Where no limit is met, the conclusion is the one without limits, and is within them.
abbrev pub BoundedIsUsual : Type 0
BoundedIsUsual = (s t : Term (Vector Polynomial)) (r : Polynomial) → IsStandardTerm s → IsStandardTerm t
    → bounded_conclusion s t ≡ Ok r → (r ≡ conclusion_of s t) × IsTrue (is_standard r)
