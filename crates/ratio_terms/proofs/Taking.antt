-- The first term of parts, and what stands behind it.
use Rattle.std.proofs.Common.{◌≡◌, ◌≤◌, ℕ, ◌+◌, zero, suc, List, [], ◌∷◌, length, drop, refl, sym, ◌∙◌, ap, subst, arith, true}
use Rattle.std.proofs.lemmas.List.{length-drop}
use Rattle.ratio_terms.specs.declared.part.Part.{Part}
use Rattle.ratio_terms.specs.declared.part.Part.TheVariants as part
use Rattle.ratio_terms.specs.Terms.{Term, Sum, Product, operands_of, names_of, names_in, are_terms, joined, terms_of, term_with, first_of, behind_first}
use Rattle.ratio_terms.specs.Taking.{AreWhole, TakesFirst, made_of}

-- ---- how many terms there are
joined-length : {A : Type 0} (make : Term A → Term A → Term A) (l : List (Term A)) (n : ℕ) → length l ≡ suc (suc n) → length (joined make l) ≡ suc n
joined-length make [] n e = absurd (omega (arith, e))
joined-length make (s ∷ []) n e = absurd (omega (arith, e))
joined-length make (s ∷ t ∷ ts) n e = omega (arith, e)

pub count : {A : Type 0} (n : ℕ) (ps : List Part) (points : List A) → are_terms n ps ≡ true → names_in ps ≤ length points → length (terms_of ps points) ≡ n
count zero [] points h le = refl
count zero (p ∷ ps) points h le = cc
count (suc n) [] points h le = cc
count (suc n) (part.Whole k ∷ ps) points h le = ap suc (count n ps points h (omega (arith, le)))
count (suc n) (part.Area3 ∷ ps) (a ∷ b ∷ c ∷ points) h le = ap suc (count n ps points h (omega (arith, le)))
count (suc n) (part.Area3 ∷ ps) [] h le = absurd (omega (arith, le))
count (suc n) (part.Area3 ∷ ps) (a ∷ []) h le = absurd (omega (arith, le))
count (suc n) (part.Area3 ∷ ps) (a ∷ b ∷ []) h le = absurd (omega (arith, le))
count (suc n) (part.Pyth3 ∷ ps) (a ∷ b ∷ c ∷ points) h le = ap suc (count n ps points h (omega (arith, le)))
count (suc n) (part.Pyth3 ∷ ps) [] h le = absurd (omega (arith, le))
count (suc n) (part.Pyth3 ∷ ps) (a ∷ []) h le = absurd (omega (arith, le))
count (suc n) (part.Pyth3 ∷ ps) (a ∷ b ∷ []) h le = absurd (omega (arith, le))
count (suc n) (part.Sratio ∷ ps) (a ∷ b ∷ c ∷ d ∷ points) h le = ap suc (count n ps points h (omega (arith, le)))
count (suc n) (part.Sratio ∷ ps) [] h le = absurd (omega (arith, le))
count (suc n) (part.Sratio ∷ ps) (a ∷ []) h le = absurd (omega (arith, le))
count (suc n) (part.Sratio ∷ ps) (a ∷ b ∷ []) h le = absurd (omega (arith, le))
count (suc n) (part.Sratio ∷ ps) (a ∷ b ∷ c ∷ []) h le = absurd (omega (arith, le))
count (suc n) (part.Sum ∷ ps) points h le = joined-length Sum (terms_of ps points) n (count (suc (suc n)) ps points h (omega (arith, le)))
count (suc n) (part.Mult ∷ ps) points h le = joined-length Product (terms_of ps points) n (count (suc (suc n)) ps points h (omega (arith, le)))

-- ---- a part without operands
pub leaf-first : {A : Type 0} (p : Part) (ps : List Part) (points : List A) → operands_of p ≡ 0 → names_of p ≤ length points
    → first_of (terms_of (p ∷ ps) points) ≡ first_of (term_with (λ left. []) p points)
leaf-first (part.Whole k) ps points e le = refl
leaf-first part.Area3 ps (a ∷ b ∷ c ∷ points) e le = refl
leaf-first part.Area3 ps [] e le = absurd (omega (arith, le))
leaf-first part.Area3 ps (a ∷ []) e le = absurd (omega (arith, le))
leaf-first part.Area3 ps (a ∷ b ∷ []) e le = absurd (omega (arith, le))
leaf-first part.Pyth3 ps (a ∷ b ∷ c ∷ points) e le = refl
leaf-first part.Pyth3 ps [] e le = absurd (omega (arith, le))
leaf-first part.Pyth3 ps (a ∷ []) e le = absurd (omega (arith, le))
leaf-first part.Pyth3 ps (a ∷ b ∷ []) e le = absurd (omega (arith, le))
leaf-first part.Sratio ps (a ∷ b ∷ c ∷ d ∷ points) e le = refl
leaf-first part.Sratio ps [] e le = absurd (omega (arith, le))
leaf-first part.Sratio ps (a ∷ []) e le = absurd (omega (arith, le))
leaf-first part.Sratio ps (a ∷ b ∷ []) e le = absurd (omega (arith, le))
leaf-first part.Sratio ps (a ∷ b ∷ c ∷ []) e le = absurd (omega (arith, le))
leaf-first part.Sum ps points e le = absurd (omega (arith, e))
leaf-first part.Mult ps points e le = absurd (omega (arith, e))

leaf-behind : {A : Type 0} (p : Part) (ps : List Part) (points : List A) → operands_of p ≡ 0 → names_of p ≤ length points
    → behind_first (terms_of (p ∷ ps) points) ≡ terms_of ps (drop (names_of p) points)
leaf-behind (part.Whole k) ps points e le = refl
leaf-behind part.Area3 ps (a ∷ b ∷ c ∷ points) e le = refl
leaf-behind part.Area3 ps [] e le = absurd (omega (arith, le))
leaf-behind part.Area3 ps (a ∷ []) e le = absurd (omega (arith, le))
leaf-behind part.Area3 ps (a ∷ b ∷ []) e le = absurd (omega (arith, le))
leaf-behind part.Pyth3 ps (a ∷ b ∷ c ∷ points) e le = refl
leaf-behind part.Pyth3 ps [] e le = absurd (omega (arith, le))
leaf-behind part.Pyth3 ps (a ∷ []) e le = absurd (omega (arith, le))
leaf-behind part.Pyth3 ps (a ∷ b ∷ []) e le = absurd (omega (arith, le))
leaf-behind part.Sratio ps (a ∷ b ∷ c ∷ d ∷ points) e le = refl
leaf-behind part.Sratio ps [] e le = absurd (omega (arith, le))
leaf-behind part.Sratio ps (a ∷ []) e le = absurd (omega (arith, le))
leaf-behind part.Sratio ps (a ∷ b ∷ []) e le = absurd (omega (arith, le))
leaf-behind part.Sratio ps (a ∷ b ∷ c ∷ []) e le = absurd (omega (arith, le))
leaf-behind part.Sum ps points e le = absurd (omega (arith, e))
leaf-behind part.Mult ps points e le = absurd (omega (arith, e))

leaf-terms : (p : Part) (ps : List Part) → operands_of p ≡ 0 → (k : ℕ) → are_terms (suc k) (p ∷ ps) ≡ true → are_terms k ps ≡ true
leaf-terms (part.Whole n) ps e k h = h
leaf-terms part.Area3 ps e k h = h
leaf-terms part.Pyth3 ps e k h = h
leaf-terms part.Sratio ps e k h = h
leaf-terms part.Sum ps e k h = absurd (omega (arith, e))
leaf-terms part.Mult ps e k h = absurd (omega (arith, e))

-- ---- a part with two operands
two-terms : (p : Part) (ps : List Part) (n : ℕ) → operands_of p ≡ 2 → are_terms (suc n) (p ∷ ps) ≡ true → are_terms (suc (suc n)) ps ≡ true
two-terms (part.Whole k) ps n e h = absurd (omega (arith, e))
two-terms part.Area3 ps n e h = absurd (omega (arith, e))
two-terms part.Pyth3 ps n e h = absurd (omega (arith, e))
two-terms part.Sratio ps n e h = absurd (omega (arith, e))
two-terms part.Sum ps n e h = h
two-terms part.Mult ps n e h = h

pub two : (p : Part) → (operands_of p ≡ 0 → ⊥) → operands_of p ≡ 2
two (part.Whole k) n = absurd (n refl)
two part.Area3 n = absurd (n refl)
two part.Pyth3 n = absurd (n refl)
two part.Sratio n = absurd (n refl)
two part.Sum n = refl
two part.Mult n = refl

joined-first : {A : Type 0} (make : Term A → Term A → Term A) (l : List (Term A)) → 2 ≤ length l → first_of (joined make l) ≡ make (first_of l) (first_of (behind_first l))
joined-first make [] le = absurd (omega (arith, le))
joined-first make (s ∷ []) le = absurd (omega (arith, le))
joined-first make (s ∷ t ∷ ts) le = refl

joined-behind : {A : Type 0} (make : Term A → Term A → Term A) (l : List (Term A)) → 2 ≤ length l → behind_first (joined make l) ≡ behind_first (behind_first l)
joined-behind make [] le = absurd (omega (arith, le))
joined-behind make (s ∷ []) le = absurd (omega (arith, le))
joined-behind make (s ∷ t ∷ ts) le = refl

two-first : {A : Type 0} (p : Part) (ps : List Part) (points : List A) → operands_of p ≡ 2 → 2 ≤ length (terms_of ps points)
    → first_of (terms_of (p ∷ ps) points) ≡ made_of p (first_of (terms_of ps points)) (first_of (behind_first (terms_of ps points)))
two-first (part.Whole k) ps points e le = absurd (omega (arith, e))
two-first part.Area3 ps points e le = absurd (omega (arith, e))
two-first part.Pyth3 ps points e le = absurd (omega (arith, e))
two-first part.Sratio ps points e le = absurd (omega (arith, e))
two-first part.Sum ps points e le = joined-first Sum (terms_of ps points) le
two-first part.Mult ps points e le = joined-first Product (terms_of ps points) le

two-behind : {A : Type 0} (p : Part) (ps : List Part) (points : List A) → operands_of p ≡ 2 → 2 ≤ length (terms_of ps points)
    → behind_first (terms_of (p ∷ ps) points) ≡ behind_first (behind_first (terms_of ps points))
two-behind (part.Whole k) ps points e le = absurd (omega (arith, e))
two-behind part.Area3 ps points e le = absurd (omega (arith, e))
two-behind part.Pyth3 ps points e le = absurd (omega (arith, e))
two-behind part.Sratio ps points e le = absurd (omega (arith, e))
two-behind part.Sum ps points e le = joined-behind Sum (terms_of ps points) le
two-behind part.Mult ps points e le = joined-behind Product (terms_of ps points) le

drop-both : {A : Type 0} (n m : ℕ) (l : List A) → n ≤ length l → drop m (drop n l) ≡ drop (n + m) l
drop-both zero m l le = ap (λ k. drop k l) (let e : m ≡ 0 + m = omega arith in e)
drop-both (suc n) m [] le = absurd (omega (arith, le))
drop-both (suc n) m (x ∷ l) le = drop-both n m l (omega (arith, le)) ∙ ap (λ k. drop k (x ∷ l)) (let e : suc (n + m) ≡ suc n + m = omega arith in e)

-- ---- parts with one in front
module _ {A : Type 0} (whole : List Part) (p : Part) (ps : List Part) (points : List A) (e : whole ≡ p ∷ ps) (h : AreWhole whole points) where
  front : AreWhole (p ∷ ps) points
  front = subst (λ l. AreWhole l points) e h

  pub has-points : names_of p ≤ length points
  has-points = let w = front.named in omega (arith, w)

  pub leaf-is : operands_of p ≡ 0 → first_of (terms_of whole points) ≡ first_of (term_with (λ left. []) p points)
  leaf-is z = ap (λ l. first_of (terms_of l points)) e ∙ leaf-first p ps points z has-points

  pub leaf-taken : (n : ℕ) → operands_of p ≡ 0 → n ≡ names_of p → TakesFirst whole points 1 n
  leaf-taken n z k =
      subst (λ l. TakesFirst l points 1 n) (sym e) (subst (TakesFirst (p ∷ ps) points 1) (sym k)
      (
      record {
        parts_within = omega arith;
        points_within = has-points;
        behind = leaf-behind p ps points z has-points;
        terms = leaf-terms p ps z;
        names = λ w. let l = length-drop (names_of p) points in omega (arith, w, l);
      }
      ))

  module _ (pair : operands_of p ≡ 2) where
    -- what is behind the part is whole, with one more term
    pub inner : AreWhole ps points
    inner = let f = front in record {
      more = suc f.more;
      terms = two-terms p ps f.more pair f.terms;
      named = let w = f.named in omega (arith, w);
    }

    inner-count : 2 ≤ length (terms_of ps points)
    inner-count =
        let f = front in
        let c = count (suc (suc f.more)) ps points (two-terms p ps f.more pair f.terms) inner.named in
        omega (arith, c)

    pub pair-first : first_of (terms_of whole points) ≡ made_of p (first_of (terms_of ps points)) (first_of (behind_first (terms_of ps points)))
    pair-first = ap (λ l. first_of (terms_of l points)) e ∙ two-first p ps points pair inner-count

    module _ (n m : ℕ) (t : TakesFirst ps points n m) where
      pub next : AreWhole (drop n ps) (drop m points)
      next = let f = front in record {
        more = f.more;
        terms = t.terms (suc f.more) (two-terms p ps f.more pair f.terms);
        named = t.names inner.named;
      }

      pub pair-is : first_of (terms_of whole points) ≡ made_of p (first_of (terms_of ps points)) (first_of (terms_of (drop n ps) (drop m points)))
      pair-is = pair-first ∙ ap (λ l. made_of p (first_of (terms_of ps points)) (first_of l)) t.behind

      pub pair-taken : (j k : ℕ) → TakesFirst (drop n ps) (drop m points) j k → TakesFirst whole points (1 + n + j) (m + k)
      pair-taken j k u =
          let parts : drop j (drop n ps) ≡ drop (1 + n + j) (p ∷ ps) =
          drop-both n j ps t.parts_within ∙ ap (λ i. drop i (p ∷ ps)) (let q : suc (n + j) ≡ 1 + n + j = omega arith in q)
          in
          let left : drop k (drop m points) ≡ drop (m + k) points = drop-both m k points t.points_within in
          let a = length-drop n ps in
          let b = length-drop m points in
          subst (λ l. TakesFirst l points (1 + n + j) (m + k)) (sym e) (
          record {
            parts_within = let x = t.parts_within in let y = u.parts_within in omega (arith, a, x, y);
            points_within = let x = t.points_within in let y = u.points_within in omega (arith, b, x, y);
            behind = two-behind p ps points pair inner-count ∙ ap behind_first t.behind ∙ u.behind ∙ (λ i. terms_of (parts i) (left i));
            terms = λ i w. subst (λ l. are_terms i l ≡ true) parts (u.terms i (t.terms (suc i) (two-terms p ps i pair w)));
            names = λ w.
                let inside : names_in ps ≤ length points = omega (arith, w) in
                let q = u.names (t.names inside) in
                subst (λ l. names_in l ≤ length (drop (m + k) points)) parts (subst (λ l. names_in (drop j (drop n ps)) ≤ length l) left q);
          }
          )
