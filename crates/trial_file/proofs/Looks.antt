-- What is found of the names of a trial by looking at each.
use Rattle.std.proofs.Common.{◌≡◌, ◌≢◌, ℕ, zero, suc, ◌<◌, ◌≤◌, Bool, true, false, ◌&&◌, ◌||◌, not, nat_eq, nat_le, length, refl, sym, subst, arith, inl, inr}
use Rattle.std.proofs.lemmas.Bool.{cases_eq, and_parts}
use Rattle.std.proofs.lemmas.Bool.Decides.{nat_tests}
use Rattle.std.specs.Fmt.{digits}
use Rattle.std.specs.Str.{bytes_eq}
use Rattle.gcl_reader.specs.Name.{is_name}
use Rattle.trial_file.specs.Trial.{name_text}
use Rattle.trial_file.specs.declared.choice.Name.TheVariants.{Point, Line}

-- A test passes at each number below n.
abbrev pub each : (ℕ → Bool) → ℕ → Bool
each p zero = true
each p (suc n) = p n && each p n

pub each-below : (p : ℕ → Bool) (n : ℕ) → each p n ≡ true → (k : ℕ) → k < n → p k ≡ true
each-below p zero h k below = absurd (omega (arith, below))
each-below p (suc n) h k below =
    let parts = and_parts (p n) (each p n) h in
    elim (cases_eq k n) [
      | inl e ↦ subst (λ (j : ℕ). p j ≡ true) (sym e) parts.0
      | inr d ↦ each-below p n parts.1 k (omega (arith, below, d))
    ]

-- No trial has a point or a line of a greater number than 18.
abbrev pub most : ℕ
most = 19

-- They are names.
pub points-are-names : (i : ℕ) → i < most → is_name (name_text (Point i)) ≡ true
unfolding is_name digits
points-are-names = each-below (λ i. is_name (name_text (Point i))) most refl

pub lines-are-names : (i : ℕ) → i < most → is_name (name_text (Line i)) ≡ true
unfolding is_name digits
lines-are-names = each-below (λ i. is_name (name_text (Line i))) most refl

-- They are different.
apart : (b c : Bool) → b || not c ≡ true → b ≡ false → c ≡ false
apart true c h e = cc
apart false true h e = cc
apart false false h e = refl

not-same : (i k : ℕ) → i ≢ k → nat_eq i k ≡ false
not-same i k other = grind (arith, nat_tests, other)

pub points-differ : (i k : ℕ) → i < most → k < most → i ≢ k → bytes_eq (name_text (Point i)) (name_text (Point k)) ≡ false
unfolding digits
points-differ i k few less other =
    let row = each-below (λ j. each (λ m. nat_eq j m || not (bytes_eq (name_text (Point j)) (name_text (Point m)))) most) most refl i few in
    let both = each-below (λ m. nat_eq i m || not (bytes_eq (name_text (Point i)) (name_text (Point m)))) most row k less in
    apart (nat_eq i k) (bytes_eq (name_text (Point i)) (name_text (Point k))) both (not-same i k other)

pub lines-differ : (i k : ℕ) → i < most → k < most → i ≢ k → bytes_eq (name_text (Line i)) (name_text (Line k)) ≡ false
unfolding digits
lines-differ i k few less other =
    let row = each-below (λ j. each (λ m. nat_eq j m || not (bytes_eq (name_text (Line j)) (name_text (Line m)))) most) most refl i few in
    let both = each-below (λ m. nat_eq i m || not (bytes_eq (name_text (Line i)) (name_text (Line m)))) most row k less in
    apart (nat_eq i k) (bytes_eq (name_text (Line i)) (name_text (Line k))) both (not-same i k other)

pub point-no-line : (i k : ℕ) → bytes_eq (name_text (Point i)) (name_text (Line k)) ≡ false
point-no-line i k = refl

pub line-no-point : (i k : ℕ) → bytes_eq (name_text (Line i)) (name_text (Point k)) ≡ false
line-no-point i k = refl

-- They are short.
passed : (m n : ℕ) → nat_le m n ≡ true → m ≤ n
passed m n h = grind (arith, nat_tests, h)

point-test : (i : ℕ) → i < most → nat_le (length (name_text (Point i))) 3 ≡ true
unfolding digits
point-test = each-below (λ j. nat_le (length (name_text (Point j))) 3) most refl

line-test : (i : ℕ) → i < most → nat_le (length (name_text (Line i))) 3 ≡ true
unfolding digits
line-test = each-below (λ j. nat_le (length (name_text (Line j))) 3) most refl

pub points-are-short : (i : ℕ) → i < most → length (name_text (Point i)) ≤ 3
points-are-short i few = passed (length (name_text (Point i))) 3 (point-test i few)

pub lines-are-short : (i : ℕ) → i < most → length (name_text (Line i)) ≤ 3
lines-are-short i few = passed (length (name_text (Line i))) 3 (line-test i few)
