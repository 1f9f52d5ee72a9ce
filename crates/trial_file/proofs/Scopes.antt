-- What the names of a trial mean, and what its commands' arguments refer to.
use Rattle.std.proofs.Common.{◌≡◌, ℕ, ◌+◌, ◌<◌, ◌≤◌, ℤ, List, [], ◌∷◌, ◌++◌, length, map, Option, Some, None, Bool, true, false, cond, not, ◌&&◌, ◌||◌, Ok, refl, sym, ap, ◌∙◌, subst, arith, inl, inr, length-append, nat_le}
use Rattle.std.proofs.lemmas.Bool.{cases_eq}
use Rattle.std.proofs.lemmas.Bool.Decides.{nat_tests}
use Rattle.std.proofs.lemmas.Slice.Eq.{bytes_eq-Decides}
use Rattle.std.specs.Str.{bytes_eq}
use Rattle.gcl_reader.specs.declared.word.Parameter.{Parameter}
use Rattle.gcl_reader.specs.declared.word.Parameter.TheVariants as parameter
use Rattle.gcl_reader.specs.declared.word.Range.{Range}
use Rattle.gcl_reader.specs.declared.file.What.{What}
use Rattle.gcl_reader.specs.declared.file.What.TheVariants as what
use Rattle.gcl_reader.specs.declared.file.Arg.{Arg}
use Rattle.gcl_names.specs.Scope.{Meanings, meaning_in, nothing_defined}
use Rattle.gcl_names.specs.Reference.{ref_in, refs_in, is_made, is_named, is_new, with_name, refers_to_circle}
use Rattle.gcl_names.specs.declared.limits.TheConstants.{MOST_POINTS}
use Rattle.gcl_names.specs.declared.meaning.Meaning.{Meaning}
use Rattle.gcl_names.specs.declared.meaning.Meaning.TheVariants as meaning
use Rattle.gcl_names.specs.declared.meaning.Ref.{Ref}
use Rattle.gcl_names.specs.declared.meaning.Ref.TheVariants as ref
use Rattle.gcl_names.specs.declared.scope.Scope.{Scope}
use Rattle.trial_file.specs.Trial.{name_text}
use Rattle.trial_file.specs.declared.choice.Name.TheVariants.{Point, Line}
use Rattle.trial_file.proofs.Looks.{most, points-differ, lines-differ, point-no-line, line-no-point}

-- ---- names behind others
-- What is found first.
abbrev first : Option Meaning → Option Meaning → Option Meaning
first None o = o
first (Some m) o = Some m

first-step : (b : Bool) (d : Meaning) (x y z : Option Meaning) → y ≡ first x z → cond b (Some d) y ≡ first (cond b (Some d) x) z
first-step true d x y z h = refl
first-step false d x y z h = h

meaning-behind : (q text : List ℕ) (m : Meaning) (xs : Meanings) →
    meaning_in q (xs ++ (text, m) ∷ []) ≡ first (meaning_in q xs) (cond (bytes_eq q text) (Some m) None)
unfolding meaning_in
meaning-behind q text m [] = refl
meaning-behind q text m (e ∷ xs) =
    first-step (bytes_eq q e.0) e.1 (meaning_in q xs) (meaning_in q (xs ++ (text, m) ∷ [])) (cond (bytes_eq q text) (Some m) None) (meaning-behind q text m xs)

-- A name that is another keeps its meaning, and so does one that has a meaning.
other-kept : (q text : List ℕ) (m : Meaning) (xs : Meanings) (o : Option Meaning) → bytes_eq q text ≡ false → meaning_in q xs ≡ o →
    meaning_in q (xs ++ (text, m) ∷ []) ≡ o
other-kept q text m xs None other h = rw (meaning-behind q text m xs, h, other) refl
other-kept q text m xs (Some d) other h = rw (meaning-behind q text m xs, h) refl

known-kept : (q text : List ℕ) (m d : Meaning) (xs : Meanings) → meaning_in q xs ≡ Some d → meaning_in q (xs ++ (text, m) ∷ []) ≡ Some d
known-kept q text m d xs h = rw (meaning-behind q text m xs, h) refl

new-known : (text : List ℕ) (m : Meaning) (xs : Meanings) → meaning_in text xs ≡ None → meaning_in text (xs ++ (text, m) ∷ []) ≡ Some m
new-known text m xs h =
    let same : bytes_eq text text ≡ true = (bytes_eq-Decides text text).1 refl in
    rw (meaning-behind text text m xs, h, same) refl

-- ---- scopes
-- The points below i are defined, no other point is, nor a line from j on; and so many proves are counted.
pub record Ready (i j p : ℕ) (s : Scope) : Type 0 where
  pub points : (k : ℕ) → k < i → meaning_in (name_text (Point k)) s.names ≡ Some (meaning.Point k)
  pub unnamed : (k : ℕ) → i ≤ k → k < most → meaning_in (name_text (Point k)) s.names ≡ None
  pub unlined : (k : ℕ) → j ≤ k → k < most → meaning_in (name_text (Line k)) s.names ≡ None
  pub count : length s.points ≡ i
  pub proves : s.proves ≡ p

pub nothing-ready : Ready 0 0 0 nothing_defined
unfolding meaning_in
nothing-ready = record {
  points = λ k below. absurd (omega (arith, below));
  unnamed = λ k from few. refl;
  unlined = λ k from few. refl;
  count = refl;
  proves = refl;
}

-- The scope behind a new point, and behind a new line.
abbrev pub with_point : ℕ → Scope → Scope
with_point i s =
    record (with_name (name_text (Point i)) (meaning.Point (length s.points)) s) { points = s.points ++ name_text (Point i) ∷ [] }

abbrev pub with_line : ℕ → Scope → Scope
with_line i s = record (with_name (name_text (Line i)) (meaning.Line s.lines) s) { lines = s.lines + 1 }

pub point-ready : (i j p : ℕ) (s : Scope) → i < most → Ready i j p s → Ready (i + 1) j p (with_point i s)
point-ready i j p s few r = record {
  points = λ k below. elim (cases_eq k i) [
    | inl e ↦ subst (λ (m : ℕ). meaning_in (name_text (Point m)) (with_point i s).names ≡ Some (meaning.Point m)) (sym e)
        (new-known (name_text (Point i)) (meaning.Point (length s.points)) s.names (r.unnamed i (omega arith) few)
        ∙ ap (λ (m : ℕ). Some (meaning.Point m)) r.count)
    | inr d ↦ known-kept (name_text (Point k)) (name_text (Point i)) (meaning.Point (length s.points)) (meaning.Point k) s.names
        (r.points k (omega (arith, below, d)))
  ];
  unnamed = λ k from less. other-kept (name_text (Point k)) (name_text (Point i)) (meaning.Point (length s.points)) s.names None
      (points-differ k i less few (λ e. omega (arith, from, e))) (r.unnamed k (omega (arith, from)) less);
  unlined = λ k from less. other-kept (name_text (Line k)) (name_text (Point i)) (meaning.Point (length s.points)) s.names None
      (line-no-point k i) (r.unlined k from less);
  count = length-append s.points (name_text (Point i) ∷ []) ∙ ap (λ (n : ℕ). n + 1) r.count;
  proves = r.proves;
}

pub line-ready : (i j p : ℕ) (s : Scope) → j < most → Ready i j p s → Ready i (j + 1) p (with_line j s)
line-ready i j p s few r = record {
  points = λ k below. known-kept (name_text (Point k)) (name_text (Line j)) (meaning.Line s.lines) (meaning.Point k) s.names (r.points k below);
  unnamed = λ k from less. other-kept (name_text (Point k)) (name_text (Line j)) (meaning.Line s.lines) s.names None
      (point-no-line k j) (r.unnamed k from less);
  unlined = λ k from less. other-kept (name_text (Line k)) (name_text (Line j)) (meaning.Line s.lines) s.names None
      (lines-differ k j less few (λ e. omega (arith, from, e))) (r.unlined k (omega (arith, from)) less);
  count = r.count;
  proves = r.proves;
}

pub line-known : (i j p : ℕ) (s : Scope) → j < most → Ready i j p s → meaning_in (name_text (Line j)) (with_line j s).names ≡ Some (meaning.Line s.lines)
line-known i j p s few r = new-known (name_text (Line j)) (meaning.Line s.lines) s.names (r.unlined j (omega arith) few)

-- A line's number may be left out, and a prove counted.
pub line-skipped : (i j p : ℕ) (s : Scope) → Ready i j p s → Ready i (j + 1) p s
line-skipped i j p s r = record {
  points = r.points;
  unnamed = r.unnamed;
  unlined = λ k from less. r.unlined k (omega (arith, from)) less;
  count = r.count;
  proves = r.proves;
}

pub prove-ready : (i j p : ℕ) (s : Scope) → Ready i j p s → Ready i j (p + 1) (record s { proves = s.proves + 1 })
prove-ready i j p s r = record {
  points = r.points;
  unnamed = r.unnamed;
  unlined = r.unlined;
  count = r.count;
  proves = ap (λ (n : ℕ). n + 1) r.proves;
}

-- ---- references
-- The first argument, and the others behind it.
pub refs-cons : (p : Parameter) (ps : List Parameter) (x : Arg) (xs : List Arg) (earlier : Meanings) (c : Bool) (s next after : Scope) (r : Ref) (rs : List Ref) →
    ref_in p ps xs earlier c s x ≡ Ok (r, next) → refs_in ps xs earlier (refers_to_circle r) next ≡ Ok (rs, after) →
    refs_in (p ∷ ps) (x ∷ xs) earlier c s ≡ Ok (r ∷ rs, after)
unfolding refs_in
refs-cons p ps x xs earlier c s next after r rs h k = rw (h, k) refl

pub refs-none : (earlier : Meanings) (c : Bool) (s : Scope) → refs_in [] [] earlier c s ≡ Ok ([], s)
unfolding refs_in
refs-none earlier c s = refl

pub used-point : (ps : List Parameter) (xs : List Arg) (earlier : Meanings) (c : Bool) (s : Scope) (x : Arg) (k : ℕ) →
    x.what ≡ what.Name (name_text (Point k)) → meaning_in (name_text (Point k)) earlier ≡ Some (meaning.Point k) →
    ref_in parameter.Point ps xs earlier c s x ≡ Ok (ref.Point k, s)
unfolding ref_in
used-point ps xs earlier c s x k e h = rw (e, h) refl

pub used-line : (ps : List Parameter) (xs : List Arg) (earlier : Meanings) (c : Bool) (s : Scope) (x : Arg) (k l : ℕ) →
    x.what ≡ what.Name (name_text (Line k)) → meaning_in (name_text (Line k)) earlier ≡ Some (meaning.Line l) →
    ref_in parameter.Line ps xs earlier c s x ≡ Ok (ref.Line l, s)
unfolding ref_in
used-line ps xs earlier c s x k l e h = rw (e, h) refl

pub new-point : (ps : List Parameter) (xs : List Arg) (earlier : Meanings) (c : Bool) (s : Scope) (x : Arg) (i : ℕ) →
    x.what ≡ what.Name (name_text (Point i)) → is_made (name_text (Point i)) ps xs ≡ false →
    meaning_in (name_text (Point i)) s.names ≡ None → length s.points < MOST_POINTS →
    ref_in parameter.NewPoint ps xs earlier c s x ≡ Ok (ref.Point (length s.points), with_point i s)
unfolding ref_in
new-point ps xs earlier c s x i e once none few =
    let room : nat_le MOST_POINTS (length s.points) ≡ false = grind (arith, nat_tests, few) in
    rw (e, none, once, room) refl

pub new-line : (ps : List Parameter) (xs : List Arg) (earlier : Meanings) (c : Bool) (s : Scope) (x : Arg) (i : ℕ) →
    x.what ≡ what.Name (name_text (Line i)) → is_made (name_text (Line i)) ps xs ≡ false →
    meaning_in (name_text (Line i)) s.names ≡ None →
    ref_in parameter.NewLine ps xs earlier c s x ≡ Ok (ref.Line s.lines, with_line i s)
unfolding ref_in
new-line ps xs earlier c s x i e once none = rw (e, none, once) refl

pub a-number : (r : Range) (ps : List Parameter) (xs : List Arg) (earlier : Meanings) (c : Bool) (s : Scope) (x : Arg) (z : ℤ) →
    x.what ≡ what.Number z → ref_in (parameter.Number r) ps xs earlier c s x ≡ Ok (ref.Number z, s)
unfolding ref_in
a-number r ps xs earlier c s x z e = rw e refl

-- ---- the references of arguments, by their values
abbrev pub values : List Arg → List What
values = map (λ (a : Arg). a.what)

-- Whatever arguments have these values refer to these.
abbrev pub Refers : List Parameter → List What → Meanings → Bool → Scope → List Ref → Scope → Type 0
Refers ps us earlier c s rs after = (xs : List Arg) → values xs ≡ us → refs_in ps xs earlier c s ≡ Ok (rs, after)

pub no-more : (earlier : Meanings) (c : Bool) (s : Scope) → Refers [] [] earlier c s [] s
unfolding refs_in
no-more earlier c s xs e = refl

parted : (x : Arg) (xs : List Arg) (u : What) (us : List What) → values (x ∷ xs) ≡ u ∷ us → (x.what ≡ u) × (values xs ≡ us)
parted x xs u us e = (cc, cc)

one-more : (p : Parameter) (ps : List Parameter) (u : What) (us : List What) (earlier : Meanings) (c : Bool) (s next after : Scope) (r : Ref) (rs : List Ref) →
    ((x : Arg) (xs : List Arg) → x.what ≡ u → ref_in p ps xs earlier c s x ≡ Ok (r, next)) →
    Refers ps us earlier (refers_to_circle r) next rs after → Refers (p ∷ ps) (u ∷ us) earlier c s (r ∷ rs) after
one-more p ps u us earlier c s next after r rs first others [] e = cc
one-more p ps u us earlier c s next after r rs first others (x ∷ xs) e =
    let parts = parted x xs u us e in
    refs-cons p ps x xs earlier c s next after r rs (first x xs parts.0) (others xs parts.1)

pub then-point : (ps : List Parameter) (k : ℕ) (us : List What) (earlier : Meanings) (c : Bool) (s after : Scope) (rs : List Ref) →
    meaning_in (name_text (Point k)) earlier ≡ Some (meaning.Point k) → Refers ps us earlier false s rs after →
    Refers (parameter.Point ∷ ps) (what.Name (name_text (Point k)) ∷ us) earlier c s (ref.Point k ∷ rs) after
then-point ps k us earlier c s after rs known others =
    one-more parameter.Point ps (what.Name (name_text (Point k))) us earlier c s s after (ref.Point k) rs
    (λ x xs e. used-point ps xs earlier c s x k e known) others

pub then-line : (ps : List Parameter) (k l : ℕ) (us : List What) (earlier : Meanings) (c : Bool) (s after : Scope) (rs : List Ref) →
    meaning_in (name_text (Line k)) earlier ≡ Some (meaning.Line l) → Refers ps us earlier false s rs after →
    Refers (parameter.Line ∷ ps) (what.Name (name_text (Line k)) ∷ us) earlier c s (ref.Line l ∷ rs) after
then-line ps k l us earlier c s after rs known others =
    one-more parameter.Line ps (what.Name (name_text (Line k))) us earlier c s s after (ref.Line l) rs
    (λ x xs e. used-line ps xs earlier c s x k l e known) others

pub then-number : (r : Range) (ps : List Parameter) (z : ℤ) (us : List What) (earlier : Meanings) (c : Bool) (s after : Scope) (rs : List Ref) →
    Refers ps us earlier false s rs after → Refers (parameter.Number r ∷ ps) (what.Number z ∷ us) earlier c s (ref.Number z ∷ rs) after
then-number r ps z us earlier c s after rs others =
    one-more (parameter.Number r) ps (what.Number z) us earlier c s s after (ref.Number z) rs
    (λ x xs e. a-number r ps xs earlier c s x z e) others

-- None of the parameters makes something.
abbrev pub only_used : List Parameter → Bool
only_used [] = true
only_used (p ∷ ps) = not (is_new p) && only_used ps

old-step : (b c d : Bool) → not b && c ≡ true → (c ≡ true → d ≡ false) → (e : Bool) → (b && e) || d ≡ false
old-step true c d h f e = cc
old-step false c d h f e = f h

nothing-made : (text : List ℕ) (ps : List Parameter) (xs : List Arg) → only_used ps ≡ true → is_made text ps xs ≡ false
unfolding is_made
nothing-made text [] xs h = refl
nothing-made text (p ∷ ps) [] h = refl
nothing-made text (p ∷ ps) (x ∷ xs) h = old-step (is_new p) (only_used ps) (is_made text ps xs) h (nothing-made text ps xs) (is_named text x.what)

pub then-new-point : (ps : List Parameter) (i : ℕ) (us : List What) (earlier : Meanings) (c : Bool) (s after : Scope) (rs : List Ref) →
    only_used ps ≡ true → meaning_in (name_text (Point i)) s.names ≡ None → length s.points < MOST_POINTS →
    Refers ps us earlier false (with_point i s) rs after →
    Refers (parameter.NewPoint ∷ ps) (what.Name (name_text (Point i)) ∷ us) earlier c s (ref.Point (length s.points) ∷ rs) after
then-new-point ps i us earlier c s after rs old none few others =
    one-more parameter.NewPoint ps (what.Name (name_text (Point i))) us earlier c s (with_point i s) after (ref.Point (length s.points)) rs
    (λ x xs e. new-point ps xs earlier c s x i e (nothing-made (name_text (Point i)) ps xs old) none few) others

pub then-new-line : (ps : List Parameter) (i : ℕ) (us : List What) (earlier : Meanings) (c : Bool) (s after : Scope) (rs : List Ref) →
    only_used ps ≡ true → meaning_in (name_text (Line i)) s.names ≡ None → Refers ps us earlier false (with_line i s) rs after →
    Refers (parameter.NewLine ∷ ps) (what.Name (name_text (Line i)) ∷ us) earlier c s (ref.Line s.lines ∷ rs) after
then-new-line ps i us earlier c s after rs old none others =
    one-more parameter.NewLine ps (what.Name (name_text (Line i))) us earlier c s (with_line i s) after (ref.Line s.lines) rs
    (λ x xs e. new-line ps xs earlier c s x i e (nothing-made (name_text (Line i)) ps xs old) none) others
