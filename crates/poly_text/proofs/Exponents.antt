-- The exponents that are read so far.
use Rattle.std.proofs.Common.{◌≡◌, ◌≢◌, ℕ, ◌+◌, ◌-◌, ◌<◌, ◌≤◌, zero, suc, List, [], ◌∷◌, ◌++◌, length, take, drop, get_or, set, replicate, Bool, true, refl, sym, ◌∙◌, ap, subst, arith, Some, None, append_assoc, length-drop}
use Rattle.std.proofs.lemmas.List.{take_more, take-append-drop, drop_all, drop-set-lt, length-set, get_or_default}
use Rattle.std.proofs.Math.Seq.{drop-cons, take-suc-set}
use Rattle.poly_model.specs.declared.vars.VarName.{VarName}
use Rattle.poly_model.specs.declared.limits.TheConstants.{MOST_VARIABLES}
use Rattle.poly_text.specs.Reading.{joint_at, exponent_at, exponent_behind, factor_at, factors_at, NoName, OnlyName, Lacks}
use Rattle.poly_text.proofs.Factors.{next}

-- the factors up to i were read: what is left of the text gives the other exponents
pub record FactorsRead (spare : ℕ) (before joined : Bool) (names : List VarName) (text rest exps : List ℕ) (i : ℕ) : Type 0 where
  pub whole : length exps ≡ MOST_VARIABLES
  pub none : drop i exps ≡ replicate (MOST_VARIABLES - i) 0
  pub reads : factors_at spare before names text ≡ (take i exps ++ (factors_at spare joined (drop i names) rest).0, (factors_at spare joined (drop i names) rest).1)

pub none_yet : (spare : ℕ) (joined : Bool) (names : List VarName) (text : List ℕ) → FactorsRead spare joined joined names text text (replicate MOST_VARIABLES 0) 0
none_yet spare joined names text = record { whole = refl; none = refl; reads = refl }

head : ℕ → List ℕ → ℕ
head d [] = d
head d (x ∷ xs) = x

tail : List ℕ → List ℕ
tail [] = []
tail (x ∷ xs) = xs

-- the zeros from i on are one, and those behind it
zeros : (i : ℕ) (exps : List ℕ) → length exps ≡ MOST_VARIABLES → i < MOST_VARIABLES → drop i exps ≡ replicate (MOST_VARIABLES - i) 0
    → (get_or exps i 0 ≡ 0) × (drop (i + 1) exps ≡ replicate (MOST_VARIABLES - (i + 1)) 0)
unfolding head tail
zeros i exps whole lt none =
    let count : MOST_VARIABLES - i ≡ suc (MOST_VARIABLES - (i + 1)) = omega (arith, lt) in
    let cut : get_or exps i 0 ∷ drop (suc i) exps ≡ 0 ∷ replicate (MOST_VARIABLES - (i + 1)) 0 =
    sym (drop-cons exps i 0 (omega (arith, whole, lt))) ∙ none ∙ ap (λ n. replicate n 0) count
    in
    let step : i + 1 ≡ suc i = omega arith in
    (ap (head 0) cut, ap (λ k. drop k exps) step ∙ ap tail cut)

-- what is read at one more place
module _ (spare : ℕ) (before joined : Bool) (names : List VarName) (text rest exps : List ℕ) (i : ℕ) (name : VarName) where
  pub absent : i < length names → i < MOST_VARIABLES → get_or names i name ≡ name → factor_at name joined rest ≡ None
      → FactorsRead spare before joined names text rest exps i → FactorsRead spare before joined names text rest exps (i + 1)
  absent below within named none h =
      let z = zeros i exps h.whole within h.none in
      let step : suc i ≡ i + 1 = omega arith in
      let cut : drop i names ≡ name ∷ drop (i + 1) names = drop-cons names i name below ∙ (λ j. named j ∷ drop (step j) names) in
      let read : factors_at spare joined (drop i names) rest ≡ (0 ∷ (factors_at spare joined (drop (i + 1) names) rest).0, (factors_at spare joined (drop (i + 1) names) rest).1) =
      ap (λ l. factors_at spare joined l rest) cut ∙ ap (next spare joined name (drop (i + 1) names) rest) none
      in
      let F = factors_at spare joined (drop (i + 1) names) rest in
      let front : take i exps ++ 0 ∷ F.0 ≡ take (i + 1) exps ++ F.0 =
      sym (append_assoc (take i exps) (0 ∷ []) F.0) ∙ ap (λ l. l ++ F.0) (sym (take_more exps i 0 (omega (arith, h.whole, within)) ∙ ap (λ x. take i exps ++ x ∷ []) z.0))
      in
      record {
        whole = h.whole;
        none = z.1;
        reads = h.reads ∙ ap (λ (r : List ℕ × List ℕ). (take i exps ++ r.0, r.1)) read ∙ (λ j. (front j, F.1));
      }

  pub present : (e : ℕ) (after : List ℕ) → i < length names → i < MOST_VARIABLES → get_or names i name ≡ name → factor_at name joined rest ≡ Some (e, after)
      → FactorsRead spare before joined names text rest exps i → FactorsRead spare before true names text after (set exps i e) (i + 1)
  present e after below within named some h =
      let z = zeros i exps h.whole within h.none in
      let step : suc i ≡ i + 1 = omega arith in
      let cut : drop i names ≡ name ∷ drop (i + 1) names = drop-cons names i name below ∙ (λ j. named j ∷ drop (step j) names) in
      let read : factors_at spare joined (drop i names) rest ≡ (e ∷ (factors_at spare true (drop (i + 1) names) after).0, (factors_at spare true (drop (i + 1) names) after).1) =
      ap (λ l. factors_at spare joined l rest) cut ∙ ap (next spare joined name (drop (i + 1) names) rest) some
      in
      let F = factors_at spare true (drop (i + 1) names) after in
      let taken : take (i + 1) (set exps i e) ≡ take i exps ++ e ∷ [] = ap (λ k. take k (set exps i e)) (sym step) ∙ take-suc-set exps i e (omega (arith, h.whole, within)) in
      let front : take i exps ++ e ∷ F.0 ≡ take (i + 1) (set exps i e) ++ F.0 = sym (append_assoc (take i exps) (e ∷ []) F.0) ∙ ap (λ l. l ++ F.0) (sym taken) in
      record {
        whole = length-set exps i e ∙ h.whole;
        none = drop-set-lt (i + 1) exps i e (omega arith) ∙ z.1;
        reads = h.reads ∙ ap (λ (r : List ℕ × List ℕ). (take i exps ++ r.0, r.1)) read ∙ (λ j. (front j, F.1));
      }

  -- another variable stands there
  passed : (other : VarName) (behind : List ℕ) → i < length names → i < MOST_VARIABLES → get_or names i name ≡ name → name ≢ other
      → OnlyName other behind (joint_at joined rest) → FactorsRead spare before joined names text rest exps i → FactorsRead spare before joined names text rest exps (i + 1)
  passed other behind below within named differs only h = absent below within named (ap exponent_behind (only.1 name differs)) h

  -- the variable stands there, and no exponent
  pub without : (behind : List ℕ) → i < length names → i < MOST_VARIABLES → get_or names i name ≡ name → exponent_at behind ≡ None
      → OnlyName name behind (joint_at joined rest) → FactorsRead spare before joined names text rest exps i → FactorsRead spare before joined names text rest exps (i + 1)
  without behind below within named none only h = absent below within named (ap exponent_behind only.0 ∙ none) h

  -- the variable stands there with an exponent
  pub taken : (behind : List ℕ) (e : ℕ) (after : List ℕ) → i < length names → i < MOST_VARIABLES → get_or names i name ≡ name → exponent_at behind ≡ Some (e, after)
      → OnlyName name behind (joint_at joined rest) → FactorsRead spare before joined names text rest exps i → FactorsRead spare before true names text after (set exps i e) (i + 1)
  taken behind e after below within named some only h = present e after below within named (ap exponent_behind only.0 ∙ some) h

-- the places that lack the variable are passed
skipped : (spare : ℕ) (before joined : Bool) (names : List VarName) (text rest exps : List ℕ) (i k : ℕ) (name : VarName) (behind : List ℕ) → i + k ≤ length names
    → length names ≤ MOST_VARIABLES → Lacks i (i + k) name names → OnlyName name behind (joint_at joined rest)
    → FactorsRead spare before joined names text rest exps i → FactorsRead spare before joined names text rest exps (i + k)
skipped spare before joined names text rest exps i zero name behind low few lacks only h =
    subst (FactorsRead spare before joined names text rest exps) (let e : i ≡ i + 0 = omega arith in e) h
skipped spare before joined names text rest exps i (suc k) name behind low few lacks only h =
    let less : i + k < length names = omega (arith, low) in
    let found = get_or names (i + k) name in
    let named : get_or names (i + k) found ≡ found = get_or_default names (i + k) found name less in
    let differs : found ≢ name = lacks (i + k) (omega arith) (omega arith) less in
    let lacks_so_far : Lacks i (i + k) name names = λ j above below lt. lacks j above (omega (arith, below)) lt in
    let done = skipped spare before joined names text rest exps i k name behind (omega (arith, low)) few lacks_so_far only h in
    subst (FactorsRead spare before joined names text rest exps) (let e : i + k + 1 ≡ i + suc k = omega arith in e)
    (passed spare before joined names text rest exps (i + k) found name behind less (omega (arith, less, few)) named differs only done)

pub skipped_to : (spare : ℕ) (before joined : Bool) (names : List VarName) (text rest exps : List ℕ) (i : ℕ) (name : VarName) (behind : List ℕ) (place : ℕ) → i ≤ place
    → place ≤ length names → length names ≤ MOST_VARIABLES → Lacks i place name names → OnlyName name behind (joint_at joined rest)
    → FactorsRead spare before joined names text rest exps i → FactorsRead spare before joined names text rest exps place
skipped_to spare before joined names text rest exps i name behind place low high few lacks only h =
    let e : i + (place - i) ≡ place = omega (arith, low) in
    let lacks_so_far : Lacks i (i + (place - i)) name names = λ j above below lt. lacks j above (omega (arith, below, e)) lt in
    subst (FactorsRead spare before joined names text rest exps) e
    (skipped spare before joined names text rest exps i (place - i) name behind (omega (arith, e, high)) few lacks_so_far only h)

-- no factor is read behind the places that were read
nothing_more : (spare : ℕ) (before joined : Bool) (names : List VarName) (text rest exps : List ℕ) (i : ℕ)
    → factors_at spare joined (drop i names) rest ≡ (replicate (MOST_VARIABLES - i) 0, rest)
    → FactorsRead spare before joined names text rest exps i → (exps, rest) ≡ factors_at spare before names text
nothing_more spare before joined names text rest exps i end h =
    let back : take i exps ++ replicate (MOST_VARIABLES - i) 0 ≡ exps = ap (λ l. take i exps ++ l) (sym h.none) ∙ take-append-drop i exps in
    sym (h.reads ∙ ap (λ (r : List ℕ × List ℕ). (take i exps ++ r.0, r.1)) end ∙ (λ j. (back j, rest)))

-- all places were read
pub all_read : (before joined : Bool) (names : List VarName) (text rest exps : List ℕ) (i : ℕ) → length names ≤ i → i ≤ length names
    → FactorsRead (MOST_VARIABLES - length names) before joined names text rest exps i
    → (exps, rest) ≡ factors_at (MOST_VARIABLES - length names) before names text
all_read before joined names text rest exps i low high h =
    let spare = MOST_VARIABLES - length names in
    let same : length names ≡ i = omega (arith, low, high) in
    nothing_more spare before joined names text rest exps i
    (ap (λ l. factors_at spare joined l rest) (drop_all i names low) ∙ ap (λ n. (replicate (MOST_VARIABLES - n) 0, rest)) same) h

-- where no variable stands, no factor is read
unread : (spare : ℕ) (joined : Bool) (names : List VarName) (text : List ℕ) → NoName (joint_at joined text)
    → factors_at spare joined names text ≡ (replicate (length names + spare) 0, text)
unread spare joined [] text none = let count : spare ≡ length {A = VarName} [] + spare = omega arith in λ i. (replicate (count i) 0, text)
unread spare joined (name ∷ names) text none =
    let count : suc (length names + spare) ≡ length (name ∷ names) + spare = omega arith in
    ap (next spare joined name names text) (ap exponent_behind (none name))
    ∙ (λ i. (0 ∷ (unread spare joined names text none i).0, (unread spare joined names text none i).1))
    ∙ (λ i. (replicate (count i) 0, text))

-- no variable stands behind the places that were read
pub none_left : (before joined : Bool) (names : List VarName) (text rest exps : List ℕ) (i : ℕ) → i ≤ length names → length names ≤ MOST_VARIABLES
    → NoName (joint_at joined rest) → FactorsRead (MOST_VARIABLES - length names) before joined names text rest exps i
    → (exps, rest) ≡ factors_at (MOST_VARIABLES - length names) before names text
none_left before joined names text rest exps i below within none h =
    let spare = MOST_VARIABLES - length names in
    let count : length (drop i names) + spare ≡ MOST_VARIABLES - i = omega (arith, length-drop i names, below, within) in
    nothing_more spare before joined names text rest exps i
    (unread spare joined (drop i names) rest none ∙ ap (λ n. (replicate n 0, rest)) count) h
