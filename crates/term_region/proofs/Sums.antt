-- Sums over runs, and runs that are read after a change.
use Rattle.std.proofs.Common.{◌≡◌, ◌≢◌, ℕ, ◌+◌, ◌<◌, ◌≤◌, zero, suc, List, [], ◌∷◌, ◌++◌, length, set, refl, sym, ◌∙◌, ap, Bool, true, false, nat_le, arith}
use Rattle.std.proofs.lemmas.Bool.Decides.{nat_tests}
use Rattle.std.proofs.lemmas.List.{get_or-set_same, get_or-set_other}
use Rattle.term_region.specs.declared.run.Run.{Run}
use Rattle.term_region.specs.Pool.{no_run, run_at, sum_of, one_of, units_of, units_before}

-- ---- reading
pub run-here : (rs : List Run) (k : ℕ) (q : Run) → k < length rs → run_at (set rs k q) k ≡ q
run-here rs k q lt = get_or-set_same rs k q no_run lt

pub run-other : (rs : List Run) (k j : ℕ) (q : Run) → j ≢ k → run_at (set rs k q) j ≡ run_at rs j
run-other rs k j q apart = get_or-set_other rs k j q no_run apart

pub pushed-here : (rs : List Run) (q : Run) → run_at (rs ++ q ∷ []) (length rs) ≡ q
pushed-here [] q = refl
pushed-here (r ∷ rs) q = pushed-here rs q

pub pushed-other : (rs : List Run) (q : Run) (j : ℕ) → j ≢ length rs → run_at (rs ++ q ∷ []) j ≡ run_at rs j
pushed-other [] q zero n = absurd (n refl)
pushed-other [] q (suc j) n = refl
pushed-other (r ∷ rs) q zero n = refl
pushed-other (r ∷ rs) q (suc j) n = pushed-other rs q j (λ e. n (ap suc e))

pub live-below : (rs : List Run) (k : ℕ) → (run_at rs k).live ≡ true → k < length rs
live-below [] k e = absurd (let h : false ≡ true = e in cc)
live-below (r ∷ rs) zero e = omega arith
live-below (r ∷ rs) (suc k) e = omega (arith, live-below rs k e)

-- ---- equal runs, field by field
pub record Alike (a b : Run) : Type 0 where
  pub live : a.live ≡ b.live
  pub start : a.start ≡ b.start
  pub len : a.len ≡ b.len
  pub rank : a.rank ≡ b.rank

pub alike : (a b : Run) → a ≡ b → Alike a b
alike a b e = record { live = ap (λ (r : Run). r.live) e; start = ap (λ (r : Run). r.start) e; len = ap (λ (r : Run). r.len) e; rank = ap (λ (r : Run). r.rank) e }

-- ---- sums
suc-apart : (j k : ℕ) → j ≢ k → suc j ≢ suc k
suc-apart j k n e = n (omega (arith, e))

pub sum-le : (f g : Run → ℕ) (rs : List Run) → ((r : Run) → f r ≤ g r) → sum_of f rs ≤ sum_of g rs
sum-le f g [] h = omega arith
sum-le f g (r ∷ rs) h = omega (arith, h r, sum-le f g rs h)

pub sum-same : (f g : Run → ℕ) (rs : List Run) → ((k : ℕ) → f (run_at rs k) ≡ g (run_at rs k)) → sum_of f rs ≡ sum_of g rs
sum-same f g [] h = refl
sum-same f g (r ∷ rs) h = omega (arith, h 0, sum-same f g rs (λ k. h (suc k)))

pub sum-one : (f g : Run → ℕ) (rs : List Run) (m d : ℕ) → m < length rs → f (run_at rs m) ≡ g (run_at rs m) + d
    → ((k : ℕ) → k ≢ m → f (run_at rs k) ≡ g (run_at rs k)) → sum_of f rs ≡ sum_of g rs + d
sum-one f g [] m d lt here others = absurd (omega arith)
sum-one f g (r ∷ rs) zero d lt here others = omega (arith, here, sum-same f g rs (λ k. others (suc k) (λ e. absurd (omega (arith, e)))))
sum-one f g (r ∷ rs) (suc m) d lt here others =
    omega (arith, others 0 (λ e. absurd (omega (arith, e))), sum-one f g rs m d (omega arith) here (λ k n. others (suc k) (suc-apart k m n)))

pub sum-set : (f : Run → ℕ) (rs : List Run) (k : ℕ) (q : Run) → k < length rs → sum_of f (set rs k q) + f (run_at rs k) ≡ sum_of f rs + f q
sum-set f [] k q lt = absurd (omega arith)
sum-set f (r ∷ rs) zero q lt = omega arith
sum-set f (r ∷ rs) (suc k) q lt = omega (arith, sum-set f rs k q (omega arith))

pub sum-push : (f : Run → ℕ) (rs : List Run) (q : Run) → sum_of f (rs ++ q ∷ []) ≡ sum_of f rs + f q
sum-push f [] q = omega arith
sum-push f (r ∷ rs) q = omega (arith, sum-push f rs q)

-- ---- one run's part
pub one-live : (r : Run) → r.live ≡ true → one_of r ≡ 1
one-live r l = ap (λ b. elim b as (λ _. ℕ) [ false ↦ 0 | true ↦ 1 ]) l

pub one-dead : (r : Run) → r.live ≡ false → one_of r ≡ 0
one-dead r l = ap (λ b. elim b as (λ _. ℕ) [ false ↦ 0 | true ↦ 1 ]) l

pub units-live : (r : Run) → r.live ≡ true → units_of r ≡ r.len + 1
units-live r l = ap (λ b. elim b as (λ _. ℕ) [ false ↦ 0 | true ↦ r.len + 1 ]) l

pub units-dead : (r : Run) → r.live ≡ false → units_of r ≡ 0
units-dead r l = ap (λ b. elim b as (λ _. ℕ) [ false ↦ 0 | true ↦ r.len + 1 ]) l

pub before-dead : (i : ℕ) (r : Run) → r.live ≡ false → units_before i r ≡ 0
before-dead i r l = ap (λ b. elim b as (λ _. ℕ) [ false ↦ 0 | true ↦ elim (nat_le (suc r.rank) i) as (λ _. ℕ) [ false ↦ 0 | true ↦ r.len + 1 ] ]) l

before-live : (i : ℕ) (r : Run) → r.live ≡ true → units_before i r ≡ elim (nat_le (suc r.rank) i) as (λ _. ℕ) [ false ↦ 0 | true ↦ r.len + 1 ]
before-live i r l = ap (λ b. elim b as (λ _. ℕ) [ false ↦ 0 | true ↦ elim (nat_le (suc r.rank) i) as (λ _. ℕ) [ false ↦ 0 | true ↦ r.len + 1 ] ]) l

pub before-in : (i : ℕ) (r : Run) → r.live ≡ true → r.rank < i → units_before i r ≡ r.len + 1
before-in i r l lt = before-live i r l ∙ ap (λ b. elim b as (λ _. ℕ) [ false ↦ 0 | true ↦ r.len + 1 ]) (let h : nat_le (suc r.rank) i ≡ true = grind (arith, nat_tests) in h)

pub before-out : (i : ℕ) (r : Run) → r.live ≡ true → i ≤ r.rank → units_before i r ≡ 0
before-out i r l le = before-live i r l ∙ ap (λ b. elim b as (λ _. ℕ) [ false ↦ 0 | true ↦ r.len + 1 ]) (let h : nat_le (suc r.rank) i ≡ false = grind (arith, nat_tests) in h)

one-units : (r : Run) → one_of r ≤ units_of r
one-units r = elim r.live as (λ b. elim b as (λ _. ℕ) [ false ↦ 0 | true ↦ 1 ] ≤ elim b as (λ _. ℕ) [ false ↦ 0 | true ↦ r.len + 1 ]) [ false ↦ omega arith | true ↦ omega arith ]

pub count-units : (rs : List Run) → sum_of one_of rs ≤ sum_of units_of rs
count-units rs = sum-le one_of units_of rs one-units

before-units : (i : ℕ) (r : Run) → units_before i r ≤ units_of r
before-units i r =
    elim r.live as (λ b. elim b as (λ _. ℕ) [ false ↦ 0 | true ↦ elim (nat_le (suc r.rank) i) as (λ _. ℕ) [ false ↦ 0 | true ↦ r.len + 1 ] ] ≤ elim b as (λ _. ℕ) [ false ↦ 0 | true ↦ r.len + 1 ]) [
      | false ↦ omega arith
      | true ↦ elim (nat_le (suc r.rank) i) as (λ b. elim b as (λ _. ℕ) [ false ↦ 0 | true ↦ r.len + 1 ] ≤ r.len + 1) [ false ↦ omega arith | true ↦ omega arith ]
    ]

pub sum-before : (i : ℕ) (rs : List Run) → sum_of (units_before i) rs ≤ sum_of units_of rs
sum-before i rs = sum-le (units_before i) units_of rs (before-units i)

-- a live run counts
pub live-counts : (rs : List Run) (k : ℕ) → (run_at rs k).live ≡ true → 1 ≤ sum_of one_of rs
live-counts [] k e = absurd (let h : false ≡ true = e in cc)
live-counts (r ∷ rs) zero e = omega (arith, one-live r e)
live-counts (r ∷ rs) (suc k) e = omega (arith, live-counts rs k e)

pub both : (b : Bool) → b ≡ true → b ≡ false → ⊥
both b t f = absurd (let h : true ≡ false = sym t ∙ f in cc)
