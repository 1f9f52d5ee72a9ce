-- Rules that are tried.
use Rattle.std.proofs.Common.{◌≡◌, ℕ, List, [], ◌∷◌, refl, sym, ◌∙◌, ap, subst, arith, ◌<◌, ◌≤◌, zero, suc, length, map, get_or, IsTrue, Bool, true, false, not}
use Rattle.std.specs.Prelude.{IfOk, ◌≢◌, ℤ, Option, Some, None, Result, Ok, Err, if◌then◌else◌, ◌-◌, ◌||◌, ◌&&◌, nat_lt, nat_le, ◌==◌}
use Rattle.std.specs.List.{list_any}
use Rattle.std.proofs.lemmas.Bool.{and_parts, ltb-true, leb-true, eqb-false, not-true}
use Rattle.poly_model.specs.Polynomial.{Polynomial}
use Rattle.term_store.specs.States.{State}
use Rattle.term_store.specs.Changes.{Keeps}
use Rattle.poly_model.specs.declared.limits.Limit.{Limit}
use Rattle.polynomials.specs.declared.poly.Poly.{Poly}
use Rattle.polynomials.specs.Held.{Gives}
use Rattle.proof_steps.specs.Numbers.{item, has}
use Rattle.poly_model.specs.Reduction.{primitive_initial, primitive_tail, reduction_of, class_of, is_constant, reaches}
use Rattle.poly_model.specs.Bounded.{bounded_reduction}
use Rattle.proof_steps.specs.Rules.{has_known_initial, size_of, dropped, cut, reduction_limit, reduced, made, is_short, is_valid, reason_of}
use Rattle.proof_steps.specs.Reasons.{limit_met}
use Rattle.proof_steps.specs.Trees.{AsOutcome}
use Rattle.poly_model.specs.Reasons as limits
use Rattle.proof_steps.specs.declared.piece.Node.{Node}
use Rattle.proof_steps.specs.declared.step.Attempt.TheVariants as attempt
use Rattle.poly_model.specs.declared.limits.Reason.{Reason}
use Rattle.poly_model.specs.declared.limits.Reason.TheVariants.{Fuel, Depth}
use Rattle.pseudo_div.specs.Answers as answers
use Rattle.workbench.specs.Standing.{Stands, AllTell, Becomes, Settled, held_at, node_at, put_at}
use Rattle.workbench.specs.declared.bench.Held.{Held}
use Rattle.workbench.proofs.Benches.{equation-at, sizes-without, tell-at}
use Rattle.workbench.proofs.Tests.{not-below}
use Rattle.poly_model.proofs.Reductions.{bounded_reduction-is}
use Rattle.poly_model.proofs.Within.{within-of}
use Rattle.poly_model.specs.Standard.{is_standard}
use Rattle.std.proofs.lemmas.List.{length-map}
use Rattle.workbench.specs.Taking.{Cuts, Leaves, Reduces}
use Rattle.poly_model.specs.declared.limits.TheConstants.{MOST_LETTERS, MOST_VARIABLES}
use Rattle.workbench.specs.declared.bench.Bench.{Bench}
use Rattle.workbench.specs.Splitting.{PartedBy, Parts}
use Rattle.workbench.specs.declared.splitting.Parting.{Parting}
use Rattle.workbench.specs.declared.splitting.Parting.TheVariants as parting
use Rattle.proof_steps.specs.declared.piece.Outcome.TheVariants as outcome
use Rattle.std.proofs.lemmas.Bool.{ne_eqb}

-- what the answer of a reduction says
pub record Reduced (s t : State) (r : ℤ × Poly) (whole : Result (ℤ × Polynomial) Limit) : Type 0 where
  pub value : ℤ × Polynomial
  pub is : whole ≡ Ok value
  pub number : r.0 ≡ value.0
  pub gives : Gives s t r.1 value.1

pub reduces-ok : (s t : State) (r : ℤ × Poly) (w : Result (ℤ × Polynomial) Limit) → answers.Reduces s t (Ok r) w → Reduced s t r w
reduces-ok s t r (Ok p) x = record { value = p; is = refl; number = x.0; gives = x.1 }
reduces-ok s t r (Err l) x = absurd x

pub reduces-err : (s t : State) (l : Limit) (w : Result (ℤ × Polynomial) Limit) → answers.Reduces s t (Err l) w → (w ≡ Err l) × Keeps s t
reduces-err s t l (Ok p) x = absurd x
reduces-err s t l (Err k) x = (ap Err (sym x.0), x.1)

limit-met : (g f : Polynomial) (l : Limit) → bounded_reduction g f ≡ Err l → reduction_limit g f ≡ Some (limits.reason_of l)
unfolding reduction_limit
limit-met g f l e = ap limit_met e

limit-none : (g f : Polynomial) (p : ℤ × Polynomial) → bounded_reduction g f ≡ Ok p → reduction_limit g f ≡ None
unfolding reduction_limit
limit-none g f p e = ap limit_met e

abbrev by_fuel : Option Reason → List Node → Option Reason
by_fuel o ms = elim o [ Some r ↦ Some r | None ↦ if list_any is_short ms then Some Fuel else None ]

one-short : (m : Node) (b : Bool) → is_short m ≡ b → list_any is_short (m ∷ []) ≡ b
one-short m true e = ap (λ x. x || false) e
one-short m false e = ap (λ x. x || false) e

pub red-limit : (version : ℕ) (n : Node) (g f : ℕ) (l : Limit) → bounded_reduction (item n.eqs g) (item n.eqs f) ≡ Err l → reason_of version n (attempt.Red g f) ≡ Some (limits.reason_of l)
red-limit version n g f l e = ap (λ o. by_fuel o (made version n (attempt.Red g f))) (limit-met (item n.eqs g) (item n.eqs f) l e)

red-fuel : (version : ℕ) (n : Node) (g f : ℕ) (p : ℤ × Polynomial) (b : Bool) → bounded_reduction (item n.eqs g) (item n.eqs f) ≡ Ok p → is_short (reduced n g f) ≡ b → reason_of version n (attempt.Red g f) ≡ (if b then Some Fuel else None)
red-fuel version n g f p b e s =
    ap (λ o. by_fuel o (made version n (attempt.Red g f))) (limit-none (item n.eqs g) (item n.eqs f) p e)
    ∙ ap (λ x. if x then Some Fuel else None) (one-short (reduced n g f) b s)

-- a reduction that is put there, or is not
pub red-put : (version : ℕ) (base u : State) (c : Bench) (n : Node) (g f : ℕ) (p : ℤ × Polynomial) (m : ℤ) → bounded_reduction (item n.eqs g) (item n.eqs f) ≡ Ok p → p ≡ reduction_of (item n.eqs g) (item n.eqs f)
    → m ≡ p.0 → Settled base u c true n (put_at n (g - 1) p.1) → Reduces version base n g f (Ok m) u c
red-put version base u c n g f p m whole is number x =
    let y = subst (λ (q : ℤ × Polynomial). Settled base u c true n (put_at n (g - 1) q.1)) is x in
    (number ∙ ap (λ (q : ℤ × Polynomial). q.0) is, (red-fuel version n g f p false whole y.0, y.1))

pub red-short : (version : ℕ) (base u : State) (c : Bench) (n : Node) (g f : ℕ) (p : ℤ × Polynomial) → bounded_reduction (item n.eqs g) (item n.eqs f) ≡ Ok p → p ≡ reduction_of (item n.eqs g) (item n.eqs f)
    → Settled base u c false n (put_at n (g - 1) p.1) → Reduces version base n g f (Err Fuel) u c
red-short version base u c n g f p whole is x =
    let y = subst (λ (q : ℤ × Polynomial). Settled base u c false n (put_at n (g - 1) q.1)) is x in
    (red-fuel version n g f p true whole y.0, y.1)

pub has-place : (ps : List Polynomial) (i : ℕ) → has ps i ≡ true → i - 1 < length ps
has-place ps i h =
    let parts = and_parts (nat_lt 0 i) (nat_le i (length ps)) h in
    let low = ltb-true 0 i parts.0 in
    let high = leb-true i (length ps) parts.1 in
    omega (arith, low, high)

class-some : (p : Polynomial) → not (is_constant p) ≡ true → class_of p ≢ 0
class-some p h e = eqb-false (class_of p) 0 (not-true (is_constant p) h) e

-- what validity says of places, and of what stands there
pub red-places : (version : ℕ) (s : State) (b : Bench) (g f : ℕ) → is_valid version (node_at s b) (attempt.Red g f) ≡ true → (g - 1 < length b.eqs.items) × (f - 1 < length b.eqs.items)
red-places version s b g f v =
    let n = node_at s b in
    let both = (and_parts (has n.eqs g && (has n.eqs f && not (g == f))) _ v).0 in
    let first = and_parts (has n.eqs g) _ both in
    let at = has-place n.eqs g first.0 in
    let by = has-place n.eqs f (and_parts (has n.eqs f) _ first.1).0 in
    let l : length (map (held_at s) b.eqs.items) ≡ length b.eqs.items = length-map b.eqs.items (held_at s) in
    (omega (arith, at, l), omega (arith, by, l))

pub red-whole : (version : ℕ) (s : State) (b : Bench) (g f : ℕ) (x y : Held) (w : Result (ℤ × Polynomial) Limit) → is_valid version (node_at s b) (attempt.Red g f) ≡ true
    → x ≡ get_or b.eqs.items (g - 1) x → y ≡ get_or b.eqs.items (f - 1) y → bounded_reduction (held_at s x) (held_at s y) ≡ w → bounded_reduction (item (node_at s b).eqs g) (item (node_at s b).eqs f) ≡ w
red-whole version s b g f x y w v at by e =
    let places = red-places version s b g f v in
    (λ i. bounded_reduction (sym (equation-at s b.eqs.items (g - 1) x places.0 at) i) (sym (equation-at s b.eqs.items (f - 1) y places.1 by) i)) ∙ e

pub red-is : (version : ℕ) (base s : State) (b : Bench) (g f : ℕ) (p : ℤ × Polynomial) → Stands base s [] b → is_valid version (node_at s b) (attempt.Red g f) ≡ true
    → bounded_reduction (item (node_at s b).eqs g) (item (node_at s b).eqs f) ≡ Ok p → p ≡ reduction_of (item (node_at s b).eqs g) (item (node_at s b).eqs f)
red-is version base s b g f p st v e =
    let places = red-places version s b g f v in
    bounded_reduction-is MOST_VARIABLES (item (node_at s b).eqs g) (item (node_at s b).eqs f) p (within-of _ (standard-at s b.eqs.items _ (g - 1) places.0 st.tell)).descending
    (within-of _ (standard-at s b.eqs.items _ (f - 1) places.1 st.tell)).descending e
  where
    standard-at : (s : State) (hs : List Held) (N : List Polynomial) (i : ℕ) → i < length hs → AllTell N hs (map (held_at s) hs) → IsTrue (is_standard (get_or (map (held_at s) hs) i []))
    standard-at s [] N i h t = absurd (omega arith)
    standard-at s (x ∷ hs) N zero h t = t.0.standard
    standard-at s (x ∷ hs) N (suc i) h t = standard-at s hs N i (omega arith) t.1

-- the equation that reduces is no constant, and the other reaches its degree
pub red-class : (version : ℕ) (s : State) (b : Bench) (g f : ℕ) (y : Held) → is_valid version (node_at s b) (attempt.Red g f) ≡ true → y ≡ get_or b.eqs.items (f - 1) y → class_of (held_at s y) ≢ 0
red-class version s b g f y v by =
    let n = node_at s b in
    let parts = (and_parts (has n.eqs g && (has n.eqs f && not (g == f))) _ v).1 in
    let some = (and_parts (not (is_constant (item n.eqs f))) _ parts).0 in
    class-some (held_at s y) (ap (λ p. not (is_constant p)) (equation-at s b.eqs.items (f - 1) y (red-places version s b g f v).1 by) ∙ some)

pub red-reaches : (version : ℕ) (s : State) (b : Bench) (g f : ℕ) (x y : Held) → is_valid version (node_at s b) (attempt.Red g f) ≡ true → x ≡ get_or b.eqs.items (g - 1) x → y ≡ get_or b.eqs.items (f - 1) y
    → reaches (held_at s x) (held_at s y) ≡ true
red-reaches version s b g f x y v at by =
    let n = node_at s b in
    let places = red-places version s b g f v in
    let parts = (and_parts (has n.eqs g && (has n.eqs f && not (g == f))) _ v).1 in
    let rest = (and_parts (not (is_constant (item n.eqs f))) _ parts).1 in
    (λ i. reaches (equation-at s b.eqs.items (g - 1) x places.0 at i) (equation-at s b.eqs.items (f - 1) y places.1 by i)) ∙ (and_parts (has_known_initial n.nes (item n.eqs f)) _ rest).1

-- its class, as a place
pub red-place : (version : ℕ) (base s : State) (b : Bench) (g f : ℕ) (y : Held) → Stands base s [] b → is_valid version (node_at s b) (attempt.Red g f) ≡ true → y ≡ get_or b.eqs.items (f - 1) y
    → (1 ≤ y.class) × (class_of (held_at s y) ≡ suc (y.class - 1))
red-place version base s b g f y st v by =
    let below = (red-places version s b g f v).1 in
    let class : y.class ≡ class_of (held_at s y) =
    ap (λ w. w.class) by ∙ (tell-at _ b.eqs.items (node_at s b).eqs (f - 1) y below st.tell).class ∙ ap class_of (sym (equation-at s b.eqs.items (f - 1) y below by)) in
    let some = red-class version s b g f y v by in
    (omega (arith, class, some), omega (arith, class, some))

-- ---- tail
pub tail-place : (version : ℕ) (s : State) (b : Bench) (f : ℕ) → is_valid version (node_at s b) (attempt.Tail f) ≡ true → f - 1 < length b.eqs.items
tail-place version s b f v =
    let by = has-place (node_at s b).eqs f (and_parts (has (node_at s b).eqs f) _ v).0 in
    let l : length (map (held_at s) b.eqs.items) ≡ length b.eqs.items = length-map b.eqs.items (held_at s) in
    omega (arith, by, l)

pub tail-class : (version : ℕ) (s : State) (b : Bench) (f : ℕ) (y : Held) → is_valid version (node_at s b) (attempt.Tail f) ≡ true → y ≡ get_or b.eqs.items (f - 1) y → is_constant (held_at s y) ≡ false
tail-class version s b f y v by =
    let n = node_at s b in
    let rest = (and_parts (has n.eqs f) _ v).1 in
    ap is_constant (equation-at s b.eqs.items (f - 1) y (tail-place version s b f v) by) ∙ not-true (is_constant (item n.eqs f)) (and_parts (not (is_constant (item n.eqs f))) _ rest).0

tail-fuel : (version : ℕ) (n : Node) (f : ℕ) (b : Bool) → is_short (cut n f) ≡ b → reason_of version n (attempt.Tail f) ≡ (if b then Some Fuel else None)
tail-fuel version n f b s = ap (λ x. if x then Some Fuel else None) (one-short (cut n f) b s)

pub tail-put : (version : ℕ) (base u : State) (c : Bench) (n : Node) (f : ℕ) (p : Polynomial) → p ≡ primitive_tail (item n.eqs f) → Settled base u c true n (put_at n (f - 1) p) → Cuts version base n f (Ok tt) u c
tail-put version base u c n f p is x =
    let y = subst (λ (q : Polynomial). Settled base u c true n (put_at n (f - 1) q)) is x in
    (tail-fuel version n f false y.0, y.1)

pub tail-short : (version : ℕ) (base u : State) (c : Bench) (n : Node) (f : ℕ) (p : Polynomial) → p ≡ primitive_tail (item n.eqs f) → Settled base u c false n (put_at n (f - 1) p) → Cuts version base n f (Err Fuel) u c
tail-short version base u c n f p is x =
    let y = subst (λ (q : Polynomial). Settled base u c false n (put_at n (f - 1) q)) is x in
    (tail-fuel version n f true y.0, y.1)

-- ---- drop
pub drop-place : (version : ℕ) (s : State) (b : Bench) (i : ℕ) → is_valid version (node_at s b) (attempt.Drop i) ≡ true → (0 < i) × (i - 1 < length b.eqs.items)
drop-place version s b i v =
    let h = (and_parts (has (node_at s b).eqs i) _ v).0 in
    let at = has-place (node_at s b).eqs i h in
    let low = ltb-true 0 i (and_parts (nat_lt 0 i) _ h).0 in
    let l : length (map (held_at s) b.eqs.items) ≡ length b.eqs.items = length-map b.eqs.items (held_at s) in
    (low, omega (arith, at, l))

pub drop-taken : (version : ℕ) (base u : State) (c : Bench) (n : Node) (i : ℕ) → Becomes base u c (dropped n i) → size_of n ≤ n.fuel → i - 1 < length n.eqs → Leaves version base n (attempt.Drop i) (dropped n i) u c
drop-taken version base u c n i x enough at =
    let less = sizes-without n.eqs (i - 1) at in
    let long : is_short (dropped n i) ≡ false = not-below _ (size_of (dropped n i)) (omega (arith, less, enough)) in
    (ap (λ b. if b then Some Fuel else None) (one-short (dropped n i) false long), x)

-- ---- split
pub split-class : (version : ℕ) (s : State) (b : Bench) (f : ℕ) (y : Held) → is_valid version (node_at s b) (attempt.Split f) ≡ true → f - 1 < length b.eqs.items → y ≡ get_or b.eqs.items (f - 1) y → is_constant (held_at s y) ≡ false
split-class version s b f y v below by =
    let n = node_at s b in
    ap is_constant (equation-at s b.eqs.items (f - 1) y below by) ∙ not-true (is_constant (item n.eqs f)) (and_parts (has n.eqs f) _ v).1

pub split-place : (version : ℕ) (s : State) (b : Bench) (f : ℕ) → is_valid version (node_at s b) (attempt.Split f) ≡ true → f - 1 < length b.eqs.items
split-place version s b f v =
    let by = has-place (node_at s b).eqs f (and_parts (has (node_at s b).eqs f) _ v).0 in
    let l : length (map (held_at s) b.eqs.items) ≡ length b.eqs.items = length-map b.eqs.items (held_at s) in
    omega (arith, by, l)

split-reason : (version : ℕ) (n : Node) (f : ℕ) (b : Bool) → length n.path ≢ MOST_LETTERS → list_any is_short (made version n (attempt.Split f)) ≡ b → reason_of version n (attempt.Split f) ≡ (if b then Some Fuel else None)
split-reason version n f b deep e =
    ap (λ x. by_fuel (if x then Some Depth else None) (made version n (attempt.Split f))) (ne_eqb (length n.path) MOST_LETTERS deep) ∙ ap (λ x. if x then Some Fuel else None) e

pub split-parts : (version : ℕ) {E : Type 0} (n : Node) (f : ℕ) (j r : Polynomial) (x : Result Parting E) → j ≡ primitive_initial (item n.eqs f) → r ≡ primitive_tail (item n.eqs f) → length n.path ≢ MOST_LETTERS
    → IfOk x (λ p. PartedBy n (f - 1) j r p) → IfOk x (λ p. Parts version n f p)
split-parts version n f j r (Err e) ji ri deep h = tt
split-parts version n f j r (Ok p) ji ri deep h = by p (subst (λ (q : Polynomial × Polynomial). PartedBy n (f - 1) q.0 q.1 p) (λ i. (ji i, ri i)) h)
  where
    by : (p : Parting) → PartedBy n (f - 1) (primitive_initial (item n.eqs f)) (primitive_tail (item n.eqs f)) p → Parts version n f p
    by (parting.Parted k plus minus) y = (split-reason version n f false deep y.2, ap (λ q. AsOutcome (outcome.Split f q)) (sym y.0), y.1)
    by (parting.Stopped why) y = split-reason version n f true deep y.1 ∙ ap Some (sym y.0)
