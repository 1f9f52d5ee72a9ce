-- Whether rules are valid, by what is known of the equations.
use Rattle.std.proofs.Common.{◌≡◌, ℕ, ◌-◌, ◌<◌, ◌≤◌, List, [], ◌∷◌, length, map, take, get_or, sym, ◌∙◌, ap, subst, arith, Bool, true, false, ◌&&◌, ◌||◌, not}
use Rattle.std.specs.Prelude.{◌==◌, ◌≢◌, nat_lt, nat_le}
use Rattle.std.proofs.lemmas.Bool.{and_parts, eq-eqb, ltb-true, leb-true, ne_eqb}
use Rattle.std.proofs.lemmas.List.{length-map, take-map}
use Rattle.poly_model.specs.Reduction.{class_of, degree_at, has_polynomial, is_constant, is_zero, primitive_initial, reaches}
use Rattle.poly_model.specs.declared.limits.TheConstants.{MOST_VARIABLES}
use Rattle.poly_model.proofs.Within.{within-of}
use Rattle.polynomials.proofs.Reading.{class-within}
use Rattle.proof_steps.specs.Numbers.{item, has}
use Rattle.proof_steps.specs.Rules.{has_known_initial, is_valid}
use Rattle.proof_steps.specs.declared.step.Attempt.TheVariants as attempt
use Rattle.term_store.specs.States.{State}
use Rattle.polynomials.specs.Held.{IsPoly}
use Rattle.workbench.specs.Numbered.{IsNumbered, is_number_of}
use Rattle.workbench.specs.Owned.{AllLive}
use Rattle.workbench.specs.Searches.{among_in}
use Rattle.workbench.specs.Standing.{AreFound, Stands, Tells, held_at, held_slot, node_at}
use Rattle.workbench.specs.declared.bench.Bench.{Bench}
use Rattle.workbench.specs.declared.bench.Held.{Held}
use Rattle.workbench.proofs.Benches as benches
use Rattle.workbench.proofs.Tied as tied

pub found-live : (s : State) (hs : List Held) → AreFound s hs → AllLive s (map held_slot hs)
found-live s [] f = tt
found-live s (h ∷ hs) f = (f.0.live, found-live s hs f.1)

has-is : (s : State) (b : Bench) (i : ℕ) → has (node_at s b).eqs i ≡ is_number_of b.eqs.items i
has-is s b i = ap (λ l. nat_lt 0 i && nat_le i l) (length-map b.eqs.items (held_at s))

pub numbered : (hs ks : List Held) (i : ℕ) (h : Held) → hs ≡ ks → IsNumbered hs i h → IsNumbered ks i h
numbered hs ks i h e n = subst (λ l. IsNumbered l i h) e n

-- what is known of the equation of a number
pub record Found (base s : State) (b : Bench) (i : ℕ) (h : Held) : Type 0 where
  pub low : 1 ≤ i
  pub below : i - 1 < length b.eqs.items
  pub there : has (node_at s b).eqs i ≡ true
  pub here : item (node_at s b).eqs i ≡ held_at s h
  pub tells : Tells (node_at s b).nes h (held_at s h)
  pub poly : IsPoly s h.poly
  pub class : h.class - 1 < MOST_VARIABLES

pub found : (base s : State) (b : Bench) (i : ℕ) (h : Held) → Stands base s [] b → IsNumbered b.eqs.items i h → Found base s b i h
found base s b i h st n =
    let parts = and_parts (nat_lt 0 i) (nat_le i (length b.eqs.items)) n.there in
    let low = ltb-true 0 i parts.0 in
    let high = leb-true i (length b.eqs.items) parts.1 in
    let below : i - 1 < length b.eqs.items = omega (arith, low, high) in
    let here = sym (benches.equation-at s b.eqs.items (i - 1) h below n.at) in
    let tells : Tells (node_at s b).nes h (held_at s h) =
    subst (Tells (node_at s b).nes h) here (subst (λ y. Tells (node_at s b).nes y (item (node_at s b).eqs i)) (sym n.at) (benches.tell-at _ b.eqs.items (node_at s b).eqs (i - 1) h below st.tell)) in
    let poly = benches.equation-poly base s [] b (i - 1) h st below n.at in
    record {
      low = omega (arith, low);
      below = below;
      there = has-is s b i ∙ n.there;
      here = here;
      tells = tells;
      poly = poly;
      class = (let w = class-within MOST_VARIABLES (held_at s h) (within-of (held_at s h) poly.standard).descending in let e = tells.class in omega (arith, w, e));
    }

pub drop-is : (version : ℕ) (base s : State) (b : Bench) (i : ℕ) (h : Held) → Stands base s [] b → IsNumbered b.eqs.items i h
    → ((h.terms == 0) || among_in (held_at s) (take (i - 1) b.eqs.items) h) ≡ is_valid version (node_at s b) (attempt.Drop i)
drop-is version base s b i h st n =
    let f = found base s b i h st n in
    let N = (node_at s b).nes in
    let before : has_polynomial (take (i - 1) (node_at s b).eqs) (held_at s h) ≡ among_in (held_at s) (take (i - 1) b.eqs.items) h =
    ap (λ l. has_polynomial l (held_at s h)) (take-map (held_at s) (i - 1) b.eqs.items)
    ∙ tied.among-tied (held_at s) N (take (i - 1) b.eqs.items) h (tied.tell-take (held_at s) N (i - 1) b.eqs.items st.tell) f.tells in
    sym (λ j. f.there j && ((ap is_zero f.here ∙ tied.zero-told N h (held_at s h) f.tells) j || (ap (has_polynomial (take (i - 1) (node_at s b).eqs)) f.here ∙ before) j))

pub zero-drop : (version : ℕ) (base s : State) (b : Bench) (i : ℕ) (h : Held) → Stands base s [] b → IsNumbered b.eqs.items i h → h.terms ≡ 0 → true ≡ is_valid version (node_at s b) (attempt.Drop i)
zero-drop version base s b i h st n z = sym (ap (λ k. k || among_in (held_at s) (take (i - 1) b.eqs.items) h) (eq-eqb h.terms 0 z)) ∙ drop-is version base s b i h st n

pub among-drop : (version : ℕ) (base s : State) (b : Bench) (i : ℕ) (h : Held) → Stands base s [] b → IsNumbered b.eqs.items i h → h.terms ≢ 0
    → among_in (held_at s) (take (i - 1) b.eqs.items) h ≡ is_valid version (node_at s b) (attempt.Drop i)
among-drop version base s b i h st n z = sym (ap (λ k. k || among_in (held_at s) (take (i - 1) b.eqs.items) h) (ne_eqb h.terms 0 z)) ∙ drop-is version base s b i h st n

pub red-is : (version : ℕ) (base s : State) (b : Bench) (g f : ℕ) (x h : Held) → Stands base s [] b → IsNumbered b.eqs.items g x → IsNumbered b.eqs.items f h
    → (not (g == f) && (not (h.class == 0) && (h.known && nat_le h.degree (degree_at (h.class - 1) (held_at s x))))) ≡ is_valid version (node_at s b) (attempt.Red g f)
red-is version base s b g f x h st n m =
    let p = found base s b g x st n in
    let q = found base s b f h st m in
    let t = q.tells in
    sym ((λ j. (p.there j && (q.there j && not (g == f))) && (not (is_constant (q.here j)) && (has_known_initial (node_at s b).nes (q.here j) && reaches (p.here j) (q.here j))))
    ∙ (λ j. not (g == f) && (not (sym t.class j == 0) && (sym t.known j && nat_le (sym t.degree j) (degree_at (sym t.class j - 1) (held_at s x))))))

pub red-may : (version : ℕ) (base s : State) (b : Bench) (g f : ℕ) (x h : Held) → Stands base s [] b → IsNumbered b.eqs.items g x → IsNumbered b.eqs.items f h → g ≢ f
    → (not (h.class == 0) && (h.known && nat_le h.degree (degree_at (h.class - 1) (held_at s x)))) ≡ is_valid version (node_at s b) (attempt.Red g f)
red-may version base s b g f x h st n m other =
    sym (ap (λ k. not k && (not (h.class == 0) && (h.known && nat_le h.degree (degree_at (h.class - 1) (held_at s x))))) (ne_eqb g f other)) ∙ red-is version base s b g f x h st n m

pub constant-tail : (version : ℕ) (base s : State) (b : Bench) (f : ℕ) (h : Held) → Stands base s [] b → IsNumbered b.eqs.items f h → h.class ≡ 0 → false ≡ is_valid version (node_at s b) (attempt.Tail f)
constant-tail version base s b f h st n z =
    let q = found base s b f h st n in
    let class : class_of (held_at s h) ≡ 0 = sym q.tells.class ∙ z in
    sym ((λ j. q.there j && (not (is_constant (q.here j)) && has_polynomial (node_at s b).eqs (primitive_initial (q.here j))))
    ∙ ap (λ k. not (k == 0) && has_polynomial (node_at s b).eqs (primitive_initial (held_at s h))) class)

pub tail-is : (version : ℕ) (base s : State) (b : Bench) (f : ℕ) (h : Held) → Stands base s [] b → IsNumbered b.eqs.items f h → h.class ≢ 0
    → has_polynomial (node_at s b).eqs (primitive_initial (held_at s h)) ≡ is_valid version (node_at s b) (attempt.Tail f)
tail-is version base s b f h st n some =
    let q = found base s b f h st n in
    let class : (class_of (held_at s h) == 0) ≡ false = ap (λ k. k == 0) (sym q.tells.class) ∙ ne_eqb h.class 0 some in
    sym ((λ j. q.there j && (not (is_constant (q.here j)) && has_polynomial (node_at s b).eqs (primitive_initial (q.here j))))
    ∙ ap (λ k. not k && has_polynomial (node_at s b).eqs (primitive_initial (held_at s h))) class)

pub split-is : (version : ℕ) (base s : State) (b : Bench) (f : ℕ) (h : Held) → Stands base s [] b → IsNumbered b.eqs.items f h → not (h.class == 0) ≡ is_valid version (node_at s b) (attempt.Split f)
split-is version base s b f h st n =
    let q = found base s b f h st n in
    sym ((λ j. q.there j && not (is_constant (q.here j))) ∙ ap (λ k. not (k == 0)) (sym q.tells.class))
