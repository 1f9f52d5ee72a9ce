-- The equations of a system, seen beside a polynomial that they reduce.
use Rattle.std.proofs.Common.{◌≡◌, ◌≢◌, ℕ, ◌-◌, ◌<◌, ◌≤◌, zero, suc, List, [], ◌∷◌, length, map, get_or, refl, sym, ◌∙◌, ap, subst, arith, IsTrue, true, false}
use Rattle.std.specs.Prelude.{ℤ, Option, Some, None, Result, Ok, Err, IfOk}
use Rattle.std.proofs.lemmas.Bool.{le-leb}
use Rattle.std.proofs.lemmas.List.{length-map}
use Rattle.poly_model.specs.Polynomial.{Polynomial}
use Rattle.poly_model.specs.Standard.{is_standard}
use Rattle.poly_model.specs.Reduction.{class_of, reaches, reduction_of}
use Rattle.poly_model.specs.Bounded.{bounded_reduction}
use Rattle.poly_model.specs.declared.limits.Reason.{Reason}
use Rattle.poly_model.specs.declared.limits.Reason.TheVariants.{Fuel}
use Rattle.poly_model.specs.declared.limits.TheConstants.{MOST_VARIABLES}
use Rattle.poly_model.proofs.Reductions.{bounded_reduction-is}
use Rattle.poly_model.proofs.Within.{within-of}
use Rattle.term_store.specs.States.{State}
use Rattle.term_store.specs.Changes.{Keeps, given_up}
use Rattle.polynomials.specs.declared.poly.Poly.{Poly}
use Rattle.polynomials.specs.Held.{IsPoly, polynomial_at}
use Rattle.pseudo_div.specs.Steps.{cost_of, met_by}
use Rattle.proof_steps.specs.Numbers.{item}
use Rattle.proof_steps.specs.Chain.{reducing_class, first_of_class, chain_reason}
use Rattle.workbench.specs.Owned.{AllLive}
use Rattle.workbench.specs.Standing.{AllTell, AreFound, AreHeld, held_at, held_slot, poly_of}
use Rattle.workbench.specs.declared.bench.Held.{Held}
use Rattle.workbench.proofs.Owning as owning
use Rattle.workbench.proofs.Benches as benches
use Rattle.workbench.proofs.Choice as choice
use Rattle.workbench.proofs.Opened.{held-eqs}
use Rattle.workbench.proofs.Validity.{found-live}
use Rattle.proof_steps.specs.Classes.{HaveOwnClasses}
use Rattle.triangular.specs.Reducers.{IsDivisor, reducing_in, first_in}
use Rattle.triangular.proofs.Reducing as reducing
use Rattle.proof_steps.proofs.Reducing as equations
use Rattle.proof_steps.proofs.Reducing.{Reducer}
use Rattle.triangular.proofs.Chained.{met-is}

found-at : (s : State) (hs : List Held) (i : ℕ) (h : Held) → i < length hs → h ≡ get_or hs i h → AreFound s hs → IsPoly s h.poly
found-at s [] i h below at f = absurd (omega arith)
found-at s (x ∷ hs) zero h below at f = subst (λ y. IsPoly s y.poly) (sym at) f.0
found-at s (x ∷ hs) (suc i) h below at f = found-at s hs i h (omega arith) at f.1

-- the place of the equation that reduces
pub record Placed (hs : List Held) (E : List Polynomial) (R : Polynomial) (x f : ℕ) : Type 0 where
  pub low : 1 ≤ f
  pub below : f - 1 < length hs
  pub reducing : reducing_class E R ≡ suc (x - 1)
  pub first : f ≡ first_of_class E (suc (x - 1))
  pub reducer : Reducer E R (x - 1) f

pub placed : (s : State) (N : List Polynomial) (hs : List Held) (R : Polynomial) (x f : ℕ) → AllTell N hs (map (held_at s) hs) → HaveOwnClasses (map (held_at s) hs) → x ≡ reducing_in R hs → x ≢ 0 → f ≡ first_in hs x
    → Placed hs (map (held_at s) hs) R x f
placed s N hs R x f t own xi some fi =
    let E = map (held_at s) hs in
    let up : x ≡ suc (x - 1) = omega (arith, some) in
    let class : reducing_class E R ≡ suc (x - 1) = sym (reducing.reducing-tied N R hs E t) ∙ sym xi ∙ up in
    let first : f ≡ first_of_class E (suc (x - 1)) = fi ∙ sym (reducing.first-tied (held_at s) N hs x t) ∙ ap (first_of_class E) up in
    let r = subst (Reducer E R (x - 1)) (sym first) (equations.reducer E R (x - 1) own class) in
    let l : length (map (held_at s) hs) ≡ length hs = length-map hs (held_at s) in
    record {
      low = (let z = r.low in omega (arith, z));
      below = (let z = r.below in omega (arith, z, l));
      reducing = class;
      first = first;
      reducer = r;
    }

-- it is found beside the polynomial as it was before
pub record Picked (t : State) (E : List Polynomial) (R : Polynomial) (x f : ℕ) (h : Held) : Type 0 where
  pub poly : IsPoly t h.poly
  pub here : item E f ≡ held_at t h
  pub class : class_of (held_at t h) ≡ suc (x - 1)
  pub reached : IsTrue (reaches R (held_at t h))

pub picked : (base t : State) (k : ℕ) (hs : List Held) (R : Polynomial) (x f : ℕ) (h : Held) → Keeps base (given_up t k) → AreFound base hs → Placed hs (map (held_at base) hs) R x f → h ≡ get_or hs (f - 1) h
    → Picked t (map (held_at base) hs) R x f h
picked base t k hs R x f h under found p at =
    let w = owning.within-then base (given_up t k) t (owning.within-keeps base (given_up t k) under) (owning.within-given_up t k) in
    let same = benches.seen-held t base hs w (found-live base hs found) in
    let here : item (map (held_at base) hs) f ≡ held_at t h = ap (λ l. item l f) same ∙ sym (benches.equation-at t hs (f - 1) h p.below at) in
    record {
      poly = found-at t hs (f - 1) h p.below at (choice.found-within base t hs w found);
      here = here;
      class = ap class_of (sym here) ∙ p.reducer.class;
      reached = ap (reaches R) (sym here) ∙ p.reducer.reached;
    }

-- why a step stops, and what it gives
pub stop-is : (R F G : Polynomial) (fuel : ℕ) (why : Reason) → G ≡ F → is_standard R ≡ true → is_standard F ≡ true → met_by fuel (bounded_reduction R F) ≡ Some why → chain_reason R G fuel ≡ Some why
stop-is R F G fuel why e sr sf met = ap (λ p. chain_reason R p fuel) e ∙ sym (met-is fuel R F sr sf) ∙ met

pub free-is : (R F G : Polynomial) (fuel : ℕ) (q : ℤ × Polynomial) → G ≡ F → is_standard R ≡ true → is_standard F ≡ true → bounded_reduction R F ≡ Ok q → cost_of q.1 ≤ fuel → chain_reason R G fuel ≡ None
free-is R F G fuel q e sr sf met paid =
    ap (λ p. chain_reason R p fuel) e ∙ sym (met-is fuel R F sr sf) ∙ ap (met_by fuel) met ∙ ap (λ b. elim b as (λ _. Option Reason) [ true ↦ None | false ↦ Some Fuel ]) (le-leb (cost_of q.1) fuel paid)

pub result-is : (R F G : Polynomial) (q : ℤ × Polynomial) → G ≡ F → is_standard R ≡ true → is_standard F ≡ true → bounded_reduction R F ≡ Ok q → q ≡ reduction_of R G
result-is R F G q e sr sf met = bounded_reduction-is MOST_VARIABLES R F q (within-of R sr).descending (within-of F sf).descending met ∙ ap (reduction_of R) (sym e)

pub ok-map : {A E : Type 0} (P Q : A → Type 0) (r : Result A E) → ((a : A) → P a → Q a) → IfOk r P → IfOk r Q
ok-map P Q (Ok a) f h = f a h
ok-map P Q (Err e) f h = tt

-- ---- the facts of a system, in a store that kept its lists
pub record Kept (b : State) (hs : List Held) (E : List Polynomial) : Type 0 where
  pub found : AreFound b hs
  pub tell : AllTell [] hs (map (held_at b) hs)
  pub same : map (held_at b) hs ≡ E

found-of : (s : State) (hs : List Held) → AreHeld s (map poly_of hs) → AreFound s hs
found-of s [] h = tt
found-of s (x ∷ hs) h = (record { live = h.live.0; standard = h.standard.0 }, found-of s hs record { live = h.live.1; standard = h.standard.1 })

pub kept : (s b : State) (hs : List Held) (eqs : List Poly) → Keeps s b → map poly_of hs ≡ eqs → AllTell [] hs (map (held_at s) hs) → AreHeld s eqs → Kept b hs (map (polynomial_at s) eqs)
kept s b hs eqs k polys t h =
    let found = found-of s hs (subst (AreHeld s) (sym polys) h) in
    let same = benches.seen-held b s hs (owning.within-keeps s b k) (found-live s hs found) in
    record {
      found = choice.found-within s b hs (owning.within-keeps s b k) found;
      tell = subst (AllTell [] hs) same t;
      same = sym same ∙ held-eqs s hs ∙ ap (map (polynomial_at s)) polys;
    }

-- the equation that the code finds
pub reducer : (s : State) (N : List Polynomial) (hs : List Held) (R : Polynomial) (x f : ℕ) (h : Held) → AreFound s hs → AllTell N hs (map (held_at s) hs) → HaveOwnClasses (map (held_at s) hs)
    → x ≡ reducing_in R hs → x ≢ 0 → f ≡ first_in hs x → h ≡ get_or hs (f - 1) h → IsDivisor s hs R record { f = f; by = h }
reducer s N hs R x f h found t own xi some fi at =
    let E = map (held_at s) hs in
    let p = placed s N hs R x f t own xi some fi in
    let below = p.below in
    let here : item E f ≡ held_at s h = sym (benches.equation-at s hs (f - 1) h below at) in
    let class : h.class ≡ x =
    ap (λ y. y.class) at ∙ (benches.tell-at N hs E (f - 1) h below t).class ∙ p.reducer.class ∙ (let z : suc (x - 1) ≡ x = omega (arith, some) in z) in
    let up : suc (x - 1) ≡ suc (h.class - 1) = omega (arith, class) in
    record {
      low = p.low;
      below = below;
      some = omega (arith, class, some);
      due = p.reducing ∙ up;
      first = p.first ∙ ap (first_of_class E) up;
      here = here;
      class = ap class_of (sym here) ∙ p.reducer.class ∙ up;
      reached = ap (reaches R) (sym here) ∙ p.reducer.reached;
      poly = found-at s hs (f - 1) h below at found;
    }
