-- The rule that is due, by the searches.
use Rattle.std.proofs.Common.{◌≡◌, ◌≢◌, ℕ, ◌-◌, ◌<◌, zero, suc, List, [], ◌∷◌, length, map, get_or, refl, sym, ◌∙◌, ap, arith, Bool}
use Rattle.std.specs.Prelude.{Option, Some, None, unwrap_or, option_map, if◌then◌else◌, nat_lt}
use Rattle.std.proofs.lemmas.Bool.{and_parts, ltb-true, leb-true}
use Rattle.std.proofs.lemmas.List.{length-map}
use Rattle.poly_model.specs.Polynomial.{Polynomial}
use Rattle.term_store.specs.States.{State}
use Rattle.proof_steps.specs.Numbers.{item}
use Rattle.poly_model.specs.Reduction.{same, has_polynomial, primitive_initial}
use Rattle.proof_steps.specs.Rules.{has_known_initial}
use Rattle.proof_steps.specs.Work.{Next, Try, Closed, Clashed, Solved, unsettled_class, least, other, work_on, class_due, number_in, next}
use Rattle.proof_steps.specs.declared.piece.Node.{Node}
use Rattle.proof_steps.specs.declared.step.Attempt.{Attempt}
use Rattle.proof_steps.specs.declared.step.Attempt.TheVariants as attempt
use Rattle.tree_laws.proofs.Due.{chosen}
use Rattle.workbench.specs.declared.bench.Bench.{Bench}
use Rattle.workbench.specs.declared.bench.Held.{Held}
use Rattle.workbench.specs.Owned.{AllLive}
use Rattle.workbench.specs.Standing.{Stands, AllTell, AreFound, held_at, held_slot, node_at}
use Rattle.workbench.specs.Searches as searches
use Rattle.workbench.proofs.Owning as owning
use Rattle.workbench.proofs.Benches as benches
use Rattle.workbench.proofs.Tied as tied
use Rattle.workbench.proofs.Tied.{some_place}
use Rattle.proof_steps.specs.declared.version.TheConstants.{VERSION}

-- the equations of a node are lists of the store
pub found-all : (base s : State) (ks : List ℕ) (b : Bench) → Stands base s ks b → AreFound s b.eqs.items
found-all base s ks b st = all s b.eqs.items _ (owning.live-front s (map held_slot b.eqs.items) _ (benches.bench-live base s ks b st)) st.tell
  where
    all : (s : State) (hs : List Held) (N : List Polynomial) → AllLive s (map held_slot hs) → AllTell N hs (map (held_at s) hs) → AreFound s hs
    all s [] N live t = tt
    all s (h ∷ hs) N live t = (record { live = live.0; standard = t.0.standard }, all s hs N live.1 t.1)

-- what is due by the places that the searches find
abbrev pub by_places : Node → (d c q : ℕ) → Next
by_places n d c q =
    unwrap_or (option_map (λ i. Try (attempt.Drop i)) (some_place d))
    (unwrap_or (option_map Closed (some_place c))
    (unwrap_or (option_map (λ i. Clashed i (number_in n.nes (item n.eqs i))) (some_place q)) (unwrap_or (class_due n) Solved)))

pub next-is : (s : State) (b : Bench) → AllTell (node_at s b).nes b.eqs.items (node_at s b).eqs
    → next VERSION (node_at s b) ≡ by_places (node_at s b) (searches.dropped_in (held_at s) b.eqs.items) (searches.number_in b.eqs.items) (searches.clashed_in (held_at s) (node_at s b).nes b.eqs.items)
next-is s b t =
    let n = node_at s b in
    λ i. unwrap_or (option_map (λ i. Try (attempt.Drop i)) (tied.drop-tied (held_at s) n b.eqs.items refl t i))
    (unwrap_or (option_map Closed (tied.number-tied (held_at s) n.nes b.eqs.items t i))
    (unwrap_or (option_map (λ i. Clashed i (number_in n.nes (item n.eqs i))) (tied.clash-tied (held_at s) n.nes b.eqs.items t i)) (unwrap_or (class_due n) Solved)))

pub by-drop : (n : Node) (d c q : ℕ) → d ≢ 0 → Try (attempt.Drop d) ≡ by_places n d c q
by-drop n zero c q h = absurd (h refl)
by-drop n (suc d) c q h = refl

pub by-close : (n : Node) (d c q : ℕ) → d ≡ 0 → c ≢ 0 → Closed c ≡ by_places n d c q
by-close n (suc d) c q z h = absurd (omega (arith, z))
by-close n zero zero q z h = absurd (h refl)
by-close n zero (suc c) q z h = refl

pub by-clash : (n : Node) (d c q : ℕ) → d ≡ 0 → c ≡ 0 → q ≢ 0 → Clashed q (number_in n.nes (item n.eqs q)) ≡ by_places n d c q
by-clash n (suc d) c q z y h = absurd (omega (arith, z))
by-clash n zero (suc c) q z y h = absurd (omega (arith, y))
by-clash n zero zero zero z y h = absurd (h refl)
by-clash n zero zero (suc q) z y h = refl

pub by-class : (n : Node) (d c q : ℕ) → d ≡ 0 → c ≡ 0 → q ≡ 0 → unwrap_or (class_due n) Solved ≡ by_places n d c q
by-class n (suc d) c q z y x = absurd (omega (arith, z))
by-class n zero (suc c) q z y x = absurd (omega (arith, y))
by-class n zero zero (suc q) z y x = absurd (omega (arith, x))
by-class n zero zero zero z y x = refl

class-by : Node → ℕ → Option Next
class-by n x = elim x [ zero ↦ None | suc x ↦ Some (Try (work_on n (suc x))) ]

pub class-none : (n : Node) → unsettled_class n ≡ 0 → Solved ≡ unwrap_or (class_due n) Solved
class-none n e = ap (λ x. unwrap_or (elim x as (λ _. Option Next) [ zero ↦ None | suc y ↦ Some (Try (work_on n (suc y))) ]) Solved) (sym e)

pub class-some : (n : Node) (x : ℕ) → x ≢ 0 → x ≡ unsettled_class n → Try (work_on n x) ≡ unwrap_or (class_due n) Solved
class-some n zero h e = absurd (h refl)
class-some n (suc x) h e = ap (λ x. unwrap_or (elim x as (λ _. Option Next) [ zero ↦ None | suc y ↦ Some (Try (work_on n (suc y))) ]) Solved) e

-- the least equation of the class is there
pub least-place : (s : State) (b : Bench) (x : ℕ) → AllTell (node_at s b).nes b.eqs.items (node_at s b).eqs → x ≢ 0 → x ≡ unsettled_class (node_at s b)
    → (0 < searches.least_in b.eqs.items x) × (searches.least_in b.eqs.items x - 1 < length b.eqs.items)
least-place s b zero t h e = absurd (h refl)
least-place s b (suc x) t h e =
    let n = node_at s b in
    let parts = and_parts (nat_lt 0 (least n.eqs (suc x))) _ (chosen n x (sym e)).inside in
    let low = ltb-true 0 (least n.eqs (suc x)) parts.0 in
    let high = leb-true (least n.eqs (suc x)) (length n.eqs) parts.1 in
    let same = tied.least-tied (held_at s) n.nes b.eqs.items (suc x) t in
    let l : length (map (held_at s) b.eqs.items) ≡ length b.eqs.items = length-map b.eqs.items (held_at s) in
    (omega (arith, low, same), omega (arith, low, high, same, l))

-- the work by the least equation
abbrev pub work_by : Node → (x f : ℕ) → Bool → Bool → Attempt
work_by n x f known there = if known then attempt.Red (other n.eqs x f) f else (if there then attempt.Tail f else attempt.Split f)

pub work-is : (s : State) (b : Bench) (x f : ℕ) (h : Held) → AllTell (node_at s b).nes b.eqs.items (node_at s b).eqs → f ≡ searches.least_in b.eqs.items x → f - 1 < length b.eqs.items → h ≡ get_or b.eqs.items (f - 1) h
    → work_on (node_at s b) x ≡ work_by (node_at s b) x f h.known (has_polynomial (node_at s b).eqs (primitive_initial (held_at s h)))
work-is s b x f h t is below at =
    let n = node_at s b in
    let least-is : least n.eqs x ≡ f = tied.least-tied (held_at s) n.nes b.eqs.items x t ∙ sym is in
    let here : item n.eqs f ≡ held_at s h = sym (benches.equation-at s b.eqs.items (f - 1) h below at) in
    let known : has_known_initial n.nes (item n.eqs f) ≡ h.known = sym (ap (λ y. y.known) at ∙ (benches.tell-at _ b.eqs.items n.eqs (f - 1) h below t).known) in
    ap (λ l. work_by n x l (has_known_initial n.nes (item n.eqs l)) (has_polynomial n.eqs (primitive_initial (item n.eqs l)))) least-is
    ∙ (λ i. work_by n x f (known i) (has_polynomial n.eqs (primitive_initial (here i))))

pub found-within : (s t : State) (hs : List Held) → owning.Within s t → AreFound s hs → AreFound t hs
found-within s t [] w h = tt
found-within s t (x ∷ hs) w h = (benches.poly-within s t x.poly w h.0, found-within s t hs w h.1)

-- ---- the same for what the searches answer
pub due-drop : (s : State) (b : Bench) (d : ℕ) → AllTell (node_at s b).nes b.eqs.items (node_at s b).eqs → d ≡ searches.dropped_in (held_at s) b.eqs.items → d ≢ 0 → Try (attempt.Drop d) ≡ next VERSION (node_at s b)
due-drop s b d t is some =
    ap (λ k. Try (attempt.Drop k)) is ∙ by-drop (node_at s b) (searches.dropped_in (held_at s) b.eqs.items) (searches.number_in b.eqs.items) (searches.clashed_in (held_at s) (node_at s b).nes b.eqs.items) (λ z. some (is ∙ z)) ∙ sym (next-is s b t)

pub due-close : (s : State) (b : Bench) (d c : ℕ) → AllTell (node_at s b).nes b.eqs.items (node_at s b).eqs → d ≡ searches.dropped_in (held_at s) b.eqs.items → d ≡ 0 → c ≡ searches.number_in b.eqs.items → c ≢ 0
    → Closed c ≡ next VERSION (node_at s b)
due-close s b d c t di dz is some =
    ap Closed is ∙ by-close (node_at s b) (searches.dropped_in (held_at s) b.eqs.items) (searches.number_in b.eqs.items) (searches.clashed_in (held_at s) (node_at s b).nes b.eqs.items) (sym di ∙ dz) (λ z. some (is ∙ z)) ∙ sym (next-is s b t)

pub due-clash : (s : State) (b : Bench) (d c q j : ℕ) (h : Held) → AllTell (node_at s b).nes b.eqs.items (node_at s b).eqs → d ≡ searches.dropped_in (held_at s) b.eqs.items → d ≡ 0 → c ≡ searches.number_in b.eqs.items → c ≡ 0
    → q ≡ searches.clashed_in (held_at s) (node_at s b).nes b.eqs.items → q ≢ 0 → q - 1 < length b.eqs.items → h ≡ get_or b.eqs.items (q - 1) h → j ≡ searches.place_at (λ r. same r (held_at s h)) 1 (node_at s b).nes
    → Clashed q j ≡ next VERSION (node_at s b)
due-clash s b d c q j h t di dz ci cz qi some below at ji =
    let n = node_at s b in
    let number : j ≡ number_in n.nes (item n.eqs q) = ji ∙ sym (tied.among-number n.nes (held_at s h)) ∙ ap (number_in n.nes) (benches.equation-at s b.eqs.items (q - 1) h below at) in
    ap (Clashed q) number ∙ ap (λ k. Clashed k (number_in n.nes (item n.eqs k))) qi
    ∙ by-clash n (searches.dropped_in (held_at s) b.eqs.items) (searches.number_in b.eqs.items) (searches.clashed_in (held_at s) n.nes b.eqs.items) (sym di ∙ dz) (sym ci ∙ cz) (λ z. some (qi ∙ z)) ∙ sym (next-is s b t)

pub due-class : (s : State) (b : Bench) (d c q : ℕ) → AllTell (node_at s b).nes b.eqs.items (node_at s b).eqs → d ≡ searches.dropped_in (held_at s) b.eqs.items → d ≡ 0 → c ≡ searches.number_in b.eqs.items → c ≡ 0
    → q ≡ searches.clashed_in (held_at s) (node_at s b).nes b.eqs.items → q ≡ 0 → unwrap_or (class_due (node_at s b)) Solved ≡ next VERSION (node_at s b)
due-class s b d c q t di dz ci cz qi qz =
    by-class (node_at s b) (searches.dropped_in (held_at s) b.eqs.items) (searches.number_in b.eqs.items) (searches.clashed_in (held_at s) (node_at s b).nes b.eqs.items) (sym di ∙ dz) (sym ci ∙ cz) (sym qi ∙ qz) ∙ sym (next-is s b t)
