-- A node whose polynomials were copied into a store stands there.
use Rattle.std.proofs.Common.{◌≡◌, ◌+◌, ◌≤◌, ℕ, List, [], ◌∷◌, ◌++◌, length, map, refl, sym, ◌∙◌, ap, subst, arith}
use Rattle.poly_model.specs.Polynomial.{Polynomial}
use Rattle.poly_model.specs.declared.limits.TheConstants.{MOST_FUEL}
use Rattle.proof_steps.specs.Rules.{sizes, size_of}
use Rattle.proof_steps.specs.declared.piece.Node.{Node}
use Rattle.term_store.specs.States.{State, list_at}
use Rattle.term_store.specs.Changes.{Keeps, given_up}
use Rattle.polynomials.specs.declared.poly.Poly.{Poly}
use Rattle.polynomials.specs.Held.{polynomial_at, slot_of}
use Rattle.workbench.specs.Owned.{Owns}
use Rattle.workbench.specs.Standing.{AllTell, AllStandard, AreHeld, Becomes, held_at, held_slot, node_at, poly_of}
use Rattle.workbench.specs.declared.bench.Bench.{Bench}
use Rattle.workbench.specs.declared.bench.Held.{Held}
use Rattle.workbench.proofs.Owning as owning
use Rattle.workbench.proofs.Owning.{Within, units_at}
use Rattle.workbench.proofs.Benches as benches
use Rattle.workbench.proofs.Tests.{polynomial-length}
use Rattle.workbench.specs.Copies.{Copied}

-- ---- lists that are owned over others
owns-append : (base mid t : State) (ks ls : List ℕ) → Owns mid t ks → Owns base mid ls → Owns base t (ks ++ ls)
owns-append base mid t [] ls o p = owning.owns-keeps base mid t ls p o
owns-append base mid t (k ∷ ks) ls o p = (o.0, owns-append base mid (given_up t k) ks ls o.1 p)

owns-within : (base t : State) (ks : List ℕ) → Owns base t ks → Within base t
owns-within base t [] o = owning.within-keeps base t o
owns-within base t (k ∷ ks) o = owning.within-then base (given_up t k) t (owns-within base (given_up t k) ks o.1) (owning.within-given_up t k)

units-copied : (t : State) (ps : List Poly) → units_at t (map slot_of ps) ≡ sizes (map (polynomial_at t) ps)
units-copied t [] = refl
units-copied t (p ∷ ps) = let n = polynomial-length (list_at t.lists (slot_of p)) in let e = units-copied t ps in omega (arith, n, e)

pub copies-room : (s t : State) (ps : List Poly) (qs : List Polynomial) → Copied s t ps qs → t.spare + sizes qs ≡ s.spare
copies-room s t ps qs c =
    let u = owning.owns-units s t (map slot_of ps) c.owns in
    let n = units-copied t ps in
    let e = ap sizes c.same in
    omega (arith, u, n, e)

pub copies-held : (s t : State) (ps : List Poly) (qs : List Polynomial) → Copied s t ps qs → AreHeld t ps
copies-held s t ps qs c = record { live = owning.owned-live s t (map slot_of ps) c.owns; standard = subst AllStandard (sym c.same) c.standard }

pub copies-stay : (s a b : State) (ps eqs : List Poly) (qs E : List Polynomial) → Copied s a ps qs → Copied a b eqs E → AreHeld b ps
copies-stay s a b ps eqs qs E c d = benches.held-within a b ps (owns-within a b (map slot_of eqs) d.owns) (copies-held s a ps qs c)

pub held-eqs : (s : State) (hs : List Held) → map (held_at s) hs ≡ map (polynomial_at s) (map poly_of hs)
held-eqs s [] = refl
held-eqs s (h ∷ hs) = ap (λ l. held_at s h ∷ l) (held-eqs s hs)

held-slots : (hs : List Held) → map held_slot hs ≡ map slot_of (map poly_of hs)
held-slots [] = refl
held-slots (h ∷ hs) = ap (λ l. held_slot h ∷ l) (held-slots hs)

-- ---- the node stands
pub opened : (s a b d : State) (c : Bench) (n : Node) (eqs : List Poly) → Copied s a c.nes.items n.nes → Copied a b eqs n.eqs → map poly_of c.eqs.items ≡ eqs
    → AllTell (map (polynomial_at b) c.nes.items) c.eqs.items (map (held_at b) c.eqs.items) → Keeps b d
    → c.path ≡ n.path → c.fuel ≡ n.fuel → c.size ≡ size_of n → size_of n ≤ n.fuel → n.fuel ≤ MOST_FUEL
    → Becomes s d c n
opened s a b d c n eqs first second polys tell k path fuel size enough most =
    let w = owns-within a b (map slot_of eqs) second.owns in
    let nes : map (polynomial_at b) c.nes.items ≡ n.nes = sym (benches.seen b a c.nes.items w (owning.owned-live s a _ first.owns)) ∙ first.same in
    let E : map (held_at b) c.eqs.items ≡ n.eqs = held-eqs b c.eqs.items ∙ ap (map (polynomial_at b)) polys ∙ second.same in
    let node : node_at b c ≡ n = λ i. record { path = path i; eqs = E i; nes = nes i; fuel = fuel i } in
    let be = benches.kept s b d c (
    record {
      owns = owns-append s a b (map held_slot c.eqs.items) (map slot_of c.nes.items)
          (subst (Owns a b) (sym (held-slots c.eqs.items ∙ ap (map slot_of) polys)) second.owns) first.owns;
      tell = tell;
      standard = subst AllStandard (sym nes) first.standard;
      size = size ∙ ap size_of (sym node);
      fuel = omega (arith, size, enough, fuel);
      most = omega (arith, most, fuel);
    }
    ) k in
    record { stands = be.stands; node = be.node ∙ node }
