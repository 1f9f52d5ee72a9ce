-- An equation in whose place a polynomial was put.
use Rattle.std.proofs.Common.{◌≡◌, ℕ, ◌-◌, ◌<◌, ◌≤◌, List, [], length, map, get_or, set, sym, ◌∙◌, ap, arith, true}
use Rattle.std.specs.Prelude.{nat_lt, nat_le}
use Rattle.std.proofs.lemmas.Bool.{and_parts, ltb-true}
use Rattle.std.proofs.lemmas.List.{get_or-set_same, length-map, length-set}
use Rattle.poly_model.specs.Polynomial.{Polynomial}
use Rattle.proof_steps.specs.Numbers.{has, item, replaced}
use Rattle.proof_steps.specs.Rules.{after}
use Rattle.proof_steps.specs.declared.piece.Node.{Node}
use Rattle.term_store.specs.States.{State}
use Rattle.workbench.specs.Standing.{Becomes, held_at, node_at}
use Rattle.workbench.specs.declared.bench.Bench.{Bench}

pub put-item : (ps : List Polynomial) (i : ℕ) (p : Polynomial) → i - 1 < length ps → item (replaced ps i p) i ≡ p
put-item ps i p h = get_or-set_same ps (i - 1) p [] h

pub put-place : (base t : State) (c : Bench) (n : Node) (i cost : ℕ) (p : Polynomial) → Becomes base t c (after n (replaced n.eqs i p) cost) → i - 1 < length n.eqs → i - 1 < length c.eqs.items
put-place base t c n i cost p be h =
    let e = ap (λ (m : Node). length m.eqs) be.node in
    let s = length-set n.eqs (i - 1) p in
    let l : length (map (held_at t) c.eqs.items) ≡ length c.eqs.items = length-map c.eqs.items (held_at t) in
    omega (arith, e, s, l, h)

pub has-low : (ps : List Polynomial) (i : ℕ) → has ps i ≡ true → 1 ≤ i
has-low ps i h = let low = ltb-true 0 i (and_parts (nat_lt 0 i) (nat_le i (length ps)) h).0 in omega (arith, low)
