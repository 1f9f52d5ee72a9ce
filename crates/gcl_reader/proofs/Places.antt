-- The places of a figure that were read before, in front of what is still read.
use Rattle.std.proofs.Common.{◌≡◌, List, [], ◌∷◌, ◌++◌, Result, Ok, Err, refl, sym, ◌∙◌, ap, ℕ, length, arith}
use Rattle.std.specs.Prelude.{ℤ}
use Rattle.std.proofs.lemmas.List.{append-nil}
use Rattle.std.proofs.Common.{append_assoc}
use Rattle.gcl_reader.specs.Tokens.{Lexed}
use Rattle.gcl_reader.specs.Grammar.{◌>>=◌, Fails}
use Rattle.gcl_reader.specs.Figure.{AreSmall, IsSmall, end_at, place_at, places_at}
use Rattle.gcl_reader.specs.declared.limits.TheConstants.{MOST_COORDINATE}
use Rattle.gcl_reader.specs.declared.refusal.GclFault.{GclFault}
use Rattle.gcl_reader.specs.declared.refusal.GclFault.TheVariants as fault
use Rattle.gcl_reader.specs.declared.refusal.Refusal.{Refusal}

abbrev pub Places : Type 0
Places = List (ℤ × ℤ)

abbrev pub places_behind : Places → Result Places Refusal → Result Places Refusal
places_behind front read = read >>= λ x. Ok (front ++ x)

-- One more small place.
pub small-more : (ps : Places) (p : ℤ × ℤ) → AreSmall ps → IsSmall MOST_COORDINATE p → AreSmall (ps ++ p ∷ [])
small-more [] p h k = (k, tt)
small-more (q ∷ ps) p h k = (h.0, small-more ps p h.1 k)

regroup : (front : Places) (p : ℤ × ℤ) (read : Result Places Refusal) → places_behind front (read >>= λ x. Ok (p ∷ x)) ≡ places_behind (front ++ p ∷ []) read
regroup front p (Ok x) = ap (λ (xs : Places). Ok xs) (simp append_assoc)
regroup front p (Err e) = refl

-- One more place is read.
pub places-more : (front : Places) (names rest : List (List ℕ)) (name : List ℕ) (x after : Lexed) (p : ℤ × ℤ) (total : Result Places Refusal)
    → names ≡ name ∷ rest → place_at name x ≡ Ok (p, after) → places_behind front (places_at names x) ≡ total
    → places_behind (front ++ p ∷ []) (places_at rest after) ≡ total
unfolding places_at
places-more front [] rest name x after p total e h so_far = absurd (cc)
places-more front (n ∷ ns) rest name x after p total e h so_far =
    let same : n ≡ name = cc in
    let others : ns ≡ rest = cc in
    let here : place_at n x ≡ Ok (p, after) = ap (λ m. place_at m x) same ∙ h in
    ap (λ r. places_behind (front ++ p ∷ []) (places_at r after)) (sym others)
    ∙ sym (regroup front p (places_at ns after))
    ∙ ap (λ r. places_behind front (r >>= λ q. places_at ns q.1 >>= λ x. Ok (q.0 ∷ x))) (sym here)
    ∙ so_far

-- A place refuses.
pub places-fail : (e : GclFault) (front : Places) (names rest : List (List ℕ)) (name : List ℕ) (x : Lexed) (total : Result Places Refusal)
    → names ≡ name ∷ rest → Fails e (place_at name x) → places_behind front (places_at names x) ≡ total → Fails e total
unfolding places_at
places-fail e front [] rest name x total i h so_far = absurd (cc)
places-fail fault.OutOfMemory front (n ∷ ns) rest name x total i h so_far = tt
places-fail (fault.Refused f) front (n ∷ ns) rest name x total i h so_far =
    let same : n ≡ name = cc in
    let here : place_at n x ≡ Err f = ap (λ m. place_at m x) same ∙ h in
    sym so_far ∙ ap (λ r. places_behind front (r >>= λ q. places_at ns q.1 >>= λ x. Ok (q.0 ∷ x))) here

-- The end.
pub places-done : (front : Places) (names : List (List ℕ)) (x : Lexed) (total : Result Places Refusal) → length names ≡ 0 → end_at x ≡ Ok []
    → places_behind front (places_at names x) ≡ total → total ≡ Ok front
unfolding places_at
places-done front [] x total e h so_far = sym so_far ∙ ap (places_behind front) h ∙ ap (λ (xs : Places). Ok xs) (append-nil front)
places-done front (n ∷ ns) x total e h so_far = absurd (omega (arith, e))

pub end-fails : (e : GclFault) (front : Places) (names : List (List ℕ)) (x : Lexed) (total : Result Places Refusal) → length names ≡ 0 → Fails e (end_at x)
    → places_behind front (places_at names x) ≡ total → Fails e total
unfolding places_at
end-fails fault.OutOfMemory front names x total e h so_far = tt
end-fails (fault.Refused f) front [] x total e h so_far = sym so_far ∙ ap (places_behind front) h
end-fails (fault.Refused f) front (n ∷ ns) x total i h so_far = absurd (omega (arith, i))
