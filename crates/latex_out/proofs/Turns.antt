-- Texts in turn.
use Rattle.std.proofs.Common.{◌≡◌, ◌⊎◌, inl, inr, ℕ, zero, suc, ◌+◌, ◌<◌, List, [], ◌++◌, refl, sym, ap, ◌∙◌, arith, append_assoc, append-nil, subst, Option}
use Rattle.desk_io.specs.Bytes.{Grew}
use Rattle.desk_io.proofs.Growth.{Grew-none}
use Rattle.latex_out.specs.Latex.{in_turn}

pub turn-next : (text : ℕ → List ℕ) (i : ℕ) → in_turn text (suc i) ≡ in_turn text i ++ text i
unfolding in_turn
turn-next text i = refl

pub turn-more : (text : ℕ → List ℕ) (i : ℕ) → in_turn text (i + 1) ≡ in_turn text i ++ text i
turn-more text i = let e : i + 1 ≡ suc i = omega arith in ap (λ k. in_turn text k) e ∙ turn-next text i

turn-step : (text : ℕ → List ℕ) (i n : ℕ) (rest : List ℕ) → in_turn text n ≡ in_turn text i ++ text i ++ rest → in_turn text (suc n) ≡ in_turn text i ++ text i ++ (rest ++ text n)
turn-step text i n rest e = turn-next text n ∙ ap (λ l. l ++ text n) e ∙ append_assoc (in_turn text i ++ text i) rest (text n)

turn-last : (text : ℕ → List ℕ) (n : ℕ) → in_turn text (suc n) ≡ in_turn text n ++ text n ++ []
turn-last text n = turn-next text n ∙ sym (append-nil (in_turn text n ++ text n))

turn-at : (text : ℕ → List ℕ) (i n : ℕ) → (i < n → (rest : List ℕ) × (in_turn text n ≡ in_turn text i ++ text i ++ rest)) → (i < n) ⊎ (i ≡ n)
    → (rest : List ℕ) × (in_turn text (suc n) ≡ in_turn text i ++ text i ++ rest)
turn-at text i n before (inl lt) = let s = before lt in (s.0 ++ text n, turn-step text i n s.0 s.1)
turn-at text i n before (inr e) = ([], subst (λ k. in_turn text (suc n) ≡ in_turn text k ++ text k ++ []) (sym e) (turn-last text n))

-- the texts before one, its own, and what is behind it
pub turn-split : (text : ℕ → List ℕ) (i n : ℕ) → i < n → (rest : List ℕ) × (in_turn text n ≡ in_turn text i ++ text i ++ rest)
turn-split text i zero lt = absurd (omega (arith, lt))
turn-split text i (suc n) lt = turn-at text i n (turn-split text i n) (grind (arith, lt))

pub turn-none : (text : ℕ → List ℕ) → in_turn text 0 ≡ []
unfolding in_turn
turn-none text = refl

pub Grew-start : (text : ℕ → List ℕ) (w : Option (List ℕ)) (g : List ℕ) → Grew w w g g (in_turn text 0)
Grew-start text w g = subst (λ t. Grew w w g g t) (sym (turn-none text)) (Grew-none w g)
