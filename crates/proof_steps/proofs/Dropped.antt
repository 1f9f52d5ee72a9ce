-- Where a list of polynomials goes on from a place.
use Rattle.std.proofs.Common.{◌≡◌, ℕ, zero, suc, List, [], ◌∷◌, drop, get_or, set, ap}
use Rattle.poly_model.specs.Polynomial.{Polynomial}

pub drop-get : (n : ℕ) (ps : List Polynomial) (p : Polynomial) (rest : List Polynomial) → drop n ps ≡ p ∷ rest → get_or ps n [] ≡ p
drop-get zero [] p rest e = cc
drop-get zero (q ∷ ps) p rest e = cc
drop-get (suc n) [] p rest e = cc
drop-get (suc n) (q ∷ ps) p rest e = drop-get n ps p rest e

pub drop-set : (n : ℕ) (ps : List Polynomial) (p r : Polynomial) (rest : List Polynomial) → drop n ps ≡ p ∷ rest → drop n (set ps n r) ≡ r ∷ rest
drop-set zero [] p r rest e = cc
drop-set zero (q ∷ ps) p r rest e = ap (λ l. r ∷ l) (tail e)
  where
    tail : q ∷ ps ≡ p ∷ rest → ps ≡ rest
    tail h = cc
drop-set (suc n) [] p r rest e = cc
drop-set (suc n) (q ∷ ps) p r rest e = drop-set n ps p r rest e

pub drop-more : (n : ℕ) (ps : List Polynomial) (p : Polynomial) (rest : List Polynomial) → drop n ps ≡ p ∷ rest → drop (suc n) ps ≡ rest
drop-more zero [] p rest e = cc
drop-more zero (q ∷ ps) p rest e = cc
drop-more (suc n) [] p rest e = cc
drop-more (suc n) (q ∷ ps) p rest e = drop-more n ps p rest e
