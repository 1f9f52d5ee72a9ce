-- A path with one letter more.
use Rattle.std.proofs.Common.{◌≡◌, ℕ, ◌+◌, ◌-◌, ◌<◌, zero, suc, List, [], ◌∷◌, drop, replicate, set, ◌∙◌, ap, arith, Bool, false}
use Rattle.std.proofs.lemmas.List.{drop-replicate, drop-set-lt, length-set}
use Rattle.proof_steps.specs.Letters.{Holds}
use Rattle.poly_model.specs.declared.limits.TheConstants.{MOST_LETTERS}

drop_next : (letters : List Bool) (n m : ℕ) → drop n letters ≡ replicate m false → drop (suc n) letters ≡ replicate (m - 1) false
drop_next letters zero m e = ap (drop 1) e ∙ drop-replicate 1 m false
drop_next [] (suc n) m e = ap (drop 1) e ∙ drop-replicate 1 m false
drop_next (b ∷ letters) (suc n) m e = drop_next letters n m e

pub one_more : (letters : List Bool) (len : ℕ) (b : Bool) → Holds letters len → len < MOST_LETTERS → Holds (set letters len b) (len + 1)
one_more letters len b h below = record {
  whole = length-set letters len b ∙ h.whole;
  within = omega arith;
  filled =
      drop-set-lt (len + 1) letters len b (omega arith)
      ∙ ap (λ k. drop k letters) (let e : len + 1 ≡ suc len = omega arith in e)
      ∙ drop_next letters len (MOST_LETTERS - len) h.filled
      ∙ ap (λ k. replicate k false) (let e : MOST_LETTERS - len - 1 ≡ MOST_LETTERS - (len + 1) = omega arith in e);
}
