-- Which bytes a text has not, and texts that are cut where a byte stands.
use Rattle.std.proofs.Common.{◌≡◌, ℕ, ◌^◌, ◌<◌, List, [], ◌∷◌, ◌++◌, Bool, true, false, ◌&&◌, nat_le, length, refl, sym, ◌∙◌, ap, arith}
use Rattle.std.specs.List.{list_all}
use Rattle.std.specs.Prelude.{decimal}
use Rattle.std.proofs.lemmas.Bool.{leb-true, le-leb, and_parts}
use Rattle.std.proofs.lemmas.List.Folds.{list_all-append}
use Rattle.poly_model.specs.Names.{are_variables}
use Rattle.poly_model.specs.Polynomial.{Polynomial, is_over}
use Rattle.poly_model.specs.Standard.{is_standard}
use Rattle.poly_model.specs.declared.vars.VarName.{VarName}
use Rattle.poly_text.specs.Bytes.{is_poly_byte}
use Rattle.desk_io.specs.Characters.{is_digit}
use Rattle.poly_text.specs.Text.{poly_text}
use Rattle.poly_text.proofs.Plain.{decimal-digits, poly-plain}
pub use Rattle.proof_log.specs.Cuts.{Avoids, EndsAt}

pub avoids-append : (c : ℕ) (a b : List ℕ) → Avoids c a → Avoids c b → Avoids c (a ++ b)
avoids-append c [] b x y = y
avoids-append c (d ∷ a) b x y = (x.0, avoids-append c a b x.1 y)

pub heads : (a b : ℕ) (x y : List ℕ) → a ∷ x ≡ b ∷ y → (a ≡ b) × (x ≡ y)
heads a b x y e = (cc, cc)

-- two texts up to where the byte stands
pub cut : (c : ℕ) (a b x y : List ℕ) → Avoids c a → Avoids c b → EndsAt c x → EndsAt c y → a ++ x ≡ b ++ y → (a ≡ b) × (x ≡ y)
cut c [] [] x y p q u v e = (refl, e)
cut c [] (d ∷ b) [] y p q u v e = cc
cut c [] (d ∷ b) (f ∷ x) y p q u v e = absurd (q.0 (sym (heads f d x (b ++ y) e).0 ∙ u))
cut c (d ∷ a) [] x [] p q u v e = cc
cut c (d ∷ a) [] x (f ∷ y) p q u v e = absurd (p.0 ((heads d f (a ++ x) y e).0 ∙ v))
cut c (d ∷ a) (f ∷ b) x y p q u v e =
    let h = heads d f (a ++ x) (b ++ y) e in
    let r = cut c a b x y p.1 q.1 u v h.1 in
    ((λ i. h.0 i ∷ r.0 i), r.1)

-- a byte that fails a test avoids a text whose bytes pass it
pub avoided : (test : ℕ → Bool) (c : ℕ) (bs : List ℕ) → test c ≡ false → list_all test bs ≡ true → Avoids c bs
avoided test c [] not h = tt
avoided test c (b ∷ bs) not h =
    let p = and_parts (test b) (list_all test bs) h in
    ((λ e. absurd (differ (sym p.0 ∙ ap test e ∙ not))), avoided test c bs not p.1)
  where
    differ : true ≡ false → ⊥
    differ e = cc

-- ---- bytes above the blank
abbrev is_high : ℕ → Bool
is_high b = nat_le 33 b

abbrev pub high : List ℕ → Bool
high bs = list_all is_high bs

pub high-blank : (bs : List ℕ) → high bs ≡ true → Avoids 32 bs
high-blank bs h = avoided is_high 32 bs refl h

pub high-line : (bs : List ℕ) → high bs ≡ true → Avoids 10 bs
high-line bs h = avoided is_high 10 bs refl h

pub high-append : (a b : List ℕ) → high a ≡ true → high b ≡ true → high (a ++ b) ≡ true
high-append a b x y = list_all-append is_high a b ∙ (λ i. x i && y i)

digit-high : (b : ℕ) → is_digit b ≡ true → nat_le 33 b ≡ true
digit-high b h = let q = leb-true 48 b (and_parts (nat_le 48 b) (nat_le b 57) h).0 in le-leb 33 b (omega (arith, q))

digits-high : (ds : List ℕ) → list_all is_digit ds ≡ true → high ds ≡ true
digits-high [] h = refl
digits-high (d ∷ ds) h =
    let p = and_parts (is_digit d) (list_all is_digit ds) h in
    ap (λ t. t && high ds) (digit-high d p.0) ∙ digits-high ds p.1

pub decimal-high : (n : ℕ) → n < 10 ^ 64 → high (decimal n) ≡ true
decimal-high n small = digits-high (decimal n) (decimal-digits n small)

-- ---- polynomials
module _ (names : List VarName) (p : Polynomial) (valid : are_variables names ≡ true) (standard : is_standard p ≡ true) (over : is_over (length names) p ≡ true) where
  pub poly-line : Avoids 10 (poly_text names p)
  poly-line = avoided is_poly_byte 10 (poly_text names p) refl (poly-plain names p valid standard over)

  pub poly-semicolon : Avoids 59 (poly_text names p)
  poly-semicolon = avoided is_poly_byte 59 (poly_text names p) refl (poly-plain names p valid standard over)
