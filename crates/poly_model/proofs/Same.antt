-- Terms are told apart by their entries.
use Rattle.std.proofs.Common.{◌≡◌, List, [], ◌∷◌, map, refl, ap, sym, ◌∙◌}
use Rattle.std.specs.Prelude.{Bool, true, false, ◌&&◌, eqb}
use Rattle.std.specs.Bool.{Decides}
use Rattle.std.specs.Ordering.{int_eq}
use Rattle.std.specs.Cmp.Lexicographic.{pointwise}
use Rattle.std.proofs.lemmas.Bool.Decides.{Decides-eqb, Decides-int_eq}
use Rattle.std.proofs.lemmas.Slice.Eq.{slice_eq-Decides}
use Rattle.poly_model.specs.Polynomial.{Entry, Polynomial}
use Rattle.poly_model.specs.declared.term.Term.{Term}
use Rattle.poly_model.specs.Standard.{polynomial_of}

abbrev term_of : Entry → Term
term_of (es, c) = record { coef = c; exps = es }

abbrev terms_of : Polynomial → List Term
terms_of = map term_of

back : (xs : List Term) → terms_of (polynomial_of xs) ≡ xs
back [] = refl
back (x ∷ xs) = ap (λ l. x ∷ l) (back xs)

pub polynomial_of-injective : (xs ys : List Term) → polynomial_of xs ≡ polynomial_of ys → xs ≡ ys
polynomial_of-injective xs ys e = sym (back xs) ∙ ap terms_of e ∙ back ys

both_decide : (a b : Bool) {P Q : Type 0} → Decides a P → Decides b Q → Decides (a && b) (P × Q)
both_decide true b d e = ((λ h. (d.0 refl, e.0 h)), (λ h. e.1 h.1))
both_decide false b d e = ((λ h. absurd (let g : false ≡ true = h in cc)), (λ h. d.1 h.0))

pub term_decides : (x y : Term) → Decides (int_eq x.coef y.coef && pointwise eqb x.exps y.exps) (x ≡ y)
term_decides x y =
    let d = both_decide (int_eq x.coef y.coef) (pointwise eqb x.exps y.exps) (Decides-int_eq x.coef y.coef) (slice_eq-Decides Decides-eqb x.exps y.exps _ refl) in
    ((λ h. let p = d.0 h in λ i. record { coef = p.0 i; exps = p.1 i }), (λ h. d.1 (ap (λ (t : Term). t.coef) h, ap (λ (t : Term). t.exps) h)))
