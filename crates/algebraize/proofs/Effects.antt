-- The hypotheses grow by the primitive parts of each act's conditions.
use Rattle.std.proofs.Common.{◌≡◌, List, [], ◌∷◌, ◌++◌, length, map, refl, sym, ◌∙◌, ap, append_assoc, append-nil, arith}
use Rattle.std.proofs.lemmas.List.{map-append}
use Rattle.poly_model.specs.Polynomial.{Polynomial}
use Rattle.poly_model.specs.Content.{primitive_part}
use Rattle.gcl_names.specs.declared.program.Act.{Act}
use Rattle.algebraize.specs.Curves.{Curves}
use Rattle.algebraize.specs.Equations.{polynomials}
use Rattle.algebraize.specs.Figure.{Figure, Effect, Nothing, NewLine, NewCircle, Conditions, effect, conditions, with_effect, conditions_from}
use Rattle.algebraize.specs.Formed.{primitive_effect}

conditions-primitive : (g : Effect Polynomial) → conditions (primitive_effect g) ≡ map primitive_part (conditions g)
conditions-primitive Nothing = refl
conditions-primitive (NewLine l) = refl
conditions-primitive (NewCircle k) = refl
conditions-primitive (Conditions ps) = refl

with-primitive : (g : Effect Polynomial) (c : Curves Polynomial) → with_effect (primitive_effect g) c ≡ with_effect g c
with-primitive Nothing c = refl
with-primitive (NewLine l) c = refl
with-primitive (NewCircle k) c = refl
with-primitive (Conditions ps) c = refl

-- one more act
pub act_taken : (f : Figure Polynomial) (c d : Curves Polynomial) (acts tail : List Act) (a : Act) (old new whole : List Polynomial) (e : Effect Polynomial)
    → acts ≡ a ∷ tail → e ≡ primitive_effect (effect polynomials f c a.deed) → d ≡ with_effect e c → new ≡ old ++ conditions e
    → old ++ map primitive_part (conditions_from polynomials f c acts) ≡ whole → new ++ map primitive_part (conditions_from polynomials f d tail) ≡ whole
unfolding conditions_from
act_taken f c d acts tail a old new whole e first is curves grown h =
    let g = effect polynomials f c a.deed in
    let rest = conditions_from polynomials f (with_effect g c) tail in
    let more = ap conditions is ∙ conditions-primitive g in
    let drawn = curves ∙ ap (λ x. with_effect x c) is ∙ with-primitive g c in
    (λ i. grown i ++ map primitive_part (conditions_from polynomials f (drawn i) tail))
    ∙ ap (λ l. (old ++ l) ++ map primitive_part rest) more
    ∙ append_assoc old (map primitive_part (conditions g)) (map primitive_part rest)
    ∙ ap (λ l. old ++ l) (sym (map-append primitive_part (conditions g) rest))
    ∙ ap (λ l. old ++ map primitive_part (conditions_from polynomials f c l)) (sym first) ∙ h

-- no act is left
pub none_left : (f : Figure Polynomial) (c : Curves Polynomial) (acts : List Act) (old whole : List Polynomial) → length acts ≡ 0
    → old ++ map primitive_part (conditions_from polynomials f c acts) ≡ whole → old ≡ whole
unfolding conditions_from
none_left f c [] old whole none h = sym (append-nil old) ∙ h
none_left f c (a ∷ acts) old whole none h = absurd (omega arith)
