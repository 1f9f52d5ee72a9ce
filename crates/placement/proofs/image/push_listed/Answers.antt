use Rattle.std.proofs.Common.{◌≡◌, [], ◌∷◌, ◌++◌, sym, ◌∙◌, ap, false, if◌then◌else◌, append_assoc}
use Rattle.std.specs.Prelude.{ℤ}
use Rattle.poly_model.specs.Domain.{integers}
use Rattle.algebraize.specs.Vectors.{Vector, coordinates, minus, dot, cross, sq}
use Rattle.algebraize.specs.Figure.{place_of}
use Rattle.placement.specs.Placing.{frame_with, image, is_first, is_second, listed}
use Rattle.placement.proofs.image.push_listed.Goals as goal

pub returns-clause-items : goal.returns-clause-items
returns-clause-items c =
    let figure = c.args.figure.now in
    let frees = c.args.frees.now in
    let axis = c.args.axis.now in
    let r = frame_with c.args.origin axis in
    let q : Vector ℤ = image integers r (place_of integers figure c.args.point) in
    let f : is_first frees c.args.point ≡ false = sym c.is_first.ensures ∙ c.if-is_first.false in
    let g : is_second frees c.args.point ≡ false = sym c.is_second.ensures ∙ c.if-is_second.false in
    let e : listed integers r figure frees c.args.point ≡ coordinates q =
    ap (λ b. if b then [] else (if is_second frees c.args.point then sq integers axis ∷ [] else coordinates q)) f
    ∙ ap (λ b. if b then sq integers axis ∷ [] else coordinates q) g in
    let v : c.minus-v.result ≡ minus integers (place_of integers figure c.args.point) c.args.origin =
    c.minus-v.ensures.value ∙ ap (λ p. minus integers p c.args.origin) c.place_of.ensures.value in
    let along : c.dot-along.result ≡ q.0 = c.dot-along.ensures.value ∙ ap (dot integers axis) v in
    let across : c.cross-across.result ≡ q.1 = c.cross-across.ensures.value ∙ ap (cross integers axis) v in
    c.in_ok-push-2.ensures.items
    ∙ ap (λ l. l ++ c.cross-across.result ∷ []) c.in_ok-push.ensures.items
    ∙ append_assoc c.args.out.now.items (c.dot-along.result ∷ []) (c.cross-across.result ∷ [])
    ∙ (λ i. c.args.out.now.items ++ (along i ∷ across i ∷ []))
    ∙ ap (λ l. c.args.out.now.items ++ l) (sym e)
