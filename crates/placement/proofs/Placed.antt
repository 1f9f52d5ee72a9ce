-- A figure meets what it constructs and states exactly if it does when it is placed.
use Rattle.std.proofs.Common.{◌≡◌, ◌≢◌, ◌∙◌, ℕ, List, [], ◌∷◌, refl, sym, arith}
use Rattle.poly_model.specs.Domain.{Operations, IsDomain}
use Rattle.gcl_names.specs.Sound.{after_all, nothing}
use Rattle.algebraize.specs.Curves.{no_curves}
use Rattle.algebraize.specs.Figure.{Figure}
use Rattle.placement.specs.Placing.{frame, frame_of, free_points}
use Rattle.poly_model.specs.Solve.{Var, Add, Mul, Neg, solve}
use Rattle.poly_model.specs.Solve as expression
use Rattle.algebraize.specs.Vectors.{minus, sq}
use Rattle.placement.specs.Laws.{AreApart, PlacementKeepsCommands, PlacementKeepsConstructions, PlacementKeepsStatements, OneFreePointIsMoved, placed}
use Rattle.placement.proofs.Turned.{Along, Across}
use Rattle.placement.proofs.Figures as figures
use Rattle.placement.proofs.Layouts.{figure-placed}

module _ {M : Type 0} {o : Operations M} (D : IsDomain o) where
  -- the square of the axis is not zero
  unit : sq o (o.one, o.zero) ≡ o.one
  unit = solve D.ring [] (Add (Mul expression.One expression.One) (Mul expression.Zero expression.Zero)) expression.One refl

  apart : (f : Figure M) (frees : List ℕ) → AreApart o f frees → sq o (frame_of o f frees).axis ≢ o.zero
  apart f [] h = λ e. D.one_not_zero (sym unit ∙ e)
  apart f (a ∷ []) h = λ e. D.one_not_zero (sym unit ∙ e)
  apart f (a ∷ b ∷ others) h = h

  pub commands : PlacementKeepsCommands o
  commands acts f follow can =
      let r = frame o acts f in
      let far = apart f (free_points acts) can in
      figures.same-acts D r.origin r.axis far (after_all nothing acts).points f (placed o acts f) no_curves no_curves nothing acts
      (figure-placed D.ring acts f follow) (record { lines = tt; circles = tt; count = refl }) follow (omega arith)

  pub constructions : PlacementKeepsConstructions o
  constructions acts f follow far = figures.alike-all o f (placed o acts f) no_curves no_curves acts (commands acts f follow far)

  pub statements : PlacementKeepsStatements o
  statements acts f s points follow can made =
      let r = frame o acts f in
      let far = apart f (free_points acts) can in
      figures.same-statement D r.origin r.axis far (after_all nothing acts).points f (placed o acts f) (after_all nothing acts) s points
      (figure-placed D.ring acts f follow) made (omega arith)

  pub one_free_point : OneFreePointIsMoved o
  one_free_point a x =
      let v = minus o x a in
      λ i. (
        solve D.ring (v.0 ∷ v.1 ∷ []) (Along expression.One expression.Zero (Var 0) (Var 1)) (Var 0) refl i,
        solve D.ring (v.0 ∷ v.1 ∷ []) (Across expression.One expression.Zero (Var 0) (Var 1)) (Var 1) refl i,
      )
