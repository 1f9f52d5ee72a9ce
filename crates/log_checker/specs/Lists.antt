-- Lists of polynomials that are told one by one.
use Rattle.std.specs.Prelude.{◌≡◌, ℕ, List, [], ◌∷◌, drop, Bool, true, false, Option, Some, None}
use Rattle.poly_model.specs.Polynomial.{Polynomial}
use Rattle.poly_model.specs.Reduction.{same}
use Rattle.log_checker.specs.Fitting.{Inside, Work, where_fits, where_whole}
use Rattle.log_checker.specs.Views.{eqs_due, nes_due, listing}
use Rattle.log_checker.specs.declared.piece.Lists.{Lists}

-- None is left to be told.
abbrev pub are_told : List Polynomial → Bool
are_told [] = true
are_told (p ∷ ps) = false

-- What is left behind a line that tells the first of these.
abbrev pub told : Polynomial → List Polynomial → Option (List Polynomial)
told p [] = None
told p (q ∷ qs) = where_fits (same p q) qs

abbrev pub left_of : List Polynomial → Option ℕ → Option (List Polynomial)
left_of ps None = None
left_of ps (Some k) = Some (drop k ps)

-- Where a piece stands behind a line of its lists, by the number that is listed then.
abbrev pub lists_row : (ℕ → Lists) → Work → Option ℕ → Option Inside
lists_row lists w None = None
lists_row lists w (Some k) = Some (listing (lists k) w)

-- Something is left to be told.
abbrev pub HaveMore : Lists → Type 0
HaveMore l = (i : Option Inside) → where_whole (eqs_due l) (nes_due l) i ≡ None

-- Where a piece stands with the lists that a line leaves.
abbrev pub lists_views : Work → Option Lists → Option Inside
lists_views w None = None
lists_views w (Some l) = Some (listing l w)
