-- How pieces end.
use Rattle.std.proofs.Common.{◌≡◌, ℕ, List, [], ◌∷◌, refl}
use Rattle.std.specs.Prelude.{Option, Some, None}
use Rattle.poly_model.specs.Polynomial.{Polynomial}
use Rattle.poly_model.specs.declared.limits.Reason.{Reason}
use Rattle.verdicts.specs.Tallies.{Stops}
use Rattle.log_checker.specs.Fitting.{Chaining, Ended, Inside, end_of_work, listed, where_whole}

-- A system has not ended.
pub unended : (eqs nes E todo : List Polynomial) (k fuel : ℕ) → None ≡ end_of_work eqs nes (Chaining E k todo fuel)
unended [] [] E todo k fuel = refl
unended [] (q ∷ qs) E todo k fuel = refl
unended (p ∷ ps) nes E todo k fuel = refl

-- An open leaf has ended where its lists are whole.
pub stops-whole : (eqs nes : List Polynomial) (why : Reason) → ((i : Option Inside) → where_whole eqs nes i ≡ i) → Some ([], Stops why) ≡ end_of_work eqs nes (Ended [] (Stops why))
stops-whole [] [] why h = refl
stops-whole [] (q ∷ qs) why h = let e = h (Some (listed (Ended [] (Stops why)))) in cc
stops-whole (p ∷ ps) nes why h = let e = h (Some (listed (Ended [] (Stops why)))) in cc

pub stops-short : (eqs nes : List Polynomial) (why : Reason) → ((i : Option Inside) → where_whole eqs nes i ≡ None) → None ≡ end_of_work eqs nes (Ended [] (Stops why))
stops-short [] [] why h = let e = h (Some (listed (Ended [] (Stops why)))) in cc
stops-short [] (q ∷ qs) why h = refl
stops-short (p ∷ ps) nes why h = refl
