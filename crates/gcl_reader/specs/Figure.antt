-- Figures of whole numbers, as files tell them: the name of each point in order, and its two coordinates.
use Rattle.std.specs.Prelude.{ℕ, ◌≤◌, List, [], ◌∷◌, Result, Ok, Err, if◌then◌else◌, ℤ, pos, unsigned_abs, int_div, int_rem}
use Rattle.std.specs.Ordering.{int_eq}
use Rattle.std.specs.Str.{bytes_eq}
use Rattle.fixed_point.specs.Decimal.{fix_of}
use Rattle.fixed_point.specs.declared.fault.NumberFault.{NumberFault}
use Rattle.gcl_reader.specs.Grammar.{◌>>=◌, refused, span_of_end}
use Rattle.gcl_reader.specs.Span.{refusal}
use Rattle.gcl_reader.specs.Tokens.{Token, Lexed, lexed}
use Rattle.gcl_reader.specs.declared.limits.TheConstants.{MOST_COORDINATE, UNIT}
use Rattle.gcl_reader.specs.declared.refusal.Kind.TheVariants as kind
use Rattle.gcl_reader.specs.declared.refusal.Refusal.{Refusal}

-- The refusal of a token of a figure.
abbrev pub refused_there : {A : Type 0} → Token → Result A Refusal
refused_there t = Err (refused kind.BadFigure t)

-- The next token of a figure.
unfoldable pub part_at : Lexed → Result (Token × Lexed) Refusal
part_at x = elim x.tokens [
  | [] ↦ Err (refusal kind.BadFigure (span_of_end x))
  | ◌∷◌ t ts ↦ Ok (t, record x { tokens = ts })
]

-- No token is left.
unfoldable pub end_at : Lexed → Result (List (ℤ × ℤ)) Refusal
end_at x = elim x.tokens [
  | [] ↦ Ok []
  | ◌∷◌ t ts ↦ refused_there t
]

-- A number whose value is whole.
abbrev pub whole_in : Token → Result ℤ NumberFault → Result ℤ Refusal
whole_in t (Ok n) = if int_eq (int_rem n (pos UNIT)) (pos 0) then Ok (int_div n (pos UNIT)) else refused_there t
whole_in t (Err fault) = refused_there t

unfoldable pub coordinate_at : Lexed → Result (ℤ × Lexed) Refusal
coordinate_at x = do
  t ← part_at x
  n ← whole_in t.0 (fix_of t.0.text)
  Ok (n, t.1)

-- The next token is the name.
unfoldable pub name_at : List ℕ → Lexed → Result Lexed Refusal
name_at name x = do
  t ← part_at x
  if bytes_eq t.0.text name then Ok t.1 else refused_there t.0

-- The place of the point of a name.
unfoldable pub place_at : List ℕ → Lexed → Result ((ℤ × ℤ) × Lexed) Refusal
place_at name x = do
  after ← name_at name x
  first ← coordinate_at after
  second ← coordinate_at first.1
  Ok ((first.0, second.0), second.1)

-- The places of the points of these names, and then the end.
unfoldable pub places_at : List (List ℕ) → Lexed → Result (List (ℤ × ℤ)) Refusal
places_at [] x = end_at x
places_at (name ∷ names) x = do
  place ← place_at name x
  others ← places_at names place.1
  Ok (place.0 ∷ others)

-- The figure that a file of these bytes tells of points with these names.
abbrev pub figure_of : List (List ℕ) → List ℕ → Result (List (ℤ × ℤ)) Refusal
figure_of names bytes = places_at names (lexed bytes)

-- A place whose coordinates have no greater size, and places with the greatest that a figure may have.
abbrev pub IsSmall : ℕ → ℤ × ℤ → Type 0
IsSmall n p = (unsigned_abs p.0 ≤ n) × (unsigned_abs p.1 ≤ n)

abbrev pub AreSmall : List (ℤ × ℤ) → Type 0
AreSmall [] = Unit {0}
AreSmall (p ∷ ps) = IsSmall MOST_COORDINATE p × AreSmall ps
