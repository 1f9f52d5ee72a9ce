-- How the ends of the part of a line in an area are found.
use Rattle.std.specs.Prelude.{◌≡◌, ◌≢◌, ◌⊎◌, Bool, ℤ, pos, ◌+ℤ◌, ◌-ℤ◌, ◌*ℤ◌, neg_ℤ, ◌<ℤ◌, int_lt, int_le, if◌then◌else◌, ◌&&◌, Option, Some, None}
use Rattle.std.specs.Ordering.{int_eq}
use Rattle.fixed_point.specs.declared.spot.Spot.{Spot}
use Rattle.circle_cut.specs.Places.{rounded}
use Rattle.circle_cut.specs.declared.exact.Exact.{Exact}
use Rattle.line_clip.specs.declared.part.Area.{Area}
use Rattle.line_clip.specs.declared.part.Line.{Line}
use Rattle.line_clip.specs.Part.{IsPart, HasEnds}

-- The ends where they are two.
abbrev pub ends_if : Bool → Exact → Exact → Option (Exact × Exact)
ends_if two p q = if two then Some (p, q) else None

-- Upright lines: n x = c, where n > 0.
abbrev pub upright : Area → ℤ → ℤ → Option (Exact × Exact)
upright a n c = ends_if (int_le (pos 0) c && int_le c (a.w *ℤ n)) (record { x = c; y = pos 0; d = n }) (record { x = c; y = a.h *ℤ n; d = n })

-- Level lines: n y = c, where n > 0.
abbrev pub level : Area → ℤ → ℤ → Option (Exact × Exact)
level a n c = ends_if (int_le (pos 0) c && int_le c (a.h *ℤ n)) (record { x = pos 0; y = c; d = n }) (record { x = a.w *ℤ n; y = c; d = n })

-- A falling line begins at the left side, or at the top.
abbrev pub falling_first : Area → ℤ → ℤ → ℤ → Exact
falling_first a m n c =
    if int_le c (a.h *ℤ n) then record { x = pos 0; y = c; d = n }
    else record { x = c -ℤ a.h *ℤ n; y = a.h *ℤ m; d = m }

-- It ends at the right side, or at the bottom.
abbrev pub falling_last : Area → ℤ → ℤ → ℤ → Exact
falling_last a m n c =
    if int_le (a.w *ℤ m) c then record { x = a.w *ℤ n; y = c -ℤ a.w *ℤ m; d = n }
    else record { x = c; y = pos 0; d = m }

-- Falling lines: m x + n y = c, where m > 0 and n > 0.
abbrev pub falling : Area → ℤ → ℤ → ℤ → Option (Exact × Exact)
falling a m n c = ends_if (int_lt (pos 0) c && int_lt c (a.w *ℤ m +ℤ a.h *ℤ n)) (falling_first a m n c) (falling_last a m n c)

-- Upside down.
abbrev pub mirrored_place : Area → Exact → Exact
mirrored_place a p = record { x = p.x; y = a.h *ℤ p.d -ℤ p.y; d = p.d }

abbrev pub mirrored : Area → Option (Exact × Exact) → Option (Exact × Exact)
mirrored a None = None
mirrored a (Some ends) = Some (mirrored_place a ends.0, mirrored_place a ends.1)

-- Lines that are not upright: m x + n y = c, where n > 0. A rising line is a falling one upside down.
abbrev pub sloped : Area → ℤ → ℤ → ℤ → Option (Exact × Exact)
sloped a m n c =
    if int_eq m (pos 0) then level a n c
    else (if int_lt m (pos 0) then mirrored a (falling a (neg_ℤ m) n (a.h *ℤ n -ℤ c)) else falling a m n c)

-- The two ends of the part of a line in an area, where it has more than one place.
unfoldable pub line_part : Area → Line → Option (Exact × Exact)
line_part a l =
    if int_eq l.n2 (pos 0) then (if int_lt l.n1 (pos 0) then upright a (neg_ℤ l.n1) (neg_ℤ l.c) else upright a l.n1 l.c)
    else (if int_lt l.n2 (pos 0) then sloped a (neg_ℤ l.n1) (neg_ℤ l.n2) (neg_ℤ l.c) else sloped a l.n1 l.n2 l.c)

-- It gives the ends of the common part of each line and each area.
abbrev pub LinePartIsThePart : Type 0
LinePartIsThePart = (a : Area) (l : Line) → pos 0 <ℤ a.w → pos 0 <ℤ a.h → (l.n1 ≢ pos 0) ⊎ (l.n2 ≢ pos 0) → IsPart a l (line_part a l)

abbrev pub rounded_ends : Option (Exact × Exact) → Option (Spot × Spot)
rounded_ends None = None
rounded_ends (Some ends) = Some (rounded ends.0, rounded ends.1)

-- What is drawn of a line.
unfoldable pub drawn_line : Area → Line → Option (Spot × Spot)
drawn_line a l = rounded_ends (line_part a l)

-- The ends of a common part are rounded to the same spots, however they are found.
abbrev pub EndsAreOne : Type 0
EndsAreOne = (a : Area) (l : Line) (p q r s : Exact) → HasEnds a l p q → HasEnds a l r s → (rounded p ≡ rounded r) × (rounded q ≡ rounded s)
