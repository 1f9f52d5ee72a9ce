-- The part of a line in an area: the places that the two have in common.
use Rattle.std.specs.Prelude.{◌≡◌, ◌⊎◌, pos, ◌+ℤ◌, ◌*ℤ◌, ◌<ℤ◌, ◌≤ℤ◌, Option, Some, None}
use Rattle.circle_cut.specs.declared.exact.Exact.{Exact}
use Rattle.line_clip.specs.declared.part.Area.{Area}
use Rattle.line_clip.specs.declared.part.Line.{Line}

-- The place lies on the line.
abbrev pub IsOn : Line → Exact → Type 0
IsOn l p = l.n1 *ℤ p.x +ℤ l.n2 *ℤ p.y ≡ l.c *ℤ p.d

-- The place lies in the closed area.
pub record IsIn (a : Area) (p : Exact) : Type 0 where
  pub left : pos 0 ≤ℤ p.x
  pub right : p.x ≤ℤ (a.w *ℤ p.d)
  pub bottom : pos 0 ≤ℤ p.y
  pub top : p.y ≤ℤ (a.h *ℤ p.d)

-- A place that line and area have in common.
pub record IsCommon (a : Area) (l : Line) (p : Exact) : Type 0 where
  pub positive : pos 0 <ℤ p.d
  pub on : IsOn l p
  pub inside : IsIn a p

-- p has a lesser x than q, or the same and a lesser y.
abbrev pub IsBefore : Exact → Exact → Type 0
IsBefore p q = ((p.x *ℤ q.d) <ℤ (q.x *ℤ p.d)) ⊎ (p.x *ℤ q.d ≡ q.x *ℤ p.d) × ((p.y *ℤ q.d) <ℤ (q.y *ℤ p.d))

-- p and q are the same place.
abbrev pub IsSame : Exact → Exact → Type 0
IsSame p q = (p.x *ℤ q.d ≡ q.x *ℤ p.d) × (p.y *ℤ q.d ≡ q.y *ℤ p.d)

abbrev pub NotAfter : Exact → Exact → Type 0
NotAfter p q = IsBefore p q ⊎ IsSame p q

-- The common part has p and q as its first and its last place, and these are two.
pub record HasEnds (a : Area) (l : Line) (p q : Exact) : Type 0 where
  pub first : IsCommon a l p
  pub last : IsCommon a l q
  pub two : IsBefore p q
  pub between : (r : Exact) → IsCommon a l r → NotAfter p r × NotAfter r q

-- The common part has at most one place.
abbrev pub IsPoint : Area → Line → Type 0
IsPoint a l = (r s : Exact) → IsCommon a l r → IsCommon a l s → IsSame r s

abbrev pub IsPart : Area → Line → Option (Exact × Exact) → Type 0
IsPart a l None = IsPoint a l
IsPart a l (Some ends) = HasEnds a l ends.0 ends.1
