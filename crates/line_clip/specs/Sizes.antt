-- Sizes of areas and lines.
use Rattle.fixed_point.specs.declared.limits.TheConstants.{MOST_TICKS}
use Rattle.circle_cut.specs.declared.limits.TheConstants.{MOST_NORMAL, MOST_PLACE}
use Rattle.line_clip.specs.declared.part.TheConstants.{MOST_END}
use Rattle.std.specs.Prelude.{◌≤◌, ◌*◌, ℤ, pos, ◌<ℤ◌, unsigned_abs, ◌⊎◌, ◌≢◌}
use Rattle.line_clip.specs.declared.part.Area.{Area}
use Rattle.line_clip.specs.declared.part.Line.{Line}
use Rattle.circle_cut.specs.declared.exact.Exact.{Exact}
use Rattle.circle_cut.specs.Places.{rounded}
use Rattle.circle_cut.specs.Sizes.{IsNear}

-- Some ticks wide and high, and at most ten metres.
pub record IsArea (a : Area) : Type 0 where
  pub wide : pos 0 <ℤ a.w
  pub high : pos 0 <ℤ a.h
  pub small_w : unsigned_abs a.w ≤ MOST_TICKS
  pub small_h : unsigned_abs a.h ≤ MOST_TICKS

pub record IsSloping (m n : ℤ) : Type 0 where
  pub along : pos 0 <ℤ m
  pub across : pos 0 <ℤ n
  pub small_m : unsigned_abs m ≤ MOST_NORMAL
  pub small_n : unsigned_abs n ≤ MOST_NORMAL

-- An end of a part, before it is turned over.
pub record IsEnd (e : Exact) : Type 0 where
  pub positive : pos 0 <ℤ e.d
  pub size_d : unsigned_abs e.d ≤ MOST_NORMAL
  pub size_x : unsigned_abs e.x ≤ MOST_END
  pub size_y : unsigned_abs e.y ≤ MOST_END

abbrev pub AreEnds : Exact × Exact → Type 0
AreEnds ends = IsEnd ends.0 × IsEnd ends.1

-- An end.
pub record IsMirrored (e : Exact) : Type 0 where
  pub positive : pos 0 <ℤ e.d
  pub size_d : unsigned_abs e.d ≤ MOST_NORMAL
  pub size_x : unsigned_abs e.x ≤ MOST_END
  pub size_y : unsigned_abs e.y ≤ 2 * MOST_END

abbrev pub AreMirrored : Exact × Exact → Type 0
AreMirrored ends = IsMirrored ends.0 × IsMirrored ends.1

pub record IsLine (l : Line) : Type 0 where
  pub some : (l.n1 ≢ pos 0) ⊎ (l.n2 ≢ pos 0)
  pub size_1 : unsigned_abs l.n1 ≤ MOST_NORMAL
  pub size_2 : unsigned_abs l.n2 ≤ MOST_NORMAL
  pub size_c : unsigned_abs l.c ≤ MOST_PLACE

-- Both ends are rounded to spots that are near.
abbrev pub AreNear : Exact × Exact → Type 0
AreNear ends = IsNear (rounded ends.0) × IsNear (rounded ends.1)
