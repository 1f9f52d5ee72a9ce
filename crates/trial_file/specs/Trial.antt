-- The file of a number: three free points, and behind them 1 to 16 constructions, each with a statement.
use Rattle.std.specs.Prelude.{ℕ, zero, suc, ◌+◌, ◌%◌, List, [], ◌∷◌, ◌++◌, flat_map, codes, decimal}
use Rattle.trial_file.specs.Draws.{after_four, choice}
use Rattle.trial_file.specs.declared.choice.Choice.{Choice}
use Rattle.trial_file.specs.declared.choice.Name.{Name}
use Rattle.trial_file.specs.declared.choice.Name.TheVariants.{Point, Line}
use Rattle.trial_file.specs.declared.choice.Construction.{Construction}
use Rattle.trial_file.specs.declared.choice.Construction.TheVariants.{Midpoint, Foot, Translate}

-- The names of points and of lines.
abbrev pub name_text : Name → List ℕ
name_text (Point i) = codes "A" ++ decimal i
name_text (Line i) = codes "l" ++ decimal i

-- Names, each behind a blank.
abbrev pub spaced : List Name → List ℕ
spaced = flat_map (λ name. codes " " ++ name_text name)

-- A command of names, and the proof of a statement.
abbrev pub command : (word : List ℕ) → (names : List Name) → List ℕ
command word names = word ++ spaced names ++ codes "\n"

abbrev pub prove : (statement : List ℕ) → (names : List Name) → List ℕ
prove statement names = codes "prove { " ++ statement ++ spaced names ++ codes " }\n"

-- The construction of point i, and the statement that it makes true.
abbrev pub made_by : Construction → (i a b c : ℕ) → List ℕ
made_by Midpoint i a b c =
    command (codes "midpoint") (Point i ∷ Point a ∷ Point b ∷ [])
    ++ prove (codes "collinear") (Point a ∷ Point b ∷ Point i ∷ [])
made_by Foot i a b c =
    command (codes "line") (Line i ∷ Point a ∷ Point b ∷ [])
    ++ command (codes "foot") (Point i ∷ Point c ∷ Line i ∷ [])
    ++ prove (codes "collinear") (Point a ∷ Point b ∷ Point i ∷ [])
made_by Translate i a b c =
    command (codes "translate") (Point i ∷ Point a ∷ Point b ∷ Point c ∷ [])
    ++ prove (codes "parallel") (Point a ∷ Point b ∷ Point c ∷ Point i ∷ [])

abbrev pub step_text : ℕ → Choice → List ℕ
step_text i d = made_by d.construction i d.a d.b d.c

-- So many constructions from point i on.
unfoldable pub steps_text : (count i state : ℕ) → List ℕ
steps_text zero i s = []
steps_text (suc n) i s = step_text i (choice i s) ++ steps_text n (i + 1) (after_four s)

abbrev pub free_points : List ℕ
free_points = codes "point A0 0 0\npoint A1 60 0\npoint A2 20 50\n"

-- How many constructions the file of a number has.
abbrev pub steps_of : ℕ → ℕ
steps_of n = 1 + n % 16

-- The file of a number.
unfoldable pub trial_text : ℕ → List ℕ
trial_text n = free_points ++ steps_text (steps_of n) 3 n
