-- The text that lists the problems of the proves.
use Rattle.std.specs.Prelude.{ℕ, ◌+◌, List, [], ◌∷◌, ◌++◌, codes, decimal}
use Rattle.std.specs.List.{flat_map}
use Rattle.desk_io.specs.Characters.{line_feed}
use Rattle.poly_model.specs.Polynomial.{Polynomial}
use Rattle.poly_model.specs.declared.vars.VarName.{VarName}
use Rattle.poly_text.specs.Text.{variable_text, poly_text}
use Rattle.algebraize.specs.Equations.{Equations}

-- The end of a line.
abbrev pub line_end : List ℕ
line_end = line_feed ∷ []

-- A variable behind a blank.
abbrev pub name_text : VarName → List ℕ
name_text name = codes " " ++ variable_text name

-- The variables, each behind a blank.
abbrev pub names_text : List VarName → List ℕ
names_text = flat_map name_text

-- A line with a word, a blank and a polynomial.
abbrev pub polynomial_line : List ℕ → List VarName → Polynomial → List ℕ
polynomial_line word names p = word ++ poly_text names p ++ line_end

abbrev pub polynomial_lines : List ℕ → List VarName → List Polynomial → List ℕ
polynomial_lines word names = flat_map (polynomial_line word names)

-- The lines of the prove number k: its number, its variables, a line for each hypothesis and one for each conclusion.
abbrev pub problem_text : ℕ → Equations → List ℕ
problem_text k e =
    codes "prove " ++ decimal k ++ line_end ++ codes "vars" ++ names_text e.variables ++ line_end
    ++ polynomial_lines (codes "hyp ") e.variables e.hypotheses ++ polynomial_lines (codes "con ") e.variables e.conclusions

-- The problems from the number k on.
abbrev pub problems_text : ℕ → List Equations → List ℕ
problems_text k [] = []
problems_text k (e ∷ es) = problem_text k e ++ problems_text (k + 1) es

-- All problems, numbered from 1.
abbrev pub system_text : List Equations → List ℕ
system_text es = problems_text 1 es
