-- The pieces of the text of problems.
use Rattle.std.proofs.Common.{◌≡◌, ◌≤◌, ◌<◌, ◌+◌, ℕ, zero, suc, List, [], ◌∷◌, ◌++◌, length, get_or, drop, map, refl, sym, ◌∙◌, ap, arith, append_assoc, codes, decimal, IsTrue, subst, add-one}
use Rattle.std.specs.List.{list_all}
use Rattle.std.proofs.lemmas.Bool.{and_parts}
use Rattle.poly_model.specs.Polynomial.{Polynomial, is_over}
use Rattle.poly_model.specs.declared.vars.VarName.{VarName}
use Rattle.proof_steps.specs.declared.problem.Problem.{Problem}
use Rattle.algebraize.specs.Equations.{Equations}
use Rattle.algebraize.specs.Formed.{equations, is_own}
use Rattle.algebraize.specs.System.{line_end, name_text, names_text, polynomial_line, polynomial_lines, problem_text, problems_text}

pub names_next : (names : List VarName) (i : ℕ) (name : VarName) → i < length names → name ≡ get_or names i name → names_text (drop i names) ≡ name_text name ++ names_text (drop (i + 1) names)
names_next names i name below is = at names i name below is ∙ ap (λ k. name_text name ++ names_text (drop k names)) (sym (add-one i))
  where
    at : (names : List VarName) (i : ℕ) (name : VarName) → i < length names → name ≡ get_or names i name → names_text (drop i names) ≡ name_text name ++ names_text (drop (suc i) names)
    at [] i name below is = absurd (omega arith)
    at (n ∷ names) zero name below is = ap (λ m. name_text m ++ names_text names) (sym is)
    at (n ∷ names) (suc i) name below is = at names i name (omega arith) is

pub names_done : (names : List VarName) (i : ℕ) → length names ≤ i → names_text (drop i names) ≡ []
names_done [] zero le = refl
names_done [] (suc i) le = refl
names_done (n ∷ names) zero le = absurd (omega arith)
names_done (n ∷ names) (suc i) le = names_done names i (omega arith)

pub lines_next : (word : List ℕ) (names : List VarName) (rest tail : List Polynomial) (p : Polynomial) → rest ≡ p ∷ tail
    → polynomial_lines word names rest ≡ polynomial_line word names p ++ polynomial_lines word names tail
lines_next word names rest tail p is = ap (polynomial_lines word names) is

pub problems_next : (k : ℕ) (rest tail : List Problem) (p : Problem) → rest ≡ p ∷ tail
    → problems_text k (map equations rest) ≡ problem_text k (equations p) ++ problems_text (k + 1) (map equations tail)
problems_next k rest tail p is = ap (λ l. problems_text k (map equations l)) is

-- the number and the variables
abbrev pub head_text : ℕ → List VarName → List ℕ
head_text k names = codes "prove " ++ decimal k ++ codes "\nvars" ++ names_text names

pub problem_pieces : (k : ℕ) (e : Equations)
    → problem_text k e ≡ head_text k e.variables ++ line_end ++ polynomial_lines (codes "hyp ") e.variables e.hypotheses ++ polynomial_lines (codes "con ") e.variables e.conclusions
problem_pieces k e =
    ap (λ l. l ++ names_text e.variables ++ line_end ++ polynomial_lines (codes "hyp ") e.variables e.hypotheses ++ polynomial_lines (codes "con ") e.variables e.conclusions)
    (append_assoc (codes "prove " ++ decimal k) line_end (codes "vars"))

pub four_right : (a b c d : List ℕ) → a ++ b ++ c ++ d ≡ a ++ (b ++ (c ++ d))
four_right a b c d = simp append_assoc

pub over_first : (n : ℕ) (rest tail : List Polynomial) (p : Polynomial) → rest ≡ p ∷ tail → IsTrue (list_all (is_over n) rest) → IsTrue (is_over n p) × IsTrue (list_all (is_over n) tail)
over_first n rest tail p is t =
    let h = subst (λ l. IsTrue (list_all (is_over n) l)) is t in
    and_parts (is_over n p) (list_all (is_over n) tail) h

pub own_first : (rest tail : List Problem) (p : Problem) → rest ≡ p ∷ tail → IsTrue (list_all is_own rest) → IsTrue (is_own p) × IsTrue (list_all is_own tail)
own_first rest tail p is t =
    let h = subst (λ l. IsTrue (list_all is_own l)) is t in
    and_parts (is_own p) (list_all is_own tail) h
