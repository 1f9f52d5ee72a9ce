-- The commands of a trial's file: they fit the table, and the file is how they are spelled.
use Rattle.std.proofs.Common.{◌≡◌, ℕ, zero, suc, ◌+◌, ◌*◌, ◌%◌, ◌<◌, ◌≤◌, List, [], ◌∷◌, ◌++◌, length, pos, refl, sym, ap, ◌∙◌, append_assoc, append-nil, length-append, arith, mod-lt, lit<, lit≤, codes}
use Rattle.std.specs.Prelude.{IsTrue}
use Rattle.std.specs.Fmt.{digits}
use Rattle.std.specs.List.{AllByRecursion}
use Rattle.std.proofs.lemmas.Grind.{flat_map-append}
use Rattle.fixed_point.specs.Text.{number_text, size_text, decimals_text}
use Rattle.gcl_reader.specs.Show.{line_text, show_text}
use Rattle.gcl_reader.specs.Fitting.{FitsParameter, FitsTable, IsFitting}
use Rattle.gcl_reader.specs.Name.{is_name}
use Rattle.gcl_reader.specs.declared.limits.TheConstants.{UNIT}
use Rattle.gcl_reader.specs.declared.file.What.{What}
use Rattle.gcl_reader.specs.declared.file.What.TheVariants as what
use Rattle.gcl_reader.specs.declared.file.Arg.{Arg}
use Rattle.gcl_reader.specs.declared.file.Command.{Command}
use Rattle.gcl_reader.specs.declared.word.Parameter.TheVariants as parameter
use Rattle.gcl_reader.specs.declared.word.Range.TheVariants as range
use Rattle.gcl_reader.specs.declared.word.Word.{Word}
use Rattle.gcl_reader.specs.declared.word.Word.TheVariants as word
use Rattle.gcl_reader.specs.declared.word.Statement.TheVariants as statement
use Rattle.trial_file.specs.Draws.{after_four, choice}
use Rattle.trial_file.specs.Trial.{name_text, spaced, command, made_by, step_text, steps_text, steps_of, free_points, trial_text}
use Rattle.trial_file.specs.declared.choice.Choice.{Choice}
use Rattle.trial_file.specs.declared.choice.Construction.{Construction}
use Rattle.trial_file.specs.declared.choice.Construction.TheVariants.{Midpoint, Foot, Translate}
use Rattle.trial_file.specs.declared.choice.Name.{Name}
use Rattle.trial_file.specs.declared.choice.Name.TheVariants.{Point, Line}
use Rattle.trial_file.proofs.Looks.{most, points-are-names, lines-are-names}

-- ---- the commands
abbrev pub arg : What → Arg
arg w = record { line = 0; at = 0; len = 0; what = w }

abbrev pub named : Name → Arg
named n = arg (what.Name (name_text n))

abbrev pub number : ℕ → Arg
number k = arg (what.Number (pos (k * UNIT)))

abbrev pub plain : Word → List Arg → Command
plain w args = record { word = w; line = 0; at = 0; len = 0; args = args }

abbrev pub free_point : ℕ → ℕ → ℕ → Command
free_point i x y = plain word.Point (named (Point i) ∷ number x ∷ number y ∷ [])

abbrev pub midpoint_of : ℕ → ℕ → ℕ → Command
midpoint_of i a b = plain word.Midpoint (named (Point i) ∷ named (Point a) ∷ named (Point b) ∷ [])

abbrev pub translate_of : ℕ → ℕ → ℕ → ℕ → Command
translate_of i a b c = plain word.Translate (named (Point i) ∷ named (Point a) ∷ named (Point b) ∷ named (Point c) ∷ [])

abbrev pub line_of : ℕ → ℕ → ℕ → Command
line_of j a b = plain word.Line (named (Line j) ∷ named (Point a) ∷ named (Point b) ∷ [])

abbrev pub foot_of : ℕ → ℕ → ℕ → Command
foot_of i c k = plain word.Foot (named (Point i) ∷ named (Point c) ∷ named (Line k) ∷ [])

abbrev pub collinear : ℕ → ℕ → ℕ → Command
collinear a b c = plain (word.Prove statement.Collinear) (named (Point a) ∷ named (Point b) ∷ named (Point c) ∷ [])

abbrev pub parallel : ℕ → ℕ → ℕ → ℕ → Command
parallel a b c d = plain (word.Prove statement.Parallel) (named (Point a) ∷ named (Point b) ∷ named (Point c) ∷ named (Point d) ∷ [])

abbrev pub commands_by : Construction → (i a b c : ℕ) → List Command
commands_by Midpoint i a b c = midpoint_of i a b ∷ collinear a b i ∷ []
commands_by Foot i a b c = line_of i a b ∷ foot_of i c i ∷ collinear a b i ∷ []
commands_by Translate i a b c = translate_of i a b c ∷ parallel a b c i ∷ []

abbrev pub step_commands : ℕ → Choice → List Command
step_commands i d = commands_by d.construction i d.a d.b d.c

unfoldable pub steps_commands : (count i state : ℕ) → List Command
steps_commands zero i s = []
steps_commands (suc n) i s = step_commands i (choice i s) ++ steps_commands n (i + 1) (after_four s)

abbrev pub free_commands : List Command
free_commands = free_point 0 0 0 ∷ free_point 1 60 0 ∷ free_point 2 20 50 ∷ []

abbrev pub trial_commands : ℕ → List Command
trial_commands n = free_commands ++ steps_commands (steps_of n) 3 n

-- ---- how they are spelled
-- A prove, and the last of commands behind others.
prove-line : (statement names : List ℕ) →
    (codes "prove" ++ (codes " { " ++ statement ++ names ++ codes " }")) ++ codes "\n" ≡ codes "prove { " ++ statement ++ names ++ codes " }\n"
prove-line statement names = ap (λ (x : List ℕ). codes "prove { " ++ x) (append_assoc (statement ++ names) (codes " }") (codes "\n"))

behind-one : (x y z : List ℕ) → y ≡ z → x ++ (y ++ []) ≡ x ++ z
behind-one x y z e = ap (λ (l : List ℕ). x ++ l) (append-nil y ∙ e)

behind-two : (w x y z : List ℕ) → y ≡ z → w ++ (x ++ (y ++ [])) ≡ (w ++ x) ++ z
behind-two w x y z e = ap (λ (l : List ℕ). w ++ l) (behind-one x y z e) ∙ sym (append_assoc w x z)

made-shown : (c : Construction) (i a b d : ℕ) → show_text (commands_by c i a b d) ≡ made_by c i a b d
made-shown Midpoint i a b d =
    behind-one (command (codes "midpoint") (Point i ∷ Point a ∷ Point b ∷ [])) _ _
    (prove-line (codes "collinear") (spaced (Point a ∷ Point b ∷ Point i ∷ [])))
made-shown Foot i a b d =
    behind-two (command (codes "line") (Line i ∷ Point a ∷ Point b ∷ [])) (command (codes "foot") (Point i ∷ Point d ∷ Line i ∷ [])) _ _
    (prove-line (codes "collinear") (spaced (Point a ∷ Point b ∷ Point i ∷ [])))
made-shown Translate i a b d =
    behind-one (command (codes "translate") (Point i ∷ Point a ∷ Point b ∷ Point d ∷ [])) _ _
    (prove-line (codes "parallel") (spaced (Point a ∷ Point b ∷ Point d ∷ Point i ∷ [])))

steps-shown : (n i s : ℕ) → show_text (steps_commands n i s) ≡ steps_text n i s
unfolding steps_commands steps_text
steps-shown zero i s = refl
steps-shown (suc n) i s =
    let d = choice i s in
    let others = steps_commands n (i + 1) (after_four s) in
    flat_map-append line_text (step_commands i d) others
    ∙ ap (λ (x : List ℕ). x ++ show_text others) (made-shown d.construction i d.a d.b d.c)
    ∙ ap (λ (x : List ℕ). step_text i d ++ x) (steps-shown n (i + 1) (after_four s))

free-shown : show_text free_commands ≡ free_points
unfolding digits number_text size_text decimals_text
free-shown = refl

pub trial-shown : (n : ℕ) → show_text (trial_commands n) ≡ trial_text n
unfolding trial_text
trial-shown n =
    let others = steps_commands (steps_of n) 3 n in
    flat_map-append line_text free_commands others
    ∙ ap (λ (x : List ℕ). x ++ show_text others) free-shown
    ∙ ap (λ (x : List ℕ). free_points ++ x) (steps-shown (steps_of n) 3 n)

-- ---- they fit
-- The points of a choice are earlier ones.
pub record Earlier (i : ℕ) (d : Choice) : Type 0 where
  pub first : d.a < i
  pub second : d.b < i
  pub third : d.c < i

pub chosen-earlier : (i s : ℕ) → 0 < i → Earlier i (choice i s)
chosen-earlier i s some = record { first = mod-lt _ some; second = mod-lt _ some; third = mod-lt _ some }

made-fits : (c : Construction) (i a b d : ℕ) → i < most → a < i → b < i → d < i → AllByRecursion FitsTable (commands_by c i a b d)
made-fits c i a b d few first second third =
    let point : (k : ℕ) → k < most → IsTrue (is_name (name_text (Point k))) = λ k below. points-are-names k below in
    let pi = point i few in
    let pa = point a (omega (arith, few, first)) in
    let pb = point b (omega (arith, few, second)) in
    let pd = point d (omega (arith, few, third)) in
    let li : IsTrue (is_name (name_text (Line i))) = lines-are-names i few in
    elim c as (λ k. AllByRecursion FitsTable (commands_by k i a b d)) [
      | Midpoint ↦ ((tt, (pi, (pa, (pb, tt)))), ((tt, (pa, (pb, (pi, tt)))), tt))
      | Foot ↦ ((tt, (li, (pa, (pb, tt)))), ((tt, (pi, (pd, (li, tt)))), ((tt, (pa, (pb, (pi, tt)))), tt)))
      | Translate ↦ ((tt, (pi, (pa, (pb, (pd, tt))))), ((tt, (pa, (pb, (pd, (pi, tt))))), tt))
    ]

all-append : (xs ys : List Command) → AllByRecursion FitsTable xs → AllByRecursion FitsTable ys → AllByRecursion FitsTable (xs ++ ys)
all-append [] ys h k = k
all-append (x ∷ xs) ys h k = (h.0, all-append xs ys h.1 k)

steps-fit : (n i s : ℕ) → 0 < i → i + n ≤ most → AllByRecursion FitsTable (steps_commands n i s)
unfolding steps_commands
steps-fit zero i s some few = tt
steps-fit (suc n) i s some few =
    let d = choice i s in
    let e = chosen-earlier i s some in
    all-append (step_commands i d) (steps_commands n (i + 1) (after_four s))
    (made-fits d.construction i d.a d.b d.c (omega (arith, few)) e.first e.second e.third)
    (steps-fit n (i + 1) (after_four s) (omega arith) (omega (arith, few)))

number-fits : (k : ℕ) → k ≤ 60 → FitsParameter (parameter.Number range.Any) (what.Number (pos (k * UNIT)))
number-fits k few = (omega (arith, few), refl)

free-fits : (i x y : ℕ) → i < most → x ≤ 60 → y ≤ 60 → FitsTable (free_point i x y)
free-fits i x y few wide high = (tt, (points-are-names i few, (number-fits x wide, (number-fits y high, tt))))

pub few-steps : (n : ℕ) → steps_of n ≤ 16
few-steps n = let rest : n % 16 < 16 = mod-lt n (lit< tt) in omega (arith, rest)

made-few : (c : Construction) (i a b d : ℕ) → length (commands_by c i a b d) ≤ 3
made-few Midpoint i a b d = lit≤ tt
made-few Foot i a b d = lit≤ tt
made-few Translate i a b d = lit≤ tt

steps-few : (n i s : ℕ) → length (steps_commands n i s) ≤ 3 * n
unfolding steps_commands
steps-few zero i s = omega arith
steps-few (suc n) i s =
    let d = choice i s in
    let made = made-few d.construction i d.a d.b d.c in
    let more = steps-few n (i + 1) (after_four s) in
    rw (length-append (step_commands i d) (steps_commands n (i + 1) (after_four s))) (omega (arith, made, more))

pub trial-fits : (n : ℕ) → IsFitting (trial_commands n)
trial-fits n =
    let steps = steps-few (steps_of n) 3 n in
    let few = few-steps n in (
      omega (arith, steps, few),
      (
        free-fits 0 0 0 (lit< tt) (lit≤ tt) (lit≤ tt),
        (
          free-fits 1 60 0 (lit< tt) (lit≤ tt) (lit≤ tt),
          (free-fits 2 20 50 (lit< tt) (lit≤ tt) (lit≤ tt), steps-fit (steps_of n) 3 n (lit< tt) (omega (arith, few))),
        ),
      ),
    )
