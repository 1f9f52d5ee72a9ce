-- The names of a program: a relation between commands and acts, which looks at no order of work.
use Rattle.std.specs.Prelude.{◌≡◌, ℕ, List, [], ◌∷◌, ◌++◌, length, Some, None, if◌then◌else◌}
use Rattle.gcl_reader.specs.Table.{parameters_of}
use Rattle.gcl_reader.specs.declared.word.Parameter.{Parameter}
use Rattle.gcl_reader.specs.declared.file.What.{What}
use Rattle.gcl_reader.specs.declared.file.What.TheVariants as what
use Rattle.gcl_reader.specs.declared.file.Arg.{Arg}
use Rattle.gcl_reader.specs.declared.file.Command.{Command}
use Rattle.gcl_names.specs.Scope.{Meanings, meaning_in}
use Rattle.gcl_names.specs.Reference.{ref_of, is_new}
use Rattle.gcl_names.specs.Deed.{deed_of}
use Rattle.gcl_names.specs.declared.meaning.Meaning.{Meaning}
use Rattle.gcl_names.specs.declared.meaning.Meaning.TheVariants as meaning
use Rattle.gcl_names.specs.declared.meaning.Ref.{Ref}
use Rattle.gcl_names.specs.declared.meaning.Ref.TheVariants as ref
use Rattle.gcl_names.specs.declared.program.Act.{Act}
use Rattle.gcl_names.specs.declared.program.Program.{Program}

-- A reference is what an argument says: the number itself, or what the name means among these.
abbrev pub Means : Meanings → What → Ref → Type 0
Means names (what.Number z) r = r ≡ ref.Number z
Means names (what.Name text) r = (m : Meaning) × (meaning_in text names ≡ Some m) × (r ≡ ref_of m)

-- Each reference is what its argument says: what is new, among the names behind the command; all else, among those of the
-- commands before.
abbrev pub AllMean : (before behind : Meanings) → List Parameter → List Arg → List Ref → Type 0
AllMean before behind [] [] [] = Unit {0}
AllMean before behind (p ∷ ps) (a ∷ args) (r ∷ refs) =
    Means (if is_new p then behind else before) a.what r × AllMean before behind ps args refs
AllMean before behind ps args refs = ⊥

-- The act is what the command does to the references that its arguments say, and the names before it keep their meanings.
pub record IsActOf (before behind : Meanings) (c : Command) (a : Act) : Type 0 where
  pub added : Meanings
  pub grown : behind ≡ before ++ added
  pub refs : List Ref
  pub means : AllMean before behind (parameters_of c.word) c.args refs
  pub does : deed_of c.word refs ≡ Some a.deed

-- Each act is that of its command, from the names before the first to those behind the last.
unfoldable pub AllNamed : Meanings → List Command → List Act → Meanings → Type 0
AllNamed now [] [] last = now ≡ last
AllNamed now (c ∷ commands) (a ∷ acts) last =
    (next : Meanings) × IsActOf now next c a × AllNamed next commands acts last
AllNamed now commands acts last = ⊥

-- No two names are equal.
unfoldable pub AreDifferent : Meanings → Type 0
AreDifferent [] = Unit {0}
AreDifferent (e ∷ es) = (meaning_in e.0 es ≡ None) × AreDifferent es

-- An item stands in a list behind so many others.
abbrev pub IsAt : {X : Type 0} → X → ℕ → List X → Type 0
IsAt {X} x k xs = (front : List X) × (back : List X) × (xs ≡ front ++ x ∷ back) × (length front ≡ k)

-- There are names by which each act is that of its command; they are different, and that of point k is the program's k-th.
pub record IsNamed (commands : List Command) (p : Program) : Type 0 where
  pub names : Meanings
  pub acts : AllNamed [] commands p.acts names
  pub different : AreDifferent names
  pub points : (text : List ℕ) (k : ℕ) → meaning_in text names ≡ Some (meaning.Point k) → IsAt text k p.points
