-- The terms of an equality: which lists of parts are terms, and which terms they are.
use Rattle.std.specs.Prelude.{◌≡◌, ℕ, zero, suc, ◌+◌, max, List, [], ◌∷◌, ◌++◌, Bool, true, false}
use Rattle.ratio_terms.specs.declared.part.Part.{Part}
use Rattle.ratio_terms.specs.declared.part.Part.TheVariants as part

-- A term over points: their names, or their places.
pub data Term (A : Type 0) : Type 0 where
  Whole : ℕ → Term A
  Area : A → A → A → Term A
  Pythagoras : A → A → A → Term A
  Ratio : A → A → A → A → Term A
  Sum : Term A → Term A → Term A
  Product : Term A → Term A → Term A

-- How many terms follow a part where n terms follow its operands.
abbrev pub with_operands : Part → ℕ → ℕ
with_operands (part.Whole k) n = n
with_operands part.Area3 n = n
with_operands part.Pyth3 n = n
with_operands part.Sratio n = n
with_operands part.Sum n = suc (suc n)
with_operands part.Mult n = suc (suc n)

-- How many terms a part has as its operands, and how many names it has itself.
abbrev pub operands_of : Part → ℕ
operands_of p = with_operands p 0

abbrev pub names_of : Part → ℕ
names_of (part.Whole k) = 0
names_of part.Area3 = 3
names_of part.Pyth3 = 3
names_of part.Sratio = 4
names_of part.Sum = 0
names_of part.Mult = 0

-- How many names the parts have.
abbrev pub names_in : List Part → ℕ
names_in [] = 0
names_in (p ∷ ps) = names_of p + names_in ps

-- The parts are n terms, one behind the other.
abbrev pub are_terms : ℕ → List Part → Bool
are_terms zero [] = true
are_terms zero (p ∷ ps) = false
are_terms (suc n) [] = false
are_terms (suc n) (p ∷ ps) = are_terms (with_operands p n) ps

-- What stands for a term that is missing.
abbrev pub missing : {A : Type 0} → Term A
missing = Whole 0

-- The first two terms as the operands of one.
abbrev pub joined : {A : Type 0} → (Term A → Term A → Term A) → List (Term A) → List (Term A)
joined make (s ∷ t ∷ ts) = make s t ∷ ts
joined make ts = missing ∷ []

-- A part in front takes its points from those that are left, and its operands from the terms of the rest.
abbrev pub term_with : {A : Type 0} → (List A → List (Term A)) → Part → List A → List (Term A)
term_with rest (part.Whole k) points = Whole k ∷ rest points
term_with rest part.Area3 (a ∷ b ∷ c ∷ points) = Area a b c ∷ rest points
term_with rest part.Area3 points = missing ∷ []
term_with rest part.Pyth3 (a ∷ b ∷ c ∷ points) = Pythagoras a b c ∷ rest points
term_with rest part.Pyth3 points = missing ∷ []
term_with rest part.Sratio (a ∷ b ∷ c ∷ d ∷ points) = Ratio a b c d ∷ rest points
term_with rest part.Sratio points = missing ∷ []
term_with rest part.Sum points = joined Sum (rest points)
term_with rest part.Mult points = joined Product (rest points)

-- The terms that parts in preorder are over points in their order.
abbrev pub terms_of : {A : Type 0} → List Part → List A → List (Term A)
terms_of [] points = []
terms_of (p ∷ ps) points = term_with (terms_of ps) p points

-- The first of terms, and those behind it.
abbrev pub first_of : {A : Type 0} → List (Term A) → Term A
first_of [] = missing
first_of (t ∷ ts) = t

abbrev pub behind_first : {A : Type 0} → List (Term A) → List (Term A)
behind_first [] = []
behind_first (t ∷ ts) = ts

-- The parts of a term in preorder, and its points in order.
abbrev pub parts_of : {A : Type 0} → Term A → List Part
parts_of (Whole k) = part.Whole k ∷ []
parts_of (Area a b c) = part.Area3 ∷ []
parts_of (Pythagoras a b c) = part.Pyth3 ∷ []
parts_of (Ratio a b c d) = part.Sratio ∷ []
parts_of (Sum s t) = part.Sum ∷ (parts_of s ++ parts_of t)
parts_of (Product s t) = part.Mult ∷ (parts_of s ++ parts_of t)

abbrev pub points_of : {A : Type 0} → Term A → List A
points_of (Whole k) = []
points_of (Area a b c) = a ∷ b ∷ c ∷ []
points_of (Pythagoras a b c) = a ∷ b ∷ c ∷ []
points_of (Ratio a b c d) = a ∷ b ∷ c ∷ d ∷ []
points_of (Sum s t) = points_of s ++ points_of t
points_of (Product s t) = points_of s ++ points_of t

-- How many braces its text has open one in another, its own counted.
abbrev pub depth_of : {A : Type 0} → Term A → ℕ
depth_of (Whole k) = 1
depth_of (Area a b c) = 1
depth_of (Pythagoras a b c) = 1
depth_of (Ratio a b c d) = 1
depth_of (Sum s t) = suc (max (depth_of s) (depth_of t))
depth_of (Product s t) = suc (max (depth_of s) (depth_of t))

-- The parts and points of a term, with further ones behind, are that term and the further terms behind it.
abbrev pub PartsOfTerms : Type 0 → Type 0
PartsOfTerms A = (t : Term A) (ps : List Part) (points : List A)
    → terms_of (parts_of t ++ ps) (points_of t ++ points) ≡ t ∷ terms_of ps points

-- The parts of a term, with those of n terms behind, are suc n terms.
abbrev pub PartsAreWhole : Type 0 → Type 0
PartsAreWhole A = (t : Term A) (n : ℕ) (ps : List Part) → are_terms (suc n) (parts_of t ++ ps) ≡ are_terms n ps
