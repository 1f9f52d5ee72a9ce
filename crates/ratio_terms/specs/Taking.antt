-- What a term in front takes of parts and points, and what it leaves.
use Rattle.std.specs.Prelude.{◌≡◌, ◌≤◌, ℕ, suc, List, length, drop, IsTrue}
use Rattle.ratio_terms.specs.declared.part.Part.{Part}
use Rattle.ratio_terms.specs.declared.part.Part.TheVariants as part
use Rattle.ratio_terms.specs.Terms.{Term, Sum, Product, names_in, are_terms, terms_of, behind_first}

-- The term that a part with two operands makes of them.
abbrev pub made_of : {A : Type 0} → Part → Term A → Term A → Term A
made_of part.Mult s t = Product s t
made_of p s t = Sum s t

-- The parts are some terms, and there is a point for each of their names.
pub record AreWhole {A : Type 0} (parts : List Part) (points : List A) : Type 0 where
  pub more : ℕ
  pub terms : IsTrue (are_terms (suc more) parts)
  pub named : names_in parts ≤ length points

-- So many parts and points in front are those of the first term: those behind them are the terms behind it.
pub record TakesFirst {A : Type 0} (parts : List Part) (points : List A) (n m : ℕ) : Type 0 where
  pub parts_within : n ≤ length parts
  pub points_within : m ≤ length points
  pub behind : behind_first (terms_of parts points) ≡ terms_of (drop n parts) (drop m points)
  pub terms : (k : ℕ) → IsTrue (are_terms (suc k) parts) → IsTrue (are_terms k (drop n parts))
  pub names : names_in parts ≤ length points → names_in (drop n parts) ≤ length (drop m points)
