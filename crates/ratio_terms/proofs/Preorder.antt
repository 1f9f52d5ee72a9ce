-- Parts in preorder are one list of terms.
use Rattle.std.proofs.Common.{◌≡◌, suc, List, ◌∷◌, ◌++◌, refl, ◌∙◌, ap, append_assoc}
use Rattle.ratio_terms.specs.declared.part.Part.{Part}
use Rattle.ratio_terms.specs.Terms.{Term, Whole, Area, Pythagoras, Ratio, Sum, Product, are_terms, terms_of, joined, parts_of, points_of, PartsOfTerms, PartsAreWhole}

-- two terms, and what stands behind them
two : {A : Type 0} (s t : Term A) (ps : List Part) (points : List A)
    → ((qs : List Part) (xs : List A) → terms_of (parts_of s ++ qs) (points_of s ++ xs) ≡ s ∷ terms_of qs xs)
    → ((qs : List Part) (xs : List A) → terms_of (parts_of t ++ qs) (points_of t ++ xs) ≡ t ∷ terms_of qs xs)
    → terms_of ((parts_of s ++ parts_of t) ++ ps) ((points_of s ++ points_of t) ++ points) ≡ s ∷ t ∷ terms_of ps points
two s t ps points h k =
    (λ i. terms_of (append_assoc (parts_of s) (parts_of t) ps i) (append_assoc (points_of s) (points_of t) points i))
    ∙ h (parts_of t ++ ps) (points_of t ++ points) ∙ ap (λ l. s ∷ l) (k ps points)

pub parts_terms : (A : Type 0) → PartsOfTerms A
parts_terms A (Whole k) ps points = refl
parts_terms A (Area a b c) ps points = refl
parts_terms A (Pythagoras a b c) ps points = refl
parts_terms A (Ratio a b c d) ps points = refl
parts_terms A (Sum s t) ps points = ap (joined Sum) (two s t ps points (parts_terms A s) (parts_terms A t))
parts_terms A (Product s t) ps points = ap (joined Product) (two s t ps points (parts_terms A s) (parts_terms A t))

pub parts_whole : (A : Type 0) → PartsAreWhole A
parts_whole A (Whole k) n ps = refl
parts_whole A (Area a b c) n ps = refl
parts_whole A (Pythagoras a b c) n ps = refl
parts_whole A (Ratio a b c d) n ps = refl
parts_whole A (Sum s t) n ps = ap (are_terms (suc (suc n))) (append_assoc (parts_of s) (parts_of t) ps) ∙ parts_whole A s (suc n) (parts_of t ++ ps) ∙ parts_whole A t n ps
parts_whole A (Product s t) n ps = ap (are_terms (suc (suc n))) (append_assoc (parts_of s) (parts_of t) ps) ∙ parts_whole A s (suc n) (parts_of t ++ ps) ∙ parts_whole A t n ps
