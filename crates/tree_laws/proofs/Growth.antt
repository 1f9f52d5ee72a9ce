-- The tree of a node is its piece and the trees of its children, and the tree of a problem is valid.
use Rattle.std.proofs.Common.{◌≡◌, ℕ, ◌≤◌, zero, suc, List, [], ◌∷◌, ◌++◌, refl, sym, ◌∙◌, ap, arith, append_assoc, Bool, false}
use Rattle.std.specs.Prelude.{Some, None, nat_le}
use Rattle.std.specs.List.{flat_map}
use Rattle.std.proofs.lemmas.Bool.{and_from, le-leb}
use Rattle.std.proofs.lemmas.List.{append-nil}
use Rattle.poly_model.specs.Polynomial.{Polynomial}
use Rattle.proof_steps.specs.Rules.{size_of}
use Rattle.proof_steps.specs.Trees.{are_trees, root_of, expansion_of, tree_within, tree_at, tree_of}
use Rattle.proof_steps.specs.declared.piece.Node.{Node}
use Rattle.proof_steps.specs.declared.piece.Piece.{Piece}
use Rattle.tree_laws.proofs.Unfold.{size-some}
use Rattle.tree_laws.specs.Growth.{TreesAreValid, TreesUnfold}
use Rattle.tree_laws.specs.Costs.{HaveLess}
use Rattle.tree_laws.proofs.Worked.{fit-more, worked}

-- ---- trees
forest-fits : (k version : ℕ) (cons : List Polynomial)
    → ((m : Node) (ns : List Node) (ps : List Piece) → m.fuel ≤ k → size_of m ≤ m.fuel
    → are_trees version cons (m ∷ ns) (tree_within k version cons m ++ ps) ≡ are_trees version cons ns ps)
    → (ms : List Node) (ns : List Node) (ps : List Piece) → HaveLess (suc k) ms
    → are_trees version cons (ms ++ ns) (flat_map (λ m. tree_within k version cons m) ms ++ ps) ≡ are_trees version cons ns ps
forest-fits k version cons h [] ns ps a = refl
forest-fits k version cons h (m ∷ ms) ns ps a =
    ap (are_trees version cons (m ∷ (ms ++ ns))) (append_assoc (tree_within k version cons m) (flat_map (λ m. tree_within k version cons m) ms) ps)
    ∙ h m (ms ++ ns) (flat_map (λ m. tree_within k version cons m) ms ++ ps) (let b = a.0 in omega (arith, b)) a.1
    ∙ forest-fits k version cons h ms ns ps a.2

tree-fits : (k version : ℕ) (cons : List Polynomial) (n : Node) (ns : List Node) (ps : List Piece) → n.fuel ≤ k → size_of n ≤ n.fuel
    → are_trees version cons (n ∷ ns) (tree_within k version cons n ++ ps) ≡ are_trees version cons ns ps
unfolding tree_within
tree-fits zero version cons n ns ps low enough = absurd (let s = size-some n in omega (arith, s))
tree-fits (suc k) version cons n ns ps low enough =
    let w = worked n.fuel version cons n (omega arith) enough in
    let ms = (expansion_of version cons n).1 in
    ap (λ r. elim r as (λ _. Bool) [
      | None ↦ false
      | Some ms ↦ are_trees version cons (ms ++ ns) (flat_map (λ m. tree_within k version cons m) (expansion_of version cons n).1 ++ ps)
    ]) w.follows
    ∙ forest-fits k version cons (λ m ns ps less fits. tree-fits k version cons m ns ps less fits) ms ns ps (fit-more n.fuel (suc k) ms low w.smaller)

pub trees-valid : TreesAreValid
trees-valid version problem fuel enough =
    let root = root_of problem fuel in
    and_from (nat_le (size_of root) fuel) _ (le-leb (size_of root) fuel enough)
    (ap (are_trees version problem.cons (root ∷ [])) (sym (append-nil (tree_of version problem fuel)))
    ∙ tree-fits fuel version problem.cons root [] [] (omega arith) enough)

-- ---- any number that the fuel does not pass gives the same tree
forest-same : (k l version : ℕ) (cons : List Polynomial)
    → ((m : Node) → m.fuel ≤ k → m.fuel ≤ l → size_of m ≤ m.fuel → tree_within k version cons m ≡ tree_within l version cons m)
    → (ms : List Node) → HaveLess (suc k) ms → HaveLess (suc l) ms
    → flat_map (λ m. tree_within k version cons m) ms ≡ flat_map (λ m. tree_within l version cons m) ms
forest-same k l version cons h [] a b = refl
forest-same k l version cons h (m ∷ ms) a b = λ i.
    h m (let c = a.0 in omega (arith, c)) (let c = b.0 in omega (arith, c)) a.1 i ++ forest-same k l version cons h ms a.2 b.2 i

tree-same : (k l version : ℕ) (cons : List Polynomial) (n : Node) → n.fuel ≤ k → n.fuel ≤ l → size_of n ≤ n.fuel
    → tree_within k version cons n ≡ tree_within l version cons n
unfolding tree_within
tree-same zero l version cons n low high enough = absurd (let s = size-some n in omega (arith, s))
tree-same (suc k) zero version cons n low high enough = absurd (let s = size-some n in omega (arith, s))
tree-same (suc k) (suc l) version cons n low high enough =
    let w = worked n.fuel version cons n (omega arith) enough in
    let ms = (expansion_of version cons n).1 in
    ap (λ t. (expansion_of version cons n).0 ∷ t)
    (forest-same k l version cons (λ m a b c. tree-same k l version cons m a b c) ms (fit-more n.fuel (suc k) ms low w.smaller)
    (fit-more n.fuel (suc l) ms high w.smaller))

forest-at : (k version : ℕ) (cons : List Polynomial) (ms : List Node) → HaveLess (suc k) ms
    → flat_map (λ m. tree_within k version cons m) ms ≡ flat_map (λ m. tree_at version cons m) ms
forest-at k version cons [] a = refl
forest-at k version cons (m ∷ ms) a =
    λ i. tree-same k m.fuel version cons m (let c = a.0 in omega (arith, c)) (omega arith) a.1 i ++ forest-at k version cons ms a.2 i

unfolded : (k version : ℕ) (cons : List Polynomial) (n : Node)
    → tree_within (suc k) version cons n ≡ (expansion_of version cons n).0 ∷ flat_map (λ m. tree_within k version cons m) (expansion_of version cons n).1
unfolding tree_within
unfolded k version cons n = refl

pub trees-unfold : TreesUnfold
trees-unfold version cons n enough =
    let w = worked n.fuel version cons n (omega arith) enough in
    let ms = (expansion_of version cons n).1 in
    tree-same n.fuel (suc n.fuel) version cons n (omega arith) (omega arith) enough ∙ unfolded n.fuel version cons n
    ∙ ap (λ t. (expansion_of version cons n).0 ∷ t) (forest-at n.fuel version cons ms (fit-more n.fuel (suc n.fuel) ms (omega arith) w.smaller))
