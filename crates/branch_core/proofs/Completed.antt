-- Where nothing is left of a run of a tree, its pieces in preorder are the tree's.
use Rattle.std.proofs.Common.{◌≡◌, List, [], ◌∷◌, ◌++◌, Bool, true, false, map, cond, refl, sym, ap, ◌∙◌, subst, Some}
use Rattle.std.specs.List.{flat_map}
use Rattle.std.specs.List.Sorted.{IsPermutation}
use Rattle.std.proofs.lemmas.List.{append-nil}
use Rattle.std.proofs.lemmas.List.Sorted.{IsPermutation-trans, All-permutation, sum_by-IsPermutation}
use Rattle.proof_steps.specs.Paths.{same_path}
use Rattle.branch_core.specs.declared.event.Event.{Event}
use Rattle.branch_core.specs.declared.event.Hold.{Hold}
use Rattle.branch_core.specs.declared.answers.Idle.TheVariants.{Done}
use Rattle.branch_core.specs.Machine.{State, replay, done_of}
use Rattle.branch_core.specs.Trees.{Tree, entries, entries_at}
use Rattle.branch_core.specs.Told.{idle_of}
use Rattle.branch_core.specs.Runs.{all_of, Completes}
use Rattle.branch_core.proofs.Replays.{done_of_snoc}
use Rattle.branch_core.proofs.Always.{Keeps, always}
use Rattle.branch_core.proofs.Conserved.{conserves}
use Rattle.branch_core.proofs.Unique.{unique, rises, entries_rise, values, value, entries_pieces}

-- the pieces done are those that the events brought
done_keeps : {P : Type 0} → Keeps (λ (es : List (Event P)) (s : State P). s.done ≡ done_of es)
done_keeps = record {
  take = λ es s worker path i at free k. k ∙ sym (done_of_snoc es _ ∙ append-nil (done_of es));
  split = λ es s worker path x i at k. ap (λ l. l ++ (path, x) ∷ []) k ∙ sym (done_of_snoc es _);
  leaf = λ es s worker path x i at k. ap (λ l. l ++ (path, x) ∷ []) k ∙ sym (done_of_snoc es _);
  refuse = λ es s worker path i at k. k ∙ sym (done_of_snoc es _ ∙ append-nil (done_of es));
}

pub done_is : {P : Type 0} (es : List (Event P)) (s : State P) → replay es ≡ Some s → s.done ≡ done_of es
done_is es s run = always (λ es s. s.done ≡ done_of es) done_keeps refl es s run

nothing_left : (stopped : Bool) (waiting : List (List Bool)) (held : List Hold) → Done ≡ idle_of stopped waiting held → (waiting ≡ []) × (held ≡ [])
nothing_left true waiting held e = absurd cc
nothing_left false [] [] e = (refl, refl)
nothing_left false [] (h ∷ held) e = absurd cc
nothing_left false (p ∷ waiting) held e = absurd cc

pub completes : {P : Type 0} (t : Tree P) (es : List (Event P)) → Completes t es
completes {P} t es are done pieces arranged =
    let s = done.0 in
    let none = nothing_left s.stopped s.waiting s.held done.2 in
    let all : all_of t s ≡ done_of es =
    (λ i. s.done ++ (flat_map (entries_at t) (none.0 i) ++ flat_map (λ (h : Hold). entries_at t h.path) (none.1 i)))
    ∙ append-nil s.done ∙ done_is es s done.1 in
    let xs = arranged.arranged in
    let p : IsPermutation (entries [] t) xs =
    IsPermutation-trans (entries [] t) (done_of es) xs (subst (IsPermutation (entries [] t)) all (conserves t es are s done.1)) arranged.all in
    let same : entries [] t ≡ xs =
    unique (value t) (entries [] t) xs (entries_rise [] t) (rises xs arranged.in_preorder)
    (λ k. sym (sum_by-IsPermutation (λ (d : List Bool × P). cond (same_path k d.0) 1 0) (entries [] t) xs p))
    (values t t [] refl)
    (All-permutation (λ (d : List Bool × P). value t d.0 ≡ Some d.1) (entries [] t) xs p (values t t [] refl)) in
    arranged.are ∙ ap (map (λ (d : List Bool × P). d.1)) (sym same) ∙ entries_pieces [] t
