use Rattle.std.proofs.Common.{◌&&◌, List, ◌≡◌, ◌<◌, ◌+◌, ℕ, sym, ◌∙◌, ap, subst, arith, get_or, length, IsTrue, take, drop, length-take}
use Rattle.poly_model.specs.Polynomial.{is_over}
use Rattle.std.specs.List.{list_all}
use Rattle.std.specs.Cmp.Derive.{both_true}
use Rattle.algebraize.proofs.Over as over
use Rattle.algebraize.proofs.Degrees as degrees
use Rattle.algebraize.specs.Small.{is_of_degree}
use Rattle.algebraize.proofs.Stated.{stated_problem}
use Rattle.algebraize.proofs.Proves as proves
use Rattle.gcl_names.specs.Sound.{nothing, Counts, after_all}
use Rattle.gcl_names.specs.declared.program.Act.{Act}
use Rattle.algebraize.specs.Problem.{is_prove, problem_of, problem_at, problem_between}
use Rattle.algebraize.specs.Equations.{Equations}
use Rattle.gcl_reader.specs.Grammar.{Gives}
use Rattle.algebraize.specs.Formed.{equations}
use Rattle.algebraize.proofs.problem.system_of.Goals as goal

asked_below : (slice acts : List Act) (k n : ℕ) → slice ≡ acts → (after_all nothing acts).proves ≡ n → k < n → 0 + k < (after_all nothing slice).proves
asked_below slice acts k n same counts lt = omega (arith, ap (λ l. (after_all nothing l).proves) same, counts, lt)

pub offset_bounds-acts-place : goal.offset_bounds-acts-place
offset_bounds-acts-place c =
    let slice = c.as_slice-acts.result.now in
    let i = c.acts_before-place.result in
    let there = c.acts_before-place.ensures in
    let below = subst (λ k. k < length slice) (sym there) (proves.place_below nothing slice c.args.prove (asked_below slice c.args.program.now.acts c.args.prove _ c.as_slice-acts.ensures (ap (λ (n : Counts). n.proves) c.requires.sound.counts) c.requires.prove)) in
    omega (arith, below, c.as_slice-acts.type_inv)

pub bounds-acts-place : goal.bounds-acts-place
bounds-acts-place c =
    let slice = c.as_slice-acts.result.now in
    let i = c.acts_before-place.result in
    let there = c.acts_before-place.ensures in
    let below = subst (λ k. k < length slice) (sym there) (proves.place_below nothing slice c.args.prove (asked_below slice c.args.program.now.acts c.args.prove _ c.as_slice-acts.ensures (ap (λ (n : Counts). n.proves) c.requires.sound.counts) c.requires.prove)) in
    below

pub slice_bounds-problem_at-end : goal.slice_bounds-problem_at-end
slice_bounds-problem_at-end c =
    let slice = c.as_slice-acts.result.now in
    let i = c.acts_before-place.result in
    let there = c.acts_before-place.ensures in
    let below = subst (λ k. k < length slice) (sym there) (proves.place_below nothing slice c.args.prove (asked_below slice c.args.program.now.acts c.args.prove _ c.as_slice-acts.ensures (ap (λ (n : Counts). n.proves) c.requires.sound.counts) c.requires.prove)) in
    omega (arith, below, length-take i slice)

pub unreachable-requires : goal.unreachable-requires
unreachable-requires c =
    let slice = c.as_slice-acts.result.now in
    let act = c.index-acts-place.result in
    let asked = proves.place_of_prove nothing slice c.args.prove act (asked_below slice c.args.program.now.acts c.args.prove _ c.as_slice-acts.ensures (ap (λ (n : Counts). n.proves) c.requires.sound.counts) c.requires.prove) in
    proves.asks_nothing act.deed
    (ap (λ (a : Act). is_prove a.deed) c.index-acts-place.is ∙ ap (λ k. is_prove (get_or slice k act).deed) c.acts_before-place.ensures ∙ asked.1)
    c.in_default.not-Prove

pub returns-clause-value : goal.returns-clause-value
returns-clause-value c =
    let slice = c.as_slice-acts.result.now in
    let i = c.acts_before-place.result in
    let there = c.acts_before-place.ensures in
    let below = subst (λ k. k < length slice) (sym there) (proves.place_below nothing slice c.args.prove (asked_below slice c.args.program.now.acts c.args.prove _ c.as_slice-acts.ensures (ap (λ (n : Counts). n.proves) c.requires.sound.counts) c.requires.prove)) in
    let before = take i slice in
    let act = c.index-acts-place.result in
    let s = c.in-Prove.statement in
    let ps = c.in-Prove.points in
    subst (λ r. Gives equations c.problem_at.result r)
    (ap (problem_at before act s) c.as_slice.ensures ∙ sym (proves.between before slice i act s ps below c.index-acts-place.is c.in-Prove.is)
    ∙ ap (λ k. problem_between (take k slice) (drop k slice)) there ∙ ap (λ l. problem_of l c.args.prove) c.as_slice-acts.ensures)
    c.problem_at.ensures.value

pub returns-clause-own : goal.returns-clause-own
returns-clause-own c =
    let before = take c.acts_before-place.result c.as_slice-acts.result.now in
    let s = c.in-Prove.statement in
    let ps = c.as_slice.result.now in
    proves.gives_ok c.problem_at.result (problem_at before c.index-acts-place.result s ps) c.problem_at.ensures.value (λ p is.
    let h = proves.problem_at-ok before c.index-acts-place.result s ps (equations p) is in
    subst (λ (e : Equations). IsTrue (list_all (is_over (length e.variables)) e.hypotheses && list_all (is_over (length e.variables)) e.conclusions)) (sym h.0)
    (both_true (over.over_hypotheses before) (over.over_conclusions before s ps)))

pub returns-clause-stated : goal.returns-clause-stated
returns-clause-stated c =
    let before = take c.acts_before-place.result c.as_slice-acts.result.now in
    let s = c.in-Prove.statement in
    let ps = c.as_slice.result.now in
    proves.gives_ok_with c.problem_at.result (problem_at before c.index-acts-place.result s ps) c.problem_at.ensures.value c.problem_at.ensures.within (λ p is within.
    let h = proves.problem_at-ok before c.index-acts-place.result s ps (equations p) is in
    stated_problem before s ps p h.0 h.1 within)

pub returns-clause-quadratic : goal.returns-clause-quadratic
returns-clause-quadratic c =
    let before = take c.acts_before-place.result c.as_slice-acts.result.now in
    let s = c.in-Prove.statement in
    let ps = c.as_slice.result.now in
    proves.gives_ok c.problem_at.result (problem_at before c.index-acts-place.result s ps) c.problem_at.ensures.value (λ p is.
    let h = proves.problem_at-ok before c.index-acts-place.result s ps (equations p) is in
    subst (λ (e : Equations). IsTrue (list_all (is_of_degree 2) e.hypotheses && list_all (is_of_degree 2) e.conclusions)) (sym h.0)
    (both_true (degrees.quadratic_hypotheses before) (degrees.quadratic_conclusions before s ps)))
