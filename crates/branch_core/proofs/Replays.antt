-- How a history grows by an event: what it leads to, and the pieces that it brought.
use Rattle.std.proofs.Common.{◌≡◌, ℕ, ◌<◌, List, [], ◌∷◌, ◌++◌, Bool, true, false, ◌||◌, length, refl, sym, ap, ◌∙◌, arith, append_assoc, Option, Some, None}
use Rattle.std.specs.Prelude.{nat_lt}
use Rattle.std.specs.Option.{option_and_then}
use Rattle.std.specs.List.{list_any, remove}
use Rattle.std.proofs.lemmas.List.{append-nil}
use Rattle.std.proofs.lemmas.List.Folds.{list_any-append}
use Rattle.poly_model.specs.declared.limits.TheConstants.{MOST_LETTERS}
use Rattle.branch_core.specs.declared.event.Event.{Event}
use Rattle.branch_core.specs.Machine.{State, state_is, hold, start, takes, splits, leaves, refuses, step, replay_from, replay, done_by, done_of, IsRun}
use Rattle.std.proofs.lemmas.Bool.Decides.{nat_tests}
use Rattle.proof_steps.specs.Paths.{same_path}
use Rattle.branch_core.specs.Told.{is_done, Tells, IsGone}
use Rattle.branch_core.specs.declared.answers.Gone.{Gone}

and_then_ext : {A B : Type 0} (o : Option A) (f g : A → Option B) → ((x : A) → f x ≡ g x) → option_and_then f o ≡ option_and_then g o
and_then_ext None f g h = refl
and_then_ext (Some x) f g h = h x

and_then_assoc : {A B C : Type 0} (f : A → Option B) (g : B → Option C) (o : Option A)
    → option_and_then (λ x. option_and_then g (f x)) o ≡ option_and_then g (option_and_then f o)
and_then_assoc f g None = refl
and_then_assoc f g (Some x) = refl

and_then_some : {A : Type 0} (o : Option A) → option_and_then (λ (x : A). Some x) o ≡ o
and_then_some None = refl
and_then_some (Some x) = refl

pub replay_snoc : {P : Type 0} (s : State P) (es : List (Event P)) (e : Event P)
    → replay_from s (es ++ e ∷ []) ≡ option_and_then (λ t. step t e) (replay_from s es)
replay_snoc s [] e = and_then_some (step s e)
replay_snoc s (x ∷ es) e =
    and_then_ext (step s x) (λ t. replay_from t (es ++ e ∷ [])) (λ t. option_and_then (λ u. step u e) (replay_from t es)) (λ t. replay_snoc t es e)
    ∙ and_then_assoc (λ t. replay_from t es) (λ u. step u e) (step s x)

-- what the next event does to the state that the history leads to
pub next : {P : Type 0} (es : List (Event P)) (e : Event P) (s : State P) → replay es ≡ Some s → replay (es ++ e ∷ []) ≡ step s e
next es e s h = replay_snoc start es e ∙ ap (λ o. option_and_then (λ u. step u e) o) h

pub done_of-append : {P : Type 0} (es more : List (Event P)) → done_of (es ++ more) ≡ done_of es ++ done_of more
done_of-append [] more = refl
done_of-append (e ∷ es) more = ap (λ l. done_by e ++ l) (done_of-append es more) ∙ sym (append_assoc (done_by e) (done_of es) (done_of more))

pub done_of_snoc : {P : Type 0} (es : List (Event P)) (e : Event P) → done_of (es ++ e ∷ []) ≡ done_of es ++ done_by e
done_of_snoc es e = done_of-append es (e ∷ []) ∙ ap (λ l. done_of es ++ l) (append-nil (done_by e))

-- a path is done where an event brought its piece
pub done_by_some : {P : Type 0} (path : List Bool) (es : List (Event P)) → list_any (λ e. is_done path (done_by e)) es ≡ is_done path (done_of es)
done_by_some path [] = refl
done_by_some path (e ∷ es) =
    ap (λ b. is_done path (done_by e) || b) (done_by_some path es)
    ∙ sym (list_any-append (λ d. same_path path d.0) (done_by e) (done_of es))

-- an event at a place that was found
pub takes_at : {P : Type 0} (s : State P) (worker : ℕ) (path : List Bool) (i : ℕ) (o : Option ℕ) → o ≡ Some i → s.stopped ≡ false
    → takes s worker path o ≡ Some (state_is (remove s.waiting i) (s.held ++ hold path worker ∷ []) s.done s.stopped)
takes_at s worker path i o e free = rw (e, free) refl

pub takes_none : {P : Type 0} (s : State P) (worker : ℕ) (path : List Bool) (o : Option ℕ) → s.stopped ≡ true → takes s worker path o ≡ None
takes_none s worker path None e = refl
takes_none s worker path (Some i) e = rw e refl

pub splits_at : {P : Type 0} (s : State P) (path : List Bool) (x : P) (i : ℕ) (o : Option ℕ) → o ≡ Some i → length path < MOST_LETTERS
    → splits s path x o ≡ Some (state_is (s.waiting ++ (path ++ true ∷ []) ∷ (path ++ false ∷ []) ∷ []) (remove s.held i) (s.done ++ (path, x) ∷ []) s.stopped)
splits_at s path x i o e short =
    let yes : nat_lt (length path) MOST_LETTERS ≡ true = grind (arith, nat_tests) in
    rw (e, yes) refl

-- an event that is not possible in the state that the history leads to
pub refused : {P : Type 0} (es : List (Event P)) (e : Event P) (path : List Bool) (g : Gone) (s : State P) → replay es ≡ Some s → step s e ≡ None → Tells es path g → IsGone es e path g
refused es e path g s h none tells = record { impossible = next es e s h ∙ none; tells = tells }

pub not_taken : {P : Type 0} (s : State P) (worker : ℕ) (path : List Bool) (o : Option ℕ) → o ≡ None → takes s worker path o ≡ None
not_taken s worker path o e = rw e refl

pub splits_none : {P : Type 0} (s : State P) (path : List Bool) (x : P) (o : Option ℕ) → o ≡ None → splits s path x o ≡ None
splits_none s path x o e = rw e refl

pub leaves_none : {P : Type 0} (s : State P) (path : List Bool) (x : P) (o : Option ℕ) → o ≡ None → leaves s path x o ≡ None
leaves_none s path x o e = rw e refl

pub refuses_none : {P : Type 0} (s : State P) (path : List Bool) (o : Option ℕ) → o ≡ None → refuses s path o ≡ None
refuses_none s path o e = rw e refl

pub leaves_at : {P : Type 0} (s : State P) (path : List Bool) (x : P) (i : ℕ) (o : Option ℕ) → o ≡ Some i
    → leaves s path x o ≡ Some (state_is s.waiting (remove s.held i) (s.done ++ (path, x) ∷ []) s.stopped)
leaves_at s path x i o e = rw e refl

pub refuses_at : {P : Type 0} (s : State P) (path : List Bool) (i : ℕ) (o : Option ℕ) → o ≡ Some i
    → refuses s path o ≡ Some (state_is (s.waiting ++ path ∷ []) (remove s.held i) s.done true)
refuses_at s path i o e = rw e refl

pub two_more : {A : Type 0} (xs ys zs : List A) (a b : A) → ys ≡ xs ++ a ∷ [] → zs ≡ ys ++ b ∷ [] → zs ≡ xs ++ a ∷ b ∷ []
two_more xs ys zs a b e f = f ∙ ap (λ l. l ++ b ∷ []) e ∙ append_assoc xs (a ∷ []) (b ∷ [])

pub is_run : {P : Type 0} (es : List (Event P)) (s : State P) → replay es ≡ Some s → IsRun es
is_run es s e = rw e refl

-- the pieces so far and the event's are those of the events with it
pub no_piece : {P : Type 0} (es : List (Event P)) (e : Event P) (done : List (List Bool × P)) → done ≡ done_of es → done_by e ≡ [] → done ≡ done_of (es ++ e ∷ [])
no_piece es e done h none = h ∙ sym (done_of_snoc es e ∙ ap (λ l. done_of es ++ l) none ∙ append-nil (done_of es))

pub one_piece : {P : Type 0} (es : List (Event P)) (e : Event P) (done more : List (List Bool × P)) (path : List Bool) (x : P)
    → done ≡ done_of es → more ≡ done ++ (path, x) ∷ [] → done_by e ≡ (path, x) ∷ [] → more ≡ done_of (es ++ e ∷ [])
one_piece es e done more path x h k one = k ∙ ap (λ l. l ++ (path, x) ∷ []) h ∙ sym (done_of_snoc es e ∙ ap (λ l. done_of es ++ l) one)
