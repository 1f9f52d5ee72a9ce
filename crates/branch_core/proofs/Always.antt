-- What each possible event keeps holds after every run.
use Rattle.std.proofs.Common.{◌≡◌, ℕ, ◌<◌, List, [], ◌∷◌, ◌++◌, Bool, true, false, length, get_or, refl, sym, ◌∙◌, subst, append_assoc, Option, Some, None}
use Rattle.std.specs.Prelude.{nat_lt, ◌==◌}
use Rattle.std.specs.Option.{option_and_then}
use Rattle.std.specs.List.{remove}
use Rattle.std.proofs.lemmas.List.{append-nil}
use Rattle.std.proofs.lemmas.List.Quantifiers.{position-Some}
use Rattle.std.proofs.lemmas.Bool.{and_parts}
use Rattle.poly_model.specs.declared.limits.TheConstants.{MOST_LETTERS}
use Rattle.proof_steps.specs.Paths.{same_path}
use Rattle.proof_steps.proofs.Paths.{same_is}
use Rattle.branch_core.specs.declared.event.Event.{Event}
use Rattle.branch_core.specs.declared.event.Event.TheVariants.{Take, Split, Leaf, Refuse}
use Rattle.branch_core.specs.declared.event.Hold.{Hold}
use Rattle.branch_core.proofs.Replays.{takes_at}
use Rattle.branch_core.specs.Machine.{State, state_is, hold, is_hold, start, takes, splits, leaves, refuses, waits_at, held_at, step, replay_from, replay}

-- the path waits at a place, and is the one that is taken from there
pub record Waits {P : Type 0} (s : State P) (path : List Bool) (i : ℕ) : Type 0 where
  pub within : i < length s.waiting
  pub is : (d : List Bool) → get_or s.waiting i d ≡ path

-- a worker holds the path at a place
pub record Holds {P : Type 0} (s : State P) (path : List Bool) (i : ℕ) : Type 0 where
  pub within : i < length s.held
  pub is : (d : Hold) → (get_or s.held i d).path ≡ path

waits : {P : Type 0} (s : State P) (path : List Bool) (i : ℕ) → waits_at s path ≡ Some i → Waits s path i
waits s path i e =
    let all = λ (d : List Bool). position-Some (same_path path) s.waiting i d e in
    record { within = (all []).0; is = λ d. sym (same_is path (get_or s.waiting i d) (all d).1) }

holds : {P : Type 0} (s : State P) (path : List Bool) (worker i : ℕ) → held_at s path worker ≡ Some i → Holds s path i
holds s path worker i e =
    let all = λ (d : Hold). position-Some (is_hold path worker) s.held i d e in
    record { within = (all (hold [] 0)).0; is = λ d. sym (same_is path (get_or s.held i d).path (and_parts (same_path path (get_or s.held i d).path) (worker == (get_or s.held i d).worker) (all d).1).0) }

-- a fact about histories and the states that they lead to
pub record Keeps {P : Type 0} (K : List (Event P) → State P → Type 0) : Type 0 where
  pub take : (es : List (Event P)) (s : State P) (worker : ℕ) (path : List Bool) (i : ℕ) → Waits s path i → s.stopped ≡ false → K es s
      → K (es ++ Take worker path ∷ []) (state_is (remove s.waiting i) (s.held ++ hold path worker ∷ []) s.done s.stopped)
  pub split : (es : List (Event P)) (s : State P) (worker : ℕ) (path : List Bool) (x : P) (i : ℕ) → Holds s path i → K es s
      → K (es ++ Split worker path x ∷ []) (state_is (s.waiting ++ (path ++ true ∷ []) ∷ (path ++ false ∷ []) ∷ []) (remove s.held i) (s.done ++ (path, x) ∷ []) s.stopped)
  pub leaf : (es : List (Event P)) (s : State P) (worker : ℕ) (path : List Bool) (x : P) (i : ℕ) → Holds s path i → K es s
      → K (es ++ Leaf worker path x ∷ []) (state_is s.waiting (remove s.held i) (s.done ++ (path, x) ∷ []) s.stopped)
  pub refuse : (es : List (Event P)) (s : State P) (worker : ℕ) (path : List Bool) (i : ℕ) → Holds s path i → K es s
      → K (es ++ Refuse worker path ∷ []) (state_is (s.waiting ++ path ∷ []) (remove s.held i) s.done true)

some_is : {A : Type 0} (x y : A) → Some x ≡ Some y → x ≡ y
some_is x y e = cc

module _ {P : Type 0} (K : List (Event P) → State P → Type 0) (keeps : Keeps K) where
  took : (es : List (Event P)) (s u : State P) (worker : ℕ) (path : List Bool) (o : Option ℕ) → waits_at s path ≡ o → (b : Bool) → s.stopped ≡ b → K es s
      → takes s worker path o ≡ Some u → K (es ++ Take worker path ∷ []) u
  took es s u worker path None e b f k g = absurd cc
  took es s u worker path (Some i) e true f k g = absurd (let h : None ≡ Some u = rw f at g in cc)
  took es s u worker path (Some i) e false f k g =
      let v : State P = state_is (remove s.waiting i) (s.held ++ hold path worker ∷ []) s.done s.stopped in
      let h : Some v ≡ Some u = sym (takes_at s worker path i (Some i) refl f) ∙ g in
      subst (K (es ++ Take worker path ∷ [])) (some_is v u h) (keeps.take es s worker path i (waits s path i e) f k)

  split : (es : List (Event P)) (s u : State P) (worker : ℕ) (path : List Bool) (x : P) (o : Option ℕ) → held_at s path worker ≡ o → (b : Bool) → nat_lt (length path) MOST_LETTERS ≡ b → K es s
      → splits s path x o ≡ Some u → K (es ++ Split worker path x ∷ []) u
  split es s u worker path x None e b f k g = absurd cc
  split es s u worker path x (Some i) e false f k g = absurd (let h : None ≡ Some u = rw f at g in cc)
  split es s u worker path x (Some i) e true f k g =
      let v : State P = state_is (s.waiting ++ (path ++ true ∷ []) ∷ (path ++ false ∷ []) ∷ []) (remove s.held i) (s.done ++ (path, x) ∷ []) s.stopped in
      let h : Some v ≡ Some u = rw f at g in
      subst (K (es ++ Split worker path x ∷ [])) (some_is v u h) (keeps.split es s worker path x i (holds s path worker i e) k)

  left : (es : List (Event P)) (s u : State P) (worker : ℕ) (path : List Bool) (x : P) (o : Option ℕ) → held_at s path worker ≡ o → K es s
      → leaves s path x o ≡ Some u → K (es ++ Leaf worker path x ∷ []) u
  left es s u worker path x None e k g = absurd cc
  left es s u worker path x (Some i) e k g =
      subst (K (es ++ Leaf worker path x ∷ [])) (some_is _ u g) (keeps.leaf es s worker path x i (holds s path worker i e) k)

  gave_back : (es : List (Event P)) (s u : State P) (worker : ℕ) (path : List Bool) (o : Option ℕ) → held_at s path worker ≡ o → K es s
      → refuses s path o ≡ Some u → K (es ++ Refuse worker path ∷ []) u
  gave_back es s u worker path None e k g = absurd cc
  gave_back es s u worker path (Some i) e k g =
      subst (K (es ++ Refuse worker path ∷ [])) (some_is _ u g) (keeps.refuse es s worker path i (holds s path worker i e) k)

  one : (es : List (Event P)) (s u : State P) (e : Event P) → K es s → step s e ≡ Some u → K (es ++ e ∷ []) u
  one es s u (Take worker path) k g = took es s u worker path (waits_at s path) refl s.stopped refl k g
  one es s u (Split worker path x) k g = split es s u worker path x (held_at s path worker) refl (nat_lt (length path) MOST_LETTERS) refl k g
  one es s u (Leaf worker path x) k g = left es s u worker path x (held_at s path worker) refl k g
  one es s u (Refuse worker path) k g = gave_back es s u worker path (held_at s path worker) refl k g

  on : (es more : List (Event P)) (s u : State P) (e : Event P) (o : Option (State P)) → step s e ≡ o → K es s
      → ((t : State P) → K (es ++ e ∷ []) t → replay_from t more ≡ Some u → K ((es ++ e ∷ []) ++ more) u)
      → option_and_then (λ t. replay_from t more) o ≡ Some u → K (es ++ e ∷ more) u
  on es more s u e None is k rest g = absurd cc
  on es more s u e (Some t) is k rest g = subst (λ l. K l u) (append_assoc es (e ∷ []) more) (rest t (one es s t e k is) g)

  from : (more es : List (Event P)) (s u : State P) → K es s → replay_from s more ≡ Some u → K (es ++ more) u
  from [] es s u k g = let same : es ++ [] ≡ es = append-nil es in rw same (subst (K es) (some_is s u g) k)
  from (e ∷ more) es s u k g = on es more s u e (step s e) refl k (λ t. from more (es ++ e ∷ []) t u) g

  -- after every run
  pub always : K [] start → (es : List (Event P)) (s : State P) → replay es ≡ Some s → K es s
  always begin es s g = from es [] start s begin g
