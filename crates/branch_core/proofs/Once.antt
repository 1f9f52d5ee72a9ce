-- In every run each path is in one state alone, and is taken at most once.
use Rattle.std.proofs.Common.{◌≡◌, ℕ, ◌+◌, ◌≤◌, List, [], ◌∷◌, ◌++◌, Bool, true, false, ◌&&◌, cond, refl, sym, ap, ◌∙◌, subst, append_assoc, arith, Option, Some, None, IsSome}
use Rattle.std.specs.List.{remove}
use Rattle.std.proofs.lemmas.List.{append-nil}
use Rattle.std.proofs.lemmas.List.Sums.{sum_by-remove, sum_by_push}
use Rattle.proof_steps.specs.Paths.{same_path}
use Rattle.branch_core.specs.declared.event.Event.{Event}
use Rattle.branch_core.specs.declared.event.Event.TheVariants.{Take, Split, Leaf, Refuse}
use Rattle.branch_core.specs.declared.event.Hold.{Hold}
use Rattle.branch_core.specs.Machine.{State, state_is, hold, replay, IsRun}
use Rattle.branch_core.specs.Runs.{times, times_held, times_done, times_taken, takes_path, InOneState}
use Rattle.branch_core.proofs.Always.{Waits, Holds, always}

abbrev bit : Bool → ℕ
bit b = cond b 1 0

abbrev total : {P : Type 0} → State P → List Bool → ℕ
total s p = times s.waiting p + (times_held s.held p + times_done s.done p)

none_snoc : (p : List Bool) (b : Bool) → same_path [] (p ++ b ∷ []) ≡ false
none_snoc [] b = refl
none_snoc (c ∷ p) b = refl

snoc_none : (q : List Bool) (a : Bool) → same_path (q ++ a ∷ []) [] ≡ false
snoc_none [] a = refl
snoc_none (c ∷ q) a = refl

same_snoc : (q p : List Bool) (a b : Bool) → same_path (q ++ a ∷ []) (p ++ b ∷ []) ≡ same_path q p && same_path (a ∷ []) (b ∷ [])
same_snoc [] [] a b = refl
same_snoc [] (true ∷ p) true b = none_snoc p b
same_snoc [] (true ∷ p) false b = refl
same_snoc [] (false ∷ p) true b = refl
same_snoc [] (false ∷ p) false b = none_snoc p b
same_snoc (true ∷ q) [] a true = snoc_none q a
same_snoc (true ∷ q) [] a false = refl
same_snoc (false ∷ q) [] a true = refl
same_snoc (false ∷ q) [] a false = snoc_none q a
same_snoc (true ∷ q) (true ∷ p) a b = same_snoc q p a b
same_snoc (true ∷ q) (false ∷ p) a b = refl
same_snoc (false ∷ q) (true ∷ p) a b = refl
same_snoc (false ∷ q) (false ∷ p) a b = same_snoc q p a b

both_bits : (c b : Bool) → bit (c && same_path (b ∷ []) (true ∷ [])) + bit (c && same_path (b ∷ []) (false ∷ [])) ≤ bit c
both_bits true true = omega arith
both_bits true false = omega arith
both_bits false b = omega arith

-- a path is a child of at most one path
child_bits : (q p : List Bool) (b : Bool) → bit (same_path (q ++ b ∷ []) (p ++ true ∷ [])) + bit (same_path (q ++ b ∷ []) (p ++ false ∷ [])) ≤ bit (same_path q p)
child_bits q p b = rw (same_snoc q p b true, same_snoc q p b false) (both_bits (same_path q p) b)

-- the root is there once, and a child only where its parent is done
record Grown {P : Type 0} (s : State P) : Type 0 where
  root : total s [] ≤ 1
  child : (q : List Bool) (b : Bool) → total s (q ++ b ∷ []) ≤ times_done s.done q

module _ {P : Type 0} (s : State P) (grown : Grown s) where
  from_here : (r q : List Bool) → total s q ≤ 1 → total s (q ++ r) ≤ 1
  from_here [] q h = rw append-nil h
  from_here (b ∷ r) q h = subst (λ (l : List Bool). total s l ≤ 1) (append_assoc q (b ∷ []) r) (from_here r (q ++ b ∷ []) (omega (arith, grown.child q b)))

  alone : InOneState s
  alone p = from_here p [] grown.root

-- of a machine that goes on, the paths taken are those held and done
record Taken {P : Type 0} (es : List (Event P)) (s : State P) : Type 0 where
  live : s.stopped ≡ false → (p : List Bool) → times_taken es p ≡ times_held s.held p + times_done s.done p
  most : (p : List Bool) → times_taken es p ≤ 1

module _ {P : Type 0} (s : State P) (path : List Bool) (i : ℕ) where
  waits_bit : Waits s path i → (q : List Bool) → times (remove s.waiting i) q + bit (same_path q path) ≡ times s.waiting q
  waits_bit at q = subst (λ (r : List Bool). times (remove s.waiting i) q + bit (same_path q r) ≡ times s.waiting q) (at.is []) (sum_by-remove (λ r. cond (same_path q r) 1 0) s.waiting i [] at.within)

  holds_bit : Holds s path i → (q : List Bool) → times_held (remove s.held i) q + bit (same_path q path) ≡ times_held s.held q
  holds_bit at q = subst (λ (r : List Bool). times_held (remove s.held i) q + bit (same_path q r) ≡ times_held s.held q) (at.is (hold [] 0)) (sum_by-remove (λ (h : Hold). cond (same_path q h.path) 1 0) s.held i (hold [] 0) at.within)

waits_more : (waiting : List (List Bool)) (path q : List Bool) → times (waiting ++ path ∷ []) q ≡ times waiting q + bit (same_path q path)
waits_more waiting path q = sum_by_push (λ r. cond (same_path q r) 1 0) waiting path

held_more : (held : List Hold) (path : List Bool) (worker : ℕ) (q : List Bool) → times_held (held ++ hold path worker ∷ []) q ≡ times_held held q + bit (same_path q path)
held_more held path worker q = sum_by_push (λ (h : Hold). cond (same_path q h.path) 1 0) held (hold path worker)

done_more : {P : Type 0} (done : List (List Bool × P)) (path : List Bool) (x : P) (q : List Bool) → times_done (done ++ (path, x) ∷ []) q ≡ times_done done q + bit (same_path q path)
done_more {P} done path x q = sum_by_push (λ (d : List Bool × P). cond (same_path q d.0) 1 0) done (path, x)

taken_more : {P : Type 0} (es : List (Event P)) (e : Event P) (q : List Bool) → times_taken (es ++ e ∷ []) q ≡ times_taken es q + bit (takes_path q e)
taken_more es e q = sum_by_push (λ f. cond (takes_path q f) 1 0) es e

abbrev Sound : {P : Type 0} → List (Event P) → State P → Type 0
Sound es s = Grown s × Taken es s

sound_take : {P : Type 0} (es : List (Event P)) (s : State P) (worker : ℕ) (path : List Bool) (i : ℕ) → Waits s path i → s.stopped ≡ false → Sound es s
    → Sound (es ++ Take worker path ∷ []) (state_is (remove s.waiting i) (s.held ++ hold path worker ∷ []) s.done s.stopped)
sound_take {P} es s worker path i at free k =
    let u : State P = state_is (remove s.waiting i) (s.held ++ hold path worker ∷ []) s.done s.stopped in
    let same = λ (q : List Bool). (let e : total u q ≡ total s q = omega (arith, waits_bit s path i at q, held_more s.held path worker q) in e) in
    let grown : Grown u = record { root = omega (arith, same [], k.0.root); child = λ q b. omega (arith, same (q ++ b ∷ []), k.0.child q b) } in
    let live = λ (q : List Bool). (let e : times_taken (es ++ Take worker path ∷ []) q ≡ times_held u.held q + times_done u.done q = omega (arith, k.1.live free q, taken_more es (Take worker path) q, held_more s.held path worker q) in e) in
    (grown, record { live = λ _ q. live q; most = λ q. omega (arith, live q, alone u grown q) })

sound_split : {P : Type 0} (es : List (Event P)) (s : State P) (worker : ℕ) (path : List Bool) (x : P) (i : ℕ) → Holds s path i → Sound es s
    → Sound (es ++ Split worker path x ∷ []) (state_is (s.waiting ++ (path ++ true ∷ []) ∷ (path ++ false ∷ []) ∷ []) (remove s.held i) (s.done ++ (path, x) ∷ []) s.stopped)
sound_split {P} es s worker path x i at k =
    let u : State P = state_is (s.waiting ++ (path ++ true ∷ []) ∷ (path ++ false ∷ []) ∷ []) (remove s.held i) (s.done ++ (path, x) ∷ []) s.stopped in
    let two = λ (q : List Bool).
    (let e : times u.waiting q ≡ times s.waiting q + bit (same_path q (path ++ true ∷ [])) + bit (same_path q (path ++ false ∷ [])) =
    ap (λ l. times l q) (sym (append_assoc s.waiting ((path ++ true ∷ []) ∷ []) ((path ++ false ∷ []) ∷ [])))
    ∙ waits_more (s.waiting ++ (path ++ true ∷ []) ∷ []) (path ++ false ∷ []) q
    ∙ ap (λ n. n + bit (same_path q (path ++ false ∷ []))) (waits_more s.waiting (path ++ true ∷ []) q) in e) in
    let more = λ (q : List Bool).
    (let e : total u q ≡ total s q + bit (same_path q (path ++ true ∷ [])) + bit (same_path q (path ++ false ∷ [])) =
    omega (arith, two q, holds_bit s path i at q, done_more s.done path x q) in e) in
    let plus : bit (same_path [] (path ++ true ∷ [])) ≡ 0 = ap bit (none_snoc path true) in
    let minus : bit (same_path [] (path ++ false ∷ [])) ≡ 0 = ap bit (none_snoc path false) in
    let grown : Grown u = record {
      root = omega (arith, more [], plus, minus, k.0.root);
      child = λ q b. omega (arith, more (q ++ b ∷ []), child_bits q path b, done_more s.done path x q, k.0.child q b);
    } in (
      grown,
      record {
        live = λ free q. omega (arith, k.1.live free q, taken_more es (Split worker path x) q, holds_bit s path i at q, done_more s.done path x q);
        most = λ q. omega (arith, taken_more es (Split worker path x) q, k.1.most q);
      },
    )

sound_leaf : {P : Type 0} (es : List (Event P)) (s : State P) (worker : ℕ) (path : List Bool) (x : P) (i : ℕ) → Holds s path i → Sound es s
    → Sound (es ++ Leaf worker path x ∷ []) (state_is s.waiting (remove s.held i) (s.done ++ (path, x) ∷ []) s.stopped)
sound_leaf {P} es s worker path x i at k =
    let u : State P = state_is s.waiting (remove s.held i) (s.done ++ (path, x) ∷ []) s.stopped in
    let same = λ (q : List Bool). (let e : total u q ≡ total s q = omega (arith, holds_bit s path i at q, done_more s.done path x q) in e) in
    let grown : Grown u = record {
      root = omega (arith, same [], k.0.root);
      child = λ q b. omega (arith, same (q ++ b ∷ []), k.0.child q b, done_more s.done path x q);
    } in (
      grown,
      record {
        live = λ free q. omega (arith, k.1.live free q, taken_more es (Leaf worker path x) q, holds_bit s path i at q, done_more s.done path x q);
        most = λ q. omega (arith, taken_more es (Leaf worker path x) q, k.1.most q);
      },
    )

sound_refuse : {P : Type 0} (es : List (Event P)) (s : State P) (worker : ℕ) (path : List Bool) (i : ℕ) → Holds s path i → Sound es s
    → Sound (es ++ Refuse worker path ∷ []) (state_is (s.waiting ++ path ∷ []) (remove s.held i) s.done true)
sound_refuse {P} es s worker path i at k =
    let u : State P = state_is (s.waiting ++ path ∷ []) (remove s.held i) s.done true in
    let same = λ (q : List Bool). (let e : total u q ≡ total s q = omega (arith, holds_bit s path i at q, waits_more s.waiting path q) in e) in
    let grown : Grown u = record { root = omega (arith, same [], k.0.root); child = λ q b. omega (arith, same (q ++ b ∷ []), k.0.child q b) } in (
      grown,
      record {
        live = λ free q. absurd cc;
        most = λ q. omega (arith, taken_more es (Refuse worker path) q, k.1.most q);
      },
    )

sound : {P : Type 0} (es : List (Event P)) (s : State P) → replay es ≡ Some s → Sound es s
sound {P} es s run =
    always Sound (record { take = sound_take; split = sound_split; leaf = sound_leaf; refuse = sound_refuse })
    (record { root = omega arith; child = λ q b. omega (arith, ap bit (snoc_none q b)) }, record { live = λ _ q. refl; most = λ q. omega arith }) es s run

pub in_one_state : {P : Type 0} (es : List (Event P)) (s : State P) → replay es ≡ Some s → InOneState s
in_one_state es s run = alone s (sound es s run).0

pub taken_once : {P : Type 0} (es : List (Event P)) (s : State P) → replay es ≡ Some s → (p : List Bool) → times_taken es p ≤ 1
taken_once es s run p = (sound es s run).1.most p

pub taken_in_run : {P : Type 0} (es : List (Event P)) → IsRun es → (p : List Bool) → times_taken es p ≤ 1
taken_in_run {P} es run p = by (replay es) refl run
  where
    by : (o : Option (State P)) → replay es ≡ o → IsSome o → times_taken es p ≤ 1
    by None e some = absurd cc
    by (Some s) e some = taken_once es s e p
