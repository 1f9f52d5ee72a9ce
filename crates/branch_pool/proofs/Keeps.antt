-- Each kind of step keeps the rule of a lane's deque.
use Rattle.std.proofs.Common.{◌≡◌, ℕ, ◌+◌, zero, suc, List, [], ◌∷◌, ◌++◌, Bool, cond, refl, sym, arith, set}
use Rattle.std.specs.List.{sum_by, count_by}
use Rattle.std.proofs.lemmas.List.Sums.{sum_by-cons, sum_by-append}
use mathlib.Core.Option.{some, some-ne-none}
use lib.ListN.{get_elem?}
use Rattle.crossbeam_deque.specs.Tasks.{Pushes, Takes, Admits, Forks, Merges}
use Rattle.branch_pool.specs.declared.rule.Hand.{Hand}
use Rattle.branch_pool.specs.Deques.{hand, nothing, Balanced}

-- a sum over the hands after one of them changed
pub sum_set : {V : Type 0} (f : V → ℕ) (views : List V) (port : ℕ) (v w : V) → get_elem? views port ≡ some v → sum_by f (set views port w) + f v ≡ sum_by f views + f w
sum_set f [] port v w e = absurd (some-ne-none v (sym e))
sum_set f (x ∷ xs) zero v w e =
    let same : x ≡ v = cc (e) in
    let s : f x ≡ f v = cc (same) in
    omega (arith, sum_by-cons f x xs, sum_by-cons f w xs, s)
sum_set f (x ∷ xs) (suc port) v w e = omega (arith, sum_set f xs port v w e, sum_by-cons f x xs, sum_by-cons f x (set xs port w))

module _ {I : Type 0} where
  abbrev given : (I → Bool) → List (Hand I) → ℕ
  given p views = sum_by (λ (v : Hand I). count_by p v.pushed) views

  abbrev gone : (I → Bool) → List (Hand I) → ℕ
  gone p views = sum_by (λ (v : Hand I). count_by p v.taken) views

  count_append : (p : I → Bool) (xs ys : List I) → count_by p (xs ++ ys) ≡ count_by p xs + count_by p ys
  count_append p xs ys = sum_by-append (λ x. cond (p x) 1 0) xs ys

  pub pushes : (port : ℕ) (v : Hand I) (xs : List I) → Pushes Balanced port v xs (λ w. w ≡ hand (v.pushed ++ xs) v.taken)
  pushes port v xs items views h at =
      let w : Hand I = hand (v.pushed ++ xs) v.taken in (
        w,
        (λ p.
            let a = sum_set (λ (u : Hand I). count_by p u.pushed) views port v w at in
            let b = sum_set (λ (u : Hand I). count_by p u.taken) views port v w at in
            let c = h p in
            omega (arith, a, b, c, count_append p v.pushed xs, count_append p items xs)),
        refl,
      )

  pub takes : (port : ℕ) (v : Hand I) → Takes Balanced port v 1 (λ xs w. w ≡ hand v.pushed (v.taken ++ xs))
  takes port v xs items views least most h at =
      let w : Hand I = hand v.pushed (v.taken ++ xs) in (
        w,
        (λ p.
            let a = sum_set (λ (u : Hand I). count_by p u.pushed) views port v w at in
            let b = sum_set (λ (u : Hand I). count_by p u.taken) views port v w at in
            let c = h p in
            omega (arith, a, b, c, count_append p v.taken xs, count_append p xs items)),
        refl,
      )

  pub admits : Admits Balanced (nothing {I = I})
  admits items views h p =
      let a = sum_by-append (λ (u : Hand I). count_by p u.pushed) views (nothing ∷ []) in
      let b = sum_by-append (λ (u : Hand I). count_by p u.taken) views (nothing ∷ []) in
      let c = h p in
      omega (arith, a, b, c)

  pub forks : (port : ℕ) (v : Hand I) → Forks Balanced port v v nothing
  forks port v items views h at p =
      let a = sum_set (λ (u : Hand I). count_by p u.pushed) views port v v at in
      let b = sum_set (λ (u : Hand I). count_by p u.taken) views port v v at in
      let c = sum_by-append (λ (u : Hand I). count_by p u.pushed) (set views port v) (nothing ∷ []) in
      let d = sum_by-append (λ (u : Hand I). count_by p u.taken) (set views port v) (nothing ∷ []) in
      let e = h p in
      omega (arith, a, b, c, d, e)

  pub merges : (port : ℕ) (v : Hand I) (other : ℕ) (w : Hand I) → Merges Balanced port v other w (hand (v.pushed ++ w.pushed) (v.taken ++ w.taken)) nothing
  merges port v other w items views h at apart there p =
      let both : Hand I = hand (v.pushed ++ w.pushed) (v.taken ++ w.taken) in
      let a = sum_set (λ (u : Hand I). count_by p u.pushed) views port v both at in
      let b = sum_set (λ (u : Hand I). count_by p u.taken) views port v both at in
      let c = sum_set (λ (u : Hand I). count_by p u.pushed) (set views port both) other w nothing there in
      let d = sum_set (λ (u : Hand I). count_by p u.taken) (set views port both) other w nothing there in
      let e = h p in
      omega (arith, a, b, c, d, e, count_append p v.pushed w.pushed, count_append p v.taken w.taken)
