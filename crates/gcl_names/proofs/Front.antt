-- What was resolved before, in front of what is still resolved.
use Rattle.std.proofs.Common.{◌≡◌, ◌-◌, ◌≤◌, ◌<◌, List, [], ◌∷◌, ◌++◌, length, take, drop, get_or, Option, Some, None, Bool, Result, Ok, Err, refl, sym, ap, ◌∙◌, append_assoc, arith}
use Rattle.std.proofs.lemmas.List.{append-nil}
use Rattle.std.proofs.lemmas.Grind.{common_steps}
use Rattle.gcl_reader.specs.declared.word.Parameter.{Parameter}
use Rattle.gcl_reader.specs.declared.refusal.Refusal.{Refusal}
use Rattle.gcl_reader.specs.declared.refusal.GclFault.{GclFault}
use Rattle.gcl_reader.specs.declared.refusal.GclFault.TheVariants as fault
use Rattle.gcl_reader.specs.declared.file.Arg.{Arg}
use Rattle.gcl_reader.specs.declared.file.Command.{Command}
use Rattle.gcl_reader.specs.Grammar.{◌>>=◌, Fails}
use Rattle.gcl_names.specs.Scope.{Meanings}
use Rattle.gcl_names.specs.declared.meaning.Ref.{Ref}
use Rattle.gcl_names.specs.declared.scope.Scope.{Scope}
use Rattle.gcl_names.specs.declared.program.Act.{Act}
use Rattle.gcl_names.specs.Reference.{refers_to_circle, ref_in, refs_in}
use Rattle.gcl_names.specs.Program.{act_in, acts_in, put}

-- all but the first of some
pub rest-is : {X : Type 0} (x : X) (xs : List X) → take (length (x ∷ xs) - 1) xs ≡ xs
rest-is x xs = grind (arith, common_steps)

-- all but the first, as a slice pattern gives it
abbrev pub tail : {X : Type 0} → List X → List X
tail xs = take (length xs - 1) (drop 1 xs)

abbrev pub behind : {X : Type 0} → List X → Result (List X × Scope) Refusal → Result (List X × Scope) Refusal
behind front read = read >>= λ x. Ok (front ++ x.0, x.1)

refs-regroup : (front : List Ref) (r : Ref) (read : Result (List Ref × Scope) Refusal) →
    behind front (read >>= λ x. Ok (r ∷ x.0, x.1)) ≡ behind (front ++ r ∷ []) read
refs-regroup front r (Ok x) = ap (λ (xs : List Ref). Ok (xs, x.1)) (simp append_assoc)
refs-regroup front r (Err f) = refl

refs-cons : (front : List Ref) (p : Parameter) (ps : List Parameter) (a : Arg) (args : List Arg) (earlier : Meanings) (c : Bool) (s after : Scope) (r : Ref) → ref_in p ps args earlier c s a ≡ Ok (r, after) →
    behind front (refs_in (p ∷ ps) (a ∷ args) earlier c s) ≡ behind (front ++ r ∷ []) (refs_in ps args earlier (refers_to_circle r) after)
unfolding refs_in
refs-cons front p ps a args earlier c s after r h = rw h (refs-regroup front r (refs_in ps args earlier (refers_to_circle r) after))

-- One more argument is resolved.
pub refs-more : (front : List Ref) (d : Parameter) (ps : List Parameter) (a : Arg) (args : List Arg) (earlier : Meanings) (c : Bool) (s after : Scope) (r : Ref) →
    1 ≤ length ps → 1 ≤ length args → a ≡ get_or args 0 a → ref_in (get_or ps 0 d) (tail ps) (tail args) earlier c s a ≡ Ok (r, after) →
    behind (front ++ r ∷ []) (refs_in (tail ps) (tail args) earlier (refers_to_circle r) after) ≡ behind front (refs_in ps args earlier c s)
refs-more front d [] a args earlier c s after r h k e m = absurd (omega (arith, h))
refs-more front d (p ∷ ps) a [] earlier c s after r h k e m = absurd (omega (arith, k))
refs-more front d (p ∷ ps) a (b ∷ args) earlier c s after r h k e m = rw (rest-is p ps, rest-is b args, ← e) (sym (refs-cons front p ps a args earlier c s after r (rw (rest-is p ps, rest-is b args) at m)))

-- An argument refuses.
pub refs-fail : (e : GclFault) (front : List Ref) (d : Parameter) (ps : List Parameter) (a : Arg) (args : List Arg) (earlier : Meanings) (c : Bool) (s : Scope) (total : Result (List Ref × Scope) Refusal) →
    1 ≤ length ps → 1 ≤ length args → a ≡ get_or args 0 a → Fails e (ref_in (get_or ps 0 d) (tail ps) (tail args) earlier c s a) → behind front (refs_in ps args earlier c s) ≡ total → Fails e total
unfolding refs_in
refs-fail e front d [] a args earlier c s total h k i m so_far = absurd (omega (arith, h))
refs-fail e front d (p ∷ ps) a [] earlier c s total h k i m so_far = absurd (omega (arith, k))
refs-fail fault.OutOfMemory front d (p ∷ ps) a (b ∷ args) earlier c s total h k i m so_far = tt
refs-fail (fault.Refused f) front d (p ∷ ps) a (b ∷ args) earlier c s total h k i m so_far =
    let one : behind front (refs_in (p ∷ ps) (a ∷ args) earlier c s) ≡ Err f = rw (rw (rest-is p ps, rest-is b args) at m) refl in
    sym so_far ∙ rw (← i) one

-- Every place has its argument.
pub refs-done : (front : List Ref) (ps : List Parameter) (args : List Arg) (earlier : Meanings) (c : Bool) (s : Scope) (total : Result (List Ref × Scope) Refusal) →
    length ps < 1 → behind front (refs_in ps args earlier c s) ≡ total → total ≡ Ok (front, s)
unfolding refs_in
refs-done front [] args earlier c s total h so_far = sym so_far ∙ ap (λ (xs : List Ref). Ok (xs, s)) (append-nil front)
refs-done front (p ∷ ps) args earlier c s total h so_far = absurd (omega (arith, h))

-- No argument is left.
pub refs-short : (front : List Ref) (ps : List Parameter) (args : List Arg) (earlier : Meanings) (c : Bool) (s : Scope) (total : Result (List Ref × Scope) Refusal) →
    length args < 1 → behind front (refs_in ps args earlier c s) ≡ total → total ≡ Ok (front, s)
unfolding refs_in
refs-short front [] args earlier c s total h so_far = sym so_far ∙ ap (λ (xs : List Ref). Ok (xs, s)) (append-nil front)
refs-short front (p ∷ ps) [] earlier c s total h so_far = sym so_far ∙ ap (λ (xs : List Ref). Ok (xs, s)) (append-nil front)
refs-short front (p ∷ ps) (a ∷ args) earlier c s total h so_far = absurd (omega (arith, h))

put-regroup : (front : List Act) (a : Option Act) (acts : List Act) → front ++ put a acts ≡ (front ++ put a []) ++ acts
put-regroup front None acts = ap (λ (xs : List Act). xs ++ acts) (sym (append-nil front))
put-regroup front (Some a) acts = sym (simp append_assoc)

acts-regroup : (front : List Act) (a : Option Act) (read : Result (List Act × Scope) Refusal) →
    behind front (read >>= λ x. Ok (put a x.0, x.1)) ≡ behind (front ++ put a []) read
acts-regroup front a (Ok x) = ap (λ (xs : List Act). Ok (xs, x.1)) (put-regroup front a x.0)
acts-regroup front a (Err f) = refl

acts-cons : (front : List Act) (c : Command) (commands : List Command) (s after : Scope) (a : Option Act) → act_in c s ≡ Ok (a, after) →
    behind front (acts_in (c ∷ commands) s) ≡ behind (front ++ put a []) (acts_in commands after)
unfolding acts_in
acts-cons front c commands s after a h = rw h (acts-regroup front a (acts_in commands after))

-- One more command is resolved.
pub acts-more : (front : List Act) (c : Command) (commands : List Command) (s after : Scope) (a : Option Act) →
    1 ≤ length commands → c ≡ get_or commands 0 c → act_in c s ≡ Ok (a, after) →
    behind (front ++ put a []) (acts_in (take (length commands - 1) (drop 1 commands)) after) ≡ behind front (acts_in commands s)
acts-more front c [] s after a h e m = absurd (omega (arith, h))
acts-more front c (d ∷ commands) s after a h e m = rw (rest-is d commands, ← e) (sym (acts-cons front c commands s after a m))

-- A command refuses.
pub acts-fail : (e : GclFault) (front : List Act) (c : Command) (commands : List Command) (s : Scope) (total : Result (List Act × Scope) Refusal) →
    1 ≤ length commands → c ≡ get_or commands 0 c → Fails e (act_in c s) → behind front (acts_in commands s) ≡ total → Fails e total
unfolding acts_in
acts-fail e front c [] s total h i m so_far = absurd (omega (arith, h))
acts-fail fault.OutOfMemory front c (d ∷ commands) s total h i m so_far = tt
acts-fail (fault.Refused f) front c (d ∷ commands) s total h i m so_far =
    let one : behind front (acts_in (c ∷ commands) s) ≡ Err f = rw m refl in
    sym so_far ∙ rw (← i) one

-- Each command is resolved.
pub acts-done : (front : List Act) (commands : List Command) (s : Scope) (total : Result (List Act × Scope) Refusal) →
    length commands < 1 → behind front (acts_in commands s) ≡ total → total ≡ Ok (front, s)
unfolding acts_in
acts-done front [] s total h so_far = sym so_far ∙ ap (λ (xs : List Act). Ok (xs, s)) (append-nil front)
acts-done front (c ∷ commands) s total h so_far = absurd (omega (arith, h))
