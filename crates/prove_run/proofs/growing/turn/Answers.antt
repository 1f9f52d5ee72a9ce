use Rattle.std.proofs.Common.{◌≡◌, List, [], ◌∷◌, ◌++◌, sym, ◌∙◌, ap, subst}
use Rattle.proof_steps.specs.declared.piece.Piece.{Piece}
use Rattle.branch_core.specs.declared.event.Event.{Event}
use Rattle.branch_core.specs.declared.event.Event.TheVariants as event
use Rattle.branch_core.specs.declared.answers.Unsplit.TheVariants as unsplit
use Rattle.branch_core.specs.Machine.{replay}
use Rattle.branch_core.specs.Told.{IsUnsplit}
use Rattle.prove_run.proofs.Stack.{took, left, parted, possible}
use Rattle.prove_run.proofs.growing.turn.Goals as goal

pub unreachable-requires : goal.unreachable-requires
unreachable-requires c =
    let m = c.requires.may in
    let k = took c.args.book.now c.args.path m.0 m.1 m.2 m.3 in
    possible (c.args.book.now ++ event.Take 0 c.args.path ∷ []) _ k.run c.in_default.ensures.refused.impossible

pub unreachable-requires-in-Err : goal.unreachable-requires-in-Err
unreachable-requires-in-Err c =
    let m = c.requires.may in
    let k = took c.args.book.now c.args.path m.0 m.1 m.2 m.3 in
    let h : List (Event Piece) = c.args.book.now ++ event.Take 0 c.args.path ∷ [] in
    let ends : c.take.new.self ++ event.Leaf c.in-Ok.ticket.1 c.in-Ok.ticket.0 c.args.piece ∷ [] ≡ h ++ event.Leaf 0 c.args.path c.args.piece ∷ [] =
    λ i. c.in-Ok.ensures.history i ++ event.Leaf (c.in-Ok.ensures.ticket i).1 (c.in-Ok.ensures.ticket i).0 c.args.piece ∷ [] in
    possible (h ++ event.Leaf 0 c.args.path c.args.piece ∷ []) _ (left h c.args.path c.args.piece k.rest m.1 k.run)
    (ap (λ (l : List (Event Piece)). replay l) (sym ends) ∙ c.in-Err.ensures.refused.impossible)

pub unreachable-requires-in-Err-Gone : goal.unreachable-requires-in-Err-Gone
unreachable-requires-in-Err-Gone c =
    let m = c.requires.may in
    let k = took c.args.book.now c.args.path m.0 m.1 m.2 m.3 in
    let h : List (Event Piece) = c.args.book.now ++ event.Take 0 c.args.path ∷ [] in
    let ends : c.take.new.self ++ event.Split c.in-Ok.ticket.1 c.in-Ok.ticket.0 c.args.piece ∷ [] ≡ h ++ event.Split 0 c.args.path c.args.piece ∷ [] =
    λ i. c.in-Ok.ensures.history i ++ event.Split (c.in-Ok.ensures.ticket i).1 (c.in-Ok.ensures.ticket i).0 c.args.piece ∷ [] in
    let u : IsUnsplit c.take.new.self c.in-Ok.ticket c.args.piece (unsplit.Gone c.in-Err-Gone._gone c.in-Err-Gone._piece) =
    subst (IsUnsplit c.take.new.self c.in-Ok.ticket c.args.piece) c.in-Err-Gone.field-0-is c.in-Err-Gone.ensures.refused in
    let short = c.requires.short c.if-not-splits.false in
    possible (h ++ event.Split 0 c.args.path c.args.piece ∷ []) _ (parted h c.args.path c.args.piece k.rest m.1 short k.run)
    (ap (λ (l : List (Event Piece)). replay l) (sym ends) ∙ u.1.impossible)
