use Rattle.std.proofs.Common.{◌≡◌, ◌+◌, ◌++◌, get_or, take, drop, sym, ap, arith, ◌∙◌}
use Rattle.std.specs.List.{flat_map}
use Rattle.std.specs.Io.KnownBytes.{append_known}
use Rattle.desk_io.proofs.Growth.{grown_twice}
use Rattle.desk_io.proofs.Writing.{next_put_failed, pieces_more, pieces_split}
use Rattle.command_line.proofs.stage.put_each.Goals as goal

pub returns-in_err-put-clause-bytes : goal.returns-in_err-put-clause-bytes
returns-in_err-put-clause-bytes g c =
    let line : c.deref.result.now ≡ (get_or c.args.lines.now c.loop-line.line-index c.line-item.result).items
    = c.deref.ensures.value ∙ ap (λ l. l.items) c.line-item.is in
    next_put_failed c.from_residual.result _ _ _ (flat_map (λ line. line.items) (take c.loop-line.line-index c.args.lines.now)) c.deref.result.now
    (flat_map (λ line. line.items) (drop (c.loop-line.line-index + 1) c.args.lines.now)) _
    c.from_residual.ensures.0 c.loop-line.invariant.put c.in_err-put.ensures.bytes
    (rw line (pieces_split (λ line. line.items) c.args.lines.now c.loop-line.line-index c.line-item.result (omega arith)))

pub loop-line-preserved : goal.loop-line-preserved
loop-line-preserved g c =
    let line : c.deref.result.now ≡ (get_or c.args.lines.now c.loop-line.line-index c.line-item.result).items
    = c.deref.ensures.value ∙ ap (λ l. l.items) c.line-item.is in
    record {
      later = omega (arith, c.in_ok-put.ensures.cause.later);
      put = grown_twice _ _ _ _ _ c.loop-line.invariant.put c.in_ok-put.ensures.bytes
          ∙ ap (λ l. append_known (g.N.Sink.written c.args.notes.now) (flat_map (λ line. line.items) (take c.loop-line.line-index c.args.lines.now) ++ l)) line
          ∙ ap (λ l. append_known (g.N.Sink.written c.args.notes.now) l) (sym (pieces_more (λ line. line.items) c.args.lines.now c.loop-line.line-index c.line-item.result (omega arith)));
    }
