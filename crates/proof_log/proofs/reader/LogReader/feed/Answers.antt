use Rattle.std.proofs.Common.{length}
use Rattle.proof_log.proofs.Plain.{none_of}
use Rattle.proof_log.proofs.Pieced.{line_more, held_last, line_fault, stopped_still, to_lf, count_more}
use Rattle.proof_log.proofs.reader.LogReader.feed.Goals as goal

pub returns-in-Some-clause-lines : goal.returns-in-Some-clause-lines
returns-in-Some-clause-lines c = stopped_still c.in-Some.fault c.args.self.now c.args.lines.now.items c.args.piece.now c.in-Some.is

pub returns-in_default-split_first-clause-lines : goal.returns-in_default-split_first-clause-lines
returns-in_default-split_first-clause-lines c =
    held_last c.hold.result c.args.self.now c.loop-after.self c.hold.new.self c.args.lines.now.items c.loop-after.lines.items c.args.piece.now c.loop-after.rest.now c.cut_line.result.0.now c.cut_line.result.1.now c.in_default.is
    (none_of c.cut_line.result.1.now c.in_default-split_first.ensures.cases) c.cut_line.ensures.parts c.loop-after.invariant.sofar c.hold.ensures.ok c.hold.ensures.err

pub returns-in-Err-clause-lines : goal.returns-in-Err-clause-lines
returns-in-Err-clause-lines c =
    line_fault c.in-Err.fault c.args.self.now c.loop-after.self c.take_line.new.self c.args.lines.now.items c.loop-after.lines.items c.take_line.new.lines.items c.args.piece.now c.cut_line.result.0.now c.in-Some-split_first.after.now c.in_default.is
    (to_lf c.args.self.now c.loop-after.self c.args.lines.now.items c.loop-after.lines.items c.args.piece.now c.loop-after.rest.now c.cut_line.result.0.now c.cut_line.result.1.now c.in-Some-split_first.after.now _
    c.cut_line.ensures.parts c.cut_line.ensures.behind c.in-Some-split_first.ensures.cases.0 c.loop-after.invariant.sofar)
    c.in-Err.ensures.line

pub loop-after-preserved : goal.loop-after-preserved
loop-after-preserved c = record {
  count = count_more c.loop-after.self.fed c.take_line.new.self.fed c.args.self.now.fed (length c.args.piece.now) c.loop-after.rest.now c.cut_line.result.0.now c.cut_line.result.1.now c.in-Some-split_first.after.now _
      c.cut_line.ensures.parts c.in-Some-split_first.ensures.cases.0 c.in-Ok.ensures.fed c.loop-after.invariant.count;
  sofar = line_more c.args.self.now c.loop-after.self c.take_line.new.self c.args.lines.now.items c.loop-after.lines.items c.take_line.new.lines.items c.args.piece.now c.cut_line.result.0.now c.in-Some-split_first.after.now
      (to_lf c.args.self.now c.loop-after.self c.args.lines.now.items c.loop-after.lines.items c.args.piece.now c.loop-after.rest.now c.cut_line.result.0.now c.cut_line.result.1.now c.in-Some-split_first.after.now _
      c.cut_line.ensures.parts c.cut_line.ensures.behind c.in-Some-split_first.ensures.cases.0 c.loop-after.invariant.sofar)
      c.in-Ok.ensures.line;
}
