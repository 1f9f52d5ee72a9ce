use Rattle.std.proofs.Common.{◌≡◌, List, ℕ, sym, subst}
use Rattle.desk_io.specs.Bytes.{Writes}
use Rattle.picture.specs.declared.shape.Shape.{Shape}
use Rattle.svg_out.specs.Svg.{shape_text}
use Rattle.svg_out.proofs.writing.write_shape.Goals as goal

pub returns-in-Ring-clause-bytes : goal.returns-in-Ring-clause-bytes
returns-in-Ring-clause-bytes g c =
    let Left : Shape → Type 0 = λ s. Writes (g.S.Sink.written c.args.sink.now) (g.S.Sink.written c.write_mark-in-Ring.new.sink) c.args.pen.now
    c.write_mark-in-Ring.new.pen c.write_mark-in-Ring.result (shape_text c.args.h c.args.names.now c.args.ink s) in
    subst Left (sym c.in-Ring.is) c.write_mark-in-Ring.ensures.bytes
