use Rattle.algebraize.proofs.OtherWords as words
use Rattle.algebraize.proofs.laws.constructions_in_other_words.Goals as goal

pub returns : goal.returns
returns g c =
    let L = g.D.Domain.laws.ring in
    record {
      lines = words.lines L;
      midpoint = words.midpoint L;
      intersec = words.intersec L;
      foot = words.foot L;
      online = words.online L;
      oncircle = words.oncircle L;
      translate = words.translate L;
      towards = words.towards L;
      cut_line = words.cut_line L;
      cut_circle = words.cut_circle L;
    }
