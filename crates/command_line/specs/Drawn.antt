-- What the texts of the commands are written from.
use Rattle.std.specs.Prelude.{ℕ, List, map}
use Rattle.gcl_reader.specs.Show.{show_text}
use Rattle.gcl_reader.specs.declared.file.File.{File}
use Rattle.algebraize.specs.Formed.{equations}
use Rattle.algebraize.specs.System.{system_text}
use Rattle.svg_out.specs.Svg.{svg_text}
use Rattle.latex_out.specs.Latex.{latex_text}
use Rattle.command_line.specs.declared.asked.Asked.{Asked}
use Rattle.command_line.specs.declared.drawn.Drawn.{Drawn}

-- The texts of a picture and the names of its points.
abbrev pub svg_seen : Drawn → List ℕ
svg_seen d = svg_text d.picture d.names

abbrev pub latex_seen : Drawn → List ℕ
latex_seen d = latex_text d.picture d.names

-- The text of the problems of the proves.
abbrev pub system_seen : Asked → List ℕ
system_seen a = system_text (map equations a.problems)

-- The canonical spelling of a file.
abbrev pub shown : File → List ℕ
shown f = show_text f.commands
