-- The texts of the commands: each stage takes what the one before it gives, and the first that refuses decides.
use Rattle.std.specs.Prelude.{ℕ, List, Result, Ok}
use Rattle.gcl_reader.specs.Grammar.{◌>>=◌, file_of}
use Rattle.gcl_reader.specs.Show.{show_text}
use Rattle.gcl_reader.specs.declared.refusal.Refusal.{Refusal}
use Rattle.gcl_names.specs.Program.{program_of}
use Rattle.algebraize.specs.Problem.{problems_of}
use Rattle.algebraize.specs.System.{system_text}
use Rattle.construct.specs.Placing.{spots_of}
use Rattle.picture.specs.Drawing.{picture_of}
use Rattle.svg_out.specs.Svg.{svg_text}
use Rattle.latex_out.specs.Latex.{latex_text}

-- `svg`: the picture of the program, as SVG.
unfoldable pub svg_of : List ℕ → Result (List ℕ) Refusal
svg_of bytes = do
  program ← program_of bytes
  spots ← spots_of program.acts
  Ok (svg_text (picture_of program.acts spots) program.points)

-- `latex`: the picture of the program, for LaTeX.
unfoldable pub latex_of : List ℕ → Result (List ℕ) Refusal
latex_of bytes = do
  program ← program_of bytes
  spots ← spots_of program.acts
  Ok (latex_text (picture_of program.acts spots) program.points)

-- `system`: the equations of each prove.
unfoldable pub system_of : List ℕ → Result (List ℕ) Refusal
system_of bytes = do
  program ← program_of bytes
  problems ← problems_of program.acts
  Ok (system_text problems)

-- `show`: the canonical spelling of the file.
unfoldable pub show_of : List ℕ → Result (List ℕ) Refusal
show_of bytes = do
  commands ← file_of bytes
  Ok (show_text commands)
