-- What `sample` answers of the bytes of a file: for each prove a line that tells the point on the generic branch of its proof.
use Rattle.std.specs.Prelude.{ℕ, ◌+◌, ℤ, List, [], ◌∷◌, ◌++◌, map, Result, Ok, codes, decimal}
use Rattle.std.specs.Fmt.{signed_decimal}
use Rattle.std.specs.List.{flat_map}
use Rattle.gcl_reader.specs.Grammar.{◌>>=◌}
use Rattle.gcl_reader.specs.declared.refusal.Refusal.{Refusal}
use Rattle.proof_log.specs.declared.log.Proof.{Proof}
use Rattle.sample_point.specs.Sampling.{found_of}
use Rattle.sample_point.specs.declared.found.Found.{Found}
use Rattle.sample_point.specs.declared.found.Found.TheVariants as found
use Rattle.command_line.specs.Proving.{proofs_of}
use Rattle.command_line.specs.declared.sampling.Samples.{Samples}

-- A blank and a number.
abbrev pub value_text : ℤ → List ℕ
value_text z = codes " " ++ signed_decimal z

-- The values of the variables in their order.
abbrev pub values_text : List ℤ → List ℕ
values_text point = flat_map value_text point

-- `sample V1 V2 ..`, `refuted C V1 V2 ..` with the number of the conclusion, or `nothing`.
abbrev pub found_text : Found → List ℕ
found_text (found.Sample point) = codes "sample" ++ values_text point
found_text (found.Refuted k point) = codes "refuted " ++ decimal k ++ values_text point
found_text found.Nothing = codes "nothing"

-- `prove K: F`
abbrev pub sample_line : ℕ → Found → List ℕ
sample_line k f = codes "prove " ++ decimal k ++ codes ": " ++ found_text f ++ codes "\n"

-- A line for each of these. They are numbered from k on.
abbrev pub samples_from : ℕ → List Found → List ℕ
samples_from k [] = []
samples_from k (f ∷ fs) = sample_line k f ++ samples_from (k + 1) fs

-- What is found of proofs.
abbrev pub all_found : List Proof → List Found
all_found = map (λ (p : Proof). found_of p.problem p.tree.pieces)

-- `sample`: a line for each prove of the file.
unfoldable pub sample_of : List ℕ → Result (List ℕ) Refusal
sample_of bytes = do
  proofs ← proofs_of bytes
  Ok (samples_from 1 (all_found proofs))

-- The text of what was found.
abbrev pub samples_seen : Samples → List ℕ
samples_seen s = samples_from 1 s.found
