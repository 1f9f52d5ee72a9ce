-- Bytes that a reading may have given, where it is not known which.
use Rattle.std.proofs.Common.{◌≡◌, ◌<◌, ◌≤◌, ◌+◌, ℕ, List, [], length, Option, None, Some, Result, Ok, Err, refl, arith}
use Rattle.std.specs.Prelude.{replicate}
use Rattle.std.proofs.lemmas.List.{length-replicate}
use Rattle.poly_model.specs.declared.limits.TheConstants.{MOST_LOG_BYTES}
use Rattle.desk_io.specs.Files.{Files, Holds, known_at}
use Rattle.log_checker.specs.Checked.{AreOf, Judged, ReadJudged}
use Rattle.log_checker.specs.declared.checking.Checked.{Checked}
use Rattle.log_checker.specs.declared.fault.CheckFault.{CheckFault}
use Rattle.log_checker.specs.declared.fault.CheckFault.TheVariants as fault

-- the file's, where it is told
told_bytes : (known : Option (Option (List ℕ))) → (bytes : List ℕ) × ((file : List ℕ) → known ≡ Some (Some file) → bytes ≡ file)
told_bytes None = ([], λ file e. cc)
told_bytes (Some None) = ([], λ file e. cc)
told_bytes (Some (Some bytes)) = (bytes, λ file e. cc)

pub some_bytes : (held : Option Files) (name : List ℕ) → (bytes : List ℕ) × AreOf held name bytes
some_bytes held name = told_bytes (known_at held name)

-- more bytes than a file may have
pub record Many (held : Option Files) (name : List ℕ) (most : ℕ) : Type 0 where
  pub bytes : List ℕ
  pub own : AreOf held name bytes
  pub many : most < length bytes

abbrev OfKnown : Option (Option (List ℕ)) → ℕ → Type 0
OfKnown known most = (bytes : List ℕ) × ((file : List ℕ) → known ≡ Some (Some file) → bytes ≡ file) × (most < length bytes)

zeros_above : (most : ℕ) → (bytes : List ℕ) × (most < length bytes)
zeros_above most = (replicate (most + 1) 0, omega (arith, length-replicate {A = ℕ} (most + 1) 0))

told_many : (known : Option (Option (List ℕ))) (most : ℕ) → ((file : List ℕ) → known ≡ Some (Some file) → most < length file) → OfKnown known most
told_many None most larger = let z = zeros_above most in (z.0, (λ file e. cc), z.1)
told_many (Some None) most larger = let z = zeros_above most in (z.0, (λ file e. cc), z.1)
told_many (Some (Some bytes)) most larger = (bytes, (λ file e. cc), larger bytes refl)

pub many_bytes : (held : Option Files) (name : List ℕ) (most : ℕ) → ((file : List ℕ) → Holds held name file → most < length file) → Many held name most
many_bytes held name most larger =
    let m = told_many (known_at held name) most larger in
    record { bytes = m.0; own = m.1; many = m.2 }

-- what is answered of bytes that are at hand
pub of_bytes : (result : Result Checked CheckFault) (bytes : List ℕ) → length bytes ≤ MOST_LOG_BYTES → Judged result bytes → ReadJudged result bytes
of_bytes (Ok checked) bytes fits judged = (fits, judged)
of_bytes (Err (fault.Malformed n)) bytes fits judged = (fits, judged)
of_bytes (Err (fault.Rejected n word)) bytes fits judged = (fits, judged)
of_bytes (Err fault.ReadFault) bytes fits judged = tt
of_bytes (Err fault.TooLarge) bytes fits judged = absurd judged
of_bytes (Err fault.OutOfMemory) bytes fits judged = tt
