use Rattle.std.specs.Prelude.{length}
use Rattle.proof_log.specs.Headings.{share_of}
use Rattle.log_checker.proofs.Fits.{log_accepted, log_goes, accepted-written}
use Rattle.log_checker.proofs.laws.fitting_is_accepted.Goals as goal

pub returns-clause-fits : goal.returns-clause-fits
returns-clause-fits c h log stated w = ((λ r. log_accepted h log r.0 stated w r.1), (λ a. log_goes h log stated a))

pub returns-clause-goes : goal.returns-clause-goes
returns-clause-goes c h log stated a = (accepted-written h.version (share_of h.fuel (length log)) log a, log_goes h log stated a)
