use Rattle.log_checker.proofs.Listing as listing
use Rattle.log_checker.proofs.lists.are_listed.Goals as goal

pub returns : goal.returns
returns c = listing.at-end c.args.ps.now c.args.listed
