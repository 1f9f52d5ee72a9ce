use Rattle.std.proofs.Common.{◌∙◌}
use Rattle.polynomials.proofs.Results as results
use Rattle.log_checker.proofs.Stores as stores
use Rattle.log_checker.proofs.arith.initial_part.Goals as goal

pub part_out-out-requires-clause-p : goal.part_out-out-requires-clause-p
part_out-out-requires-clause-p g c = results.made-poly _ _ _ _ c.initial-whole.ensures

pub give_up-requires : goal.give_up-requires
give_up-requires g c = stores.made-live _ _ _ _ c.copy_in-held.ensures.makes (stores.freed-keeps _ _ _ _ c.initial-whole.ensures.makes c.part_out-out.ensures.given_up)

pub returns-clause-lists : goal.returns-clause-lists
returns-clause-lists g c =
    (stores.made-and-freed _ _ _ _ _ c.copy_in-held.ensures.makes (stores.freed-keeps _ _ _ _ c.initial-whole.ensures.makes c.part_out-out.ensures.given_up) c.give_up.ensures).lists
    ∙ c.make_room.ensures.lists
