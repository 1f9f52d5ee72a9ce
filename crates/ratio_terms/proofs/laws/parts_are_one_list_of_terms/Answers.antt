use Rattle.ratio_terms.proofs.Preorder as preorder
use Rattle.ratio_terms.proofs.laws.parts_are_one_list_of_terms.Goals as goal

pub returns : goal.returns
returns g c = record { terms = preorder.parts_terms _; whole = preorder.parts_whole _ }
