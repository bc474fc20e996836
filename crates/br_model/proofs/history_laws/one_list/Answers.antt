use Rattle.std.proofs.lemmas.List.Elements.{recursion_from_All}
use Rattle.br_model.proofs.Data.OneList.{one-list}
use Rattle.br_model.proofs.history_laws.one_list.Goals as goal

pub returns : goal.returns
returns c = λ k m n ks ms ns mk mks nk nks sorted within last. one-list k m n ks ms ns sorted (recursion_from_All _ ms within) last mk nk mks nks
