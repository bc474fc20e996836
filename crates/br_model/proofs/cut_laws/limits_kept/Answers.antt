use Rattle.br_model.specs.Table.GroupPairs.{max_pairs}
use Rattle.br_model.specs.Table.Limits.{most_addresses}
use Rattle.br_model.proofs.Table.AddressRoom.{few-front}
use Rattle.br_model.proofs.Table.Cuts.{addr-within, pairs-within}
use Rattle.br_model.proofs.Table.GroupRoom.{few_pairs-front}
use Rattle.br_model.proofs.cut_laws.limits_kept.Goals as goal

pub returns : goal.returns
returns c = record {
  addresses = few-front;
  pairs = few_pairs-front;
  cut_addresses = λ edition h k is. addr-within edition most_addresses h k (few-front h is);
  cut_pairs = λ edition h k is. pairs-within edition max_pairs h k (few_pairs-front h is);
}
