use Rattle.mcast_querier.proofs.Counted.{four_is_counted, four_is_asked, six_is_counted}
use Rattle.mcast_querier.proofs.laws.queries_are_counted.Goals as goal

pub returns : goal.returns
returns c = record {
  four = λ own source host h. (four_is_counted own source host h, four_is_asked own source host h);
  six = six_is_counted;
}
