use Rattle.br_model.proofs.Worked.Groups.{words_read}
use Rattle.br_model.proofs.laws.address_words.Goals as goal

pub returns : goal.returns
returns c = words_read
