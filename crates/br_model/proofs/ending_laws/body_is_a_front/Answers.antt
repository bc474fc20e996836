use Rattle.br_model.proofs.Text.MoreBytes.{all_parts, body_front, parts_front, parts_stay}
use Rattle.br_model.proofs.ending_laws.body_is_a_front.Goals as goal

pub returns : goal.returns
returns c = record { whole = body_front; parts = parts_front; same = parts_stay; all = all_parts }
