-- What frames say, computed by the definitions.
use Rattle.std.proofs.Common.{◌≡◌, refl}
use Rattle.br_model.specs.Wire.Messages.{message}
use Rattle.br_model.specs.Worked.Readings.{readings}
use Rattle.br_model.specs.Worked.Frames.{worked_1, worked_1_read, worked_2, worked_2_read, worked_3, worked_3_read, worked_4, worked_4_read}

pub read_worked_1 : readings worked_1 ≡ worked_1_read
unfolding message readings
read_worked_1 = refl

pub read_worked_2 : readings worked_2 ≡ worked_2_read
unfolding message readings
read_worked_2 = refl

pub read_worked_3 : readings worked_3 ≡ worked_3_read
unfolding message readings
read_worked_3 = refl

pub read_worked_4 : readings worked_4 ≡ worked_4_read
unfolding message readings
read_worked_4 = refl
