-- What leaves the clock as it is, and how late a moment may be.
use Rattle.std.proofs.Common.{◌≡◌, ℕ, ◌<◌, ◌^◌, true, nat_le, refl, arith}
use Rattle.br_model.specs.declared.steps.Command.{Command}
use Rattle.br_model.specs.declared.steps.Command.TheVariants as commands
use Rattle.br_model.specs.Control.Commands.{sets}
use Rattle.br_model.specs.Control.Control.{Control}
use Rattle.br_model.specs.Text.Operands.{last_moment}

pub sets-now : (k : Control) (c : Command) → (sets k c).now ≡ k.now
sets-now k (commands.Ageing seconds) = refl
sets-now k c = refl

pub early : (moment : ℕ) → nat_le moment last_moment ≡ true → moment < 2 ^ 53
early moment h = grind arith
