-- Steps are the same where `==` says so.
use Rattle.std.proofs.Common.{◌≡◌, true, List, ap, subst, rules}
use Rattle.std.specs.Cmp.Lexicographic.{pointwise_decides}
use Rattle.br_model.specs.contracts.steps.CommandPartialEq.TheImpl.{ghosts as of_commands}
use Rattle.br_model.specs.declared.steps.Command.{Command}
use Rattle.br_model.specs.declared.steps.Command.TheVariants as commands
use Rattle.br_model.specs.declared.steps.Step.{Step}
use Rattle.br_model.specs.declared.steps.Step.TheVariants.{Rx, Cmd}
use Rattle.br_model.specs.Program.SameSteps.{same_step, same_steps}

same_command : (a b : Command) → of_commands.eq a b ≡ true → a ≡ b
same_command (commands.PortUp port) b h = search rules
same_command a b h = search rules

only : (a b : Step) → same_step a b ≡ true → a ≡ b
only (Cmd a) (Cmd b) h = ap (λ (c : Command). Cmd c) (same_command a b h)
only (Rx port bytes) b h = search rules
only a b h = search rules

itself : (a : Step) → same_step a a ≡ true
itself a = search rules

pub step_decides : (a b : Step) → (same_step a b ≡ true → a ≡ b) × (a ≡ b → same_step a b ≡ true)
step_decides a b = (only a b, λ e. subst (λ (s : Step). same_step a s ≡ true) e (itself a))

pub steps_decide : (xs ys : List Step) → (same_steps xs ys ≡ true → xs ≡ ys) × (xs ≡ ys → same_steps xs ys ≡ true)
steps_decide = pointwise_decides step_decides
