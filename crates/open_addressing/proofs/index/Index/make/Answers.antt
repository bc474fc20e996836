use Rattle.std.proofs.Common.{◌<◌, IfSome, replicate, subst, ap, ◌∙◌}
use Rattle.open_addressing.proofs.Hashed.{slots-shifted}
use Rattle.open_addressing.proofs.index.Index.make.Goals as goal

pub returns-clause-blank : goal.returns-clause-blank
returns-clause-blank c =
    let few = subst (λ o. IfSome o (λ bits. bits < 64)) c.in_ok-bits.ensures.ok_part c.bits_for.ensures.few in
    record {
      some = subst (λ o. IfSome o (λ bits. 0 < bits)) c.in_ok-bits.ensures.ok_part c.bits_for.ensures.some;
      few = few;
      slots = c.in_ok-slots.ensures ∙ ap (λ n. replicate n 0) (slots-shifted c.in_ok-bits.bits few);
      rest = c.in_ok-rest.ensures.items;
    }
