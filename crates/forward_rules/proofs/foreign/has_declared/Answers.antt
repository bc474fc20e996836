use Rattle.std.proofs.Common.{◌≤◌, ◌&&◌, ap, arith, ◌∙◌, sym}
use Rattle.std.specs.Prelude.{is_some}
use Rattle.br_model.specs.Table.Domains.{domain_of, last_port}
use Rattle.forward_rules.proofs.SetLaws.{any-found, any-none, member-within}
use Rattle.forward_rules.proofs.foreign.has_declared.Goals as goal

pub returns-then-is_declared : goal.returns-then-is_declared
returns-then-is_declared c =
    sym (any-found (λ q. is_some (domain_of c.args.domains.now q)) c.args.ports c.loop-number.number (sym c.has.ensures.value ∙ c.if-has.true) (sym c.is_declared.ensures ∙ c.if-is_declared.true))

pub returns : goal.returns
returns c =
    sym (any-none (λ q. is_some (domain_of c.args.domains.now q)) c.args.ports (λ k there.
    let low : k ≤ last_port = member-within c.args.ports k c.requires there in
    sym (ap (λ b. b && is_some (domain_of c.args.domains.now k)) there) ∙ c.loop-number.invariant k (omega arith)))
