use Rattle.std.proofs.Common.{map, sym, ap, ◌∙◌}
use Rattle.std.specs.Prelude.{◌==◌}
use Rattle.std.specs.List.{list_any}
use Rattle.std.proofs.lemmas.Bool.{not-true}
use Rattle.br_model.specs.Table.Domains.{Domains}
use Rattle.br_model.proofs.Table.DomainChips.{chip-declared}
use Rattle.br_model.proofs.domains.Domains.has_chip.Goals as goal

pub returns-then-ne : goal.returns-then-ne
returns-then-ne c =
    let d = c.args.dom in
    c.is_declared.ensures 0
    ∙ ap (λ (domains : Domains). list_any (λ e. e == d) (map (λ e. e.1) domains.ports)) c.self.view_is
    ∙ sym (chip-declared (map (λ e. e.1) c.args.self.now.ports) d c.number-number.ensures.below (sym c.eq.ensures ∙ c.if-eq.false) (not-true (d == 0) (sym c.ne.ensures ∙ c.if-ne.true)))
