use Rattle.std.proofs.Common.{ℕ, List, [], ◌∷◌, ◌++◌, ap, string_bytes, ◌∙◌, arith}
use Rattle.std.specs.List.{filter, flat_map}
use Rattle.std.proofs.lemmas.List.{take_all}
use Rattle.br_model.specs.Table.Domains.{has_chip}
use Rattle.chip_audit.specs.Lines.{domain_lines}
use Rattle.br_model.proofs.Table.ChipLists.{existing}
use Rattle.chip_audit.proofs.LinesMore.{numbers-more}
use Rattle.chip_audit.proofs.lines.append_audit.Goals as goal

pub loop-number-preserved : goal.loop-number-preserved
loop-number-preserved c = (
  omega arith,
  numbers-more (domain_lines c.args.roster.now.ports c.args.plane.now.world) (λ k. has_chip c.args.plane.now.world.setup.domains k) c.loop-number.number (string_bytes c.args.to.now)
      (string_bytes c.loop-number.to)
      (string_bytes c.append_numbered.new.to) c.loop-number.invariant.0 c.loop-number-test.true c.loop-number.invariant.1 c.in_ok-append_numbered.ensures,
)

pub returns : goal.returns
returns c =
    let domains = c.args.plane.now.world.setup.domains in
    let old = string_bytes c.args.to.now in
    let lines : ℕ → List ℕ = domain_lines c.args.roster.now.ports c.args.plane.now.world in
    c.loop-number.invariant.1
    ∙ ap (λ (ks : List ℕ). old ++ flat_map lines (filter (λ k. has_chip domains k) ks)) (take_all _ (1 ∷ 2 ∷ 3 ∷ 4 ∷ []) (omega (arith, c.loop-number-test.false)))
    ∙ ap (λ (ks : List ℕ). old ++ flat_map lines ks) (existing domains)
