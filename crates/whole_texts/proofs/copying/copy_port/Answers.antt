use Rattle.std.proofs.Common.{ℕ, ◌∙◌, ap, Option, unwrap_or}
use Rattle.std.proofs.lemmas.Bool.{false≢true}
use Rattle.std.proofs.lemmas.Result.{on_ok_weaker}
use Rattle.br_model.specs.Table.Domains.{software}
use Rattle.scenario_text.proofs.Declared.{declared_at}
use Rattle.whole_texts.proofs.Rosters.{declares_next, may_declare, made, told_at}
use Rattle.whole_texts.proofs.copying.copy_port.Goals as goal

pub unreachable-requires-in_default-name : goal.unreachable-requires-in_default-name
unreachable-requires-in_default-name c =
    false≢true (c.in_default-name.ensures.found ∙ declared_at c.args.from.now.ports c.args.i c.in-Some.port c.in-Some.ensures.value)

pub declare-requires : goal.declare-requires
declare-requires c =
    may_declare c.args.from.now c.args.to.now c.args.i (made c.of-name.result c.in-Some.port c.unwrap_or-dom.result) c.requires.first c.in-Some.ensures.declared
    (told_at c.args.from.now.edition c.args.from.now.ports c.args.i c.in-Some.port c.unwrap_or-dom.result c.args.domains.now c.of-name.result c.in-Some.ensures.declared c.requires.domains
    c.in-Some.ensures.value (c.unwrap_or-dom.ensures ∙ ap (λ (o : Option ℕ). unwrap_or o software) c.of.ensures.value)
    (c.of-name.ensures ∙ c.in_ok-from_str.ensures.ok ∙ c.in-Some-name.ensures.value))

pub returns : goal.returns
returns c =
    on_ok_weaker c.declare.result
    (λ h.
    h
    ∙ declares_next c.args.from.now c.args.to.now c.args.i c.of-name.result c.in-Some.port c.unwrap_or-dom.result c.requires.first
    (told_at c.args.from.now.edition c.args.from.now.ports c.args.i c.in-Some.port c.unwrap_or-dom.result c.args.domains.now c.of-name.result c.in-Some.ensures.declared c.requires.domains
    c.in-Some.ensures.value (c.unwrap_or-dom.ensures ∙ ap (λ (o : Option ℕ). unwrap_or o software) c.of.ensures.value)
    (c.of-name.ensures ∙ c.in_ok-from_str.ensures.ok ∙ c.in-Some-name.ensures.value)))
    c.declare.ensures.ok
