use Rattle.std.proofs.Common.{◌≡◌, ℕ, List, Ok, IfSome, subst, sym, rules, arith}
use Rattle.br_model.specs.declared.scenario.Said.TheVariants.{Does}
use Rattle.br_model.specs.Text.LineForms.{all_say}
use Rattle.br_model.specs.Text.Words.{words}
use Rattle.scenario_text.proofs.PlainCommands.{link_line, now_line, vlan_line}
use Rattle.std.specs.Prelude.{codes}
use Rattle.std.proofs.lemmas.Slice.Eq.{text_from_reads}
use Rattle.scenario_text.proofs.PlainLines.{serve_says, turn_says, report_says, publish_says}
use Rattle.scenario_text.proofs.plain.plain_step.Goals as goal

pub returns-in-99-clause-says : goal.returns-in-99-clause-says
returns-in-99-clause-says c =
    subst (λ (l : List ℕ). IfSome c.plain_link.result (λ it. all_say c.args.r.now (words l) ≡ Ok (Does it)))
    (sym (link_line c.args.line.now (omega arith) (omega arith) (omega arith) (omega arith) (omega arith) (omega arith) (omega arith) (omega arith) (omega arith) (omega arith)))
    c.plain_link.ensures.says

pub returns-in-99-line-clause-says : goal.returns-in-99-line-clause-says
returns-in-99-line-clause-says c =
    subst (λ (l : List ℕ). IfSome c.plain_vlan.result (λ it. all_say c.args.r.now (words l) ≡ Ok (Does it)))
    (sym (vlan_line c.args.line.now (omega arith) (omega arith) (omega arith) (omega arith) (omega arith) (omega arith) (omega arith) (omega arith) (omega arith) (omega arith)))
    c.plain_vlan.ensures.says

pub returns-in-110-clause-says : goal.returns-in-110-clause-says
returns-in-110-clause-says c =
    subst (λ (l : List ℕ). IfSome c.plain_moment.result (λ it. all_say c.args.r.now (words l) ≡ Ok (Does it)))
    (sym (now_line c.args.line.now (omega arith) (omega arith) (omega arith) (omega arith) (omega arith))) c.plain_moment.ensures.says

pub returns-in-serve-clause-says : goal.returns-in-serve-clause-says
returns-in-serve-clause-says c =
    serve_says c.args.r.now c.args.line.now (search rules) (text_from_reads c.args.line.now (codes "serve") (omega arith) (omega arith, (omega arith, (omega arith, (omega arith, (omega arith, tt))))))

pub returns-in-116-clause-says : goal.returns-in-116-clause-says
returns-in-116-clause-says c =
    turn_says c.args.r.now c.args.line.now (search rules)
    (text_from_reads c.args.line.now (codes "turn 1") (omega arith) (omega arith, (omega arith, (omega arith, (omega arith, (omega arith, (omega arith, tt)))))))

pub returns-in-publish-clause-says : goal.returns-in-publish-clause-says
returns-in-publish-clause-says c =
    publish_says c.args.r.now c.args.line.now (search rules)
    (text_from_reads c.args.line.now (codes "publish") (omega arith) (omega arith, (omega arith, (omega arith, (omega arith, (omega arith, (omega arith, (omega arith, tt))))))))

pub returns-in-114-line-clause-says : goal.returns-in-114-line-clause-says
returns-in-114-line-clause-says c =
    report_says c.args.r.now c.args.line.now (search rules)
    (text_from_reads c.args.line.now (codes "report 1") (omega arith) (omega arith, (omega arith, (omega arith, (omega arith, (omega arith, (omega arith, (omega arith, (omega arith, tt)))))))))
