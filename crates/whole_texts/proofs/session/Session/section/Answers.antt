use Rattle.std.proofs.Common.{Err, ap, ◌∙◌}
use Rattle.std.proofs.lemmas.Result.{err_from_is_err_and}
use Rattle.whole_texts.specs.Sessions.{IsSectionWanted, RefusesSection, end_of}
use Rattle.whole_texts.proofs.Sessions.{refused, section_awaiting, takes_section}
use Rattle.whole_texts.proofs.session.Session.section.Goals as goal

pub returns-in_err-admit_section : goal.returns-in_err-admit_section
returns-in_err-admit_section c =
    let old = c.args.self.now in
    let section = c.args.section.now in
    let err = err_from_is_err_and c.from_residual.result c.from_residual.ensures.1 in
    refused old section (IsSectionWanted old section) (RefusesSection old section) _ c.from_residual.result (err.1 ∙ ap Err err.2) c.in_err-admit_section.ensures

pub end_section-requires-clause-steady : goal.end_section-requires-clause-steady
end_section-requires-clause-steady c = (section_awaiting c.args.self.now c.args.section.now c.requires c.in_ok-admit_section.ensures).0

pub end_section-requires-clause-lines : goal.end_section-requires-clause-lines
end_section-requires-clause-lines c = (section_awaiting c.args.self.now c.args.section.now c.requires c.in_ok-admit_section.ensures).1

pub end_section-requires-clause-most : goal.end_section-requires-clause-most
end_section-requires-clause-most c = (section_awaiting c.args.self.now c.args.section.now c.requires c.in_ok-admit_section.ensures).2

pub end_section-requires-clause-behind : goal.end_section-requires-clause-behind
end_section-requires-clause-behind c = (section_awaiting c.args.self.now c.args.section.now c.requires c.in_ok-admit_section.ensures).3

pub returns-in-Ok : goal.returns-in-Ok
returns-in-Ok c =
    let wanted = c.in_ok-admit_section.ensures in (wanted, takes_section c.args.self.now c.args.section.now c.requires wanted c.end_section.new.self c.in-Ok.ensures)

pub returns-in-Err : goal.returns-in-Err
returns-in-Err c = (tt, ap end_of c.in_ok-admit_section.ensures.awaits)
