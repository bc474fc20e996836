use Rattle.std.proofs.Common.{◌++◌, map, ◌∙◌, sym, ap}
use Rattle.mdb_snoop.proofs.Questions.{due-section}
use Rattle.mdb_snoop.proofs.sections.push_section.Goals as goal

pub returns : goal.returns
returns c =
    let key = c.args.members.now.0 in
    c.in_ok-push_all.ensures
    ∙ ap (λ l. c.args.out.now.items ++ map (λ p. (key.0, key.1, p)) l) c.due.ensures.value
    ∙ ap (λ l. c.args.out.now.items ++ l) (sym (due-section c.args.now key c.args.members.now.1))
