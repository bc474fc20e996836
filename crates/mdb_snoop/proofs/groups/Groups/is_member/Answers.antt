use Rattle.std.proofs.Common.{◌∙◌, ap, sym}
use Rattle.mdb_snoop.specs.Database.{pairs_of_port}
use Rattle.mdb_snoop.specs.Places.{has_some}
use Rattle.mdb_snoop.proofs.Counts.{is-member, no_member}
use Rattle.mdb_snoop.proofs.groups.Groups.is_member.Goals as goal

pub returns-clause-value : goal.returns-clause-value
returns-clause-value c =
    c.has.ensures
    ∙ is-member c.self.inside.counts.counts _ c.args.port c.self.invariant.2
    ∙ ap (λ l. has_some (pairs_of_port l c.args.port)) c.self.view_is

pub returns-clause-none : goal.returns-clause-none
returns-clause-none c = λ none v g. no_member c.args.self.now c.args.port v g (sym (returns-clause-value c) ∙ none)
