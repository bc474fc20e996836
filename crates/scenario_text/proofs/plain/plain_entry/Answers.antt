use Rattle.std.proofs.Common.{◌≡◌, ℕ, nat_le, ◌&&◌, if◌then◌else◌, Some, None, subst}
use Rattle.br_model.specs.Table.Domains.{last_port}
use Rattle.br_model.specs.Text.Roster.{has_number}
use Rattle.scenario_text.proofs.PlainLines.{entered}
use Rattle.scenario_text.proofs.plain.plain_entry.Goals as goal

pub returns-clause-says : goal.returns-clause-says
returns-clause-says c =
    entered c.args.r.now c.args.entry.now c.in_ok-found.found.1.now c.in_ok-found.found.0 c.in_ok-port.port c.in_ok-bytes.bytes c.requires
    c.in_ok-found.ensures
    (subst (λ (n : ℕ). Some c.in_ok-port.port ≡ (if nat_le n last_port && has_number c.args.r.now.ports n then Some n else None)) c.in-Ok.ensures.1 c.in_ok-port.ensures)
    c.in_ok-bytes.ensures.spelled c.in_ok-bytes.ensures.some
