use Rattle.std.proofs.Common.{◌≡◌, ◌++◌, List, Option, Some, ap, sym, subst, ◌∙◌}
use Rattle.br_model.specs.declared.transcript.Line.{Line}
use Rattle.br_model.specs.Plane.Steps.{world_step}
use Rattle.br_model.specs.Plane.World.{World, Stepped, first_world}
use Rattle.br_model.specs.Program.Runs.{setup_of}
use Rattle.br_model.specs.Table.Domains.{chip_domains}
use Rattle.br_model.specs.Table.Setup.{Setup}
use Rattle.br_model.specs.Text.Roster.{Roster, chips_of}
use Rattle.br_model.proofs.Text.DeclaredChips.{declared-chips}
use Rattle.scenario_runner.specs.Session.{HasChips}
use Rattle.run_world.specs.Voices.{IsTuned}
use Rattle.scenario_runner.proofs.Ready.{comes_here, ready_after}
use Rattle.scenario_runner.proofs.Speaking.{says_first}
use Rattle.scenario_runner.proofs.session.Session.begin.Goals as goal

pub do_step-requires-clause-by_line : goal.do_step-requires-clause-by_line
do_step-requires-clause-by_line g c =
    let roster = c.roster-roster.result.now in
    let chips =
    ap (λ (w : World). chip_domains w.setup.domains) c.in_ok-world.ensures ∙ ap chip_domains c.domains-domains.ensures.value
    ∙ declared-chips roster.edition roster.ports c.domains-domains.ensures.declared ∙ ap (λ (r : Roster). chips_of r.ports) c.roster-roster.ensures in
    comes_here _ (chips_of c.args.self.now.reader.roster.ports) c.args.step chips c.requires.by_line

pub returns-in-None-clause-ready : goal.returns-in-None-clause-ready
returns-in-None-clause-ready g c =
    let roster = c.roster-roster.result.now in
    let its = c.args.self.now.reader.roster in
    let chips =
    ap (λ (w : World). chip_domains w.setup.domains) c.in_ok-world.ensures ∙ ap chip_domains c.domains-domains.ensures.value
    ∙ declared-chips roster.edition roster.ports c.domains-domains.ensures.declared ∙ ap (λ (r : Roster). chips_of r.ports) c.roster-roster.ensures in
    let ready = ready_after its c.in_ok-world.world c.do_step.new.world c.args.step chips c.requires.behind (ap (λ (x : Stepped). x.0) c.in-Ok.ensures.tells.so) in (
      c.requires.replays,
      subst (λ (o : Option World). HasChips its o) (sym c.replace.ensures.after) ready,
      subst (λ (o : Option World). IsTuned o c.do_step.new.voice) (sym c.replace.ensures.after) c.in-Ok.ensures.tuned,
    )

pub returns-in-None-clause-does : goal.returns-in-None-clause-does
returns-in-None-clause-does g c =
    let begun = c.in_ok-world.ensures ∙ (λ i. first_world (record { domains = c.domains-domains.ensures.value i; own = c.own-own.ensures i })) in
    let here = begun ∙ ap (λ (r : Roster). first_world (setup_of r)) c.roster-roster.ensures in
    let told = c.in-Ok.ensures.tells in
    let stepped : (c.do_step.new.world, told.lines) ≡ world_step (first_world (setup_of c.args.self.now.reader.roster)) c.args.step =
    told.so ∙ ap (λ (w : World). world_step w c.args.step) here in
    let lines = told.added ∙ ap (λ (l : List Line). l ++ told.lines) c.requires.empty in
    (c.replace.ensures.after ∙ ap (λ (x : Stepped). Some x.0) stepped, lines ∙ ap (λ (x : Stepped). x.1) stepped)

pub returns-in-None-clause-says : goal.returns-in-None-clause-says
returns-in-None-clause-says g c = λ s none same said.
    let same_domains = c.domains-domains.ensures.value ∙ sym c.domains.ensures.value in
    let setup : Setup = record { domains = c.domains.result; own = c.own-own.result } in
    let begun = c.in_ok-world.ensures ∙ (λ i. first_world (record { domains = same_domains i; own = c.own-own.result })) in
    let here : setup ≡ setup_of c.roster-roster.result.now = λ i. record { domains = c.domains.ensures.value i; own = c.own-own.ensures i } in
    says_first setup c.args.self.now.voice _ c.do_step.new.voice c.in_ok-world.world c.args.step s begun (here ∙ ap setup_of c.roster-roster.ensures ∙ same)
    (rw c.requires.first at none) said c.in_ok-begin.ensures.says c.in-Ok.ensures.says
