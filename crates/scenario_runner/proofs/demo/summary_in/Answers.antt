use Rattle.std.proofs.Common.{◌≡◌, ◌++◌, [], IfOk, List, ℕ, String, string_bytes, refl, ap, ◌∙◌, subst}
use Rattle.std.specs.declared.alloc.Global.{Global}
use Rattle.br_model.specs.declared.steps.Step.{Step}
use Rattle.br_model.specs.Table.Domains.{chip_domains}
use Rattle.br_model.specs.Program.Generator.{made_scenario}
use Rattle.br_model.specs.Plane.World.{World}
use Rattle.br_model.specs.Program.Runs.{setup_of}
use Rattle.br_model.specs.Table.Setup.{Setup}
use Rattle.br_model.proofs.Plane.Applied.{run-setup}
use Rattle.scenario_runner.proofs.Counting.{ran_none, summary_is}
use Rattle.scenario_runner.proofs.demo.summary_in.Goals as goal

pub do_frames-requires : goal.do_frames-requires
do_frames-requires g c =
    let setup = setup_of (made_scenario c.args.number c.args.count).roster in
    let first = c.in_ok-do_steps.ensures setup [] (ran_none setup _ _ c.requires.world (record { chip = refl; soft = refl; tx = refl; overrun = refl })) in
    ap (λ (s : Setup). chip_domains s.domains) (ap (λ (w : World). w.setup) first.world_is ∙ run-setup setup c.in_ok-first.first.items)

pub returns : goal.returns
returns g c =
    let setup = setup_of (made_scenario c.args.number c.args.count).roster in
    let first = c.in_ok-do_steps.ensures setup [] (ran_none setup _ _ c.requires.world (record { chip = refl; soft = refl; tx = refl; overrun = refl })) in
    let all = c.in_ok-do_frames.ensures setup _ first in
    let whole = ap (λ (l : List Step). l ++ c.new-frames.result) c.in_ok-first.ensures ∙ c.new-frames.ensures in
    subst (λ (whole : List ℕ). IfOk c.line.result (λ (t : String Global). string_bytes t ≡ whole))
    (summary_is c.args.number c.args.count _ _ _ _ _ c.requires.count all whole c.changes.ensures c.pending.ensures)
    c.line.ensures
