use Rattle.std.proofs.Common.{◌≡◌, ℕ, [], IfOk, IfSome, ap, subst, ◌∙◌}
use Rattle.br_model.specs.Table.Domains.{Domains}
use Rattle.br_model.specs.Plane.World.{first_world}
use Rattle.br_model.specs.Table.Setup.{Setup}
use Rattle.plane_core.specs.Planes.{PlaneState}
use Rattle.plane_record.specs.Pasts.{Past}
use Rattle.table_publish.specs.Object.{Whose}
use Rattle.live_workers.specs.Results.{IsTaken}
use Rattle.live_workers.proofs.run.take_by_workers.Goals as goal

-- the run has the setup that it was given

own_setup : (domains copy : Domains) (own : ℕ) (plane : PlaneState) (run : Past) (board : Whose) → copy ≡ domains
    → plane ≡ record { world = first_world (record { domains = copy; own = own }); board = board }
    → run ≡ record { board = plane.board; setup = plane.world.setup; steps = [] } → run.setup ≡ record { domains = domains; own = own }
own_setup domains copy own plane run board same made begun =
    ap (λ (p : Past). p.setup) begun ∙ (ap (λ (s : PlaneState). s.world.setup) made ∙ (λ i. record { domains = same i; own = own }))

pub returns : goal.returns
returns g c =
    subst (λ (s : Setup). IfOk c.take_named.result (λ taken. IfSome taken (IsTaken s c.args.steps.now)))
    (own_setup c.args.domains.now c.again.result c.args.own c.in_ok-plane.plane c.make.result c.in_ok-plane.seats.board c.again.ensures c.in_ok-plane.ensures.plane c.make.ensures) c.take_named.ensures
