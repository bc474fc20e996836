-- Sides of a bridge in which nothing has happened.
use Rattle.std.proofs.Common.{◌≡◌, ℕ, List, [], refl, sym, ap, subst, ◌∙◌, arith}
use Rattle.br_model.specs.Control.Control.{first_control}
use Rattle.br_model.specs.Table.Setup.{Setup}
use Rattle.br_model.specs.Table.Table.{start}
use Rattle.bridge_core.specs.Kept.{Controlled}
use Rattle.plane_parts.specs.Places.{places}
use Rattle.check_world.specs.Cuts.{AreCuts, CutState}
use Rattle.check_world.specs.Points.{IsPoint, PointState}
use Rattle.check_world.specs.Sides.{AreSides}

pub first_stand : (bridge : Controlled) (cuts : List CutState) (noted : List ℕ) (point : PointState) (setup : Setup)
    → bridge ≡ record { setup = setup; history = []; control = first_control setup.own } → AreCuts setup.domains [] cuts → noted ≡ []
    → point ≡ record { table = start; at = 0 } → AreSides bridge cuts noted point
first_stand bridge cuts noted point setup made stand none at = record {
  follows = subst (λ (b : Controlled). AreCuts b.setup.domains b.history cuts) (sym made) stand;
  places = none ∙ sym (ap (λ (b : Controlled). places b.setup.domains.edition b.history) made);
  stands = subst (λ (b : Controlled). IsPoint b.history point) (sym made) (subst (λ (p : PointState). IsPoint [] p) (sym at) (record { table = refl; within = omega arith }));
}
