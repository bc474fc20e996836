-- What becomes of a bridge's sides when it reacts.
use Rattle.std.proofs.Common.{◌≡◌, ℕ, List, length, take, sym, ap, subst, ◌∙◌, arith, length-append}
use Rattle.std.proofs.lemmas.List.{take-append-le}
use Rattle.br_model.specs.declared.change.Change.{Change}
use Rattle.br_model.specs.Control.Reaction.{Reaction}
use Rattle.br_model.specs.Table.Domains.{Domains}
use Rattle.br_model.specs.Table.Table.{table}
use Rattle.bridge_core.specs.Kept.{Controlled}
use Rattle.check_world.specs.Points.{IsPoint, PointState}
use Rattle.plane_reactions.proofs.Following.{before, reacted}
use Rattle.check_world.specs.Cuts.{AreCuts, CutState}
use Rattle.plane_parts.specs.Places.{places}
use Rattle.check_world.specs.Sides.{AreSides}

module _ (old new : Controlled) (chips : List CutState) (noted : List ℕ) (point : PointState) (r : Reaction) (from : ℕ) (are : AreSides old chips noted point) (is : new ≡ reacted old r)
    (at : from ≡ length old.history) where
  -- the chips before the reaction follow the front that was there, and its places are noted
  pub chips_before : AreCuts new.setup.domains (take from new.history) chips
  chips_before = before (λ (d : Domains) (h : List Change). AreCuts d h chips) old new r from is at are.follows

  pub places_before : noted ≡ places new.setup.domains.edition (take from new.history)
  places_before = before (λ (d : Domains) (h : List Change). noted ≡ places d.edition h) old new r from is at are.places

  -- the point's table is still of its first changes
  point_after : IsPoint new.history point
  point_after = subst (λ (h : List Change). IsPoint h point) (sym (ap (λ (b : Controlled). b.history) is)) (record {
    table = are.stands.table ∙ ap table (sym (take-append-le point.at old.history r.changes are.stands.within));
    within = omega (arith, are.stands.within, length-append old.history r.changes);
  })

  -- all of them, once they followed
  pub sides_after : (chips_new : List CutState) (noted_new : List ℕ) → AreCuts new.setup.domains new.history chips_new → noted_new ≡ places new.setup.domains.edition new.history
      → AreSides new chips_new noted_new point
  sides_after chips_new noted_new follows places = record { follows = follows; places = places; stands = point_after }
