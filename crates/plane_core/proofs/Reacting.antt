-- What becomes of a bridge's sides when it reacts.
use Rattle.std.proofs.Common.{◌≡◌, ℕ, List, [], ◌++◌, length, take, drop, Result, Ok, Err, sym, ap, subst, ◌∙◌, append_assoc}
use Rattle.std.proofs.lemmas.List.{take-append-drop}
use Rattle.br_model.specs.declared.change.Change.{Change}
use Rattle.br_model.specs.declared.steps.Refusal.{Refusal}
use Rattle.br_model.specs.declared.transcript.Line.{Line}
use Rattle.br_model.specs.Plane.Chip.{Chip}
use Rattle.br_model.specs.Control.Control.{first_control}
use Rattle.br_model.specs.Control.Reaction.{Reaction}
use Rattle.br_model.specs.Table.Domains.{Domains}
use Rattle.br_model.specs.Table.Setup.{Setup}
use Rattle.bridge_state.specs.declared.faults.EventFault.{EventFault}
use Rattle.bridge_state.specs.declared.faults.EventFault.TheVariants.{Refused, NoMemory}
use Rattle.bridge_core.specs.Kept.{Controlled}
use Rattle.table_publish.specs.Board.{Shelf, all_of}
use Rattle.table_publish.specs.Object.{first_object}
use Rattle.plane_reactions.proofs.Following.{before, front, reacted, same_setup}
use Rattle.plane_reactions.specs.Reacted.{Reacted}
use Rattle.hwdom_chips.specs.Chips.{AreChips, ChipState}
use Rattle.plane_parts.specs.Places.{places}
use Rattle.plane_core.specs.Sides.{SidesState, AreSides, of_sides}

module _ (old new : Controlled) (chips : List ChipState) (noted : List ℕ) (board : Shelf) (r : Reaction) (from : ℕ) (are : AreSides old chips noted board) (is : new ≡ reacted old r)
    (at : from ≡ length old.history) where
  -- the chips before the reaction follow the front that was there, and its places are noted
  pub chips_before : AreChips new.setup.domains (take from new.history) chips
  chips_before = before (λ (d : Domains) (h : List Change). AreChips d h chips) old new r from is at are.follows

  pub places_before : noted ≡ places new.setup.domains.edition (take from new.history)
  places_before = before (λ (d : Domains) (h : List Change). noted ≡ places d.edition h) old new r from is at are.places

  -- all of them, once they followed
  pub sides_after : (chips_new : List ChipState) (noted_new : List ℕ) (board_new : Shelf) → AreChips new.setup.domains new.history chips_new → noted_new ≡ places new.setup.domains.edition new.history
      → board_new ≡ record board { pending = board.pending ++ drop from new.history } → AreSides new chips_new noted_new board_new
  sides_after chips_new noted_new board_new follows places appended =
      let later = drop from new.history in
      record {
        follows = follows;
        places = places;
        whole = ap all_of appended
            ∙ sym (append_assoc board.object.changes board.pending later)
            ∙ ap (λ (h : List Change). h ++ later) (are.whole ∙ sym (front old new r from is at))
            ∙ take-append-drop from new.history;
        domains = ap (λ (b : Shelf). b.board.domains) appended ∙ are.domains ∙ ap (λ (s : Setup). s.domains) (sym (same_setup old new r is));
      }

-- the board stays
pub same_board : (s t : SidesState) (kept : List Chip) (before after : List Line) (outcome : Result ℕ EventFault) (answer : Result Reaction Refusal)
    → Reacted of_sides s t kept before after outcome answer → t.board ≡ s.board
same_board s t kept before after (Ok changes) answer did = ap (λ (x : SidesState). x.board) did.3
same_board s t kept before after (Err (Refused why)) answer did = ap (λ (x : SidesState). x.board) did.1
same_board s t kept before after (Err NoMemory) answer did = ap (λ (x : SidesState). x.board) did.0

-- a bridge in which nothing has happened, with chips and a board of which that is so
pub sides_first : (b : Controlled) (chips : List ChipState) (noted : List ℕ) (board : Shelf) (setup : Setup) → b ≡ record { setup = setup; history = []; control = first_control setup.own }
    → AreChips setup.domains [] chips → noted ≡ [] → board.object ≡ first_object → board.pending ≡ [] → board.board.domains ≡ setup.domains → AreSides b chips noted board
sides_first b chips noted board setup is follows none object pending domains = record {
  follows = subst (λ (x : Controlled). AreChips x.setup.domains x.history chips) (sym is) follows;
  places = none ∙ sym (ap (λ (x : Controlled). places x.setup.domains.edition x.history) is);
  whole = (λ i. (object i).changes ++ pending i) ∙ sym (ap (λ (x : Controlled). x.history) is);
  domains = domains ∙ sym (ap (λ (x : Controlled). x.setup.domains) is);
}
