-- The tables of a run are those of what was read.
use Rattle.std.proofs.Common.{◌≡◌, ℕ, false, List, Option, None, Some, Result, Ok, Err, IfOk, String, refl, sym, ◌∙◌, ap, string_bytes}
use Rattle.std.specs.declared.alloc.Global.{Global}
use Rattle.br_model.specs.declared.change.Change.{Change}
use Rattle.br_model.specs.declared.listing.Listing.{Listing}
use Rattle.br_model.specs.Plane.World.{World}
use Rattle.br_model.specs.Program.Listings.{listed, listed_at, listing_text}
use Rattle.br_model.specs.Program.Runs.{run_of}
use Rattle.br_model.specs.Table.Table.{table}
use Rattle.br_model.specs.Text.Roster.{Entry, Roster}
use Rattle.br_model.specs.Text.Scenario.{Scenario, Ending, opened, reads, scenario}
use Rattle.scenario_play.specs.Playing.{world_of}
use Rattle.whole_texts.specs.declared.session.Session.{Session}
use Rattle.whole_texts.specs.Sessions.{Agrees, IsAt}
use Rattle.whole_texts.specs.Stages.{lone}
use Rattle.whole_texts.specs.Tables.{history_of, shown}
use Rattle.whole_texts.proofs.Sessions.{session_agrees}
use Rattle.whole_texts.proofs.Whole.{IsBy}

history_is : (r : Roster) (o : Option World) (w : World) → world_of r o ≡ w → history_of o ≡ w.history
history_is r None w is = ap (λ (v : World). v.history) is
history_is r (Some v) w is = ap (λ (v : World). v.history) is

-- of a scenario
pub listing_is : (listing : Listing) (s : Scenario) (r : Roster) (o : Option World) → Agrees s r (lone o)
    → listing_text listing r.ports (table (history_of o)) ≡ listing_text listing s.roster.ports (table (run_of s).0.history)
listing_is listing s r o h =
    ap (λ (ports : List Entry). listing_text listing ports (table (history_of o))) h.ports
    ∙ ap (λ (history : List Change). listing_text listing s.roster.ports (table history)) (history_is s.roster o (run_of s).0 h.world)

-- in a session
pub session_shown : {E : Type 0} (x : Session) (listing : Listing) (r : Roster) (text : Result (String Global) E) → r ≡ x.play.reader.roster
    → IfOk text (λ t. string_bytes t ≡ listing_text listing r.ports (table (history_of x.stage.world)))
    → IfOk text (λ t. (bytes given : List ℕ) → IsAt bytes given x → string_bytes t ≡ shown listing bytes)
session_shown x listing r (Ok t) same is = λ bytes given h.
    is
    ∙ ap (λ (q : Roster). listing_text listing q.ports (table (history_of x.stage.world))) same
    ∙ listing_is listing (reads (opened false) bytes) x.play.reader.roster x.stage.world (session_agrees x bytes given h)
session_shown x listing r (Err e) same is = tt

-- of a whole scenario

listed_is : (listing : Listing) (bytes : List ℕ) (d : Ending) → (scenario bytes).ending ≡ d → listed_at d listing (scenario bytes) ≡ listed listing bytes
unfolding listed
listed_is listing bytes d e = ap (λ (d : Ending). listed_at d listing (scenario bytes)) (sym e)

pub listed_by : (listing : Listing) → IsBy (listed listing) (λ d s. listed_at d listing s)
listed_by listing = record { is = listed_is listing; bad = λ n why s. refl }
