-- What a call of C has done that asks for an answer, by its status.
use Rattle.std.specs.Prelude.{◌≡◌, ℕ, ◌==◌, true, List, [], ◌∷◌, length, if◌then◌else◌}
use Rattle.std.specs.declared.option.Option.{Option}
use Rattle.std.specs.declared.option.Option.TheVariants.{None, Some}
use Rattle.br_model.specs.declared.listing.Listing.{Listing}
use Rattle.br_model.specs.declared.listing.Listing.TheVariants.{Fdb, Vlan, Mdb}
use Rattle.br_model.specs.Program.Listings.{listed}
use Rattle.br_model.specs.Table.Limits.{most_bytes}
use Rattle.br_model.specs.Text.Scenario.{scenario}
use Rattle.whole_texts.specs.declared.session.Session.{Session}
use Rattle.whole_texts.specs.Sessions.{IsAt}
use Rattle.whole_texts.specs.Tables.{shown}
use Rattle.whole_texts.specs.Texts.{ends_well}
use Rattle.switchbr_c.specs.Calls.{GaveNothing, Tells, is_of}
use Rattle.switchbr_c.specs.Sessions.{IsClosed, IsUntouched}

-- the table with this number
abbrev pub listing_of : ℕ → Option Listing
listing_of table = if table == 0 then Some Fdb else if table == 1 then Some Vlan else if table == 2 then Some Mdb else None

-- A table of a scenario is given.
abbrev pub Shows : Option Listing → List ℕ → List ℕ → List ℕ → ℕ → ℕ → Type 0
Shows None bytes old new len status = (status ≡ 2) × GaveNothing old new len
Shows (Some listing) bytes old new len status = Tells (ends_well (scenario bytes).ending) (listed listing bytes) (length bytes) most_bytes old new len status

-- An answer to what a session has taken is given, and the session is as before.
pub record Asked (x : Session) (answer : List ℕ → List ℕ) (old new : List ℕ) (len : ℕ) (after : Option Session) (status : ℕ) : Type 0 where
  pub same : after ≡ Some x
  pub tells : (bytes given : List ℕ) → IsAt bytes given x → Tells true (answer bytes) 0 0 old new len status
  pub others : is_of (0 ∷ 6 ∷ 16 ∷ []) status ≡ true

abbrev pub Asks : Option Session → (List ℕ → List ℕ) → List ℕ → List ℕ → ℕ → Option Session → ℕ → Type 0
Asks None answer old new len after status = IsClosed old new len after status
Asks (Some x) answer old new len after status = Asked x answer old new len after status

abbrev pub AsksTable : Option Session → Option Listing → List ℕ → List ℕ → ℕ → Option Session → ℕ → Type 0
AsksTable before None old new len after status = (status ≡ 2) × IsUntouched before after old new len
AsksTable before (Some listing) old new len after status = Asks before (shown listing) old new len after status
