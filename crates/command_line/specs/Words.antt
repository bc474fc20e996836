-- The grammar of the command line, and what the words after the program's name ask for. How words are matched with a command, and
-- so what `--` or `--help` does, is clap's own definition.
-- Source: this profile.
use Rattle.std.specs.Prelude.{◌≡◌, ℕ, ◌-◌, ◌^◌, ◌<◌, ◌≤◌, ◌==◌, ⊤, true, List, [], ◌∷◌, Option, Some, None, codes, find, if◌then◌else◌}
use Rattle.std.specs.List.{fold}
use Rattle.std.specs.Option.{option_and_then, option_map}
use Rattle.std.specs.Str.{bytes_eq}
use Rattle.br_model.specs.declared.listing.Listing.{Listing}
use Rattle.br_model.specs.declared.listing.Listing.TheVariants.{Fdb, Vlan, Mdb}
use Rattle.br_model.specs.Data.Digits.{number_up_to}
use Rattle.br_model.specs.Program.Generator.{most_frames}
use Rattle.br_model.specs.Text.IpWords.{address_four, address_six}
use Rattle.br_model.specs.Text.Words.{Word}
use Rattle.mcast_querier.specs.Queries.{is_host_four, is_link_local_six}
use Rattle.clap.specs.Words.{App, Kinds, Row, Rule, first_of, fault_of, new_app, new_rule, subcommand_of, with_rule, with_subcommand}
use Rattle.clap.specs.Simple.{on_top}
use Rattle.command_line.specs.declared.asked.Asked.{Asked}
use Rattle.command_line.specs.declared.asked.Asked.TheVariants.{Replay, Check, Show, Monitor, Audit, Querier, Follow, Live, Gen, Demo}

-- what an operand's word spells

abbrev pub listing : Word → Option Listing
listing word =
    if bytes_eq word (codes "fdb") then Some Fdb else
    if bytes_eq word (codes "vlan") then Some Vlan else
    if bytes_eq word (codes "mdb") then Some Mdb else
    None

-- the generator's first state
abbrev pub number : Word → Option ℕ
number = number_up_to (2 ^ 64 - 1)

-- the number of frames
abbrev pub count : Word → Option ℕ
count = number_up_to most_frames

-- the most workers
abbrev pub most_workers : ℕ
most_workers = 16

abbrev pub unless_none : ℕ → Option ℕ
unless_none n = if n == 0 then None else Some n

-- the number of workers, at least one
abbrev pub workers : Word → Option ℕ
workers word = option_and_then unless_none (number_up_to most_workers word)

-- what the words of a command's operands spell: a row holds the word of one

abbrev pub operand : {A : Type 0} → Word → (Word → Option A) → List Row → Option A
operand name spelled rows = option_and_then spelled (first_of name rows)

abbrev pub pair : Option ℕ → Option ℕ → Option (ℕ × ℕ)
pair None k = None
pair (Some n) None = None
pair (Some n) (Some k) = Some (n, k)

-- the addresses of a querier

-- the address of a host of version 4, in dotted decimal
abbrev pub host_four : Word → Option ℕ
host_four word = option_and_then (λ n. if is_host_four n then Some n else None) (address_four word)

-- a link-local address of version 6, in eight groups of four hexadecimal digits
abbrev pub link_local_six : Word → Option ℕ
link_local_six word = option_and_then (λ n. if is_link_local_six n then Some n else None) (address_six word)

abbrev pub addresses : List Word
addresses = codes "four" ∷ codes "six" ∷ []

abbrev pub addresses_of : List Row → Option (ℕ × ℕ)
addresses_of rows = pair (operand (codes "four") host_four rows) (operand (codes "six") link_local_six rows)

abbrev pub table : List Word
table = codes "table" ∷ []

abbrev pub table_of : List Row → Option Listing
table_of = operand (codes "table") listing

abbrev pub number_count : List Word
number_count = codes "number" ∷ codes "count" ∷ []

abbrev pub number_count_of : List Row → Option (ℕ × ℕ)
number_count_of rows = pair (operand (codes "number") number rows) (operand (codes "count") count rows)

abbrev pub worker_count : List Word
worker_count = codes "workers" ∷ []

abbrev pub worker_count_of : List Row → Option ℕ
worker_count_of = operand (codes "workers") workers

-- the grammar

-- a command: its word, the names of its operands, those of its options, `--NAME WORD`, all of which are required, and what it asks for
-- with the words of these
pub record Form : Type 0 where
  pub word : Word
  pub operands : List Word
  pub options : List Word
  pub asks : List Row → Option Asked

abbrev pub form : Word → List Word → (List Row → Option Asked) → Form
form word operands asks = record { word = word; operands = operands; options = []; asks = asks }

abbrev pub form_with_options : Word → List Word → (List Row → Option Asked) → Form
form_with_options word options asks = record { word = word; operands = []; options = options; asks = asks }

abbrev pub forms : List Form
forms =
    form (codes "replay") [] (λ rows. Some Replay) ∷
    form (codes "check") [] (λ rows. Some Check) ∷
    form (codes "show") table (λ rows. option_map Show (table_of rows)) ∷
    form (codes "monitor") [] (λ rows. Some Monitor) ∷
    form (codes "audit") [] (λ rows. Some Audit) ∷
    form (codes "follow") [] (λ rows. Some Follow) ∷
    form (codes "querier") addresses (λ rows. option_map (λ p. Querier p.0 p.1) (addresses_of rows)) ∷
    form_with_options (codes "live") worker_count (λ rows. option_map (λ n. Live n) (worker_count_of rows)) ∷
    form (codes "gen") number_count (λ rows. option_map (λ p. Gen p.0 p.1) (number_count_of rows)) ∷
    form (codes "demo") number_count (λ rows. option_map (λ p. Demo p.0 p.1) (number_count_of rows)) ∷
    []

-- the same for clap

abbrev pub required : Word → Rule
required name = record (new_rule name) { required = true }

abbrev pub subcommand : Word → List Word → App
subcommand word operands = fold (λ app name. with_rule app (required name)) (new_app word) operands

abbrev pub option : Word → Rule
option name = record (required name) { long = Some name }

abbrev pub with_options : App → List Word → App
with_options app options = fold (λ a name. with_rule a (option name)) app options

-- the words don't begin with the program's name, and one of the commands has to follow
abbrev pub top : App
top = on_top (λ s. record s { no_binary_name = true; subcommand_required = true }) (new_app (codes "switchbr"))

abbrev pub command : App
command = fold (λ app f. with_subcommand app (with_options (subcommand f.word f.operands) f.options).top) top forms

-- what the command of this word asks for, where its operands have these words
abbrev pub asked_with : Word × List Row → Option Asked
asked_with match = option_and_then (λ f. f.asks match.1) (find (λ f. bytes_eq match.0 f.word) forms)

abbrev pub unless_fault : Kinds → Option Asked → Option Asked
unless_fault [] found = found
unless_fault (kind ∷ kinds) found = None

-- what the words ask for; None where clap finds a fault, or an operand isn't spelled as it should be
unfoldable pub asked : List Word → Option Asked
asked words = unless_fault (fault_of command words) (option_and_then asked_with (subcommand_of command words))

-- it asks for no more frames than are generated, for as many workers as there may be, and for a querier at such addresses
abbrev pub IsWithin : Asked → Type 0
IsWithin Replay = ⊤
IsWithin Check = ⊤
IsWithin (Show listing) = ⊤
IsWithin Monitor = ⊤
IsWithin Audit = ⊤
IsWithin Follow = ⊤
IsWithin (Querier four six) = (is_host_four four ≡ true) × (is_link_local_six six ≡ true)
IsWithin (Live workers) = (0 < workers) × (workers ≤ most_workers)
IsWithin (Gen number count) = count ≤ most_frames
IsWithin (Demo number count) = count ≤ most_frames
