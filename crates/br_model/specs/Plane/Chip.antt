-- A chip: how many deferred changes it has applied, what it reports, and which of its entries frames hit.
-- Source: the kernel's switchdev.rst (deferred work, learning in hardware, ageing in hardware); the queue, the ring of reports
-- and the hits are this profile's.
use Rattle.std.specs.Prelude.{ℕ, ◌+◌, ◌==◌, nat_lt, Bool, false, not, ◌&&◌, ◌||◌, if◌then◌else◌, List, [], ◌∷◌, ◌++◌, length, map}
use Rattle.std.specs.List.{filter, find, list_any}
use Rattle.std.specs.declared.option.Option.{Option}
use Rattle.std.specs.declared.option.Option.TheVariants.{None, Some}
use Rattle.std.specs.Option.{option_map_or}
use Rattle.br_model.specs.declared.change.Asks.{Asks}
use Rattle.br_model.specs.declared.change.Asks.TheVariants.{Nothing, State, GroupRoom, AddressRoom}
use Rattle.br_model.specs.declared.change.Change.{Change}
use Rattle.br_model.specs.declared.domains.Edition.{Edition}
use Rattle.br_model.specs.declared.frame.Head.{Head}
use Rattle.br_model.specs.Forward.Admission.{has_valid_source, vlan_of}
use Rattle.br_model.specs.Table.Change.{asks}
use Rattle.br_model.specs.Table.Cut.{cut}
use Rattle.br_model.specs.Table.DomainPorts.{is_in_domain}
use Rattle.br_model.specs.Table.Domains.{Domains, chip_domains}
use Rattle.br_model.specs.Control.Learning.{Address, Triple, is_extern, is_news, teach}
use Rattle.br_model.specs.Table.Limits.{most_reports}
use Rattle.br_model.specs.Data.Maps.{pair_cmp, get, has, joined}
use Rattle.br_model.specs.Table.Table.{Table, table}

pub record Chip : Type 0 where
  -- the number of its domain
  pub dom : ℕ
  -- how many deferred changes it has applied: the ticket of the next one
  pub count : ℕ
  -- what it saw and didn't tell yet, the oldest first
  pub reports : List Triple
  -- the addresses whose entries were hit since the last sweep, a set
  pub hits : List Address

abbrev pub first_chip : ℕ → Chip
first_chip dom = record { dom = dom; count = 0; reports = []; hits = [] }

-- a chip for each domain that exists, ascending
abbrev pub first_chips : Domains → List Chip
first_chips domains = map first_chip (chip_domains domains)

-- the chip of this domain
abbrev pub chip_in : List Chip → ℕ → Option Chip
chip_in chips dom = find (λ c. c.dom == dom) chips

-- with this one in the place of that of its domain
abbrev pub put_chip : List Chip → Chip → List Chip
put_chip chips c = map (λ x. if x.dom == c.dom then c else x) chips

-- the table by which it decides: that of the synchronous changes and of the deferred ones that it has applied
abbrev pub chip_table : Edition → List Change → Chip → Table
chip_table edition history c = table (cut edition history c.count)

abbrev pub hit : Chip → Address → Chip
hit c key = record c { hits = joined pair_cmp c.hits key }

-- the address that comes, if one does, is hit
abbrev pub hit_asked : Chip → Asks → Chip
hit_asked c Nothing = c
hit_asked c (State state) = c
hit_asked c (GroupRoom vid group) = c
hit_asked c (AddressRoom vid mac) = hit c (vid, mac)

-- an entry that is put is hit
abbrev pub hit_by : Chip → Change → Chip
hit_by c d = hit_asked c (asks d)

-- It applies this deferred change, the next one.
abbrev pub applies : Chip → Change → Chip
applies c d = hit_by (record c { count = c.count + 1 }) d

-- A frame enters.

abbrev pub same_triple : Triple → Triple → Bool
same_triple x y = x.0 == y.0 && (x.1 == y.1 && x.2 == y.2)

-- a report waits, unless it waits already or too many do
abbrev pub offered : Chip → Triple → Chip
offered c x =
    if list_any (same_triple x) c.reports || not (nat_lt (length c.reports) most_reports)
    then c
    else record c { reports = c.reports ++ x ∷ [] }

-- what a frame at the port would teach is a report where it is new
abbrev pub report_of : Table → ℕ → Option Address → Option Address
report_of t port None = None
report_of t port (Some key) = if is_news t key port then Some key else None

-- whether the address has an entry of this port, of any kind
abbrev pub is_at : Table → Address → ℕ → Bool
is_at t key port = option_map_or (λ e. e.0 == port) (get pair_cmp t.addr key) false

abbrev pub hit_in : Table → ℕ → Option ℕ → ℕ → Option Address
hit_in t port None address = None
hit_in t port (Some vid) address = if is_at t (vid, address) port then Some (vid, address) else None

-- what the chip offers to tell of a frame at the port
abbrev pub report : Table → ℕ → Head → Option Address
report t port head = report_of t port (teach t port head)

-- whose entry the frame hits: its source's, where that entry is of the port by which the frame enters
abbrev pub hit_of : Table → ℕ → Head → Option Address
hit_of t port head = if has_valid_source head then hit_in t port (vlan_of t port head) head.src else None

abbrev pub offers : ℕ → Option Address → Chip → Chip
offers port None c = c
offers port (Some key) c = offered c (key.0, key.1, port)

abbrev pub hits_entry : Option Address → Chip → Chip
hits_entry None c = c
hits_entry (Some key) c = hit c key

-- what a frame at the port leaves in the chip, which decides by this table
abbrev pub notes : Table → ℕ → Head → Chip → Chip
notes t port head c = hits_entry (hit_of t port head) (offers port (report t port head) c)

-- A sweep.

-- the entries that a chip learned at its own ports and that no frame hit, ascending
abbrev pub unhit : Domains → Table → Chip → List Triple
unhit domains t c =
    map (λ e. (e.0.0, e.0.1, e.1.0))
    (filter (λ e. is_extern e.1.1 && (is_in_domain domains c.dom e.1.0 && not (has pair_cmp c.hits e.0))) t.addr)
