-- What the code of texts sees of words and of declared ports.
use Rattle.std.specs.Prelude.{◌≡◌, ◌⊎◌, slice_get, ℕ, Bool, true, false, ◌==◌, if◌then◌else◌, List, [], ◌++◌, take, drop, slice_index_or, string_bytes, String}
use Rattle.std.specs.Borrow.{Bor}
use Rattle.std.specs.Option.{option_map_or}
use Rattle.std.specs.declared.alloc.Global.{Global}
use Rattle.std.specs.declared.option.Option.{Option}
use Rattle.std.specs.declared.option.Option.TheVariants.{None, Some}
use Rattle.std.specs.declared.result.Result.{Result}
use Rattle.std.specs.declared.result.Result.TheVariants.{Ok, Err}
use Rattle.br_model.specs.declared.scenario.LineWhy.{LineWhy}
use Rattle.br_model.specs.declared.scenario.LineWhy.TheVariants as why
use Rattle.br_model.specs.declared.scenario.Place.{Place}
use Rattle.br_model.specs.declared.scenario.Place.TheVariants.{Opening, Header, Declarations, Steps}
use Rattle.br_model.specs.declared.steps.Command.{Command}
use Rattle.br_model.specs.declared.steps.Command.TheVariants.{Link}
use Rattle.br_model.specs.Text.CommandForms.{step, vlans, fdbs, mdbs, trees, ageings, snoopings}
use Rattle.br_model.specs.Text.Forms.{Row, after}
use Rattle.br_model.specs.Text.LineForms.{opening, header, declaration}
use Rattle.br_model.specs.Text.Operands.{port_name}
use Rattle.br_model.specs.Text.Roster.{Entry, Roster}
use Rattle.br_model.specs.Text.Words.{Word}

-- the word of that index; a slice pattern reads its words with this default
abbrev pub word : List (Bor Word) → ℕ → Word
word ws i = (slice_index_or ws i (record { ref_ptr = (0, 0); now = [] })).now

-- an entry of the map of names
abbrev pub entry : String Global × (ℕ × ℕ) → Entry
entry e = record { name = string_bytes e.0; port = e.1.0; dom = e.1.1 }

-- whether a form stands in its place
abbrev pub in_place : Bool → Result (Unit {0}) LineWhy
in_place true = Ok tt
in_place false = Err why.Place

-- whether a form stands that may come first where a scenario has reached the first place
abbrev pub stands_at : Place → Place → Bool
stands_at Opening now = opening now
stands_at Header now = header now
stands_at Declarations now = declaration now
stands_at Steps now = step now

-- the answer, or that there was no memory
abbrev pub OrNoMemory : {A : Type 0} → Result A LineWhy → Result A LineWhy → Type 0
OrNoMemory result answer = (result ≡ Err why.NoMemory) ⊎ (result ≡ answer)

abbrev pub is_port_at : List Entry → ℕ → ℕ → Bool
is_port_at ports i n = option_map_or (λ e. e.port == n) (slice_get ports i) false

abbrev pub is_domain_at : List Entry → ℕ → ℕ → Bool
is_domain_at ports i dom = option_map_or (λ e. e.dom == dom) (slice_get ports i) false

-- what a form says where it stands in its place
abbrev pub placed : {A : Type 0} → Roster → Result A LineWhy → Result A LineWhy
placed r said = if step r.place then said else Err why.Place

-- what `link` says of a port's name and a flag, if its name is one
abbrev pub switched : Roster → Word → Option ℕ → Bool → Result Command LineWhy
switched r name None on = Err why.Word
switched r name (Some flag) on = placed r (after (port_name r.ports name) (λ port. Ok (Link port flag on)))

-- the forms of `vlan add`, and those after them
abbrev pub unmarked : List (Row Command)
unmarked = take 1 vlans

abbrev pub marked_once : List (Row Command)
marked_once = take 2 (drop 1 vlans)

abbrev pub marked_twice : List (Row Command)
marked_twice = take 1 (drop 3 vlans)

abbrev pub vlan_adds : List (Row Command)
vlan_adds = take 4 vlans

abbrev pub vlan_dels : List (Row Command)
vlan_dels = drop 4 vlans

-- the forms of `fdb add`, and those after them
abbrev pub fdb_adds : List (Row Command)
fdb_adds = take 3 fdbs

abbrev pub fdb_dels : List (Row Command)
fdb_dels = drop 3 fdbs

-- the commands after those of ports, VLANs and addresses
abbrev pub later_commands : List (Row Command)
later_commands = mdbs ++ (trees ++ (ageings ++ snoopings))
