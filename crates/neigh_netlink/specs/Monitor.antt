-- The messages of a run: one for each change of an address entry, and one more where a chip has applied the last such change.
-- Source: the kernel's net/bridge/br_fdb.c (fdb_notify: RTM_NEWNEIGH and RTM_DELNEIGH of each change) and switchdev.rst
-- (SWITCHDEV_FDB_OFFLOADED, by which a driver tells that the chip has the entry); the lines and the tickets are this profile's.
use Rattle.std.specs.Prelude.{ℕ, ◌==◌, Bool, true, false, ◌&&◌, if◌then◌else◌, List, [], ◌∷◌, ◌++◌, codes}
use Rattle.std.specs.List.{flat_map, fold}
use Rattle.std.specs.Option.{option_and_then, option_map, option_map_or, option_to_list}
use Rattle.std.specs.declared.option.Option.{Option}
use Rattle.std.specs.declared.option.Option.TheVariants.{None, Some}
use Rattle.br_model.specs.declared.change.Change.{Change}
use Rattle.br_model.specs.declared.change.Kind.{Kind}
use Rattle.br_model.specs.declared.domains.Edition.{Edition}
use Rattle.br_model.specs.declared.steps.Step.{Step}
use Rattle.br_model.specs.Data.Digits.{hex_of}
use Rattle.br_model.specs.Data.Maps.{pair_cmp, get}
use Rattle.br_model.specs.Plane.Chip.{Chip}
use Rattle.br_model.specs.Plane.Steps.{world_step}
use Rattle.br_model.specs.Plane.Traits.{traits}
use Rattle.br_model.specs.Plane.World.{World, first_world, chip_at, next_of}
use Rattle.br_model.specs.Program.Runs.{setup_of}
use Rattle.br_model.specs.Table.Change.{address_part}
use Rattle.br_model.specs.Table.Cut.{deferred_count}
use Rattle.br_model.specs.Table.DomainPorts.{is_in_domain}
use Rattle.br_model.specs.Table.Setup.{Setup}
use Rattle.br_model.specs.Table.Table.{table}
use Rattle.br_model.specs.Text.Scenario.{Scenario, Ending, Going, Ended, Bad, scenario}
use Rattle.br_model.specs.Text.Transcript.{bad_text}
use Rattle.br_model.specs.Theorems.Applied.{accepted_in}
use Rattle.neigh_netlink.specs.declared.neigh.Neigh.{Neigh}
use Rattle.neigh_netlink.specs.Messages.{written}
use Rattle.neigh_netlink.specs.Neighbours.{Key}
use Rattle.neigh_netlink.specs.Offloaded.{last_update}

-- A change is accepted, behind a history. Its ticket, if it is of an address, is how many deferred changes were before it.

-- an entry that came or changed
abbrev pub put_message : ℕ → Key → ℕ × Kind → Bool → Neigh
put_message ticket key e offload =
    record { new = true; ticket = ticket; vid = key.0; mac = key.1; port = e.0; kind = e.1; offload = offload }

-- an entry that went
abbrev pub gone_message : ℕ → Key → ℕ × Kind → Neigh
gone_message ticket key e =
    record { new = false; ticket = ticket; vid = key.0; mac = key.1; port = e.0; kind = e.1; offload = false }

-- An entry is put at the address, or the one that stands there is deleted: without a message, if none does.
abbrev pub entry_message : ℕ → Key → Option (ℕ × Kind) → Option (ℕ × Kind) → Option Neigh
entry_message ticket key there (Some e) = Some (put_message ticket key e false)
entry_message ticket key there None = option_map (gone_message ticket key) there

abbrev pub message_of : Edition → List Change → Change → Option Neigh
message_of edition history c =
    option_and_then (λ p. entry_message (deferred_count edition history) p.0 (get pair_cmp (table history).addr p.0) p.1) (address_part c)

-- the messages of these changes behind a history, in their order
abbrev pub messages_of : Edition → List Change → List Change → List Neigh
messages_of edition history [] = []
messages_of edition history (c ∷ later) =
    option_to_list (message_of edition history c) ++ messages_of edition (history ++ c ∷ []) later

-- A chip applies a deferred change.

-- whether the last deferred change of the entry has this ticket
abbrev pub is_last : World → Key → ℕ → Bool
is_last w key ticket = option_map_or (λ u. u.ticket == ticket) (last_update w.setup.domains.edition w.history key) false

-- The chip of the port's own domain has the entry now that is put, where no later change is of its address.
abbrev pub offload_message : World → Chip → Key → Option (ℕ × Kind) → Option Neigh
offload_message w chip key None = None
offload_message w chip key (Some e) =
    if is_in_domain w.setup.domains chip.dom e.0 && is_last w key chip.count then Some (put_message chip.count key e true) else None

abbrev pub offloads : World → Chip → Change → Option Neigh
offloads w chip c = option_and_then (λ p. offload_message w chip p.0 p.1) (address_part c)

abbrev pub turned : World → Option Chip → Option Neigh
turned w chip = option_and_then (λ c. option_and_then (offloads w c) (next_of w c)) chip

-- A step: the messages of the changes that it accepts, or of the one that a chip applies.

abbrev pub accepted : World → Step → List Neigh
accepted w step = messages_of w.setup.domains.edition w.history (accepted_in w step)

abbrev pub messages_in : World → Step → List Neigh
messages_in w step = option_map_or (λ dom. option_to_list (turned w (chip_at w dom))) (traits step).turn (accepted w step)

abbrev pub monitors : World × List Neigh → Step → World × List Neigh
monitors x step = ((world_step x.0 step).0, x.1 ++ messages_in x.0 step)

-- the messages of the run of these steps, in its order
unfoldable pub messages : Setup → List Step → List Neigh
messages setup steps = (fold monitors (first_world setup, []) steps).1

-- What is written of a run.

abbrev pub message_line : Neigh → List ℕ
message_line m = codes "nl " ++ (hex_of (written m) ++ 10 ∷ [])

-- a line for each message, and a last line, where the scenario ends well
abbrev pub monitored_at : Ending → Scenario → List ℕ
monitored_at Going s = []
monitored_at Ended s = flat_map message_line (messages (setup_of s.roster) s.steps) ++ (codes "end" ++ 10 ∷ [])
monitored_at (Bad n why) s = bad_text n why

-- what `monitor` writes for the bytes of a scenario
unfoldable pub monitored : List ℕ → List ℕ
monitored bytes = let s = scenario bytes in monitored_at s.ending s
