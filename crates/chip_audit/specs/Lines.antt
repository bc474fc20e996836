-- What `audit` writes of the world at the end of a run.
-- Source: this profile, in the manner of iproute2's bridge (`fdb show`, which says `offload`).
use Rattle.std.specs.Prelude.{ℕ, Bool, true, false, List, [], ◌∷◌, ◌++◌, codes}
use Rattle.std.specs.Fmt.{decimal}
use Rattle.std.specs.List.{flat_map}
use Rattle.std.specs.Option.{option_map_or}
use Rattle.br_model.specs.Plane.World.{World, chip_at}
use Rattle.br_model.specs.Program.Runs.{run_of}
use Rattle.br_model.specs.Table.Domains.{chip_domains}
use Rattle.br_model.specs.Text.Roster.{Entry}
use Rattle.br_model.specs.Text.Scenario.{Scenario, Ending, Going, Ended, Bad, scenario}
use Rattle.br_model.specs.Text.Spelling.{mac_text, kind_word, device_text}
use Rattle.br_model.specs.Text.Transcript.{bad_text}
use Rattle.neigh_netlink.specs.Neighbours.{Key}
use Rattle.chip_audit.specs.declared.entries.Found.{Found}
use Rattle.chip_audit.specs.Audits.{Row, Audited, audit_of}

-- an entry
abbrev pub entry_text : List Entry → Row → List ℕ
entry_text ports e =
    mac_text e.0.1 ++ (codes " dev " ++ (device_text ports e.1.0 ++ (codes " vlan " ++ (decimal e.0.0 ++ (32 ∷ kind_word e.1.1)))))

abbrev pub offload_word : Bool → List ℕ
offload_word true = codes " offload"
offload_word false = codes " pending"

-- of the bridge
abbrev pub entry_line : List Entry → Key × Found → List ℕ
entry_line ports e = codes "entry " ++ (entry_text ports (e.0, (e.1.port, e.1.kind)) ++ (offload_word e.1.offloaded ++ 10 ∷ []))

-- a stale one of the chip
abbrev pub stale_line : List Entry → Row → List ℕ
stale_line ports e = codes "stale " ++ (entry_text ports e ++ 10 ∷ [])

-- the audit of the chip of a domain
abbrev pub audit_lines : List Entry → ℕ → Audited → List ℕ
audit_lines ports dom a =
    codes "domain " ++ (decimal dom ++ (10 ∷ (flat_map (entry_line ports) a.entries
    ++ (flat_map (stale_line ports) a.stale ++ (codes "pending " ++ (decimal a.waiting ++ 10 ∷ []))))))

abbrev pub domain_lines : List Entry → World → ℕ → List ℕ
domain_lines ports w dom = option_map_or (λ c. audit_lines ports dom (audit_of w c)) (chip_at w dom) []

-- those of all domains that have a chip, ascending
abbrev pub world_lines : List Entry → World → List ℕ
world_lines ports w = flat_map (domain_lines ports w) (chip_domains w.setup.domains)

abbrev pub audited_text : List Entry → World → List ℕ
audited_text ports w = world_lines ports w ++ (codes "end" ++ 10 ∷ [])

-- the audit at the end of the run, where the scenario ends well
abbrev pub audited_at : Ending → Scenario → List ℕ
audited_at Going s = []
audited_at Ended s = audited_text s.roster.ports (run_of s).0
audited_at (Bad n why) s = bad_text n why

-- what `audit` writes for the bytes of a scenario
unfoldable pub audited : List ℕ → List ℕ
audited bytes = let s = scenario bytes in audited_at s.ending s
