-- The commands of a scenario: the words after `cmd`, a row a form, by their first word; and the form of each command.
-- Source: iproute2's `bridge` and `ip link`; that a port comes up and goes down by `port` is this profile's.
use Rattle.std.specs.Prelude.{ℕ, ◌==◌, Bool, true, false, if◌then◌else◌, List, [], ◌∷◌, ◌++◌, codes}
use Rattle.std.specs.declared.option.Option.{Option}
use Rattle.std.specs.declared.option.Option.TheVariants.{None, Some}
use Rattle.br_model.specs.declared.change.Kind.TheVariants.{Local, Static, Learned, Extern}
use Rattle.br_model.specs.declared.scenario.Place.{Place}
use Rattle.br_model.specs.declared.scenario.Place.TheVariants.{Opening, Header, Declarations, Steps}
use Rattle.br_model.specs.declared.steps.Command.{Command}
use Rattle.br_model.specs.declared.steps.Command.TheVariants.{PortUp, PortDown, Link, Cost, PortPriority, VlanAdd, VlanDel, FdbAdd, FdbDel, MdbAdd, MdbDel, Stp, Priority, Ageing, Snooping}
use Rattle.br_model.specs.Table.Domains.{host}
use Rattle.br_model.specs.Text.Forms.{Row, row, Makes, tokens, operands_from, Form, fills}

-- anywhere after the first line
abbrev pub step : Place → Bool
step Opening = false
step Header = true
step Declarations = true
step Steps = true

abbrev pub cmd : (text : List ℕ) → Makes Command (operands_from 0 (tokens text)) → Row Command
cmd text says = row text step says

abbrev pub port_up : Row Command
port_up = cmd (codes "port up NAME") (λ port. PortUp port)

abbrev pub port_down : Row Command
port_down = cmd (codes "port down NAME") (λ port. PortDown port)

abbrev pub ports : List (Row Command)
ports = port_up ∷ port_down ∷ []

abbrev pub link_on : Row Command
link_on = cmd (codes "link NAME FLAG on") (λ port flag. Link port flag true)

abbrev pub link_off : Row Command
link_off = cmd (codes "link NAME FLAG off") (λ port flag. Link port flag false)

abbrev pub link_cost : Row Command
link_cost = cmd (codes "link NAME cost COST") (λ port n. Cost port n)

abbrev pub link_priority : Row Command
link_priority = cmd (codes "link NAME priority PORTPRIORITY") (λ port n. PortPriority port n)

abbrev pub links : List (Row Command)
links = link_on ∷ link_off ∷ link_cost ∷ link_priority ∷ []

abbrev pub vlan_add : Row Command
vlan_add = cmd (codes "vlan add vid VID dev DEV") (λ vid port. VlanAdd port vid false false)

abbrev pub vlan_add_pvid : Row Command
vlan_add_pvid = cmd (codes "vlan add vid VID dev DEV pvid") (λ vid port. VlanAdd port vid false true)

abbrev pub vlan_add_untagged : Row Command
vlan_add_untagged = cmd (codes "vlan add vid VID dev DEV untagged") (λ vid port. VlanAdd port vid true false)

abbrev pub vlan_add_both : Row Command
vlan_add_both = cmd (codes "vlan add vid VID dev DEV pvid untagged") (λ vid port. VlanAdd port vid true true)

abbrev pub vlan_del : Row Command
vlan_del = cmd (codes "vlan del vid VID dev DEV") (λ vid port. VlanDel port vid)

abbrev pub vlans : List (Row Command)
vlans = vlan_add ∷ vlan_add_pvid ∷ vlan_add_untagged ∷ vlan_add_both ∷ vlan_del ∷ []

abbrev pub fdb_add_local : Row Command
fdb_add_local = cmd (codes "fdb add MAC dev host vlan VID local") (λ mac vid. FdbAdd vid mac host Local)

abbrev pub fdb_add_static : Row Command
fdb_add_static = cmd (codes "fdb add MAC dev NAME vlan VID static") (λ mac port vid. FdbAdd vid mac port Static)

abbrev pub fdb_add_extern : Row Command
fdb_add_extern = cmd (codes "fdb add MAC dev NAME vlan VID extern") (λ mac port vid. FdbAdd vid mac port Extern)

abbrev pub fdb_del : Row Command
fdb_del = cmd (codes "fdb del MAC vlan VID") (λ mac vid. FdbDel vid mac)

abbrev pub fdbs : List (Row Command)
fdbs = fdb_add_local ∷ fdb_add_static ∷ fdb_add_extern ∷ fdb_del ∷ []

abbrev pub mdb_add : Row Command
mdb_add = cmd (codes "mdb add GROUP dev DEV vlan VID") (λ group port vid. MdbAdd port vid group)

abbrev pub mdb_del : Row Command
mdb_del = cmd (codes "mdb del GROUP dev DEV vlan VID") (λ group port vid. MdbDel port vid group)

abbrev pub mdbs : List (Row Command)
mdbs = mdb_add ∷ mdb_del ∷ []

abbrev pub stp_on : Row Command
stp_on = cmd (codes "stp on") (Stp true)

abbrev pub stp_off : Row Command
stp_off = cmd (codes "stp off") (Stp false)

abbrev pub stp_priority : Row Command
stp_priority = cmd (codes "stp priority PRIORITY") (λ n. Priority n)

abbrev pub trees : List (Row Command)
trees = stp_on ∷ stp_off ∷ stp_priority ∷ []

abbrev pub ageing : Row Command
ageing = cmd (codes "ageing SECONDS") (λ seconds. Ageing seconds)

abbrev pub ageings : List (Row Command)
ageings = ageing ∷ []

abbrev pub snooping_on : Row Command
snooping_on = cmd (codes "snooping on") (Snooping true)

abbrev pub snooping_off : Row Command
snooping_off = cmd (codes "snooping off") (Snooping false)

abbrev pub snoopings : List (Row Command)
snoopings = snooping_on ∷ snooping_off ∷ []

abbrev pub commands : List (Row Command)
commands = ports ++ (links ++ (vlans ++ (fdbs ++ (mdbs ++ (trees ++ (ageings ++ snoopings))))))

-- The form that gives a command. Local entries are the host's, and learned ones no command's.
abbrev pub command_form : Command → Option Form
command_form (PortUp port) = Some (fills port_up port)
command_form (PortDown port) = Some (fills port_down port)
command_form (Link port flag true) = Some (fills link_on port flag)
command_form (Link port flag false) = Some (fills link_off port flag)
command_form (Cost port n) = Some (fills link_cost port n)
command_form (PortPriority port n) = Some (fills link_priority port n)
command_form (VlanAdd port vid false false) = Some (fills vlan_add vid port)
command_form (VlanAdd port vid false true) = Some (fills vlan_add_pvid vid port)
command_form (VlanAdd port vid true false) = Some (fills vlan_add_untagged vid port)
command_form (VlanAdd port vid true true) = Some (fills vlan_add_both vid port)
command_form (VlanDel port vid) = Some (fills vlan_del vid port)
command_form (FdbAdd vid mac port Local) = if port == host then Some (fills fdb_add_local mac vid) else None
command_form (FdbAdd vid mac port Static) = Some (fills fdb_add_static mac port vid)
command_form (FdbAdd vid mac port Learned) = None
command_form (FdbAdd vid mac port Extern) = Some (fills fdb_add_extern mac port vid)
command_form (FdbDel vid mac) = Some (fills fdb_del mac vid)
command_form (MdbAdd port vid group) = Some (fills mdb_add group port vid)
command_form (MdbDel port vid group) = Some (fills mdb_del group port vid)
command_form (Stp true) = Some (fills stp_on)
command_form (Stp false) = Some (fills stp_off)
command_form (Priority n) = Some (fills stp_priority n)
command_form (Ageing seconds) = Some (fills ageing seconds)
command_form (Snooping true) = Some (fills snooping_on)
command_form (Snooping false) = Some (fills snooping_off)
