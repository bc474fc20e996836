-- The text of a line for each notice: what the drivers are told of a change, by the kernel's names, and when.
-- Source: the kernel's include/net/switchdev.h (the names without SWITCHDEV_, SWITCHDEV_ATTR_ID_ and SWITCHDEV_OBJ_ID_), linux/netdevice.h
-- (NETDEV_UP, NETDEV_GOING_DOWN) and linux/if_bridge.h (BR_STATE_), in lower case; operands as iproute2's bridge has them. That a querier and
-- the spanning tree are told, and the three kinds of lines, is this profile's.
use Rattle.std.specs.Prelude.{ℕ, ◌/◌, ◌%◌, ◌==◌, Bool, not, if◌then◌else◌, List, [], ◌∷◌, ◌++◌, codes}
use Rattle.std.specs.Fmt.{decimal}
use Rattle.std.specs.List.{flat_map}
use Rattle.br_model.specs.declared.change.Change.{Change}
use Rattle.br_model.specs.declared.change.Change.TheVariants.{PortUp, PortDown, SetFlags, SetState, VlanAdd, VlanDel, GroupJoin, GroupPart, Router, Querier, Snoop, Stp, AddrPut, AddrDel}
use Rattle.br_model.specs.declared.group.Group.{Group}
use Rattle.br_model.specs.Program.Listings.{group_text}
use Rattle.br_model.specs.Table.Domains.{host}
use Rattle.br_model.specs.Text.FlagWords.{flags, name_of_flag}
use Rattle.br_model.specs.Text.Roster.{Entry}
use Rattle.br_model.specs.Text.Spelling.{device_text, further, kind_word, mac_text}
use Rattle.br_model.specs.Text.Words.{Word}
use Rattle.driver_notices.specs.declared.line.NoticeLine.{NoticeLine}
use Rattle.driver_notices.specs.declared.line.NoticeLine.TheVariants.{Told, Queued, Applied}

-- The operands.

-- the states of a port, each with its number
abbrev pub states : List (Word × ℕ)
states =
    (codes "disabled", 0) ∷
    (codes "listening", 1) ∷
    (codes "learning", 2) ∷
    (codes "forwarding", 3) ∷
    (codes "blocking", 4) ∷
    []

abbrev pub state_word : ℕ → Word
state_word state = name_of_flag states state

abbrev pub switch_word : Bool → Word
switch_word on = if on then codes "on" else codes "off"

-- whether the flag with this bit is among them
abbrev pub is_among : ℕ → ℕ → Bool
is_among these flag = these / flag % 2 == 1

-- the name of each flag that is on, with a space before it, from the lowest bit
abbrev pub flags_text : ℕ → List ℕ
flags_text these = flat_map (λ f. further (is_among these f.1) f.0) flags

-- the version of IP
abbrev pub version_word : Bool → Word
version_word six = if six then codes "6" else codes "4"

-- the host's own memberships are objects of another kind
abbrev pub group_object : ℕ → Word
group_object port = if port == host then codes "host_mdb " else codes "port_mdb "

-- a member of a group, with the line feed
abbrev pub member_object : List Entry → ℕ → ℕ → Group → List ℕ
member_object ports port vid group =
    group_object port ++ (group_text group ++ (codes " dev " ++ (device_text ports port ++ (codes " vlan " ++ (decimal vid ++ 10 ∷ [])))))

-- What the drivers are told of a change, with the line feed. Where the kernel tells nothing, the row has none of its names.
abbrev pub notice_text : List Entry → Change → List ℕ
notice_text ports (PortUp port) = codes "netdev_up dev " ++ (device_text ports port ++ 10 ∷ [])
notice_text ports (PortDown port) = codes "netdev_going_down dev " ++ (device_text ports port ++ 10 ∷ [])
notice_text ports (SetFlags port these) = codes "port_attr_set port_bridge_flags dev " ++ (device_text ports port ++ (flags_text these ++ 10 ∷ []))
notice_text ports (SetState port state) = codes "port_attr_set port_stp_state dev " ++ (device_text ports port ++ (32 ∷ (state_word state ++ 10 ∷ [])))
notice_text ports (VlanAdd port vid untagged pvid) =
    codes "port_obj_add port_vlan vid " ++ (decimal vid ++ (codes " dev " ++ (device_text ports port
    ++ (further pvid (codes "pvid") ++ (further untagged (codes "untagged") ++ 10 ∷ [])))))
notice_text ports (VlanDel port vid) = codes "port_obj_del port_vlan vid " ++ (decimal vid ++ (codes " dev " ++ (device_text ports port ++ 10 ∷ [])))
notice_text ports (GroupJoin port vid group) = codes "port_obj_add " ++ member_object ports port vid group
notice_text ports (GroupPart port vid group) = codes "port_obj_del " ++ member_object ports port vid group
notice_text ports (Router port on) = codes "port_attr_set port_mrouter dev " ++ (device_text ports port ++ (32 ∷ (switch_word on ++ 10 ∷ [])))
notice_text ports (Querier six on) = codes "querier " ++ (version_word six ++ (32 ∷ (switch_word on ++ 10 ∷ [])))
notice_text ports (Snoop on) = codes "port_attr_set bridge_mc_disabled " ++ (switch_word (not on) ++ 10 ∷ [])
notice_text ports (Stp on) = codes "stp " ++ (switch_word on ++ 10 ∷ [])
notice_text ports (AddrPut vid mac port kind) =
    codes "fdb_add_to_device " ++ (mac_text mac ++ (codes " dev " ++ (device_text ports port ++ (codes " vlan " ++ (decimal vid ++ (32 ∷ (kind_word kind ++ 10 ∷ [])))))))
notice_text ports (AddrDel vid mac) = codes "fdb_del_to_device " ++ (mac_text mac ++ (codes " vlan " ++ (decimal vid ++ 10 ∷ [])))

-- A line, with its line feed: the drivers of all chips are told in this step, or the notice is put into the queue of each chip under this
-- number, or the chip of this domain takes it from its queue.
abbrev pub line_text : List Entry → NoticeLine → List ℕ
line_text ports (Told step change) = codes "told " ++ (decimal step ++ (32 ∷ notice_text ports change))
line_text ports (Queued step number change) =
    codes "queued " ++ (decimal step ++ (32 ∷ (decimal number ++ (32 ∷ notice_text ports change))))
line_text ports (Applied step dom number change) =
    codes "applied " ++ (decimal step ++ (32 ∷ (decimal dom ++ (32 ∷ (decimal number ++ (32 ∷ notice_text ports change))))))

-- lines, one after another
abbrev pub text : List Entry → List NoticeLine → List ℕ
text ports lines = flat_map (line_text ports) lines
