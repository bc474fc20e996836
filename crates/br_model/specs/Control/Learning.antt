-- What a frame teaches: behind which port its source is.
-- Source: IEEE 802.1D-1998 section 7.8 (the learning process), the kernel's br_fdb_update and the bridge's option
-- no_linklocal_learn (reserved destinations teach nothing), its switchdev.rst and br_fdb_external_learn_add (entries that a chip
-- learned). That a static entry never moves, and that a report is taken or not, is this profile's.
use Rattle.std.specs.Prelude.{ℕ, ◌==◌, Bool, true, false, not, ◌&&◌, ◌||◌, if◌then◌else◌, List, [], ◌∷◌}
use Rattle.std.specs.declared.option.Option.{Option}
use Rattle.std.specs.declared.option.Option.TheVariants.{None, Some}
use Rattle.std.specs.Option.{option_map_or}
use Rattle.br_model.specs.declared.change.Change.{Change}
use Rattle.br_model.specs.declared.change.Change.TheVariants.{AddrPut}
use Rattle.br_model.specs.declared.change.Kind.{Kind}
use Rattle.br_model.specs.declared.change.Kind.TheVariants.{Local, Static, Learned, Extern}
use Rattle.br_model.specs.declared.frame.Head.{Head}
use Rattle.br_model.specs.Forward.Admission.{learning, forwarding, is_in_state, member, has_valid_source, vlan_of}
use Rattle.br_model.specs.Data.Maps.{pair_cmp, get}
use Rattle.br_model.specs.Table.Table.{Table}
use Rattle.br_model.specs.Forward.Targets.{has_flag, bridge_group_address, pause_address, is_for_the_host}

-- the place of the flag
abbrev pub learning_flag : ℕ
learning_flag = 0

-- a VLAN and an address: the key of an address entry
abbrev pub Address : Type 0
Address = ℕ × ℕ

-- the same, with a port
abbrev pub Triple : Type 0
Triple = ℕ × ℕ × ℕ

abbrev pub address_of : Triple → Address
address_of x = (x.0, x.1)

-- whether frames to the destination teach nothing
abbrev pub is_reserved : Table → Head → Bool
is_reserved t head = head.dst == pause_address || (is_for_the_host head.dst || (head.dst == bridge_group_address && t.stp))

-- whether the port learns addresses of the VLAN
abbrev pub may_teach : Table → ℕ → ℕ → Bool
may_teach t port vid =
    (is_in_state t port learning || is_in_state t port forwarding) && (has_flag t port learning_flag && member t port vid)

abbrev pub teach_in : Table → ℕ → Option ℕ → ℕ → Option Address
teach_in t port None address = None
teach_in t port (Some vid) address = if may_teach t port vid then Some (vid, address) else None

-- what the frame teaches at the port, where it teaches
abbrev pub teach : Table → ℕ → Head → Option Address
teach t port head =
    if not (is_reserved t head) && has_valid_source head then teach_in t port (vlan_of t port head) head.src else None

-- whether entries of this kind move, and are renewed
abbrev pub is_dynamic : Kind → Bool
is_dynamic Local = false
is_dynamic Static = false
is_dynamic Learned = true
is_dynamic Extern = true

-- whether software learned entries of this kind; only these expire
abbrev pub is_learned : Kind → Bool
is_learned Local = false
is_learned Static = false
is_learned Learned = true
is_learned Extern = false

abbrev pub is_extern : Kind → Bool
is_extern Local = false
is_extern Static = false
is_extern Learned = false
is_extern Extern = true

-- whether the address is new at the port: it has no entry, or one at another port that may move
abbrev pub is_news : Table → Address → ℕ → Bool
is_news t key port = option_map_or (λ e. is_dynamic e.1 && not (e.0 == port)) (get pair_cmp t.addr key) true

-- whether the address is known at the port by an entry that frames renew
abbrev pub is_renewed : Table → Address → ℕ → Bool
is_renewed t key port = option_map_or (λ e. is_dynamic e.1 && e.0 == port) (get pair_cmp t.addr key) false

-- the change that a frame of software makes
abbrev pub taught : Table → Address → ℕ → List Change
taught t key port = if is_news t key port then AddrPut key.0 key.1 port Learned ∷ [] else []

-- whether the address has an entry of this port that software learned
abbrev pub is_learned_at : Table → Address → ℕ → Bool
is_learned_at t key port = option_map_or (λ e. is_learned e.1 && e.0 == port) (get pair_cmp t.addr key) false

-- whether the address has an entry of this port that a chip learned
abbrev pub is_extern_at : Table → Address → ℕ → Bool
is_extern_at t key port = option_map_or (λ e. is_extern e.1 && e.0 == port) (get pair_cmp t.addr key) false

-- The change that a chip's report makes, where the port may still teach it: the chip's entry takes the place of one that software
-- learned.
abbrev pub reported : Table → Address → ℕ → List Change
reported t key port =
    if may_teach t port key.0 && (is_news t key port || is_learned_at t key port)
    then AddrPut key.0 key.1 port Extern ∷ []
    else []
