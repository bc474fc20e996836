-- The ports that a frame leaves, and its bytes there: what one bridge with one table does.
-- Source: IEEE 802.1D-1998 section 7.7, IEEE 802.1Q-2018 section 8.6.
use Rattle.std.specs.Prelude.{ℕ, ◌&&◌, if◌then◌else◌, List, [], map}
use Rattle.std.specs.List.{filter, range_with_len}
use Rattle.std.specs.declared.option.Option.{Option}
use Rattle.std.specs.declared.option.Option.TheVariants.{None, Some}
use Rattle.std.specs.Ordering.{nat_cmp}
use Rattle.br_model.specs.declared.frame.Head.{Head}
use Rattle.br_model.specs.declared.frame.McastMsg.{McastMsg}
use Rattle.br_model.specs.Forward.Admission.{admit}
use Rattle.br_model.specs.Forward.Eligible.{may, untagged}
use Rattle.br_model.specs.Wire.Frames.{dressed}
use Rattle.br_model.specs.Data.Maps.{has}
use Rattle.br_model.specs.Wire.Messages.{message}
use Rattle.br_model.specs.Table.Domains.{port_places}
use Rattle.br_model.specs.Table.Table.{Table}
use Rattle.br_model.specs.Forward.Targets.{targets, to_tree}

unfoldable pub all_ports : List ℕ
all_ports = range_with_len 0 port_places

-- the targets that may take the frame, ascending
unfoldable pub egress_ports : Table → ℕ → ℕ → Head → McastMsg → List ℕ
egress_ports t port vid head msg = filter (λ q. has nat_cmp (targets t vid head msg) q && may t port q vid) all_ports

abbrev pub ports_in : Table → ℕ → Option ℕ → Head → McastMsg → List ℕ
ports_in t port None head msg = []
ports_in t port (Some vid) head msg = egress_ports t port vid head msg

-- the ports that the frame leaves, ascending
unfoldable pub ports_out : Table → ℕ → Head → McastMsg → List ℕ
ports_out t port head msg = if to_tree t port head then [] else ports_in t port (admit t port head) head msg

-- the tag with which the VLAN's frames leave the port
abbrev pub tag_at : Table → ℕ → ℕ → Option ℕ
tag_at t port vid = if untagged t port vid then None else Some vid

abbrev pub dressed_in : Table → Option ℕ → List ℕ → List ℕ → Head → List (ℕ × List ℕ)
dressed_in t None ports bytes head = []
dressed_in t (Some vid) ports bytes head = map (λ q. (q, dressed bytes head (tag_at t q vid))) ports

-- each port that the frame leaves, ascending, with its bytes there
unfoldable pub leave : Table → ℕ → List ℕ → Head → List (ℕ × List ℕ)
leave t port bytes head = dressed_in t (admit t port head) (ports_out t port head (message bytes head)) bytes head
