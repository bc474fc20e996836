-- What was sent of a frame: by which ports, how often, and in the order of ports.
-- Source: this profile.
use Rattle.std.specs.Prelude.{ℕ, ◌==◌, nat_le, if◌then◌else◌, List, [], ◌∷◌, ◌++◌, length}
use Rattle.std.specs.List.{filter, flat_map}
use Rattle.std.specs.Option.{option_map_or}
use Rattle.br_model.specs.declared.frame.Class.{Class}
use Rattle.br_model.specs.declared.frame.Class.TheVariants.{Drop, Trap, Copy, Forward}
use Rattle.br_model.specs.declared.frame.Head.{Head}
use Rattle.br_model.specs.declared.transcript.Line.{Line}
use Rattle.br_model.specs.Forward.Class.{class}
use Rattle.br_model.specs.Plane.LineTraits.{sends}
use Rattle.br_model.specs.Table.Domains.{Domains}
use Rattle.br_model.specs.Wire.Messages.{message}
use Rattle.br_model.specs.Forward.Shares.{chip_out, mark_of, soft_out}
use Rattle.br_model.specs.Table.Table.{Table}

-- ports and what left there, in the order in which it did
abbrev pub Sent : Type 0
Sent = List (ℕ × List ℕ)

-- what the line says was sent of the frame with this id
abbrev pub sent_by : ℕ → Line → Sent
sent_by id l = option_map_or (λ x. if x.0 == id then x.1 ∷ [] else []) (sends l) []

abbrev pub sent_of : ℕ → List Line → Sent
sent_of id told = flat_map (sent_by id) told

-- how often something left the port
abbrev pub times : ℕ → Sent → ℕ
times port sent = length (filter (λ x. x.0 == port) sent)

-- with this one before those of the same port or a later one
abbrev pub placed : ℕ × List ℕ → Sent → Sent
placed x [] = x ∷ []
placed x (y ∷ later) = if nat_le x.0 y.0 then x ∷ y ∷ later else y ∷ placed x later

-- in ascending order of ports
abbrev pub in_port_order : Sent → Sent
in_port_order [] = []
in_port_order (x ∷ later) = placed x (in_port_order later)

-- what software sends of a frame that the chip has put into this class: what is left of a copied or trapped one
abbrev pub software_share : Class → Domains → Table → ℕ → List ℕ → Head → Sent
software_share Drop domains t port bytes head = []
software_share Trap domains t port bytes head = soft_out domains t port bytes head (mark_of Trap domains port)
software_share Copy domains t port bytes head = soft_out domains t port bytes head (mark_of Copy domains port)
software_share Forward domains t port bytes head = []

-- What the chip sends of a frame by one table, and then software by another one, which is the same where no change came between.
abbrev pub both_shares : Domains → Table → Table → ℕ → List ℕ → Head → Sent
both_shares domains t later port bytes head =
    chip_out domains t port bytes head ++ software_share (class domains t port head (message bytes head)) domains later port bytes head
