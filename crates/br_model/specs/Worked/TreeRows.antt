-- Worked runs of the spanning tree: events at moments, and what each answers.
-- Source: this profile; the answers were worked out by hand.
use Rattle.std.specs.Prelude.{ℕ, ◌+◌, true, List, [], ◌∷◌, ◌++◌, replicate, codes}
use Rattle.std.specs.List.{fold}
use Rattle.std.specs.declared.option.Option.{Option}
use Rattle.std.specs.declared.option.Option.TheVariants.{None, Some}
use Rattle.std.specs.Option.{option_and_then}
use Rattle.br_model.specs.declared.bpdu.BpduMsg.{BpduMsg}
use Rattle.br_model.specs.declared.bpdu.BpduMsg.TheVariants.{Config, Tcn}
use Rattle.br_model.specs.Wire.Bpdus.{bpdu, written}
use Rattle.br_model.specs.Data.Digits.{bytes_from_hex, hex_of}
use Rattle.br_model.specs.Tree.Tree.{Tree, first_tree}
use Rattle.br_model.specs.Tree.Sending.{Acted}
use Rattle.br_model.specs.Tree.Step.{tree_step, moved, sent}
use Rattle.br_model.specs.declared.tree.TreeEvent.{TreeEvent}
use Rattle.br_model.specs.declared.tree.TreeEvent.TheVariants.{Switch, Up, Message, Moment, Cost, Priority}

-- the ports that an event moves, and the messages that go out
abbrev pub Answer : Type 0
Answer = List ℕ × List (ℕ × BpduMsg)

abbrev pub answer : Tree → Acted → Answer
answer before a = (moved before a.tree, sent a)

abbrev pub after_step : Tree × List Answer → Acted → Tree × List Answer
after_step x a = (a.tree, x.1 ++ answer x.0 a ∷ [])

abbrev pub then_event : Tree × List Answer → ℕ × TreeEvent → Tree × List Answer
then_event x e = after_step x (tree_step x.0 e.0 e.1)

-- the answers of the bridge with this address to the events, one after another
unfoldable pub answers : ℕ → List (ℕ × TreeEvent) → List Answer
answers own events = (fold then_event (first_tree own, []) events).1

-- Bridges by the last byte of their addresses, at the first priority; ports by number, at the first priority.
abbrev pub own : ℕ
own = 0x020000000001

abbrev pub bridge : ℕ → ℕ
bridge n = 0x8000020000000000 + n

abbrev pub port : ℕ → ℕ
port n = 0x8000 + n

-- a message with its age, and with the first times of a root
abbrev pub aged : ℕ → ℕ → ℕ → ℕ → ℕ → ℕ → BpduMsg
aged age flags root cost sender n = Config flags (bridge root) cost (bridge sender) (port n) age 0x1400 0x0200 0x0f00

-- a message of the root itself
abbrev pub of_root : ℕ → ℕ → ℕ → BpduMsg
of_root flags root n = aged 0 flags root 0 root n

abbrev pub nothing : Answer
nothing = ([], [])

-- The better bridge 0 is on both ports, its port 2 on port 1 and its port 1 on port 2: a tie of root, cost and bridge,
-- which the sender's port decides. Then it falls silent, and this bridge is the root again.
abbrev pub tie_events : List (ℕ × TreeEvent)
tie_events =
    (0, Up 1) ∷
    (0, Up 2) ∷
    (0, Switch true) ∷
    (0, Message 1 (of_root 0 0 2)) ∷
    (0, Message 2 (of_root 0 0 1)) ∷
    (15000, Moment) ∷
    (20000, Moment) ∷
    []

abbrev pub tie_answers : List Answer
tie_answers =
    (1 ∷ [], []) ∷
    (2 ∷ [], []) ∷
    (1 ∷ 2 ∷ [], (1, of_root 0 1 1) ∷ (2, of_root 0 1 2) ∷ []) ∷
    nothing ∷
    (1 ∷ [], []) ∷
    (2 ∷ [], []) ∷
    (1 ∷ [], (1, of_root 1 1 1) ∷ (2, of_root 1 1 2) ∷ []) ∷
    []

-- three ports, and a better bridge on one of them
abbrev pub chip_port_events : List (ℕ × TreeEvent)
chip_port_events =
    (0, Up 1) ∷
    (0, Up 2) ∷
    (0, Up 3) ∷
    (0, Switch true) ∷
    (0, Message 1 (of_root 0 0 2)) ∷
    []

abbrev pub chip_port_answers : List Answer
chip_port_answers =
    (1 ∷ [], []) ∷
    (2 ∷ [], []) ∷
    (3 ∷ [], []) ∷
    (1 ∷ 2 ∷ 3 ∷ [], (1, of_root 0 1 1) ∷ (2, of_root 0 1 2) ∷ (3, of_root 0 1 3) ∷ []) ∷
    nothing ∷
    []

-- where two ports come up and the tree is switched on
abbrev pub two_ports : List (ℕ × TreeEvent)
two_ports = (0, Up 1) ∷ (0, Up 2) ∷ (0, Switch true) ∷ []

abbrev pub two_ports_answers : List Answer
two_ports_answers = (1 ∷ [], []) ∷ (2 ∷ [], []) ∷ (1 ∷ 2 ∷ [], (1, of_root 0 1 1) ∷ (2, of_root 0 1 2) ∷ []) ∷ []

-- The root is behind port 1. Both ports come to forwarding at 30 s: the bridge notifies its root, and again after 2 s,
-- until it is acknowledged. Then a bridge behind port 2 notifies this one, which tells its root and acknowledges.
abbrev pub acknowledged_events : List (ℕ × TreeEvent)
acknowledged_events =
    two_ports
    ++ (0, Message 1 (of_root 0 0 1))
    ∷ (1000, Moment)
    ∷ (10000, Message 1 (of_root 0 0 1))
    ∷ (15000, Moment)
    ∷ (25000, Message 1 (of_root 0 0 1))
    ∷ (30000, Moment)
    ∷ (31999, Moment)
    ∷ (32000, Moment)
    ∷ (33000, Message 1 (of_root 129 0 1))
    ∷ (35000, Moment)
    ∷ (35500, Message 2 Tcn)
    ∷ (35500, Message 1 Tcn)
    ∷ []

abbrev pub acknowledged_answers : List Answer
acknowledged_answers =
    two_ports_answers
    ++ nothing
    ∷ ([], (2, aged 512 0 0 100 1 2) ∷ [])
    ∷ ([], (2, aged 256 0 0 100 1 2) ∷ [])
    ∷ (1 ∷ 2 ∷ [], [])
    ∷ ([], (2, aged 256 0 0 100 1 2) ∷ [])
    ∷ (1 ∷ 2 ∷ [], (1, Tcn) ∷ [])
    ∷ nothing
    ∷ ([], (1, Tcn) ∷ [])
    ∷ ([], (2, aged 256 1 0 100 1 2) ∷ [])
    ∷ nothing
    ∷ ([], (2, aged 896 129 0 100 1 2) ∷ (1, Tcn) ∷ [])
    ∷ nothing
    ∷ []

-- Within a second after its last message a port puts off the next one, which then says what holds when it goes out. A
-- better message on port 2 makes that port blocking, and what was put off there is dropped.
abbrev pub put_off_events : List (ℕ × TreeEvent)
put_off_events =
    two_ports
    ++ (0, Message 1 (of_root 0 0 1))
    ∷ (500, Message 1 (of_root 1 0 1))
    ∷ (999, Moment)
    ∷ (1000, Moment)
    ∷ (1999, Message 1 (of_root 0 0 1))
    ∷ (1999, Message 2 (of_root 0 0 2))
    ∷ (2000, Moment)
    ∷ []

abbrev pub put_off_answers : List Answer
put_off_answers =
    two_ports_answers
    ++ nothing
    ∷ nothing
    ∷ nothing
    ∷ ([], (2, aged 384 1 0 100 1 2) ∷ [])
    ∷ nothing
    ∷ (2 ∷ [], [])
    ∷ nothing
    ∷ []

-- A message that is 2 s old and may get 3 s old: it can't be passed on, and it ages out after 1 s. The bridge is the
-- root again, with a topology change of 35 s.
abbrev pub aged_out_events : List (ℕ × TreeEvent)
aged_out_events =
    two_ports
    ++ (5000, Message 1 (Config 0 (bridge 0) 0 (bridge 0) (port 1) 512 768 512 3840))
    ∷ (5999, Moment)
    ∷ (6000, Moment)
    ∷ (7999, Moment)
    ∷ (8000, Moment)
    ∷ (40999, Moment)
    ∷ (42999, Moment)
    ∷ []

abbrev pub aged_out_answers : List Answer
aged_out_answers =
    two_ports_answers
    ++ nothing
    ∷ nothing
    ∷ ([], (1, of_root 1 1 1) ∷ (2, of_root 1 1 2) ∷ [])
    ∷ nothing
    ∷ ([], (1, of_root 1 1 1) ∷ (2, of_root 1 1 2) ∷ [])
    ∷ (1 ∷ 2 ∷ [], (1, of_root 1 1 1) ∷ (2, of_root 1 1 2) ∷ [])
    ∷ ([], (1, of_root 0 1 1) ∷ (2, of_root 0 1 2) ∷ [])
    ∷ []

-- A message of this bridge itself, come back on port 2 and better than what the bridge says there now, makes that port
-- blocking until it ages out. It is no candidate: when the root is lost, this bridge is the root.
abbrev pub own_message_events : List (ℕ × TreeEvent)
own_message_events =
    two_ports
    ++ (0, Message 1 (of_root 0 0 1))
    ∷ (2000, Message 2 (aged 0 0 0 50 1 1))
    ∷ (20000, Moment)
    ∷ (22000, Moment)
    ∷ []

abbrev pub own_message_answers : List Answer
own_message_answers =
    two_ports_answers
    ++ nothing
    ∷ (2 ∷ [], [])
    ∷ (1 ∷ [], (1, of_root 1 1 1) ∷ [])
    ∷ (2 ∷ [], (1, of_root 1 1 1) ∷ (2, of_root 1 1 2) ∷ [])
    ∷ []

-- The root is behind both ports, port 2 at a distance. The cost of port 1 makes port 2 the root port; port 1, where the
-- root itself speaks, blocks. A better priority then makes this bridge the root, and it answers who says otherwise.
abbrev pub managed_events : List (ℕ × TreeEvent)
managed_events =
    two_ports
    ++ (0, Message 1 (of_root 0 0 1))
    ∷ (0, Message 2 (aged 0 0 0 10 3 1))
    ∷ (3000, Cost 1 200)
    ∷ (4000, Priority 4096)
    ∷ (6000, Message 1 (of_root 0 0 1))
    ∷ []

-- a message of this bridge as the root at priority 4096
abbrev pub of_managed_root : ℕ → BpduMsg
of_managed_root n = Config 1 0x1000020000000001 0 0x1000020000000001 (port n) 0 5120 512 3840

abbrev pub managed_answers : List Answer
managed_answers =
    two_ports_answers
    ++ nothing
    ∷ (2 ∷ [], [])
    ∷ (1 ∷ 2 ∷ [], [])
    ∷ (1 ∷ [], (1, of_managed_root 1) ∷ (2, of_managed_root 2) ∷ [])
    ∷ ([], (1, of_managed_root 1) ∷ [])
    ∷ []

-- Frames as digits

abbrev pub says : List ℕ → Option BpduMsg
says digits = option_and_then bpdu (bytes_from_hex digits)

-- what the frames of bridge 0 say: two messages, a notification of the least length, and frames that are none: a
-- message with a tag, of protocol 1, of an unknown type, and one whose length is below that of a message
abbrev pub frames_said : List (Option BpduMsg)
frames_said =
    says (codes "0180c2000000020000000000002642420300000000008000020000000000000000008000020000000000" ++ codes "80020000140002000f00")
    ∷ says (codes "0180c2000000020000000000002642420300000000818000020000000000000000008000020000000000" ++ codes "80010000140002000f000000000000000000")
    ∷ says (codes "0180c20000000200000000000007424203000000" ++ codes "80")
    ∷ says (codes "0180c20000000200000000008100000a002642420300000000008000020000000000000000008000020000000000" ++ codes "80020000140002000f00")
    ∷ says (codes "0180c2000000020000000000002642420300010000008000020000000000000000008000020000000000" ++ codes "80020000140002000f00")
    ∷ says (codes "0180c2000000020000000000002642420300000002008000020000000000000000008000020000000000" ++ codes "80020000140002000f00")
    ∷ says (codes "0180c2000000020000000000002542420300000000008000020000000000000000008000020000000000" ++ codes "80020000140002000f00")
    ∷ []

abbrev pub frames_expected : List (Option BpduMsg)
frames_expected = Some (of_root 0 0 2) ∷ Some (of_root 129 0 1) ∷ Some Tcn ∷ None ∷ None ∷ None ∷ None ∷ []

-- what this bridge writes
abbrev pub frames_written : List (List ℕ)
frames_written = hex_of (written own (of_root 0 1 1)) ∷ hex_of (written own Tcn) ∷ []

abbrev pub frames_digits : List (List ℕ)
frames_digits =
    (codes "0180c2000000020000000001002642420300000000008000020000000001000000008000020000000001" ++ codes "80010000140002000f000000000000000000")
    ∷ (codes "0180c2000000020000000001000742420300000080" ++ replicate 78 48)
    ∷ []
