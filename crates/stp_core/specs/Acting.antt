-- What an event did so far, as the code keeps it, and messages by what the code gathers for them.
use Rattle.std.specs.Prelude.{ℕ, nat_lt, Bool, true, false, not, ◌&&◌, if◌then◌else◌}
use Rattle.std.specs.declared.option.Option.TheVariants.{Some}
use Rattle.br_model.specs.declared.tree.ConfigMsg.{ConfigMsg}
use Rattle.br_model.specs.declared.tree.TreePort.{TreePort}
use Rattle.br_model.specs.Tree.Tree.{Tree, bridge_id, port_id}
use Rattle.br_model.specs.declared.tree.Vector.{Vector}
use Rattle.std.specs.Option.{option_map_or}
use Rattle.br_model.specs.Tree.Vectors.{root_of, root_kept, own_vector, is_designated_by, kept_vector}
use Rattle.stp_core.specs.declared.vectors.Election.{Election}
use Rattle.br_model.specs.Tree.Timers.{times, is_changing, is_held}
use Rattle.br_model.specs.Tree.Sending.{Acted, flags_of, age_at}
use Rattle.stp_core.specs.declared.messages.Sent.{Sent}
use Rattle.stp_core.specs.declared.messages.Voice.{Voice}

abbrev pub acted : Tree → Sent → Acted
acted t s = record { tree = t; config = s.config; tcn = s.tcn }

-- what the messages of a moment have in common
abbrev pub voice_of : Tree → ℕ → Voice
voice_of t now = record {
  election = record { id = bridge_id t; root = root_of t };
  changing = is_changing t;
  age = age_at now (root_kept t);
  times = times t;
  moment = now;
}

abbrev pub message_by : Voice → ℕ × TreePort → ConfigMsg
message_by v e = record {
  flags = flags_of v.changing e.1.owed;
  root = v.election.root.id;
  cost = v.election.root.cost;
  bridge = v.election.id;
  port = port_id e;
  age = v.age;
  max = v.times.max;
  hello = v.times.hello;
  delay = v.times.delay;
}

abbrev pub goes_out_by : Voice → ℕ × TreePort → Bool
goes_out_by v e = not (is_held v.moment e.1) && nat_lt v.age v.times.max

abbrev pub transmitted_by : Voice → ℕ × TreePort → TreePort
transmitted_by v e =
    if is_held v.moment e.1 then record e.1 { put_off = true } else
    if goes_out_by v e then record e.1 { last = Some (record { message = message_by v e; moment = v.moment }); put_off = false; owed = false } else
    record e.1 { put_off = false }

-- the vector that the port holds
abbrev pub held_by : Election → ℕ × TreePort → Vector
held_by el e =
    let own = own_vector el.id el.root e in
    if is_designated_by el.id el.root e then own else option_map_or (λ v. v) (kept_vector e.1) own
