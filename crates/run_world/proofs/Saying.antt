-- What was said of a run stays said; and what is said before its first step.
use Rattle.std.proofs.Common.{◌≡◌, List, [], None, string_bytes, sym, subst}
use Rattle.br_model.specs.declared.steps.Step.{Step}
use Rattle.br_model.specs.Table.Setup.{Setup}
use Rattle.neigh_netlink.specs.Monitor.{messages}
use Rattle.run_world.specs.declared.asking.Asking.{Asking as AskingOf}
use Rattle.run_world.specs.declared.monitor.Monitor.{Monitor as MonitorOf}
use Rattle.run_world.specs.declared.voice.Voice.{Voice}
use Rattle.run_world.specs.declared.voice.Voice.TheVariants.{Silent, Monitor, Querier}
use Rattle.run_world.specs.Voices.{Says}
use Rattle.run_world.proofs.Querying.{asked_none, asked_nothing, heard_none, unheard}

pub says_on : (v : Voice) (a b : Setup) (steps more : List Step) → b ≡ a → more ≡ steps → Says v a steps → Says v b more
says_on v a b steps more p e h = subst (λ (x : Setup). Says v x more) (sym p) (subst (λ (l : List Step). Says v a l) (sym e) h)

-- whatever the setup, where there was no step
pub says_none : (v : Voice) (a b : Setup) → Says v a [] → Says v b []
unfolding messages
says_none Silent a b h = tt
says_none (Monitor m) a b h = h
says_none (Querier q) a b h =
    (heard_none q.host q.addresses.four q.addresses.six a b h.0, asked_none (string_bytes q.text) q.addresses.four q.addresses.six a b h.1)

-- a monitor that has said nothing
pub silent_monitor : (m : MonitorOf) (setup : Setup) → string_bytes m.text ≡ [] → Says (Monitor m) setup []
unfolding messages
silent_monitor m setup h = h

-- a querier that has said nothing
pub silent_querier : (a : AskingOf) (setup : Setup) → a.host ≡ None → string_bytes a.text ≡ [] → Says (Querier a) setup []
silent_querier a setup host text =
    (unheard a.host a.addresses.four a.addresses.six setup host, asked_nothing (string_bytes a.text) a.addresses.four a.addresses.six setup text)
