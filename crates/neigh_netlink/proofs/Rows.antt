-- Worked runs, computed by the definitions.
use Rattle.std.proofs.Common.{◌≡◌, [], ◌∷◌, ◌++◌, refl}
use Rattle.std.specs.Prelude.{codes}
use Rattle.br_model.proofs.Worked.Computing.{computing}
use Rattle.br_model.specs.Worked.Chip.{moved_to_a_foreign_port_text}
use Rattle.br_model.specs.Worked.Rows.{first_frame_text}
use Rattle.neigh_netlink.specs.Follow.{followed, follows}
use Rattle.neigh_netlink.specs.Messages.{written}
use Rattle.neigh_netlink.specs.Monitor.{messages, monitored}
use Rattle.neigh_netlink.specs.Worked.{absent_entry_text, bad_line, monitor_and_follow_followed, monitor_and_follow_told, moved_entry_followed}
use Rattle.neigh_netlink.specs.Worked.{moved_entry_told, offloaded_entry_followed, offloaded_entry_text, other_padding_text}

unfoldable monitoring : Unit {0}
unfolding computing written messages monitored
monitoring = tt

pub monitor_and_follow : monitored first_frame_text ≡ monitor_and_follow_told
unfolding monitoring
monitor_and_follow = refl

pub moved_entry : monitored moved_to_a_foreign_port_text ≡ moved_entry_told
unfolding monitoring
moved_entry = refl

unfoldable following : Unit {0}
unfolding computing written follows followed
following = tt

pub followed_entries : followed monitor_and_follow_told ≡ monitor_and_follow_followed
unfolding following
followed_entries = refl

pub followed_move : followed moved_entry_told ≡ moved_entry_followed
unfolding following
followed_move = refl

pub followed_offload : followed offloaded_entry_text ≡ offloaded_entry_followed
unfolding following
followed_offload = refl

pub refused_absent : followed absent_entry_text ≡ bad_line (codes "bad 1 absent")
unfolding following
refused_absent = refl

pub refused_padding : followed other_padding_text ≡ bad_line (codes "bad 1 message")
unfolding following
refused_padding = refl

pub refused_word : followed (codes "end now" ++ 10 ∷ []) ≡ bad_line (codes "bad 1 word")
unfolding following
refused_word = refl

pub refused_hex : followed (codes "#" ++ (10 ∷ codes "nl 3g" ++ 10 ∷ [])) ≡ bad_line (codes "bad 2 hex")
unfolding following
refused_hex = refl

pub refused_unended : followed (codes "nl 30") ≡ bad_line (codes "bad 1 unended")
unfolding following
refused_unended = refl

pub last_unended : followed (codes " end") ≡ bad_line (codes "end")
unfolding following
last_unended = refl
