-- Worked runs of snooping, computed by the definitions.
use Rattle.std.proofs.Common.{◌≡◌, refl, []}
use Rattle.br_model.specs.Program.Runs.{told}
use Rattle.br_model.specs.Worked.Snooping.{snooping_text, snooping_told, mld_report_text, mld_report_told, truncated_record_text, truncated_record_told, report_at_a_chip_port_text}
use Rattle.br_model.specs.Worked.Snooping.{report_at_a_chip_port_told, ends_of_members_text, ends_of_members_told, all_ends_text, all_ends_told, members_by_command_text, members_by_command_told}
use Rattle.br_model.specs.Worked.Snooping.{learned_of, all_ends_learned, states_behind_text, states_behind_learned, report, late_records, swapping_records, full, snooped_of, with_ends, left_out, late}
use Rattle.br_model.specs.Worked.Snooping.{swapped}
use Rattle.br_model.proofs.Worked.Computing.{computing, computing_tree}

pub snooping : told snooping_text ≡ snooping_told
unfolding computing
snooping = refl

pub mld_report : told mld_report_text ≡ mld_report_told
unfolding computing
mld_report = refl

pub truncated_record : told truncated_record_text ≡ truncated_record_told
unfolding computing
truncated_record = refl

pub report_at_a_chip_port : told report_at_a_chip_port_text ≡ report_at_a_chip_port_told
unfolding computing
report_at_a_chip_port = refl

pub ends_of_members : told ends_of_members_text ≡ ends_of_members_told
unfolding computing
ends_of_members = refl

pub all_ends : told all_ends_text ≡ all_ends_told
unfolding computing
all_ends = refl

pub members_by_command : told members_by_command_text ≡ members_by_command_told
unfolding computing
members_by_command = refl

pub all_learned : learned_of all_ends_text ≡ all_ends_learned
unfolding computing
all_learned = refl

pub states_behind : learned_of states_behind_text ≡ states_behind_learned
unfolding computing_tree
states_behind = refl

pub not_taken : (snooped_of 1 report full).changes ≡ []
unfolding computing snooped_of
not_taken = refl

pub no_room : with_ends 260000 (snooped_of 1 report full) ≡ left_out
unfolding computing snooped_of
no_room = refl

pub too_late : with_ends 259999 (snooped_of 1 late_records full) ≡ late
unfolding computing snooped_of
too_late = refl

pub in_turn : with_ends 260000 (snooped_of 1 swapping_records full) ≡ swapped
unfolding computing snooped_of
in_turn = refl
