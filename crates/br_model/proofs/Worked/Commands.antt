-- Worked answers of `show`, `gen` and `demo`, computed by the definitions.
use Rattle.std.proofs.Common.{◌≡◌, ◌+◌, [], ◌∷◌, ◌++◌, length, take, refl}
use Rattle.br_model.specs.declared.listing.Listing.TheVariants.{Fdb, Vlan, Mdb}
use Rattle.br_model.specs.declared.transcript.Line.{Line}
use Rattle.br_model.specs.declared.transcript.Line.TheVariants.{Chip}
use Rattle.br_model.specs.Program.Generator.{made}
use Rattle.br_model.specs.Program.Listings.{listed}
use Rattle.br_model.specs.Program.Summary.{kind_of, summary, summary_text}
use Rattle.br_model.specs.Text.Transcript.{line_text}
use Rattle.br_model.specs.Worked.Commands.{first_frame_fdb, first_frame_vlan, no_rows, orders_text, orders_fdb, orders_vlan, orders_mdb, crossed_text, crossed_fdb, crossed_mdb, broken_text}
use Rattle.br_model.specs.Worked.Commands.{broken, unended, generated, three_generated, lines_of_frames, what_is_behind, all_kinds, before_all, all_kinds_summed, no_frame_summed, one_frame_summed}
use Rattle.br_model.specs.Worked.Rows.{first_frame_text}
use Rattle.br_model.proofs.Worked.Computing.{computing_commands}

pub fdb : listed Fdb first_frame_text ≡ first_frame_fdb
unfolding computing_commands
fdb = refl

pub vlan : listed Vlan first_frame_text ≡ first_frame_vlan
unfolding computing_commands
vlan = refl

pub mdb : listed Mdb first_frame_text ≡ no_rows
unfolding computing_commands
mdb = refl

pub bad : listed Fdb [] ≡ unended
unfolding computing_commands
bad = refl

pub fdb_ascends : listed Fdb orders_text ≡ orders_fdb
unfolding computing_commands
fdb_ascends = refl

pub vlan_ascends : listed Vlan orders_text ≡ orders_vlan
unfolding computing_commands
vlan_ascends = refl

pub mdb_ascends : listed Mdb orders_text ≡ orders_mdb
unfolding computing_commands
mdb_ascends = refl

pub one_made : made 0 1 ≡ generated
unfolding computing_commands
one_made = refl

pub none_summed : summary 0 0 ≡ no_frame_summed
unfolding computing_commands
none_summed = refl

pub one_summed : summary 0 1 ≡ one_frame_summed
unfolding computing_commands
one_summed = refl

pub fdb_crosses : listed Fdb crossed_text ≡ crossed_fdb
unfolding computing_commands
fdb_crosses = refl

pub mdb_crosses : listed Mdb crossed_text ≡ crossed_mdb
unfolding computing_commands
mdb_crosses = refl

pub bad_alone : listed Vlan broken_text ≡ broken
unfolding computing_commands
bad_alone = refl

pub three_made : made 2 3 ≡ three_generated
unfolding computing_commands
three_made = refl

pub steps_behind : lines_of_frames (5 ∷ 7 ∷ 64 ∷ 6720 ∷ []) ≡ what_is_behind
unfolding computing_commands
steps_behind = refl

pub kinds_counted : summary_text 9 (before_all, all_kinds) ≡ all_kinds_summed
unfolding computing_commands
kinds_counted = refl

pub first_word : (line : Line) → take (length (kind_of line) + 1) (line_text line) ≡ kind_of line ++ 32 ∷ []
first_word (Chip id changes applied class) = refl
first_word line = refl
