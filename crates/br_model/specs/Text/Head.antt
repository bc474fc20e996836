-- The lines of a scenario before its first step.
-- Source: this profile.
use Rattle.std.specs.Prelude.{ℕ, ◌==◌, if◌then◌else◌, List, ◌∷◌, ◌++◌, [], codes}
use Rattle.std.specs.Fmt.{decimal}
use Rattle.std.specs.List.{flat_map}
use Rattle.br_model.specs.declared.domains.Edition.{Edition}
use Rattle.br_model.specs.declared.domains.Edition.TheVariants.{One, Two}
use Rattle.br_model.specs.Table.Domains.{software}
use Rattle.br_model.specs.Text.Roster.{Entry, Roster}
use Rattle.br_model.specs.Text.Spelling.{mac_text}

-- where a port is: in software, or at a chip
abbrev pub domain_words : ℕ → List ℕ
domain_words dom = if dom == software then codes "soft" else codes "chip " ++ decimal dom

abbrev pub port_line : Entry → List ℕ
port_line e = codes "port " ++ (decimal e.port ++ (32 ∷ (e.name ++ (32 ∷ (domain_words e.dom ++ 10 ∷ [])))))

abbrev pub edition_line : Edition → List ℕ
edition_line One = codes "scenario 1" ++ 10 ∷ []
edition_line Two = codes "scenario 2" ++ 10 ∷ []

-- the lines before the first step
abbrev pub head_text : Roster → List ℕ
head_text roster = edition_line roster.edition ++ (codes "bridge " ++ (mac_text roster.own ++ (10 ∷ flat_map port_line roster.ports)))
