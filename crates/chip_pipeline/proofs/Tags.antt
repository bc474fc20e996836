-- The VLAN of a tag.
use Rattle.std.proofs.Common.{◌≡◌, ℕ, Bool, cond, None, Some, sym, ap, ap₂, ◌∙◌, arith}
use Rattle.std.specs.Ordering.{nat_cmp}
use Rattle.std.proofs.lemmas.Bool.{le-ltb, ne_eqb}
use Rattle.br_model.specs.declared.frame.Tag.{Tag}
use Rattle.br_model.specs.Forward.Admission.{last_vid, member, vlan_of_tag}
use Rattle.br_model.specs.Data.Maps.{get}
use Rattle.br_model.specs.Table.Table.{Table}
use Rattle.chip_tables.specs.Stands.{IsVid}

-- a tag that names a VLAN
pub tagged : (t : Table) (port vid : ℕ) (tag : Tag) (b : Bool) → vid ≡ tag.vid → IsVid vid → b ≡ member t port vid → cond b (Some vid) None ≡ vlan_of_tag t port (Some tag)
tagged t port vid tag b named range is =
    ap₂ (λ c (v : ℕ). cond c (Some v) None) (is ∙ ap (member t port) named) named
    ∙ sym (ap₂ (λ low none. cond low None (cond none (get nat_cmp t.pvid port) (cond (member t port tag.vid) (Some tag.vid) None))) (le-ltb last_vid tag.vid (omega (arith, range.1, named)))
    (ne_eqb tag.vid 0 (omega (arith, range.0, named))))
