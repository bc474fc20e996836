use Rattle.std.proofs.Common.{◌∙◌, ap₂, sym}
use Rattle.br_model.specs.Forward.Untagged.{untagged_among}
use Rattle.plane_core.proofs.Leaving.{is_share}
use Rattle.plane_core.proofs.sending.egress_of.Goals as goal

pub returns : goal.returns
returns c domains t port bytes head is = c.at_chip.ensures domains t port bytes head
    (c.vid.ensures ∙ is.vid)
    (c.ports.ensures ∙ is.ports ∙ is_share domains t port head bytes)
    (c.untagged.ensures ∙ is.untagged ∙ ap₂ (λ vid ports. untagged_among t vid ports) (sym c.vid.ensures) (sym c.ports.ensures))
