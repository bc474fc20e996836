use Rattle.std.proofs.Common.{◌∙◌, ap₂, refl}
use Rattle.chip_driver.specs.Shadows.{switched}
use Rattle.chip_driver.proofs.shadow.Shadow.note.Goals as goal

pub returns : goal.returns
returns c =
    let s = c.args.self.now in
    let number = c.number-n.ensures.value in
    record {
      own = refl;
      forwarding = c.switch.ensures ∙ ap₂ (λ n on. switched s.forwarding n on) number c.forwards.ensures;
      flood = c.switch-2.ensures ∙ ap₂ (λ n on. switched s.flood n on) number c.floods.ensures;
      mcast_flood = c.switch-3.ensures ∙ ap₂ (λ n on. switched s.mcast_flood n on) number c.floods-2.ensures;
      bcast_flood = c.switch-4.ensures ∙ ap₂ (λ n on. switched s.bcast_flood n on) number c.floods-3.ensures;
      isolated = c.switch-5.ensures ∙ ap₂ (λ n on. switched s.isolated n on) number c.has_flag.ensures;
      routers = refl;
    }
