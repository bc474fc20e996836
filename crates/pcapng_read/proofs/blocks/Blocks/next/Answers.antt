use Rattle.std.specs.declared.result.Result.TheVariants.{Ok}
use Rattle.std.proofs.Common.{◌≡◌, ◌≤◌, ◌+◌, length, sym, ◌∙◌, subst}
use Rattle.std.proofs.lemmas.Result.{err_from_is_err_and}
use Rattle.br_model.specs.Wire.Captures.{Block}
use Rattle.pcapng_read.specs.Telling.{TellsNext}
use Rattle.pcapng_read.proofs.Cutting.{behind, total, place_within, left_not_whole, left_at_end, some_left, none_left, tells_fault, tells_packet, tells_nothing}
use Rattle.pcapng_read.proofs.blocks.Blocks.next.Goals as goal

pub returns-in-Err : goal.returns-in-Err
returns-in-Err c =
    let i = c.loop-self.self-inside in
    let is = left_not_whole i.ports i.links.items i.at i.order i.rest.now c.in-Err.kind (some_left _ c.loop-self-test.ensures) (sym c.in-Err.ensures.told) in
    (sym c.loop-self.invariant.0 ∙ is, c.loop-self.invariant.0)

pub returns-in_err-said : goal.returns-in_err-said
returns-in_err-said c =
    let i = c.loop-self.self-inside in
    let err = err_from_is_err_and c.from_residual.result c.from_residual.ensures.1 in
    rw (err.1, err.2)
    (tells_fault i.ports i.links.items i.at i.order i.rest.now _ c.says.new.links.items _ (some_left _ c.loop-self-test.ensures)
    (sym c.in-Ok.ensures.told) c.loop-self.invariant.0 _ c.in_err-said.ensures.told)

pub returns-then-is_some : goal.returns-then-is_some
returns-then-is_some c =
    let i = c.loop-self.self-inside in
    let P : Block → Type 0 = λ b. TellsNext c.args.self.now (Ok c.in_ok-said.said) (behind i.ports c.says.new.links.items i.at b i.rest.now) in
    subst P (sym c.block.view_is)
    (tells_packet i.ports i.links.items i.at i.order i.rest.now c.in-Ok.block c.says.new.links.items _ (some_left _ c.loop-self-test.ensures)
    (sym c.in-Ok.ensures.told) c.loop-self.invariant.0 c.in_ok-said.said c.in-Ok.ensures.fits c.in_ok-said.ensures.told c.if-is_some.ensures)

pub loop-self-preserved : goal.loop-self-preserved
loop-self-preserved c =
    let i = c.loop-self.self-inside in
    let told = c.in_ok-said.ensures in
    let P : Block → Type 0 = λ b. (behind i.ports c.says.new.links.items i.at b i.rest.now ≡ c.args.self.now) × (total b ≤ length i.rest.now) in
    let kept = subst P (sym c.block.view_is) (
      tells_nothing i.ports i.links.items i.at i.order i.rest.now c.in-Ok.block c.says.new.links.items _ (some_left _ c.loop-self-test.ensures)
          (sym c.in-Ok.ensures.told) c.loop-self.invariant.0 c.in_ok-said.said c.in-Ok.ensures.fits told.told c.if-is_some.ensures,
      c.in-Ok.ensures.fits,
    ) in
    (kept.0, told.within, place_within i.at (length c.block.inside.body.now + 12) _ i.rest.now kept.1 c.loop-self.invariant.2)

pub returns : goal.returns
returns c =
    let i = c.loop-self.self-inside in
    (sym c.loop-self.invariant.0 ∙ left_at_end i.ports i.links.items i.at i.order i.rest.now (none_left _ c.loop-self-test.ensures), c.loop-self.invariant.0)
