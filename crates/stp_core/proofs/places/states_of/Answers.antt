use Rattle.std.proofs.Common.{◌∙◌, ℕ, List, length, Option, None, set, get_or, sym, ap, arith}
use Rattle.std.specs.Option.{option_map_or}
use Rattle.std.proofs.lemmas.List.{length-replicate, length-set}
use Rattle.br_model.specs.Table.Domains.{port_places}
use Rattle.br_model.specs.Table.Table.{disabled}
use Rattle.br_model.specs.declared.tree.TreePort.{TreePort}
use Rattle.stp_core.proofs.Reading.{known-none, known-more, known-same, known-all}
use Rattle.stp_core.proofs.places.states_of.Goals as goal
use Rattle.stp_core.proofs.places.states_of.Goals.{in-Some, in_default}

pub loop-p-init : goal.loop-p-init
loop-p-init c = record { known = known-none c.args.places.now port_places; size = length-replicate port_places disabled }

pub loop-p-preserved : goal.loop-p-preserved
loop-p-preserved c =
    let ps = c.args.places.now in
    let here = ap (λ (n : ℕ). get_or ps n None) (sym c.from.ensures) in
    let inv = c.loop-p.invariant in
    elim c.match-places-from.branch [
      | in-Some w ↦
          let state = ap (λ (o : Option TreePort). option_map_or (λ x. x.state) o disabled) (here ∙ w.in-Some.is) in
          let is = w.states-is ∙ ap (λ n. set c.loop-p.states n w.in-Some.x.state) w.from-in-Some.ensures in
          record {
            known = known-more ps c.loop-p.states c.match-places-from.states c.loop-p.p w.in-Some.x.state (omega (arith, inv.size, c.loop-p-test.true)) inv.known is state;
            size = ap (λ (l : List ℕ). length l) is ∙ length-set c.loop-p.states c.loop-p.p w.in-Some.x.state ∙ inv.size;
          }
      | in_default w ↦
          let state = ap (λ (o : Option TreePort). option_map_or (λ x. x.state) o disabled) (here ∙ w.in_default.is) in
          record {
            known = λ k. ap (λ (l : List ℕ). get_or l k disabled) w.states-is ∙ known-same ps c.loop-p.states c.loop-p.p inv.known state k;
            size = ap (λ (l : List ℕ). length l) w.states-is ∙ inv.size;
          }
    ]

pub returns : goal.returns
returns c = known-all c.args.places.now c.loop-p.states c.args.used c.loop-p.p (omega (arith, c.loop-p-test.false)) c.requires c.loop-p.invariant.known
