use Rattle.std.proofs.Common.{◌+◌, ◌++◌, List, length, take, drop, ap, ◌∙◌, append_assoc, arith, length-append}
use Rattle.std.specs.Option.{option_to_list}
use Rattle.lemmas.proofs.Lists.{slice_get_there}
use Rattle.br_model.specs.Table.Domains.{Domains}
use Rattle.neigh_netlink.specs.declared.neigh.Neigh.{Neigh}
use Rattle.neigh_netlink.specs.Monitor.{messages_of}
use Rattle.neigh_netlink.specs.Stream.{Kept, kept_of}
use Rattle.neigh_netlink.proofs.Kept.{more-told, one-message}
use Rattle.neigh_netlink.proofs.stream.Stream.follow.Goals as goal

pub loop-at-preserved : goal.loop-at-preserved
loop-at-preserved c =
    let h = c.args.history.now in
    let at = c.loop-at.at in
    let domains = c.args.self.now.domains in
    let its = ap (λ (k : Kept). k.domains) c.loop-at.invariant.kept in
    let x = slice_get_there h at c.loop-at-test.true in
    let told = c.accept-message.ensures.message x.0 x.1 in
    let more = option_to_list c.accept-message.result in
    let rest = messages_of domains.edition (take (at + 1) h) (drop (at + 1) h) in
    let one = one-message c.accept-message.result in
    record {
      kept = c.accept-message.ensures.kept ∙ ap (λ d. kept_of d (take (at + 1) h)) its;
      told =
          ap (λ (l : List Neigh). l ++ rest) c.push.ensures.items
          ∙ append_assoc c.loop-at.messages.items more rest
          ∙ ap (λ (l : List Neigh). c.loop-at.messages.items ++ l) (more-told domains.edition h at x.0 x.1 c.accept-message.result c.loop-at.self.domains told (ap (λ (d : Domains). d.edition) its))
          ∙ c.loop-at.invariant.told;
      room = omega (arith, c.loop-at.invariant.room, c.push.ensures.capacity, c.loop-at-test.true, one, ap length c.push.ensures.items, length-append c.loop-at.messages.items more);
    }
