use Rattle.std.proofs.Common.{ap, sym, subst, take, ◌∙◌}
use Rattle.std.specs.Prelude.{if◌then◌else◌, ◌+◌}
use Rattle.br_model.specs.Table.Change.{address_part, deferred}
use Rattle.neigh_netlink.specs.Monitor.{message_of}
use Rattle.neigh_netlink.specs.Stream.{Kept, kept_of, PutsWithin}
use Rattle.open_addressing.specs.Pairs.{by_pair}
use Rattle.neigh_netlink.proofs.Kept.{few-tickets, kept-further, kept-inside, message-told, puts-within}
use Rattle.neigh_netlink.proofs.stream.Stream.accept.Goals as goal

pub next_ticket-self-inside-requires : goal.next_ticket-self-inside-requires
next_ticket-self-inside-requires c =
    let s = c.self.inside in
    few-tickets s.domains c.args.history.now c.requires.limits c.args.at c.requires.within s.count (by_pair s.lasts.entries)
    (kept-inside _ _ (take c.args.at c.args.history.now) c.self.view_is c.requires.kept)

pub change-requires : goal.change-requires
change-requires c =
    let s = c.self.inside in
    let x = c.index-history-at in
    subst (λ n. PutsWithin (by_pair s.lasts.entries) n (address_part x.result)) (sym c.self.invariant)
    (puts-within s.domains c.args.history.now c.requires.limits c.args.at c.requires.within s.count (by_pair s.lasts.entries)
    (kept-inside _ _ (take c.args.at c.args.history.now) c.self.view_is c.requires.kept) x.result x.is)

pub returns-clause-kept : goal.returns-clause-kept
returns-clause-kept c =
    let s = c.self.inside in
    let x = c.index-history-at in
    let late = c.is_deferred.ensures ∙ ap (λ e. deferred e x.result) c.edition.ensures in
    kept-further s.domains c.args.history.now c.requires.limits c.args.at c.requires.within s.count (by_pair s.lasts.entries)
    (kept-inside _ _ (take c.args.at c.args.history.now) c.self.view_is c.requires.kept) x.result x.is
    c.next_ticket-self-inside.result (by_pair c.change.new.lasts.entries)
    (c.next_ticket-self-inside.ensures ∙ ap (λ b. if b then s.count + 1 else s.count) late)
    c.change.ensures.entries
    ∙ ap (λ (k : Kept). kept_of k.domains (take (c.args.at + 1) c.args.history.now)) c.self.view_is

pub returns-clause-message : goal.returns-clause-message
returns-clause-message c = λ d there.
    let s = c.self.inside in
    let x = c.index-history-at in
    message-told s.domains c.args.history.now c.requires.limits c.args.at c.requires.within s.count (by_pair s.lasts.entries)
    (kept-inside _ _ (take c.args.at c.args.history.now) c.self.view_is c.requires.kept) x.result x.is
    c.change.result c.change.ensures.message d there
    ∙ ap (λ (k : Kept). message_of k.domains.edition (take c.args.at c.args.history.now) d) c.self.view_is
