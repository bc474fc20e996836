use Rattle.std.proofs.Common.{◌≡◌, ◌<◌, ℕ, List, None, length, ap, sym, subst, ◌∙◌}
use Rattle.std.specs.Ordering.{nat_cmp}
use Rattle.std.specs.FinMap.Entries as entries
use Rattle.br_model.specs.Data.Maps.{pair_cmp, get, put}
use Rattle.br_model.specs.declared.change.Kind.{Kind}
use Rattle.fdb_core.specs.Stations.{Whereabouts}
use Rattle.open_addressing.specs.Finite.{Table}
use Rattle.open_addressing.specs.Pairs.{Pair, by_pair}
use Rattle.open_addressing.proofs.Pairs.{get-by_pair, put-by_pair, length-by_pair}
use Rattle.fdb_core.proofs.stations.Stations.put.Goals as goal

pub insert-requires-clause-room : goal.insert-requires-clause-room
insert-requires-clause-room c = λ none.
    let es = c.self.inside.places.entries in
    let k : Pair = (c.args.vid, c.args.mac) in
    let may = subst (λ (s : Whereabouts). get pair_cmp s.entries k ≡ None → length s.entries < s.room) (sym c.self.view_is) c.requires in
    subst (λ n. n < c.self.inside.places.room) (length-by_pair es)
    (may (get-by_pair k c.pack.ensures.below es ∙ ap (λ q. entries.find nat_cmp q es) (sym c.pack.ensures.value) ∙ none))

pub returns : goal.returns
returns c =
    let es = c.self.inside.places.entries in
    let k : Pair = (c.args.vid, c.args.mac) in
    let v : ℕ × Kind = (c.args.port, c.args.kind) in
    let stations : Table (ℕ × Kind) → Whereabouts = λ t. record { entries = by_pair t.entries; room = t.room } in
    let with_room : List (Pair × (ℕ × Kind)) → Whereabouts = λ l. record { entries = l; room = c.self.inside.places.room } in
    ap stations c.insert.ensures.entries
    ∙ ap with_room
    (ap (λ q. by_pair (entries.put nat_cmp q v es)) c.pack.ensures.value ∙ sym (put-by_pair k c.pack.ensures.below v es))
    ∙ ap (λ (s : Whereabouts). record s { entries = put pair_cmp s.entries k v }) c.self.view_is
