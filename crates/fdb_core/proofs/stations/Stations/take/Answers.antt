use Rattle.std.proofs.Common.{ℕ, List, not, ap, sym, ◌∙◌}
use Rattle.std.specs.Ordering.{nat_cmp, eq_by_cmp}
use Rattle.std.specs.FinMap.Entries as entries
use Rattle.br_model.specs.Data.Maps.{pair_cmp, without}
use Rattle.br_model.specs.declared.change.Kind.{Kind}
use Rattle.fdb_core.specs.Stations.{Whereabouts}
use Rattle.open_addressing.specs.Finite.{Table}
use Rattle.open_addressing.specs.Pairs.{Pair, by_pair}
use Rattle.open_addressing.proofs.Pairs.{without-by_pair}
use Rattle.fdb_core.proofs.stations.Stations.take.Goals as goal

pub returns : goal.returns
returns c =
    let es = c.self.inside.places.entries in
    let k : Pair = (c.args.vid, c.args.mac) in
    let stations : Table (ℕ × Kind) → Whereabouts = λ t. record { entries = by_pair t.entries; room = t.room } in
    let with_room : List (Pair × (ℕ × Kind)) → Whereabouts = λ l. record { entries = l; room = c.self.inside.places.room } in
    ap stations c.take.ensures.rest
    ∙ ap with_room
    (ap (λ q. by_pair (entries.where_key nat_cmp (λ k. not (eq_by_cmp nat_cmp q k)) es)) c.pack.ensures.value ∙ sym (without-by_pair k c.pack.ensures.below es))
    ∙ ap (λ (s : Whereabouts). record s { entries = without pair_cmp s.entries k }) c.self.view_is
