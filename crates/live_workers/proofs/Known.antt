-- What a chair knows only grows, and what was seen by it stays seen.
use Rattle.std.proofs.Common.{◌≡◌, ℕ, ◌≤◌, true, List, length, take, sym, subst, ◌∙◌, ap, arith, length-append}
use Rattle.std.proofs.lemmas.Bool.{or_left}
use Rattle.std.proofs.lemmas.List.{take-append-le}
use Rattle.std.proofs.lemmas.List.Folds.{list_any-append}
use Rattle.std.specs.List.{All}
use Rattle.std.specs.Ordering.{nat_cmp, eq_by_cmp}
use Rattle.br_model.specs.declared.change.Change.{Change}
use Rattle.br_model.specs.Data.Maps.{has}
use Rattle.br_model.specs.Table.Domains.{Domains}
use Rattle.br_model.specs.Table.Table.{table}
use Rattle.br_model.specs.Wire.Messages.{message}
use Rattle.br_model.proofs.Data.Lists.{has-up-to}
use Rattle.forward_rules.specs.Decided.{Decides}
use Rattle.plane_core.specs.declared.held.Held.{Held}
use Rattle.table_publish.specs.Object.{Object, Begins, IsPublished}
use Rattle.table_publish.specs.declared.seat.Seen.{Seen}
use Rattle.plane_lock.specs.Posts.{IsSeen}
use Rattle.plane_lock.proofs.Posting.{within}
use Rattle.live_workers.specs.declared.frames.Looked.{Looked}

known_more : (old new : Object) → Begins new old → length old.changes ≤ length new.changes
known_more old new b = subst (λ (l : List Change). length old.changes ≤ length l) b.changes.1 (omega (arith, length-append old.changes b.changes.0))

seen_still : (d : Domains) (old new : Object) (h : Held) (n : Seen) → IsPublished old → Begins new old → IsSeen d old h n → IsSeen d new h n
seen_still d old new h n p b s =
    let few : n.point ≤ length old.changes = has-up-to n.point (length old.changes) old.counts (within old p) s.point in
    let same : take n.point new.changes ≡ take n.point old.changes = ap (take n.point) (sym b.changes.1) ∙ take-append-le n.point old.changes b.changes.0 few in
    record {
      point = subst (λ (l : List ℕ). has nat_cmp l n.point ≡ true) b.counts.1 (list_any-append (eq_by_cmp nat_cmp n.point) old.counts b.counts.0 ∙ or_left (has nat_cmp old.counts n.point) _ s.point);
      floor = s.floor;
      verdict = λ head is. subst (λ (cs : List Change). Decides d (table cs) h.port head (message h.bytes head) n.verdict) (sym same) (s.verdict head is);
    }

pub floors_still : (old new : Object) (hs : List Held) → Begins new old → All (λ h. h.floor ≤ length old.changes) hs → All (λ h. h.floor ≤ length new.changes) hs
floors_still old new hs b = λ all k e lt. omega (arith, all k e lt, known_more old new b)

pub all_still : (d : Domains) (old new : Object) (xs : List Looked) → IsPublished old → Begins new old → All (λ x. IsSeen d old x.held x.seen) xs → All (λ x. IsSeen d new x.held x.seen) xs
all_still d old new xs p b = λ all k e lt. seen_still d old new _ _ p b (all k e lt)
