-- What the ends of the queues have posted.
use Rattle.std.specs.Prelude.{◌≡◌, List}
use Rattle.std.specs.List.{All}
use Rattle.br_model.specs.declared.change.Update.{Update}
use Rattle.br_model.specs.Table.Change.{updates}
use Rattle.deferred_queue.specs.Ends.{Posting}
use Rattle.plane_record.specs.Pasts.{Past, world_of}

-- the updates of all changes that were accepted
abbrev pub updates_of : Past → List Update
updates_of p = updates p.setup.domains.edition (world_of p).history

-- each end has posted just these
abbrev pub HavePosted : List Update → List Posting → Type 0
HavePosted us posters = All (λ x. x.posted ≡ us) posters
