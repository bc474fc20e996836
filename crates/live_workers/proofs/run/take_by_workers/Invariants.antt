use Rattle.live_workers.proofs.run.take_by_workers.Given as goal

-- the board that was just made
abbrev pub ghosts-take_named : goal.ghosts-take_named
ghosts-take_named g a = record { board = a.ran.board; own = a.ran.setup.own }
