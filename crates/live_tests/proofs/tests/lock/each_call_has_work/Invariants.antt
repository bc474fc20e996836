use Rattle.live_tests.proofs.tests.lock.each_call_has_work.Given as goal

-- the board that was just made
abbrev pub ghosts-use_locks : goal.ghosts-use_locks
ghosts-use_locks g a = record { board = a.ran.board; own = a.ran.setup.own }
