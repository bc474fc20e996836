use Rattle.live_tests.proofs.tests.lock.turns_go_by_the_queue.Given as goal

-- the board that was just made
abbrev pub ghosts-use_queue : goal.ghosts-use_queue
ghosts-use_queue g a = record { board = a.ran.board; own = a.ran.setup.own }
