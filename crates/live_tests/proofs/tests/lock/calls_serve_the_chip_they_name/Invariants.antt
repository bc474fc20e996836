use Rattle.live_tests.proofs.tests.lock.calls_serve_the_chip_they_name.Given as goal

-- the board that was just made
abbrev pub ghosts-use_two_chips : goal.ghosts-use_two_chips
ghosts-use_two_chips g a = record { board = a.ran.board; own = a.ran.setup.own }
