use Rattle.test_text.proofs.boards.put_told.Given as goal

-- what the board holds before the puts
abbrev pub ghosts-put_both : goal.ghosts-put_both
ghosts-put_both a = record { past = a.board }
