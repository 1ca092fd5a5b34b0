use Rattle.row_tests.proofs.bitmaps.rows_that_pass.Given as goal

abbrev pub ghosts-walk_over : goal.ghosts-walk_over
ghosts-walk_over g a = record { name = a.blank.name; parts = a.blank.parts }
