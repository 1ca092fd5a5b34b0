use Rattle.row_tests.proofs.heaps.rows_over_pages.Given as goal

abbrev pub ghosts-grow_and_shrink : goal.ghosts-grow_and_shrink
ghosts-grow_and_shrink g a = record { name = a.blank.name; parts = a.blank.parts }
