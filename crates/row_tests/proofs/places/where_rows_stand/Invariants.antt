use Rattle.row_tests.proofs.places.where_rows_stand.Given as goal

abbrev pub ghosts-put_and_remove : goal.ghosts-put_and_remove
ghosts-put_and_remove g a = record { name = a.blank.name; parts = a.blank.parts }
