use Rattle.row_tests.proofs.heaps.a_circle_is_found.Given as goal

abbrev pub ghosts-sweep_a_circle : goal.ghosts-sweep_a_circle
ghosts-sweep_a_circle g a = record { name = a.blank.name; parts = a.blank.parts }
