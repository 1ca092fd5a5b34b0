use Rattle.bench_rows.proofs.measure.rows.Given as goal

abbrev pub ghosts-in_memory : goal.ghosts-in_memory
ghosts-in_memory g a = record { name = a.blank.name; parts = a.blank.parts }

abbrev pub ghosts-on_file : goal.ghosts-on_file
ghosts-on_file g a = record { name = a.blank.name; parts = a.blank.parts }
