use Rattle.heap_bench.proofs.work.Given as goal

abbrev pub ghosts-mark : goal.ghosts-mark
ghosts-mark a = record { name = a.blank.name; parts = a.blank.parts }
