use Rattle.mark_bench.proofs.pass.Given as goal

abbrev pub ghosts-cycle : goal.ghosts-cycle
ghosts-cycle g a = record { name = a.blank.name; parts = a.blank.parts }
