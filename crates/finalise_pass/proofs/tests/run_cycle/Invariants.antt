use Rattle.finalise_pass.proofs.tests.run_cycle.Given as goal

abbrev pub ghosts-with_blank : goal.ghosts-with_blank
ghosts-with_blank a = record { name = a.blank.name; parts = a.blank.parts }
