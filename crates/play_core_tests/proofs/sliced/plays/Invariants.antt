use Rattle.play_core_tests.proofs.sliced.plays.Given as goal

abbrev pub ghosts-with_blank : goal.ghosts-with_blank
ghosts-with_blank a = record { name = a.blank.name; parts = a.blank.parts }
