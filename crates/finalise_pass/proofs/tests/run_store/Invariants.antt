use Rattle.finalise_pass.proofs.tests.run_store.Given as goal

abbrev pub ghosts-store_between : goal.ghosts-store_between
ghosts-store_between a = record { name = a.blank.name; parts = a.blank.parts }
