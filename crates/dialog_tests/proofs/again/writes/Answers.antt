use Rattle.dialog_tests.proofs.again.writes.Goals as goal

pub returns : goal.returns
returns g c = let some = c.requires in (some.0, c.run.ensures.ready some.0 some.1)
