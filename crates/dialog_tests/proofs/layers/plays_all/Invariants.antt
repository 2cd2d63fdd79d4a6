use Rattle.dialog_tests.proofs.layers.plays_all.Given as goal

abbrev pub invariant-loop-row : goal.invariant-loop-row
invariant-loop-row g l = record { ready : g.L.Layer.ready l.layer }
