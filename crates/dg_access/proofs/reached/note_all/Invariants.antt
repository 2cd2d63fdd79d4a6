use Rattle.std.proofs.Common.{◌≡◌, drop}
use Rattle.dg_access.specs.inside.Reached.{all_noted, reached_view}
use Rattle.dg_access.proofs.reached.note_all.Given as goal

abbrev pub invariant-loop-place : goal.invariant-loop-place
invariant-loop-place l = all_noted (drop l.place-index l.places) (reached_view l.reached) ≡ all_noted l.places (reached_view l.initial.reached)
