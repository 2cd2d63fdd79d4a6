use Rattle.std.proofs.Common.{◌≡◌, ◌<◌, ◌≤◌, ℕ, List, [], length, Some}
use Rattle.z_play.specs.View.{machine, layout_in, Kept}
use Rattle.z_play.specs.inside.Scene.{scene, given_by, state}
use Rattle.z_play.specs.inside.Recent.{IsRecent}
use Rattle.z_play.proofs.Going.{Going}
use Rattle.z_play.proofs.player.run_steps.Given as goal

abbrev pub invariant-loop-left : goal.invariant-loop-left
invariant-loop-left g l = record {
  kept : Kept l.fn.engine l.engine;
  recent : IsRecent l.engine.memory.base l.engine.memory.bytes.items l.recent;
  drawn : l.drawn < length l.dice;
  reads : (g.S.Source.view l.fn.source).faults ≤ (g.S.Source.view l.source).faults;
  writes : (g.K.Sink.view l.fn.sink).faults ≤ (g.K.Sink.view l.sink).faults;
  going : (typed : List ℕ) → (g.S.Source.view l.fn.source).left ≡ Some typed → Going (given_by (layout_in l.fn.engine) l.dice) (state (machine l.fn.engine) typed 0 []) l.steps l.left (scene (machine l.fn.engine) 0 l.fn.begun (g.S.Source.view l.fn.source).left (g.K.Sink.view l.fn.sink)) (scene (machine l.engine) l.drawn l.begun (g.S.Source.view l.source).left (g.K.Sink.view l.sink));
  untold : (left : List ℕ) → ((typed : List ℕ) × Going (given_by (layout_in l.fn.engine) l.dice) (state (machine l.fn.engine) typed 0 []) l.steps l.left
      (scene (machine l.fn.engine) 0 l.fn.begun (Some typed) (g.K.Sink.view l.fn.sink)) (scene (machine l.engine) l.drawn l.begun (Some left) (g.K.Sink.view l.sink)));
}

abbrev pub decreases-loop-left : goal.decreases-loop-left
decreases-loop-left g l = l.left
