use Rattle.std.proofs.Common.{◌≡◌, ◌+◌, ◌-◌, ℕ, List, [], Option, Some, Ok, Err, refl, sym, ◌∙◌, subst, arith}
use Rattle.z_model.specs.declared.story.Layout.{Layout}
use Rattle.z_model.specs.declared.end.Halt.{Halt}
use Rattle.z_model.specs.declared.end.ZEnd.{ZEnd}
use Rattle.z_model.specs.Run.{zrun}
use Rattle.z_play.specs.View.{layout_in, machine}
use Rattle.z_play.specs.inside.Scene.{scene, given_by, state}
use Rattle.z_play.specs.inside.Acting.{MayBeLeft}
use Rattle.z_play.specs.inside.Advancing.{Advances, RanTo}
use Rattle.dg_base.specs.declared.run.Fault.{Fault}
use Rattle.z_play.proofs.Going.{Going, going_first, less_left, going_on, run_ended, run_limit, run_failed, typed_is, nothing_left, causes_ok, causes_err}
use Rattle.z_model.specs.Laws.{IsLaid}
use Rattle.z_play.specs.inside.Recent.{IsRecent}
use Rattle.z_play.proofs.CodeStays.{came_keeps, recent_on}
use Rattle.z_play.proofs.player.run_steps.Goals as goal

pub loop-left-init : goal.loop-left-init
loop-left-init g c = record {
  kept = record { sound = c.requires.sound; layout = refl; memory = refl };
  recent = c.requires.recent;
  drawn = c.requires.dice;
  reads = omega arith;
  writes = omega arith;
  going = λ typed told. going_first (given_by (layout_in c.args.engine.now) c.args.dice.now) (machine c.args.engine.now) c.args.steps typed c.args.begun.now (g.S.Source.view c.args.source.now).left (g.K.Sink.view c.args.sink.now) told;
  untold = λ left. (left, going_first (given_by (layout_in c.args.engine.now) c.args.dice.now) (machine c.args.engine.now) c.args.steps left c.args.begun.now (Some left) (g.K.Sink.view c.args.sink.now) refl);
}

pub advance-requires-clause-sound : goal.advance-requires-clause-sound
advance-requires-clause-sound g c = c.loop-left.invariant.kept.sound

pub advance-requires-clause-drawn : goal.advance-requires-clause-drawn
advance-requires-clause-drawn g c = c.loop-left.invariant.drawn

pub returns-in-Err-clause-kept : goal.returns-in-Err-clause-kept
returns-in-Err-clause-kept g c = record { sound = c.in-Err.ensures.kept.sound; layout = c.in-Err.ensures.kept.layout ∙ c.loop-left.invariant.kept.layout; memory = c.in-Err.ensures.kept.memory ∙ c.loop-left.invariant.kept.memory }

pub returns-in-Err-clause-told : goal.returns-in-Err-clause-told
returns-in-Err-clause-told g c = λ typed told drawn.
    let more : c.loop-left.left ≡ c.loop-left.left - 1 + 1 = omega (arith, c.loop-left-test.true) in
    let here = less_left (given_by (layout_in c.args.engine.now) c.args.dice.now) (state (machine c.args.engine.now) typed 0 []) c.args.steps c.loop-left.left (c.loop-left.left - 1) (scene (machine c.args.engine.now) 0 c.args.begun.now (g.S.Source.view c.args.source.now).left (g.K.Sink.view c.args.sink.now)) (scene (machine c.loop-left.engine) c.loop-left.drawn c.loop-left.begun (g.S.Source.view c.loop-left.source).left (g.K.Sink.view c.loop-left.sink)) more (c.loop-left.invariant.going typed told) in
    let stepped = subst (λ (l : Layout). Advances (Err c.in-Err.fault) (given_by l c.args.dice.now) here.typed (scene (machine c.loop-left.engine) c.loop-left.drawn c.loop-left.begun (g.S.Source.view c.loop-left.source).left (g.K.Sink.view c.loop-left.sink)) (scene (machine c.advance.new.engine) c.advance.new.drawn c.advance.new.begun (g.S.Source.view c.advance.new.source).left (g.K.Sink.view c.advance.new.sink))) c.loop-left.invariant.kept.layout (c.in-Err.ensures.told here.typed here.left_is) in
    run_failed (given_by (layout_in c.args.engine.now) c.args.dice.now) (state (machine c.args.engine.now) typed 0 []) c.args.steps (c.loop-left.left - 1) (scene (machine c.args.engine.now) 0 c.args.begun.now (g.S.Source.view c.args.source.now).left (g.K.Sink.view c.args.sink.now)) (scene (machine c.loop-left.engine) c.loop-left.drawn c.loop-left.begun (g.S.Source.view c.loop-left.source).left (g.K.Sink.view c.loop-left.sink)) (scene (machine c.advance.new.engine) c.advance.new.drawn c.advance.new.begun (g.S.Source.view c.advance.new.source).left (g.K.Sink.view c.advance.new.sink)) drawn c.in-Err.fault here stepped

pub returns-in-Err-clause-untold : goal.returns-in-Err-clause-untold
returns-in-Err-clause-untold g c = λ drawn.
    let source = c.in-Err.ensures.untold [] tt in
    let before = c.loop-left.invariant.untold source.0 in
    let more : c.loop-left.left ≡ c.loop-left.left - 1 + 1 = omega (arith, c.loop-left-test.true) in
    let here = less_left (given_by (layout_in c.args.engine.now) c.args.dice.now) (state (machine c.args.engine.now) before.0 0 []) c.args.steps c.loop-left.left (c.loop-left.left - 1)
    (scene (machine c.args.engine.now) 0 c.args.begun.now (Some before.0) (g.K.Sink.view c.args.sink.now))
    (scene (machine c.loop-left.engine) c.loop-left.drawn c.loop-left.begun (Some source.0) (g.K.Sink.view c.loop-left.sink)) more before.1 in
    let same = typed_is (given_by (layout_in c.args.engine.now) c.args.dice.now) (state (machine c.args.engine.now) before.0 0 []) c.args.steps (c.loop-left.left - 1 + 1) (scene (machine c.args.engine.now) 0 c.args.begun.now (Some before.0) (g.K.Sink.view c.args.sink.now)) (machine c.loop-left.engine) c.loop-left.drawn c.loop-left.begun source.0 (g.K.Sink.view c.loop-left.sink) here in
    let laid = subst (λ (l : Layout). Advances (Err c.in-Err.fault) (given_by l c.args.dice.now) source.0
    (scene (machine c.loop-left.engine) c.loop-left.drawn c.loop-left.begun (Some source.0) (g.K.Sink.view c.loop-left.sink))
    (scene (machine c.advance.new.engine) c.advance.new.drawn c.advance.new.begun (Some []) (g.K.Sink.view c.advance.new.sink))) c.loop-left.invariant.kept.layout source.1 in
    let stepped = subst (λ (typed : List ℕ). Advances (Err c.in-Err.fault) (given_by (layout_in c.args.engine.now) c.args.dice.now) typed
    (scene (machine c.loop-left.engine) c.loop-left.drawn c.loop-left.begun (Some source.0) (g.K.Sink.view c.loop-left.sink))
    (scene (machine c.advance.new.engine) c.advance.new.drawn c.advance.new.begun (Some []) (g.K.Sink.view c.advance.new.sink))) same laid in (
      before.0,
      [],
      run_failed (given_by (layout_in c.args.engine.now) c.args.dice.now) (state (machine c.args.engine.now) before.0 0 []) c.args.steps (c.loop-left.left - 1)
          (scene (machine c.args.engine.now) 0 c.args.begun.now (Some before.0) (g.K.Sink.view c.args.sink.now))
          (scene (machine c.loop-left.engine) c.loop-left.drawn c.loop-left.begun (Some source.0) (g.K.Sink.view c.loop-left.sink))
          (scene (machine c.advance.new.engine) c.advance.new.drawn c.advance.new.begun (Some []) (g.K.Sink.view c.advance.new.sink)) drawn c.in-Err.fault here stepped,
    )

pub returns-in-Err-clause-causes : goal.returns-in-Err-clause-causes
returns-in-Err-clause-causes g c = causes_err (g.S.Source.view c.args.source.now) (g.S.Source.view c.loop-left.source) (g.S.Source.view c.advance.new.source) (g.K.Sink.view c.args.sink.now) (g.K.Sink.view c.loop-left.sink) (g.K.Sink.view c.advance.new.sink) c.in-Err.fault c.loop-left.invariant.reads c.loop-left.invariant.writes c.in-Err.ensures.causes

pub returns-in-Some-clause-kept : goal.returns-in-Some-clause-kept
returns-in-Some-clause-kept g c = record { sound = c.in-Ok.ensures.kept.sound; layout = c.in-Ok.ensures.kept.layout ∙ c.loop-left.invariant.kept.layout; memory = c.in-Ok.ensures.kept.memory ∙ c.loop-left.invariant.kept.memory }

pub returns-in-Some-clause-told : goal.returns-in-Some-clause-told
returns-in-Some-clause-told g c = λ typed told drawn.
    let more : c.loop-left.left ≡ c.loop-left.left - 1 + 1 = omega (arith, c.loop-left-test.true) in
    let here = less_left (given_by (layout_in c.args.engine.now) c.args.dice.now) (state (machine c.args.engine.now) typed 0 []) c.args.steps c.loop-left.left (c.loop-left.left - 1) (scene (machine c.args.engine.now) 0 c.args.begun.now (g.S.Source.view c.args.source.now).left (g.K.Sink.view c.args.sink.now)) (scene (machine c.loop-left.engine) c.loop-left.drawn c.loop-left.begun (g.S.Source.view c.loop-left.source).left (g.K.Sink.view c.loop-left.sink)) more (c.loop-left.invariant.going typed told) in
    let stepped = subst (λ (l : Layout). Advances (Ok c.in-Ok.halt) (given_by l c.args.dice.now) here.typed (scene (machine c.loop-left.engine) c.loop-left.drawn c.loop-left.begun (g.S.Source.view c.loop-left.source).left (g.K.Sink.view c.loop-left.sink)) (scene (machine c.advance.new.engine) c.advance.new.drawn c.advance.new.begun (g.S.Source.view c.advance.new.source).left (g.K.Sink.view c.advance.new.sink))) c.loop-left.invariant.kept.layout (c.in-Ok.ensures.told here.typed here.left_is) in
    let ended = subst (λ (h : Option Halt). Advances (Ok h) (given_by (layout_in c.args.engine.now) c.args.dice.now) here.typed (scene (machine c.loop-left.engine) c.loop-left.drawn c.loop-left.begun (g.S.Source.view c.loop-left.source).left (g.K.Sink.view c.loop-left.sink)) (scene (machine c.advance.new.engine) c.advance.new.drawn c.advance.new.begun (g.S.Source.view c.advance.new.source).left (g.K.Sink.view c.advance.new.sink))) c.in-Some.is stepped in
    subst (λ (end : ZEnd). RanTo (zrun (given_by (layout_in c.args.engine.now) c.args.dice.now) c.args.steps (state (machine c.args.engine.now) typed 0 [])) end (scene (machine c.args.engine.now) 0 c.args.begun.now (g.S.Source.view c.args.source.now).left (g.K.Sink.view c.args.sink.now)) (scene (machine c.advance.new.engine) drawn c.advance.new.begun (g.S.Source.view c.advance.new.source).left (g.K.Sink.view c.advance.new.sink))) (sym c.end_as.ensures) (run_ended (given_by (layout_in c.args.engine.now) c.args.dice.now) (state (machine c.args.engine.now) typed 0 []) c.args.steps (c.loop-left.left - 1) (scene (machine c.args.engine.now) 0 c.args.begun.now (g.S.Source.view c.args.source.now).left (g.K.Sink.view c.args.sink.now)) (scene (machine c.loop-left.engine) c.loop-left.drawn c.loop-left.begun (g.S.Source.view c.loop-left.source).left (g.K.Sink.view c.loop-left.sink)) (scene (machine c.advance.new.engine) c.advance.new.drawn c.advance.new.begun (g.S.Source.view c.advance.new.source).left (g.K.Sink.view c.advance.new.sink)) drawn c.in-Some.halt here ended)

pub returns-in-Some-clause-untold : goal.returns-in-Some-clause-untold
returns-in-Some-clause-untold g c = λ drawn.
    let source = c.in-Ok.ensures.untold [] (nothing_left {E = Fault} (Ok c.in-Ok.halt)) in
    let before = c.loop-left.invariant.untold source.0 in
    let more : c.loop-left.left ≡ c.loop-left.left - 1 + 1 = omega (arith, c.loop-left-test.true) in
    let here = less_left (given_by (layout_in c.args.engine.now) c.args.dice.now) (state (machine c.args.engine.now) before.0 0 []) c.args.steps c.loop-left.left (c.loop-left.left - 1)
    (scene (machine c.args.engine.now) 0 c.args.begun.now (Some before.0) (g.K.Sink.view c.args.sink.now))
    (scene (machine c.loop-left.engine) c.loop-left.drawn c.loop-left.begun (Some source.0) (g.K.Sink.view c.loop-left.sink)) more before.1 in
    let same = typed_is (given_by (layout_in c.args.engine.now) c.args.dice.now) (state (machine c.args.engine.now) before.0 0 []) c.args.steps (c.loop-left.left - 1 + 1) (scene (machine c.args.engine.now) 0 c.args.begun.now (Some before.0) (g.K.Sink.view c.args.sink.now)) (machine c.loop-left.engine) c.loop-left.drawn c.loop-left.begun source.0 (g.K.Sink.view c.loop-left.sink) here in
    let laid = subst (λ (l : Layout). Advances (Ok c.in-Ok.halt) (given_by l c.args.dice.now) source.0
    (scene (machine c.loop-left.engine) c.loop-left.drawn c.loop-left.begun (Some source.0) (g.K.Sink.view c.loop-left.sink))
    (scene (machine c.advance.new.engine) c.advance.new.drawn c.advance.new.begun (Some []) (g.K.Sink.view c.advance.new.sink))) c.loop-left.invariant.kept.layout source.1 in
    let stepped = subst (λ (typed : List ℕ). Advances (Ok c.in-Ok.halt) (given_by (layout_in c.args.engine.now) c.args.dice.now) typed
    (scene (machine c.loop-left.engine) c.loop-left.drawn c.loop-left.begun (Some source.0) (g.K.Sink.view c.loop-left.sink))
    (scene (machine c.advance.new.engine) c.advance.new.drawn c.advance.new.begun (Some []) (g.K.Sink.view c.advance.new.sink))) same laid in
    let ended = subst (λ (h : Option Halt). Advances (Ok h) (given_by (layout_in c.args.engine.now) c.args.dice.now) here.typed
    (scene (machine c.loop-left.engine) c.loop-left.drawn c.loop-left.begun (Some source.0) (g.K.Sink.view c.loop-left.sink))
    (scene (machine c.advance.new.engine) c.advance.new.drawn c.advance.new.begun (Some []) (g.K.Sink.view c.advance.new.sink))) c.in-Some.is stepped in (
      before.0,
      [],
      subst (λ (end : ZEnd). RanTo (zrun (given_by (layout_in c.args.engine.now) c.args.dice.now) c.args.steps (state (machine c.args.engine.now) before.0 0 [])) end
          (scene (machine c.args.engine.now) 0 c.args.begun.now (Some before.0) (g.K.Sink.view c.args.sink.now))
          (scene (machine c.advance.new.engine) drawn c.advance.new.begun (Some []) (g.K.Sink.view c.advance.new.sink))) (sym c.end_as.ensures)
          (run_ended (given_by (layout_in c.args.engine.now) c.args.dice.now) (state (machine c.args.engine.now) before.0 0 []) c.args.steps (c.loop-left.left - 1)
          (scene (machine c.args.engine.now) 0 c.args.begun.now (Some before.0) (g.K.Sink.view c.args.sink.now))
          (scene (machine c.loop-left.engine) c.loop-left.drawn c.loop-left.begun (Some source.0) (g.K.Sink.view c.loop-left.sink))
          (scene (machine c.advance.new.engine) c.advance.new.drawn c.advance.new.begun (Some []) (g.K.Sink.view c.advance.new.sink)) drawn c.in-Some.halt here ended),
    )

pub returns-in-Some-clause-causes : goal.returns-in-Some-clause-causes
returns-in-Some-clause-causes g c = causes_ok (g.S.Source.view c.args.source.now) (g.S.Source.view c.loop-left.source) (g.S.Source.view c.advance.new.source) (g.K.Sink.view c.args.sink.now) (g.K.Sink.view c.loop-left.sink) (g.K.Sink.view c.advance.new.sink) c.in-Ok.halt c.end_as.result c.loop-left.invariant.reads c.loop-left.invariant.writes c.in-Ok.ensures.causes

pub loop-left-preserved : goal.loop-left-preserved
loop-left-preserved g c = record {
  kept = record { sound = c.in-Ok.ensures.kept.sound; layout = c.in-Ok.ensures.kept.layout ∙ c.loop-left.invariant.kept.layout; memory = c.in-Ok.ensures.kept.memory ∙ c.loop-left.invariant.kept.memory };
  recent =
      let w = given_by (layout_in c.loop-left.engine) c.args.dice.now in
      let source = c.in-Ok.ensures.untold [] (subst (λ (h : Option Halt). MayBeLeft {E = Fault} (Ok h) []) (sym c.in-None.is) tt) in
      let here = scene (machine c.loop-left.engine) c.loop-left.drawn c.loop-left.begun (Some source.0) (g.K.Sink.view c.loop-left.sink) in
      let next = scene (machine c.advance.new.engine) c.advance.new.drawn c.advance.new.begun (Some []) (g.K.Sink.view c.advance.new.sink) in
      let came = subst (λ (h : Option Halt). Advances (Ok h) w source.0 here next) c.in-None.is source.1 in
      let laid : IsLaid w.layout = record { from = c.loop-left.invariant.kept.sound.from; globals = c.loop-left.invariant.kept.sound.globals } in
      let keeps = came_keeps w here next source.0 (c.steps_keep_code.ensures w (state here.machine source.0 here.drawn []) laid) came in
      let on = c.code_stands_on.ensures w.layout here.machine.memory next.machine.memory keeps in
      subst (λ (l : Layout). IsRecent l.base c.advance.new.engine.memory.bytes.items c.advance.new.recent) (sym c.in-Ok.ensures.kept.layout)
      (recent_on w.layout here.machine.memory next.machine.memory keeps on c.advance.new.recent c.in-Ok.ensures.recent);
  drawn = c.in-Ok.ensures.drawn;
  reads = omega (arith, c.loop-left.invariant.reads, c.in-Ok.ensures.causes.reads);
  writes = omega (arith, c.loop-left.invariant.writes, c.in-Ok.ensures.causes.writes);
  going = λ typed told.
      let more : c.loop-left.left ≡ c.loop-left.left - 1 + 1 = omega (arith, c.loop-left-test.true) in
      let here = less_left (given_by (layout_in c.args.engine.now) c.args.dice.now) (state (machine c.args.engine.now) typed 0 []) c.args.steps c.loop-left.left (c.loop-left.left - 1) (scene (machine c.args.engine.now) 0 c.args.begun.now (g.S.Source.view c.args.source.now).left (g.K.Sink.view c.args.sink.now)) (scene (machine c.loop-left.engine) c.loop-left.drawn c.loop-left.begun (g.S.Source.view c.loop-left.source).left (g.K.Sink.view c.loop-left.sink)) more (c.loop-left.invariant.going typed told) in
      let stepped = subst (λ (l : Layout). Advances (Ok c.in-Ok.halt) (given_by l c.args.dice.now) here.typed (scene (machine c.loop-left.engine) c.loop-left.drawn c.loop-left.begun (g.S.Source.view c.loop-left.source).left (g.K.Sink.view c.loop-left.sink)) (scene (machine c.advance.new.engine) c.advance.new.drawn c.advance.new.begun (g.S.Source.view c.advance.new.source).left (g.K.Sink.view c.advance.new.sink))) c.loop-left.invariant.kept.layout (c.in-Ok.ensures.told here.typed here.left_is) in
      let on = subst (λ (h : Option Halt). Advances (Ok h) (given_by (layout_in c.args.engine.now) c.args.dice.now) here.typed (scene (machine c.loop-left.engine) c.loop-left.drawn c.loop-left.begun (g.S.Source.view c.loop-left.source).left (g.K.Sink.view c.loop-left.sink)) (scene (machine c.advance.new.engine) c.advance.new.drawn c.advance.new.begun (g.S.Source.view c.advance.new.source).left (g.K.Sink.view c.advance.new.sink))) c.in-None.is stepped in
      going_on (given_by (layout_in c.args.engine.now) c.args.dice.now) (state (machine c.args.engine.now) typed 0 []) c.args.steps (c.loop-left.left - 1) (scene (machine c.args.engine.now) 0 c.args.begun.now (g.S.Source.view c.args.source.now).left (g.K.Sink.view c.args.sink.now)) (scene (machine c.loop-left.engine) c.loop-left.drawn c.loop-left.begun (g.S.Source.view c.loop-left.source).left (g.K.Sink.view c.loop-left.sink)) (scene (machine c.advance.new.engine) c.advance.new.drawn c.advance.new.begun (g.S.Source.view c.advance.new.source).left (g.K.Sink.view c.advance.new.sink)) here on;
  untold = λ left.
      let source = c.in-Ok.ensures.untold left (subst (λ (h : Option Halt). MayBeLeft {E = Fault} (Ok h) left) (sym c.in-None.is) tt) in
      let before = c.loop-left.invariant.untold source.0 in
      let more : c.loop-left.left ≡ c.loop-left.left - 1 + 1 = omega (arith, c.loop-left-test.true) in
      let here = less_left (given_by (layout_in c.args.engine.now) c.args.dice.now) (state (machine c.args.engine.now) before.0 0 []) c.args.steps c.loop-left.left (c.loop-left.left - 1)
      (scene (machine c.args.engine.now) 0 c.args.begun.now (Some before.0) (g.K.Sink.view c.args.sink.now))
      (scene (machine c.loop-left.engine) c.loop-left.drawn c.loop-left.begun (Some source.0) (g.K.Sink.view c.loop-left.sink)) more before.1 in
      let same = typed_is (given_by (layout_in c.args.engine.now) c.args.dice.now) (state (machine c.args.engine.now) before.0 0 []) c.args.steps (c.loop-left.left - 1 + 1) (scene (machine c.args.engine.now) 0 c.args.begun.now (Some before.0) (g.K.Sink.view c.args.sink.now)) (machine c.loop-left.engine) c.loop-left.drawn c.loop-left.begun source.0 (g.K.Sink.view c.loop-left.sink) here in
      let laid = subst (λ (l : Layout). Advances (Ok c.in-Ok.halt) (given_by l c.args.dice.now) source.0
      (scene (machine c.loop-left.engine) c.loop-left.drawn c.loop-left.begun (Some source.0) (g.K.Sink.view c.loop-left.sink))
      (scene (machine c.advance.new.engine) c.advance.new.drawn c.advance.new.begun (Some left) (g.K.Sink.view c.advance.new.sink))) c.loop-left.invariant.kept.layout source.1 in
      let stepped = subst (λ (typed : List ℕ). Advances (Ok c.in-Ok.halt) (given_by (layout_in c.args.engine.now) c.args.dice.now) typed
      (scene (machine c.loop-left.engine) c.loop-left.drawn c.loop-left.begun (Some source.0) (g.K.Sink.view c.loop-left.sink))
      (scene (machine c.advance.new.engine) c.advance.new.drawn c.advance.new.begun (Some left) (g.K.Sink.view c.advance.new.sink))) same laid in
      let on = subst (λ (h : Option Halt). Advances (Ok h) (given_by (layout_in c.args.engine.now) c.args.dice.now) here.typed
      (scene (machine c.loop-left.engine) c.loop-left.drawn c.loop-left.begun (Some source.0) (g.K.Sink.view c.loop-left.sink))
      (scene (machine c.advance.new.engine) c.advance.new.drawn c.advance.new.begun (Some left) (g.K.Sink.view c.advance.new.sink))) c.in-None.is stepped in (
        before.0,
        going_on (given_by (layout_in c.args.engine.now) c.args.dice.now) (state (machine c.args.engine.now) before.0 0 []) c.args.steps (c.loop-left.left - 1)
            (scene (machine c.args.engine.now) 0 c.args.begun.now (Some before.0) (g.K.Sink.view c.args.sink.now))
            (scene (machine c.loop-left.engine) c.loop-left.drawn c.loop-left.begun (Some source.0) (g.K.Sink.view c.loop-left.sink))
            (scene (machine c.advance.new.engine) c.advance.new.drawn c.advance.new.begun (Some left) (g.K.Sink.view c.advance.new.sink)) here on,
      );
}

pub returns-clause-kept : goal.returns-clause-kept
returns-clause-kept g c = c.loop-left.invariant.kept

pub returns-clause-told : goal.returns-clause-told
returns-clause-told g c = λ typed told drawn.
    let none : c.loop-left.left ≡ 0 = omega (arith, c.loop-left-test.false) in
    run_limit (given_by (layout_in c.args.engine.now) c.args.dice.now) (state (machine c.args.engine.now) typed 0 []) c.args.steps (scene (machine c.args.engine.now) 0 c.args.begun.now (g.S.Source.view c.args.source.now).left (g.K.Sink.view c.args.sink.now)) (scene (machine c.loop-left.engine) c.loop-left.drawn c.loop-left.begun (g.S.Source.view c.loop-left.source).left (g.K.Sink.view c.loop-left.sink)) drawn (subst (λ (k : ℕ). Going (given_by (layout_in c.args.engine.now) c.args.dice.now) (state (machine c.args.engine.now) typed 0 []) c.args.steps k (scene (machine c.args.engine.now) 0 c.args.begun.now (g.S.Source.view c.args.source.now).left (g.K.Sink.view c.args.sink.now)) (scene (machine c.loop-left.engine) c.loop-left.drawn c.loop-left.begun (g.S.Source.view c.loop-left.source).left (g.K.Sink.view c.loop-left.sink))) none (c.loop-left.invariant.going typed told))

pub returns-clause-untold : goal.returns-clause-untold
returns-clause-untold g c = λ drawn.
    let none : c.loop-left.left ≡ 0 = omega (arith, c.loop-left-test.false) in
    let before = c.loop-left.invariant.untold [] in (
      before.0,
      [],
      run_limit (given_by (layout_in c.args.engine.now) c.args.dice.now) (state (machine c.args.engine.now) before.0 0 []) c.args.steps
          (scene (machine c.args.engine.now) 0 c.args.begun.now (Some before.0) (g.K.Sink.view c.args.sink.now))
          (scene (machine c.loop-left.engine) c.loop-left.drawn c.loop-left.begun (Some []) (g.K.Sink.view c.loop-left.sink)) drawn
          (subst (λ (k : ℕ). Going (given_by (layout_in c.args.engine.now) c.args.dice.now) (state (machine c.args.engine.now) before.0 0 []) c.args.steps k
          (scene (machine c.args.engine.now) 0 c.args.begun.now (Some before.0) (g.K.Sink.view c.args.sink.now))
          (scene (machine c.loop-left.engine) c.loop-left.drawn c.loop-left.begun (Some []) (g.K.Sink.view c.loop-left.sink))) none before.1),
    )

pub returns-clause-causes : goal.returns-clause-causes
returns-clause-causes g c = record { reads = c.loop-left.invariant.reads; writes = c.loop-left.invariant.writes; read_failed = λ e. absurd cc; write_failed = λ e. absurd cc }
