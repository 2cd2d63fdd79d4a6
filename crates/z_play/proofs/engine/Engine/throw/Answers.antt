use Rattle.std.proofs.Common.{◌<◌, inl, inr, arith}
use Rattle.z_play.specs.View.{machine, layout_in}
use Rattle.z_play.proofs.Entered.{callers_long}
use Rattle.z_play.proofs.Returns.{no_such_frame}
use Rattle.z_play.proofs.Rights.{kept_then}
use Rattle.z_play.proofs.Throwing.{drop_starts, drop_goes, drop_ends}
use Rattle.z_play.proofs.engine.Engine.throw.Goals as goal
use Rattle.z_play.proofs.engine.Engine.throw.Goals.{then-frame-eq0-via-then-frame-eq0, then-frame-eq0-via-else-frame-eq0+then-self-frame}

pub loop-self-init : goal.loop-self-init
loop-self-init c = drop_starts c.args.self.now c.args.frame c.requires c.if-self-frame.false

pub loop-self-preserved : goal.loop-self-preserved
loop-self-preserved c =
    let some : 0 < c.args.frame = omega (arith, c.if-frame-eq0.false) in
    drop_goes c.args.self.now c.loop-self.self c.drop_frame.new.self c.args.frame c.requires some c.loop-self.invariant c.loop-self-test.true c.drop_frame.ensures.kept c.drop_frame.ensures.dropped c.drop_frame.ensures.depth

pub returns-clause-thrown : goal.returns-clause-thrown
returns-clause-thrown c = drop_ends c.args.self.now c.loop-self.self (machine c.give_back.new.self) c.args.frame c.args.x c.give_back.result c.requires c.if-frame-eq0.false c.loop-self.invariant c.loop-self-test.false c.give_back.ensures.returned

pub returns-clause-kept : goal.returns-clause-kept
returns-clause-kept c = kept_then c.args.self.now c.loop-self.self c.give_back.new.self c.loop-self.invariant.kept c.give_back.ensures.kept

pub returns-then-frame-eq0-clause-thrown : goal.returns-then-frame-eq0-clause-thrown
returns-then-frame-eq0-clause-thrown c =
    let long = callers_long c.args.self.now c.requires in
    elim c.then-frame-eq0.branch [
      | then-frame-eq0-via-then-frame-eq0 w ↦ no_such_frame (layout_in c.args.self.now) (machine c.args.self.now) c.args.x c.args.frame (inl w.if-frame-eq0.true)
      | then-frame-eq0-via-else-frame-eq0+then-self-frame w ↦ no_such_frame (layout_in c.args.self.now) (machine c.args.self.now) c.args.x c.args.frame (inr (omega (arith, long, w.if-self-frame.true)))
    ]
