use Rattle.std.proofs.Common.{rules, ◌≡◌, length, arith, ◌+◌}
use Rattle.dg_base.specs.declared.program.Goal.TheVariants.{Once}
use Rattle.dg_choices.specs.declared.frames.Mark.TheVariants.{CutTo}
use Rattle.dg_interp.specs.inside.Frames.{IsFrame}
use Rattle.dg_interp.specs.inside.Engine.{store_in, TakesAt}
use Rattle.dg_interp.proofs.Branches.{full_from, went_on_from}
use Rattle.dg_interp.proofs.Controls.{pushed_means, pushed_here, pushed_leads, pushed_room, stays, once_full, once_begun}
use Rattle.dg_interp.proofs.engine.Engine.once.Goals as goal

pub returns-in-Err-clause-full : goal.returns-in-Err-clause-full
returns-in-Err-clause-full c =
    let old = c.args.self.now in
    let e = c.push.new.self in
    let x = Once c.args.goals.now in
    let p = c.in_ok-push.ensures.pushed in
    let b = pushed_means old.here old e c.requires.ready c.requires.ready.here p in
    full_from (TakesAt x old) (TakesAt x e) (store_in old.store) (store_in e.store) c.in-Err.e b.limits.heap b.limits.trail
    (pushed_leads x old.here old e b (TakesAt x e) (stays (TakesAt x e))) (once_full c.args.goals e p.ready (pushed_here old e c.requires.ready p) c.in-Err.e (store_in c.charge.new.self) c.in-Err.ensures.made)

pub returns-clause-done : goal.returns-clause-done
returns-clause-done c =
    let old = c.args.self.now in
    let e = c.push.new.self in
    let x = Once c.args.goals.now in
    let p = c.in_ok-push.ensures.pushed in
    let b = pushed_means old.here old e c.requires.ready c.requires.ready.here p in
    let k = c.in_default.ensures in
    let first = record e.here { goals = c.args.goals; mark = CutTo (e.newest + 1); behind = length e.frames.items } in
    let is : IsFrame (length e.frames.items) (length e.refs.items) first = record { runnable = c.requires.runnable; older = omega arith; env = p.ready.here.env } in
    let new = record e { store = c.charge.new.self; newest = e.newest + 1; here = first } in
    let at : c.len.result ≡ length e.frames.items = search rules in
    rw at
    (went_on_from (TakesAt x old) (TakesAt x e) old e new c.push.ensures.left b.limits (pushed_leads x old.here old e b (TakesAt x e) (stays (TakesAt x e)))
    (once_begun c.args.goals e p.ready (pushed_here old e c.requires.ready p) c.charge.new.self is (pushed_room old.here old e p c.requires.room) k.kept k.saved k.made))
