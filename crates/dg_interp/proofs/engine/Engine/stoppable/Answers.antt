use Rattle.std.proofs.Common.{rules, ◌≡◌, ◌+◌, Some, length, arith}
use Rattle.dg_base.specs.declared.program.Goal.TheVariants.{Stoppable}
use Rattle.dg_choices.specs.declared.frames.Mark.TheVariants.{LeavePart}
use Rattle.dg_interp.specs.inside.Frames.{IsFrame}
use Rattle.dg_interp.specs.inside.Engine.{store_in, TakesAt}
use Rattle.dg_interp.proofs.Branches.{full_from, went_on_from}
use Rattle.dg_interp.proofs.Turns.{reverse_pop}
use Rattle.dg_interp.proofs.Controls.{pushed_means, pushed_here, pushed_leads, pushed_room, stays}
use Rattle.dg_interp.proofs.PartOpens.{part_full, part_opened}
use Rattle.dg_interp.proofs.engine.Engine.stoppable.Goals as goal

pub returns-in-Err-clause-full : goal.returns-in-Err-clause-full
returns-in-Err-clause-full c =
    let old = c.args.self.now in
    let e = c.push.new.self in
    let x = Stoppable c.args.goals.now in
    let p = c.in_ok-push.ensures.pushed in
    let b = pushed_means old.here old e c.requires.ready c.requires.ready.here p in
    full_from (TakesAt x old) (TakesAt x e) (store_in old.store) (store_in e.store) c.in-Err.e b.limits.heap b.limits.trail
    (pushed_leads x old.here old e b (TakesAt x e) (stays (TakesAt x e)))
    (part_full c.args.goals e p.ready (pushed_here old e c.requires.ready p) c.mark-place.result c.mark-place.new.self c.mark-place.ensures.kept c.mark-place.ensures.same c.mark-place.ensures.saved c.in-Err.e (store_in c.charge.new.self) c.in-Err.ensures.made)

pub returns-clause-done : goal.returns-clause-done
returns-clause-done c =
    let old = c.args.self.now in
    let e = c.push.new.self in
    let x = Stoppable c.args.goals.now in
    let p = c.in_ok-push.ensures.pushed in
    let b = pushed_means old.here old e c.requires.ready c.requires.ready.here p in
    let k = c.in_default.ensures in
    let first = record e.here { goals = c.args.goals; mark = LeavePart (e.newest + 1) e.stoppable; behind = length e.frames.items } in
    let is : IsFrame (length e.frames.items) (length e.refs.items) first = record { runnable = c.requires.runnable; older = omega arith; env = p.ready.here.env } in
    let new = record e { store = c.charge.new.self; choices = c.push-2.new.self; newest = e.newest + 1; stoppable = Some (e.newest + 1); here = first } in
    let behind : c.len.result ≡ length e.frames.items = search rules in
    rw behind
    (went_on_from (TakesAt x old) (TakesAt x e) old e new c.push.ensures.left b.limits (pushed_leads x old.here old e b (TakesAt x e) (stays (TakesAt x e)))
    (part_opened c.args.goals e p.ready (pushed_here old e c.requires.ready p) c.mark-place.result c.mark-place.new.self c.mark-place.ensures.kept c.mark-place.ensures.same c.mark-place.ensures.saved c.charge.new.self c.push-2.new.self k.kept k.saved k.made is (pushed_room old.here old e p c.requires.room)
    (reverse_pop c.push-2.new.self.items e.choices.items _ (rw c.choice_here-part.ensures at c.in_default-push.ensures.items))))
