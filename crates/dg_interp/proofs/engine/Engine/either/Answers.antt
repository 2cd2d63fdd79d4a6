use Rattle.std.proofs.Common.{refl, rules}
use Rattle.dg_base.specs.declared.program.Goal.TheVariants.{Either}
use Rattle.dg_choices.specs.declared.frames.Left.TheVariants.{Lists}
use Rattle.dg_interp.specs.inside.Engine.{store_in, TakesAt, OpensAt, FailsAt}
use Rattle.dg_interp.proofs.Branches.{full_made, back_made}
use Rattle.dg_interp.proofs.Controls.{branches_made, pushed_means, pushed_here, pushed_leads, pushed_room, either_opens, either_fails, no_lists}
use Rattle.dg_interp.proofs.engine.Engine.either.Goals as goal

pub returns-then-is_empty-clause-full : goal.returns-then-is_empty-clause-full
returns-then-is_empty-clause-full c =
    let old = c.args.self.now in
    full_made (TakesAt (Either c.args.lists.now) old) (FailsAt old) (store_in old.store) (store_in old.store) c.back.result refl refl (either_fails c.args.lists.now old (no_lists c.args.lists.now (search rules))) c.back.ensures.full

pub returns-then-is_empty-clause-done : goal.returns-then-is_empty-clause-done
returns-then-is_empty-clause-done c =
    let old = c.args.self.now in
    back_made (TakesAt (Either c.args.lists.now) old) (FailsAt old) old old c.back.new.self refl (record { heap = refl; trail = refl; aux = refl; keep = refl; told = refl }) (either_fails c.args.lists.now old (no_lists c.args.lists.now (search rules))) c.back.result c.back.ensures.back

pub open-requires-clause-left : goal.open-requires-clause-left
open-requires-clause-left c =
    (c.requires.runnable, c.in_ok-push.ensures.pushed.ready.here.env)

pub open-requires-clause-room : goal.open-requires-clause-room
open-requires-clause-room c = pushed_room c.args.self.now.here c.args.self.now c.push.new.self c.in_ok-push.ensures.pushed c.requires.room

pub returns-clause-full : goal.returns-clause-full
returns-clause-full c =
    let old = c.args.self.now in
    let e = c.push.new.self in
    let b = pushed_means old.here old e c.requires.ready c.requires.ready.here c.in_ok-push.ensures.pushed in
    let left = Lists e.here.env e.here.tag c.args.lists in
    full_made (TakesAt (Either c.args.lists.now) old) (OpensAt left e) (store_in old.store) (store_in e.store) c.open.result b.limits.heap b.limits.trail
    (pushed_leads (Either c.args.lists.now) old.here old e b (OpensAt left e) (either_opens c.args.lists e (pushed_here old e c.requires.ready c.in_ok-push.ensures.pushed))) c.open.ensures.full

pub returns-clause-done : goal.returns-clause-done
returns-clause-done c =
    let old = c.args.self.now in
    let e = c.push.new.self in
    let b = pushed_means old.here old e c.requires.ready c.requires.ready.here c.in_ok-push.ensures.pushed in
    let left = Lists e.here.env e.here.tag c.args.lists in
    branches_made (TakesAt (Either c.args.lists.now) old) (OpensAt left e) old e c.open.new.self c.push.ensures.left b.limits
    (pushed_leads (Either c.args.lists.now) old.here old e b (OpensAt left e) (either_opens c.args.lists e (pushed_here old e c.requires.ready c.in_ok-push.ensures.pushed))) c.open.result c.open.ensures.opened
