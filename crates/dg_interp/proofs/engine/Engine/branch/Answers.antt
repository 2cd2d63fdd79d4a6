use Rattle.std.proofs.Common.{rules, ◌≡◌, ◌∙◌, length}
use Rattle.dg_base.specs.declared.program.Goal.TheVariants.{If}
use Rattle.dg_choices.specs.declared.frames.Left.TheVariants.{Ways}
use Rattle.dg_interp.specs.inside.Engine.{store_in, TakesAt, OpensAt, IsPushed}
use Rattle.dg_interp.proofs.Branches.{full_made}
use Rattle.dg_interp.proofs.Controls.{branches_made, pushed_room, twice, then_frame, test_frame, other_frame, branch_opens, branch_left}
use Rattle.dg_interp.proofs.engine.Engine.branch.Goals as goal

pub open-requires-clause-room : goal.open-requires-clause-room
open-requires-clause-room c =
    let old = c.args.self.now in
    let between = c.push.new.self in
    let e = c.push-2.new.self in
    let h : c.len-behind.result ≡ length between.frames.items = search rules in
    let q : IsPushed (then_frame c.args.first between) between e = rw h at c.in_ok-push-2.ensures.pushed in
    pushed_room (then_frame c.args.first between) between e q (pushed_room old.here old between c.in_ok-push.ensures.pushed c.requires.room)

pub open-requires-clause-left : goal.open-requires-clause-left
open-requires-clause-left c =
    let old = c.args.self.now in
    let between = c.push.new.self in
    let e = c.push-2.new.self in
    let h : c.len-behind.result ≡ length between.frames.items = search rules in
    let h2 : c.len.result ≡ length e.frames.items = search rules in
    let q : IsPushed (then_frame c.args.first between) between e = rw h at c.in_ok-push-2.ensures.pushed in
    let b = c.requires.runnable in
    rw c.tested-test.ensures (rw h (rw h2 (branch_left c.args.test c.args.first c.args.other old between e c.requires.ready b.0 b.1 b.2 c.in_ok-push.ensures.pushed q)))

pub returns-clause-full : goal.returns-clause-full
returns-clause-full c =
    let old = c.args.self.now in
    let between = c.push.new.self in
    let e = c.push-2.new.self in
    let h : c.len-behind.result ≡ length between.frames.items = search rules in
    let h2 : c.len.result ≡ length e.frames.items = search rules in
    let q : IsPushed (then_frame c.args.first between) between e = rw h at c.in_ok-push-2.ensures.pushed in
    let t = twice c.args.first old between e c.requires.ready c.requires.runnable.1 c.in_ok-push.ensures.pushed q in
    let x = If c.args.test.now c.args.first.now c.args.other.now in
    full_made (TakesAt x old) (OpensAt (Ways (test_frame c.args.test e) (other_frame c.args.other between e)) e) (store_in old.store) (store_in e.store) c.open.result t.limits.heap t.limits.trail
    (branch_opens c.args.test c.args.first c.args.other old between e c.requires.ready c.requires.runnable.1 c.in_ok-push.ensures.pushed q) (rw h at (rw h2 at (rw c.tested-test.ensures at c.open.ensures.full)))

pub returns-clause-done : goal.returns-clause-done
returns-clause-done c =
    let old = c.args.self.now in
    let between = c.push.new.self in
    let e = c.push-2.new.self in
    let h : c.len-behind.result ≡ length between.frames.items = search rules in
    let h2 : c.len.result ≡ length e.frames.items = search rules in
    let q : IsPushed (then_frame c.args.first between) between e = rw h at c.in_ok-push-2.ensures.pushed in
    let t = twice c.args.first old between e c.requires.ready c.requires.runnable.1 c.in_ok-push.ensures.pushed q in
    let x = If c.args.test.now c.args.first.now c.args.other.now in
    branches_made (TakesAt x old) (OpensAt (Ways (test_frame c.args.test e) (other_frame c.args.other between e)) e) old e c.open.new.self (c.push-2.ensures.left ∙ c.push.ensures.left) t.limits
    (branch_opens c.args.test c.args.first c.args.other old between e c.requires.ready c.requires.runnable.1 c.in_ok-push.ensures.pushed q) c.open.result (rw h at (rw h2 at (rw c.tested-test.ensures at c.open.ensures.opened)))
