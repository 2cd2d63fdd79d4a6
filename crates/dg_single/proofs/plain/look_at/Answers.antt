use Rattle.std.proofs.Common.{arith, refl}
use Rattle.dg_single.specs.inside.Left.{inside_plain}
use Rattle.dg_single.specs.Plain.{is_plain_form}
use Rattle.dg_base.specs.declared.program.Goal.{out-Goal}
use Rattle.dg_single.proofs.PlainLemmas.{looked_plain, looked_just, looked_weight, behind_weight, looked_left}
use Rattle.dg_single.proofs.plain.look_at.Goals as goal

pub returns-then-is_just-clause-plain : goal.returns-then-is_just-clause-plain
returns-then-is_just-clause-plain c =
    let h = looked_just c.args.set.now c.args.goals.now c.last-item.result c.in-len1-up.len_at_least c.last-item.is (cc) in
    rw h refl

pub returns-clause-plain : goal.returns-clause-plain
returns-clause-plain c =
    let e = looked_plain c.args.set.now c.args.goals.now c.last-item.result c.in-len1-up.len_at_least c.last-item.is (cc) in
    let p = c.in_ok-push.ensures.items in
    let a = c.in_ok-add_inside.ensures.plain in
    let x = out-Goal c.last-item.result in
    rw c.is_plain_form.ensures
    (looked_left c.args.set.now c.args.left.now.items c.push.new.self.items _ c.args.goals.now _ (is_plain_form c.args.set.now x) (inside_plain c.args.set.now x) e (_, p, refl) (a c.args.set.now))

pub returns-clause-weight : goal.returns-clause-weight
returns-clause-weight c =
    let e = looked_weight c.args.goals.now c.last-item.result c.in-len1-up.len_at_least c.last-item.is in
    let b = behind_weight c.args.left.now.items c.push.new.self.items _ (_, c.in_ok-push.ensures.items, refl) in
    let a = c.in_ok-add_inside.ensures.weight in
    omega (arith, e, b, a)
