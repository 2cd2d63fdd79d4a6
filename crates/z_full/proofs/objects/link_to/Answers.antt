use Rattle.std.proofs.Common.{sym, ◌∙◌, arith}
use Rattle.z_full.proofs.Steps.{link_failed, link_here, link_ends, link_later, link_over}
use Rattle.z_full.proofs.objects.link_to.Goals as goal

pub returns-in-Err : goal.returns-in-Err
returns-in-Err g c = sym (c.loop-more.invariant ∙ link_failed (g.B.Bytes.memory c.args.mem.now) c.args.objects c.args.a c.loop-more.more c.loop-more.place c.in-Err.fault c.loop-more-test.true (sym c.in-Err.ensures))

pub returns-then-x-a : goal.returns-then-x-a
returns-then-x-a g c = sym (c.loop-more.invariant ∙ link_here (g.B.Bytes.memory c.args.mem.now) c.args.objects c.args.a c.loop-more.more c.loop-more.place c.in-Ok.x c.loop-more-test.true (sym c.in-Ok.ensures) c.if-x-a.true)

pub returns-then-x-eq0 : goal.returns-then-x-eq0
returns-then-x-eq0 g c = sym (c.loop-more.invariant ∙ link_ends (g.B.Bytes.memory c.args.mem.now) c.args.objects c.args.a c.loop-more.more c.loop-more.place c.in-Ok.x c.loop-more-test.true (sym c.in-Ok.ensures) c.if-x-a.false c.if-x-eq0.true)

pub loop-more-preserved : goal.loop-more-preserved
loop-more-preserved g c =
    c.loop-more.invariant
    ∙ link_later (g.B.Bytes.memory c.args.mem.now) c.args.objects c.args.a c.loop-more.more c.loop-more.place c.sibling_at-place.result c.in-Ok.x c.loop-more-test.true (sym c.in-Ok.ensures) c.if-x-a.false c.if-x-eq0.false c.sibling_at-place.ensures

pub returns : goal.returns
returns g c = sym (c.loop-more.invariant ∙ link_over (g.B.Bytes.memory c.args.mem.now) c.args.objects c.args.a c.loop-more.more c.loop-more.place (omega (arith, c.loop-more-test.false)))
