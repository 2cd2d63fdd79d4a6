use Rattle.std.proofs.Common.{sym, ◌∙◌, arith}
use Rattle.z_full.proofs.Steps.{scan_failed, scan_here, scan_later, scan_over}
use Rattle.z_full.proofs.tables.find.Goals as goal

pub returns-in-Err : goal.returns-in-Err
returns-in-Err g c = sym (c.loop-more.invariant ∙ scan_failed (g.B.Bytes.memory c.args.mem.now) c.args.x c.args.f c.loop-more.more c.loop-more.at c.in-Err.fault c.loop-more-test.true (sym c.in-Err.ensures))

pub returns-then-here-x : goal.returns-then-here-x
returns-then-here-x g c = sym (c.loop-more.invariant ∙ scan_here (g.B.Bytes.memory c.args.mem.now) c.args.x c.args.f c.loop-more.more c.loop-more.at c.in-Ok.here c.loop-more-test.true (sym c.in-Ok.ensures) c.if-here-x.true)

pub loop-more-preserved : goal.loop-more-preserved
loop-more-preserved g c = c.loop-more.invariant ∙ scan_later (g.B.Bytes.memory c.args.mem.now) c.args.x c.args.f c.loop-more.more c.loop-more.at c.in-Ok.here c.loop-more-test.true (sym c.in-Ok.ensures) c.if-here-x.false

pub returns : goal.returns
returns g c = sym (c.loop-more.invariant ∙ scan_over (g.B.Bytes.memory c.args.mem.now) c.args.x c.args.f c.loop-more.more c.loop-more.at (omega (arith, c.loop-more-test.false)))
