use Rattle.std.proofs.Common.{rules, refl, ◌≡◌}
use Rattle.dg_base.specs.declared.program.Goal.TheVariants as goals
use Rattle.dg_mid.specs.declared.writing.Work.{Work}
use Rattle.dg_mid.proofs.WritingLemmas.{made_begins}
use Rattle.dg_mid.proofs.Opening.{puts_moves, puts_forever}
use Rattle.dg_mid.proofs.writing.Writer.endless.Goals as goal

pub returns : goal.returns
returns c =
    let same : c.in-Ok.number ≡ c.in_ok-b.b = search rules in
    let after : Work = record { ops = c.in_ok-ops-2.ops; goals = c.args.work.goals; levels = c.args.work.levels } in
    puts_moves c.args.self.now.blocks c.block.new.self.blocks c.args.work after goals.Forever refl refl (made_begins c.args.self.now.blocks c.block.new.self.blocks _ c.in_ok-b.ensures.made)
    (puts_forever c.args.self.now.blocks c.block.new.self.blocks c.args.work.ops.items c.in_ok-ops.ops.items c.in_ok-ops-2.ops.items c.in-Ok.number c.in_ok-b.b same c.in_ok-ops.ensures c.in_ok-b.ensures.made c.in_ok-b.ensures.number c.in_ok-ops-2.ensures)
