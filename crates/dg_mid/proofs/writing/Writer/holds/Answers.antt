use Rattle.std.proofs.Common.{Some, refl}
use Rattle.dg_base.specs.declared.program.Goal.TheVariants as goals
use Rattle.dg_meaning.proofs.OneRun.{begins_on}
use Rattle.dg_mid.specs.Codes.{holds}
use Rattle.dg_mid.proofs.Opening.{puts_moves, puts_find}
use Rattle.dg_mid.proofs.Weights.{weight_holds}
use Rattle.dg_mid.proofs.writing.Writer.holds.Goals as goal

pub returns : goal.returns
returns c =
    puts_moves c.args.self.now.blocks c.found_block.new.self.blocks c.args.work (record { ops = c.in_ok-ops-2.ops; goals = c.args.work.goals; levels = c.args.work.levels }) (goals.Holds c.args.place c.args.terms c.args.many) refl refl
    (begins_on c.args.self.now.blocks c.finish.new.self.blocks c.found_block.new.self.blocks c.in_ok-behind.ensures.blocks c.in_ok-found.ensures.blocks)
    (puts_find c.args.self.now.blocks c.finish.new.self.blocks c.found_block.new.self.blocks c.args.work.ops.items c.in_ok-ops.ops.items c.in_ok-ops-2.ops.items (Some c.args.place) c.args.terms
    (goals.Holds c.args.place c.args.terms c.args.many) c.in_ok-behind.behind c.in_ok-found.found c.args.many (λ code xs rest end s o. holds c.args.place c.args.terms c.args.many c.in_ok-found.found xs rest end s o)
    (λ w. weight_holds w c.args.place c.args.terms c.args.many)
    c.in_ok-behind.ensures.lands c.in_ok-found.ensures c.in_ok-ops.ensures c.in_ok-ops-2.ensures)
