use Rattle.std.proofs.Common.{sym, subst, reverse}
use Rattle.dg_mid.specs.Writing.{ListLands}
use Rattle.dg_mid.proofs.Opening.{last_lands}
use Rattle.dg_mid.proofs.writing.Writer.list_block.Goals as goal

pub returns-in_ok-finish-in-None-clause-lands : goal.returns-in_ok-finish-in-None-clause-lands
returns-in_ok-finish-in-None-clause-lands c =
    let old = c.args.self.now.blocks in
    let new = c.finish.new.self.blocks in
    let b = c.in_ok-finish-in-None.field-0 in
    subst (λ a. ListLands old new (reverse c.args.ops.items) a b) (sym c.in-None.is) (last_lands old new (reverse c.args.ops.items) b c.in_ok-finish-in-None.ensures.lands)
