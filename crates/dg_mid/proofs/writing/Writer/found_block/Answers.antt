use Rattle.std.proofs.Common.{sym, subst}
use Rattle.dg_mid.specs.Writing.{FoundAt}
use Rattle.dg_mid.proofs.Opening.{found_here, found_once}
use Rattle.dg_mid.proofs.writing.Writer.found_block.Goals as goal

pub returns-then-many : goal.returns-then-many
returns-then-many c = subst (λ k. FoundAt c.args.self.now.blocks c.args.self.now.blocks k c.args.behind c.args.behind) (sym c.if-many.true) (found_here c.args.self.now.blocks c.args.behind)

pub returns : goal.returns
returns c =
    subst (λ k. FoundAt c.args.self.now.blocks c.block.new.self.blocks k c.args.behind c.in_ok-block.field-0) (sym c.if-many.false)
    (found_once c.args.self.now.blocks c.block.new.self.blocks c.in_ok-ops.ops.items c.in_ok-ops-2.ops.items c.args.behind c.in_ok-block.field-0 c.in_ok-ops.ensures c.in_ok-ops-2.ensures c.in_ok-block.ensures.made c.in_ok-block.ensures.number)
