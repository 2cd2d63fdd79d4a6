use Rattle.std.proofs.Common.{◌∙◌, ap, arith, length}
use Rattle.dg_meaning.specs.Values.{node_parts}
use Rattle.dg_lists.proofs.ListCopies.{row_parts, parts_formed}
use Rattle.dg_machine.proofs.ListCopies.{copies_list, row_few}
use Rattle.dg_machine.proofs.copies.copy_list.Goals as goal

pub returns-then-cells-capacity-clause-copied : goal.returns-then-cells-capacity-clause-copied
returns-then-cells-capacity-clause-copied c vs fit is formed =
    let few = row_few vs formed in
    omega (arith, c.if-cells-capacity.true, c.capacity.ensures, c.len-height.ensures, c.args.spare.now.ok.0, fit.fits, fit.few, ap length is, few)

pub returns-clause-copied : goal.returns-clause-copied
returns-clause-copied c vs fit is formed =
    copies_list vs c.args.arena.now c.list_from_cells-made.new.store c.list_from_cells-made.result (c.list_from_cells-made.ensures.copied (node_parts vs) (is ∙ row_parts vs) (parts_formed vs formed))
