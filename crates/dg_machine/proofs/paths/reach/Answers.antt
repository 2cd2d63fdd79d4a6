use Rattle.std.proofs.Common.{◌∙◌, ap, sym, get_or}
use Rattle.dg_machine.specs.declared.now.Side.TheVariants.{Head}
use Rattle.dg_machine.specs.inside.Writing.{part_of}
use Rattle.dg_machine.proofs.PathLemmas.{reached_more}
use Rattle.dg_machine.proofs.paths.reach.Goals as goal

pub sides-preserved : goal.sides-preserved
sides-preserved c =
    let path = c.args.path.now in
    let n = c.sides.side-index in
    c.part-term.ensures ∙ ap (part_of (get_or path n Head)) c.sides.invariant ∙ sym (reached_more path n c.args.whole.now c.sides-test.true)
