use Rattle.std.proofs.Common.{ap, ◌∙◌}
use Rattle.dg_mid.specs.Code.{block_at}
use Rattle.dg_machine.proofs.Selects.{picked_stands}
use Rattle.dg_lasting.proofs.Staying.{picking_stays}
use Rattle.dg_machine.proofs.selecting.select.Goals as goal

pub returns-clause-selected : goal.returns-clause-selected
returns-clause-selected c r t rest g is_of l m b at h w =
    picked_stands c.args.code.now g l m r c.args.lasting.now c.pick-branch.new.self c.args.site c.args.mode c.args.blocks.now c.args.behind c.pick-branch.result c.code_at.result c.requires.built c.pick-branch.ensures (c.code_at.ensures ∙ ap (block_at c.args.code.now) c.block_of.ensures) h w

pub returns-clause-extent : goal.returns-clause-extent
returns-clause-extent c = picking_stays _ _ _ _ _ _ c.pick-branch.ensures
