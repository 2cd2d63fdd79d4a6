use Rattle.std.proofs.Common.{arith}
use Rattle.dg_mid.specs.declared.code.Op.TheVariants as op
use Rattle.dg_mid.specs.Writing.{gathers}
use Rattle.dg_mid.proofs.Weights.{block_added, op_added, op_alone, weight_gathers}
use Rattle.dg_mid.proofs.Opening.{opens, open_gathering}
use Rattle.dg_mid.proofs.WritingLemmas.{made_begins, neat_alone, block_neat}
use Rattle.dg_mid.proofs.writing.Writer.gathering.Goals as goal

pub returns : goal.returns
returns c =
    opens c.args.self.now.blocks c.block.new.self.blocks c.args.work c.in_ok-open.field-0 c.in_ok-ops-2.ops.items (gathers c.args.whole c.args.term c.args.inner c.args.into) (op.Collect c.args.term c.args.into c.in_ok-alt.alt) c.args.inner
    (made_begins c.args.self.now.blocks c.block.new.self.blocks _ c.in_ok-alt.ensures.made) c.in_ok-open.ensures.ops c.in_ok-open.ensures.goals c.in_ok-open.ensures.levels tt
    (λ h. neat_alone c.block.new.self.blocks c.in_ok-ops-2.ops.items (op.Keep c.in_ok-copy-2.field-0) c.in_ok-ops-2.ensures tt
    (block_neat c.args.self.now.blocks c.block.new.self.blocks c.args.work.ops.items c.in_ok-ops.ops.items (op.TakeOut c.args.whole c.in_ok-copy.field-0) c.in_ok-ops.ensures c.in_ok-alt.ensures.made tt h))
    (λ w. omega (
      arith,
      block_added w c.args.self.now.blocks c.block.new.self.blocks c.in_ok-ops.ops.items c.in_ok-alt.ensures.made,
      op_added w c.args.work.ops.items c.in_ok-ops.ops.items (op.TakeOut c.args.whole c.in_ok-copy.field-0) c.in_ok-ops.ensures,
      op_alone w c.in_ok-ops-2.ops.items (op.Keep c.in_ok-copy-2.field-0) c.in_ok-ops-2.ensures,
      weight_gathers w c.args.whole c.args.term c.args.inner c.args.into,
    ))
    (open_gathering c.args.self.now.blocks c.block.new.self.blocks c.args.work.ops.items c.in_ok-ops.ops.items c.in_ok-ops-2.ops.items c.args.whole c.args.term c.in_ok-copy-2.field-0 c.args.into c.in_ok-copy.field-0 c.args.inner c.in_ok-alt.alt
    c.in_ok-copy-2.ensures c.in_ok-copy.ensures c.in_ok-ops.ensures c.in_ok-alt.ensures.made c.in_ok-alt.ensures.number c.in_ok-ops-2.ensures)
