use Rattle.std.proofs.Common.{◌∙◌}
use Rattle.dg_interp.proofs.Turns.{started}
use Rattle.dg_interp.proofs.engine.Engine.new.Goals as goal

pub returns : goal.returns
returns c = record {
  starts = λ own limits dice steps new out.
      started c.args.program c.args.goals c.args.store c.args.refs c.new.result c.new-2.result c.new-3.result c.new-4.result c.len-len.result own limits c.args.left steps new c.args.lasting dice c.ranges.left.fits out c.requires.runnable c.requires.sound c.requires.goals c.requires.some (c.len-len.ensures ∙ c.args.refs.ok.0) c.new.ensures.items c.new-2.ensures.items;
  quiet = c.new-4.ensures.items;
}
