use Rattle.std.proofs.Common.{◌<◌, length, arith}
use Rattle.z_model.specs.Streams.{codes_in}
use Rattle.z_play.specs.View.{machine, layout_in, tables_of}
use Rattle.z_play.proofs.Rights.{tables_long}
use Rattle.z_play.proofs.Collecting.{newest_passed}
use Rattle.z_play.proofs.engine.Engine.write_text.Goals as goal

pub returns-in-None-clause-into : goal.returns-in-None-clause-into
returns-in-None-clause-into c =
    let some : 0 < length (tables_of c.args.self.now) = omega (arith, tables_long c.args.self.now c.requires.sound, c.requires.some) in
    newest_passed (layout_in c.args.self.now) (machine c.args.self.now) (codes_in c.args.effect (machine c.args.self.now)) some (omega (arith, c.in-None.ensures))
