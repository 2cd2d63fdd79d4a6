use Rattle.std.proofs.Common.{◌<◌, length, refl, ◌∙◌, arith}
use Rattle.z_play.specs.View.{machine, layout_in, tables_of}
use Rattle.z_play.proofs.Returns.{nothing_open, table_open}
use Rattle.z_play.proofs.Rights.{none_open, tables_long}
use Rattle.z_play.proofs.engine.Engine.let_out.Goals as goal

pub returns-then-self-eq0-clause-out : goal.returns-then-self-eq0-clause-out
returns-then-self-eq0-clause-out c = (nothing_open (layout_in c.args.self.now) (tables_of c.args.self.now) c.args.effect (machine c.args.self.now) (none_open c.args.self.now c.if-self-eq0.true), c.requires.can)

pub returns-in-Err-clause-out : goal.returns-in-Err-clause-out
returns-in-Err-clause-out c =
    let some : 0 < length (tables_of c.args.self.now) = omega (arith, tables_long c.args.self.now c.requires.sound, c.if-self-eq0.false) in
    table_open (layout_in c.args.self.now) (tables_of c.args.self.now) c.args.effect (machine c.args.self.now) some ∙ rw c.in-Err.ensures.into refl

pub returns-in-Ok-clause-out : goal.returns-in-Ok-clause-out
returns-in-Ok-clause-out c =
    let some : 0 < length (tables_of c.args.self.now) = omega (arith, tables_long c.args.self.now c.requires.sound, c.if-self-eq0.false) in
    (table_open (layout_in c.args.self.now) (tables_of c.args.self.now) c.args.effect (machine c.args.self.now) some ∙ rw c.in-Ok.ensures.into refl, tt)
