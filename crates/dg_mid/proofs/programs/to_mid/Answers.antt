use Rattle.std.proofs.Common.{refl}
use Rattle.dg_mid.proofs.programs.to_mid.Goals as goal

pub returns-in-Ok : goal.returns-in-Ok
returns-in-Ok c =
    let p = c.args.program in
    record {
      codes = c.in-Ok.ensures.codes p refl refl refl;
      tidy = c.in-Ok.ensures.tidy;
      leave = c.in-Ok.ensures.leave;
      light = λ w. c.in-Ok.ensures.light p refl refl refl w;
      places = refl;
      objects = refl;
      words = refl;
      captured = c.in-Ok.ensures.captured;
      sites = refl;
      entry = refl;
    }
