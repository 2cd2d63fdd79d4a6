use Rattle.std.proofs.Common.{Vec, Global}
use Rattle.dg_open.specs.declared.frames.Frame.{Frame}
use Rattle.dg_open.specs.declared.shapes.Shape.{Shape}
use Rattle.dg_reader.proofs.Stops.{stops_at, unexpected_map}
use Rattle.dg_reader.proofs.item.find.Goals as goal

pub returns-in-Err-clause-first : goal.returns-in-Err-clause-first
returns-in-Err-clause-first c = unexpected_map (Vec Frame Global) Shape c.in-Err.fault _ _ (stops_at c.args.tokens.now) c.in-Err.ensures.unexpected
