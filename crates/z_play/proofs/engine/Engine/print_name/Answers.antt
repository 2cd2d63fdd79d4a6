use Rattle.std.proofs.Common.{refl}
use Rattle.z_model.specs.Effects.{prints_name}
use Rattle.z_play.proofs.engine.Engine.print_name.Goals as goal

pub returns-in-Err-clause-printed : goal.returns-in-Err-clause-printed
unfolding prints_name
returns-in-Err-clause-printed c = rw (← c.objects-objects.ensures, ← c.in-Err.ensures) refl
