use Rattle.std.proofs.Common.{sym, subst}
use Rattle.dg_base.specs.Sound.{IsSound}
use Rattle.dg_lower.specs.inside.View.{names_in, items_in}
use Rattle.dg_lower.proofs.lowering.core_with.Goals as goal

pub settle-requires-clause-sound : goal.settle-requires-clause-sound
settle-requires-clause-sound c =
    subst IsSound (sym c.in_ok-core.ensures)
    (c.initial_cores_are_sound.ensures.initial (names_in c.args.around.now) (items_in c.args.around.now) c.requires.given c.requires.entry)
