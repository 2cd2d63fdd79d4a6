use Rattle.std.proofs.Common.{◌≡◌, ◌++◌}
use Rattle.dg_make.specs.Made.{room_line, thing_line, lines_to}
use Rattle.dg_make.proofs.make_source.Given as goal

abbrev pub invariant-rooms : goal.invariant-rooms
invariant-rooms l = l.text.items ≡ lines_to room_line l.room

abbrev pub invariant-things : goal.invariant-things
invariant-things l = l.text.items ≡ lines_to room_line l.rooms ++ lines_to (thing_line l.rooms) l.thing
