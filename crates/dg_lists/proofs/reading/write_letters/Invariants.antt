use Rattle.std.proofs.Common.{◌≡◌, map, take}
use Rattle.dg_lists.specs.Reading.{letter}
use Rattle.dg_lists.proofs.reading.write_letters.Given as goal

abbrev pub invariant-letters : goal.invariant-letters
invariant-letters l = take l.at l.letters ≡ map letter (take l.at l.cells)
