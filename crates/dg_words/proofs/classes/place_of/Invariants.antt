use Rattle.std.proofs.Common.{◌≡◌, drop}
use Rattle.dg_words.specs.Classes.{place_in, place_from}
use Rattle.dg_words.proofs.classes.place_of.Given as goal

abbrev pub invariant-words : goal.invariant-words
invariant-words l = place_in l.words l.spelling ≡ place_from l.at (drop l.at l.words) l.spelling
