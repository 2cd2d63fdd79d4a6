use Rattle.std.proofs.Common.{◌≡◌, ◌++◌, drop}
use Rattle.dg_lex.specs.Spelled.{escapes_dropped, without_escapes}
use Rattle.dg_reader.proofs.words.name_of.Given as goal

abbrev pub invariant-loop-c : goal.invariant-loop-c
invariant-loop-c l = l.name ++ escapes_dropped l.escaped (drop l.c-index l.text) ≡ without_escapes l.text
