use Rattle.std.proofs.Common.{◌<◌}
use Rattle.dg_words.specs.Cutting.{between}
use Rattle.dg_words.proofs.CutLemmas.{ArePlain}
use Rattle.dg_words.proofs.cutting.word_start.Given as goal

abbrev pub invariant-letters : goal.invariant-letters
invariant-letters l = record {
  order : l.from < l.to;
  plain : ArePlain (between l.line l.from l.to);
}

abbrev pub decreases-letters : goal.decreases-letters
decreases-letters l = l.from
