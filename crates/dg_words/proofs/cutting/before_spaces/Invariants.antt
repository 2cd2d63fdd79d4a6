use Rattle.std.proofs.Common.{◌≡◌, ◌≤◌}
use Rattle.dg_words.specs.Cutting.{words_before}
use Rattle.dg_words.proofs.cutting.before_spaces.Given as goal

abbrev pub invariant-spaces : goal.invariant-spaces
invariant-spaces l = record {
  order : l.to ≤ l.end;
  same : words_before l.line l.end ≡ words_before l.line l.to;
}

abbrev pub decreases-spaces : goal.decreases-spaces
decreases-spaces l = l.to
