use Rattle.std.proofs.Common.{◌≡◌, drop}
use Rattle.dg_names.specs.Scopes.{with_names}
use Rattle.dg_names.specs.State.{listed}
use Rattle.dg_names.proofs.tally.add_words.Given as goal

abbrev pub invariant-loop-word : goal.invariant-loop-word
invariant-loop-word l = with_names (listed l.names) (drop l.word-index l.words) ≡ with_names (listed l.initial.names) l.words
