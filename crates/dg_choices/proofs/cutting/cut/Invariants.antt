use Rattle.std.proofs.Common.{◌≡◌, vec_len}
use Rattle.std.specs.Prelude.{reverse}
use Rattle.dg_choices.specs.inside.Cutting.{older_than}
use Rattle.dg_choices.proofs.cutting.cut.Given as goal

abbrev pub invariant-newest : goal.invariant-newest
invariant-newest l = older_than l.tag (reverse l.choices.items) ≡ older_than l.initial.tag (reverse l.initial.choices.items)

abbrev pub decreases-newest : goal.decreases-newest
decreases-newest l = vec_len l.choices
