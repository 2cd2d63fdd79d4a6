use Rattle.std.proofs.Common.{◌≡◌, ◌≤◌, vec_len, vec_capacity, length}
use Rattle.std.specs.Prelude.{reverse}
use Rattle.dg_machine.specs.Links.{below}
use Rattle.dg_machine.proofs.memory.drop_to.Given as goal

abbrev pub invariant-newest : goal.invariant-newest
invariant-newest l = record {
  below : below l.to (reverse l.choices.items) ≡ below l.initial.to (reverse l.initial.choices.items);
  capacity : vec_capacity l.choices ≡ vec_capacity l.initial.choices;
  fewer : length l.choices.items ≤ length l.initial.choices.items;
}

abbrev pub decreases-newest : goal.decreases-newest
decreases-newest l = vec_len l.choices
