use Rattle.std.proofs.Common.{◌≡◌, ◌-◌, ◌≤◌, length, drop}
use Rattle.dg_lists.proofs.gather.Gather.drop_to.Given as goal

abbrev pub invariant-newest : goal.invariant-newest
invariant-newest l = record {
  least : l.mark.0 ≤ length l.self.rows;
  most : length l.self.rows ≤ length l.initial.self.rows;
  kept : l.self ≡ record l.initial.self { rows = drop (length l.initial.self.rows - length l.self.rows) l.initial.self.rows };
}

abbrev pub decreases-newest : goal.decreases-newest
decreases-newest l = length l.self.rows
