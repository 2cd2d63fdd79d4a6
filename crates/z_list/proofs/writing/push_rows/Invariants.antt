use Rattle.std.proofs.Common.{◌≡◌, ◌+◌, ◌-◌, ◌≤◌, ◌++◌, [], length, drop}
use Rattle.z_list.specs.Listing.{rows}
use Rattle.z_list.specs.Texts.{texts}
use Rattle.z_list.proofs.writing.push_rows.Given as goal

abbrev pub invariant-loop-done : goal.invariant-loop-done
invariant-loop-done l = record {
  rest : l.initial.text.items ++ texts (rows l.at [] l.bytes) ≡ l.text.items ++ texts (rows (l.at + l.done) [] (drop l.done l.bytes));
  within : l.done ≤ length l.bytes;
}

abbrev pub decreases-loop-done : goal.decreases-loop-done
decreases-loop-done l = length l.bytes - l.done
