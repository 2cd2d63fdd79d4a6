use Rattle.std.proofs.Common.{◌≡◌, ◌+◌, ◌-◌, ◌≤◌, ◌++◌, length, drop}
use Rattle.z_list.specs.Listing.{instructions}
use Rattle.z_list.specs.Texts.{texts, first_length}
use Rattle.z_list.proofs.writing.push_instructions.Given as goal

abbrev pub invariant-loop-found : goal.invariant-loop-found
invariant-loop-found l = record {
  rest : l.initial.text.items ++ texts (instructions first_length (length l.bytes) l.at l.bytes)
      ≡ l.text.items ++ texts (instructions first_length (length (drop l.done l.bytes)) (l.at + l.done) (drop l.done l.bytes));
  within : l.done ≤ length l.bytes;
}

abbrev pub decreases-loop-found : goal.decreases-loop-found
decreases-loop-found l = length l.bytes - l.done
