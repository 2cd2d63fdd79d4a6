use Rattle.std.proofs.Common.{◌≡◌, ◌≤◌, ◌-◌, drop, length}
use Rattle.dg_lex.specs.Bad.{bad_from}
use Rattle.dg_lex.specs.declared.bad.Place.TheVariants.{Outside}
use Rattle.dg_lex.proofs.bad.bad_in.Given as goal

abbrev pub invariant-loop-at : goal.invariant-loop-at
invariant-loop-at l = record {
  within : l.at ≤ length l.text;
  same : bad_from Outside 0 l.text ≡ bad_from l.place l.at (drop l.at l.text);
}

abbrev pub decreases-loop-at : goal.decreases-loop-at
decreases-loop-at l = length l.text - l.at
