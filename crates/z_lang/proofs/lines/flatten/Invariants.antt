use Rattle.std.proofs.Common.{◌≡◌, ◌+◌, ◌*◌, ◌≤◌, ◌++◌, [], reverse, drop}
use Rattle.z_lang.specs.Lines.{first_label, flattened}
use Rattle.z_lang.proofs.lines.flatten.Given as goal

abbrev pub invariant-loop-line : goal.invariant-loop-line
invariant-loop-line l = record {
  rest : flattened first_label [] l.lines ≡ l.acts.items ++ flattened l.label (reverse l.open.items) (drop l.line-index l.lines);
  near : l.label ≤ 32768 + 2 * l.line-index;
}
