use Rattle.std.proofs.Common.{◌≡◌, ◌+◌, ◌≤◌, length, drop}
use Rattle.z_asm.specs.Layout.{table_bytes}
use Rattle.z_asm.proofs.layout.end_of_tables.Given as goal

abbrev pub invariant-loop-table : goal.invariant-loop-table
invariant-loop-table l = record {
  rest : l.at + length (table_bytes l.writable l.tables) ≡ l.end + length (table_bytes l.writable (drop l.table-index l.tables));
  near : l.end ≤ 65528;
}
