use Rattle.std.proofs.Common.{◌≡◌, ◌+◌, ◌≤◌, ◌++◌, length, drop, true, false}
use Rattle.z_asm.specs.Layout.{table_bytes, table_places}
use Rattle.z_asm.proofs.layout.place_tables.Given as goal

abbrev pub invariant-loop-table : goal.invariant-loop-table
invariant-loop-table l = record {
  rest : table_places l.from l.base l.tables ≡ l.places ++ table_places l.here l.there (drop l.table-index l.tables);
  writable : l.here + length (table_bytes true (drop l.table-index l.tables)) ≤ 65528;
  fixed : l.there + length (table_bytes false (drop l.table-index l.tables)) ≤ 65528;
}
