use Rattle.std.proofs.Common.{◌≡◌, ◌++◌, drop}
use Rattle.z_asm.specs.Layout.{table_bytes}
use Rattle.z_asm.proofs.assembling.put_tables.Given as goal

abbrev pub invariant-loop-table : goal.invariant-loop-table
invariant-loop-table l = l.initial.out.items ++ table_bytes l.writable l.tables ≡ l.out.items ++ table_bytes l.writable (drop l.table-index l.tables)
