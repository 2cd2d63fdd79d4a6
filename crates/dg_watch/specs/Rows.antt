-- What a row holds.
use Rattle.std.specs.Prelude.{ℕ, List}
use Rattle.dg_watch.specs.declared.row.Row.{Row}

-- Its bytes.
abbrev pub bytes_of : Row → List ℕ
bytes_of row = row.bytes.items
