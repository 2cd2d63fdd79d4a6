use Rattle.std.proofs.Common.{refl}
use Rattle.dg_arena.specs.Held.{meaning_of}
use Rattle.dg_machine.proofs.Opens.{heap_full}
use Rattle.dg_machine.proofs.RowLemmas.{row_made}
use Rattle.dg_machine.proofs.rows.make_row.Goals as goal

pub returns-in-Ok-clause-made : goal.returns-in-Ok-clause-made
returns-in-Ok-clause-made c = row_made c.args.count (meaning_of c.args.arena.now) (meaning_of c.row.new.self) _ c.in-Ok.ensures.made refl refl refl

pub returns-in-Err-clause-made : goal.returns-in-Err-clause-made
returns-in-Err-clause-made c = heap_full c.args.count c.args.arena.now c.row.new.self c.in-Err.full c.in-Err.ensures.made
