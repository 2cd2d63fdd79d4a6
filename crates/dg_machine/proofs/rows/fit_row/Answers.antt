use Rattle.std.proofs.Common.{refl}
use Rattle.dg_arena.specs.Held.{meaning_of}
use Rattle.dg_machine.proofs.RowLemmas.{row_made}
use Rattle.dg_machine.proofs.rows.fit_row.Goals as goal

pub returns-clause-made : goal.returns-clause-made
returns-clause-made c = row_made c.args.count (meaning_of c.args.arena.now) (meaning_of c.fit_row-first.new.self) _ c.fit_row-first.ensures.made refl refl refl
