use Rattle.std.proofs.Common.{refl}
use Rattle.dg_arena.specs.Held.{meaning_of}
use Rattle.dg_machine.proofs.TermLemmas.{row_of_body}
use Rattle.dg_machine.proofs.closures.body_row.Goals as goal

pub returns-clause-row : goal.returns-clause-row
returns-clause-row c place parts vs is none at = row_of_body (meaning_of c.args.arena.now) c.args.own _ c.args.closure place parts vs is none (c.captured_count-captured.ensures place parts is) refl refl refl at
