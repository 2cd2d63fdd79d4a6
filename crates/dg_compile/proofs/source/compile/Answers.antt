use Rattle.dg_base.specs.TreeView.{tree_view}
use Rattle.dg_compile.specs.Source.{Compiles}
use Rattle.dg_compile.proofs.SourceLemmas.{no_items, items_become, meets_ok}
use Rattle.dg_compile.proofs.source.compile.Goals as goal

pub returns-in-Err-clause-program : goal.returns-in-Err-clause-program
returns-in-Err-clause-program c = no_items c.args.source.now c.in-Err.fault c.in-Err.ensures.refused

pub returns-in-Ok-clause-program : goal.returns-in-Ok-clause-program
returns-in-Ok-clause-program c = items_become c.args.source.now (tree_view c.in-Ok.tree) c.program_of.result c.in-Ok.ensures.tree c.program_of.ensures

pub returns-in-Ok-clause-sound : goal.returns-in-Ok-clause-sound
returns-in-Ok-clause-sound c = meets_ok (Compiles c.args.source.now) _ c.program_of.result (λ p h. (c.programs_are_sound.ensures c.args.source.now p h).0) (returns-in-Ok-clause-program c)

pub returns-in-Ok-clause-goals : goal.returns-in-Ok-clause-goals
returns-in-Ok-clause-goals c = meets_ok (Compiles c.args.source.now) _ c.program_of.result (λ p h. (c.programs_are_sound.ensures c.args.source.now p h).1) (returns-in-Ok-clause-program c)

pub returns-in-Ok-clause-heads : goal.returns-in-Ok-clause-heads
returns-in-Ok-clause-heads c = meets_ok (Compiles c.args.source.now) _ c.program_of.result (λ p h. (c.programs_are_sound.ensures c.args.source.now p h).2) (returns-in-Ok-clause-program c)

pub program_of-requires : goal.program_of-requires
program_of-requires c = (c.args.source.now, c.in-Ok.ensures.tree)
