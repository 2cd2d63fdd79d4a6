use Rattle.std.specs.Prelude.{codes, ◌++◌}
use Rattle.dg_texts.proofs.PrintLemmas.{one_added, one_broke}
use Rattle.dg_texts.proofs.printing.print_object.Goals as goal

pub returns-in-Ok : goal.returns-in-Ok
returns-in-Ok g c = λ es h. one_added (codes "#" ++ c.args.name.now) _ _ _ es (record { stands = c.in-Ok.ensures.stands es h; wrote = c.in-Ok.ensures.ok es h })

pub returns-in-Err : goal.returns-in-Err
returns-in-Err g c = λ es h. one_broke (codes "#" ++ c.args.name.now) _ _ es (c.in-Err.ensures.err es h)
