use Rattle.std.proofs.Common.{◌-◌, ◌∙◌, ◌∷◌, sym, subst, ap, arith, length, drop, length-drop}
use Rattle.dg_lists.specs.Reading.{HasRead, MadeFrom, row_vars, row_weight, cell_weight}
use Rattle.std.proofs.lemmas.List.{take_all}
use Rattle.dg_lists.proofs.MakeLemmas.{stopped, read_on, no_letter}
use Rattle.dg_lists.proofs.reading.read_cell.Goals as goal

pub returns-in-Err : goal.returns-in-Err
returns-in-Err g c = record {
  kept = c.make.ensures.kept;
  saved = c.make.ensures.saved;
  within = tt;
  read = λ start h.
      stopped (row_vars c.args.behind.now) (row_weight c.args.behind.now) (cell_weight c.args.cell) start (g.B.Bindings.meaning c.args.store.now) (g.B.Bindings.meaning c.make.new.store) c.in-Err.e h.kept h.grew c.in-Err.ensures.made;
}

pub returns-in-Ok : goal.returns-in-Ok
returns-in-Ok g c = record {
  kept = c.make.ensures.kept;
  saved = c.make.ensures.saved;
  within = c.put_over.ensures.within;
  read = λ start h.
      let refs = drop c.args.top c.args.row.now in
      let whole = take_all (length c.args.row.now - c.args.top) refs (omega (arith, length-drop c.args.top c.args.row.now)) in
      let stack = c.put_over.ensures.stack ∙ ap (λ k. c.in-Ok.made ∷ drop k refs) c.parts_taken.ensures in
      subst (HasRead start (g.B.Bindings.meaning c.make.new.store) (c.args.cell ∷ c.args.behind.now)) (sym stack)
      (read_on c.args.cell c.args.behind.now refs start (g.B.Bindings.meaning c.args.store.now) (g.B.Bindings.meaning c.make.new.store) c.in-Ok.made (no_letter c.args.cell c.in_default.not-Char) h c.make.ensures.kept (subst (λ l. MadeFrom c.args.cell c.args.behind.now l (g.B.Bindings.meaning c.args.store.now) (g.B.Bindings.meaning c.make.new.store) c.in-Ok.made) whole c.in-Ok.ensures.made));
}
