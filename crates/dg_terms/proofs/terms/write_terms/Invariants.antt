use Rattle.std.proofs.Common.{◌≡◌, List, take, map}
use Rattle.dg_base.specs.declared.program.CoreProgram.{CoreProgram}
use Rattle.dg_meaning.specs.Values.{value_of}
use Rattle.dg_meaning.specs.Cells.{cells}
use Rattle.dg_unify.specs.Store.{Saved, Kept, told}
use Rattle.dg_terms.specs.Terms.{Written}
use Rattle.dg_terms.proofs.terms.write_terms.Given as goal

abbrev pub invariant-terms : goal.invariant-terms
invariant-terms g l = record {
  kept : Kept (g.B.Bindings.meaning l.fn.store) (g.B.Bindings.meaning l.store);
  saved : (ms : List Saved) → g.B.Bindings.saves l.fn.store ms → g.B.Bindings.saves l.store ms;
  written : (program : CoreProgram) → l.program ≡ program → Written (cells program (take l.term-index l.terms)) (map (value_of program (map (told (g.B.Bindings.meaning l.fn.store)) l.env)) (take l.term-index l.terms)) (g.B.Bindings.meaning l.fn.store) (g.B.Bindings.meaning l.store) l.fn.to.items l.to.items;
}
