use Rattle.std.proofs.Common.{◌≡◌, ◌≤◌, List, length, map}
use Rattle.dg_base.specs.Terms.{nodes}
use Rattle.dg_base.specs.declared.program.CoreProgram.{CoreProgram}
use Rattle.dg_unify.specs.Store.{Saved, Kept, told}
use Rattle.dg_terms.specs.Terms.{HeadsWritten}
use Rattle.dg_terms.proofs.terms.write_heads.Given as goal

abbrev pub invariant-heads : goal.invariant-heads
invariant-heads g l = record {
  kept : Kept (g.B.Bindings.meaning l.fn.store) (g.B.Bindings.meaning l.store);
  saved : (ms : List Saved) → g.B.Bindings.saves l.fn.store ms → g.B.Bindings.saves l.store ms;
  written : (program : CoreProgram) → l.program ≡ program → HeadsWritten program (map (told (g.B.Bindings.meaning l.fn.store)) l.env) l.fn.term l.term (g.B.Bindings.meaning l.fn.store) (g.B.Bindings.meaning l.store) l.fn.to.items l.to.items;
  no_more : length (nodes l.term) ≤ length (nodes l.fn.term);
}

abbrev pub decreases-heads : goal.decreases-heads
decreases-heads g l = length (nodes l.term)
