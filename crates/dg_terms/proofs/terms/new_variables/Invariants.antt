use Rattle.std.proofs.Common.{◌≤◌, List}
use Rattle.dg_unify.specs.Store.{Saved, Kept}
use Rattle.dg_terms.specs.Terms.{MadeVars}
use Rattle.dg_terms.proofs.terms.new_variables.Given as goal

abbrev pub invariant-variables : goal.invariant-variables
invariant-variables g l = record {
  kept : Kept (g.B.Bindings.meaning l.fn.store) (g.B.Bindings.meaning l.store);
  saved : (ms : List Saved) → g.B.Bindings.saves l.fn.store ms → g.B.Bindings.saves l.store ms;
  made : MadeVars l.counter (g.B.Bindings.meaning l.fn.store) (g.B.Bindings.meaning l.store) l.fn.to.items l.to.items;
  within : l.counter ≤ l.count;
}
