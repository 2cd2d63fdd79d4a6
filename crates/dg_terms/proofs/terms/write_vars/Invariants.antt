use Rattle.std.proofs.Common.{List, take, map}
use Rattle.dg_meaning.specs.Values.{value_of_var}
use Rattle.dg_unify.specs.Store.{Saved, Kept, told}
use Rattle.dg_terms.specs.Terms.{Written}
use Rattle.dg_terms.proofs.terms.write_vars.Given as goal

abbrev pub invariant-vars : goal.invariant-vars
invariant-vars g l = record {
  kept : Kept (g.B.Bindings.meaning l.fn.store) (g.B.Bindings.meaning l.store);
  saved : (ms : List Saved) → g.B.Bindings.saves l.fn.store ms → g.B.Bindings.saves l.store ms;
  written : Written 0 (map (value_of_var (map (told (g.B.Bindings.meaning l.fn.store)) l.env)) (take l.var-index l.vars)) (g.B.Bindings.meaning l.fn.store) (g.B.Bindings.meaning l.store) l.fn.to.items l.to.items;
}
