use Rattle.std.proofs.Common.{◌≡◌, ◌+◌, ◌*◌, List, length, map, reverse}
use Rattle.std.specs.List.{sum_by}
use Rattle.dg_base.specs.Terms.{nodes}
use Rattle.dg_base.specs.declared.program.CoreProgram.{CoreProgram}
use Rattle.dg_unify.specs.Store.{Saved, Kept, told}
use Rattle.dg_terms.specs.declared.terms.Open.{Open}
use Rattle.dg_terms.proofs.NestLemmas.{Writing}
use Rattle.dg_terms.proofs.terms.write_list.Given as goal

abbrev pub invariant-lists : goal.invariant-lists
invariant-lists g l = record {
  kept : Kept (g.B.Bindings.meaning l.fn.store) (g.B.Bindings.meaning l.store);
  saved : (ms : List Saved) → g.B.Bindings.saves l.fn.store ms → g.B.Bindings.saves l.store ms;
  writing : (program : CoreProgram) → l.program ≡ program → Writing program (map (told (g.B.Bindings.meaning l.fn.store)) l.env) l.fn.term l.list.left.now (reverse l.around.items) l.list.height (g.B.Bindings.meaning l.fn.store) (g.B.Bindings.meaning l.store) l.fn.stack.items l.stack.items;
}

abbrev pub decreases-lists : goal.decreases-lists
decreases-lists g l = 2 * length (nodes l.list.left.now) + sum_by (λ (o : Open). 1 + 2 * length (nodes o.left.now)) l.around.items
