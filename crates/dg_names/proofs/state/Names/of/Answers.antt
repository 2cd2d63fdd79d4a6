use Rattle.std.proofs.Common.{List, Ok, map, sym, subst}
use Rattle.dg_base.specs.TreeView.{item_view}
use Rattle.dg_base.specs.declared.tree.Item.{Item}
use Rattle.dg_names.specs.Counts.{IsNamed}
use Rattle.dg_names.specs.Named.{Named}
use Rattle.dg_names.specs.State.{names_view}
use Rattle.dg_names.proofs.state.Names.of.Goals as goal

pub returns-in-Ok-clause-named : goal.returns-in-Ok-clause-named
returns-in-Ok-clause-named c =
    subst (λ (is : List Item). IsNamed (map item_view is) (Ok (names_view c.told_names.result))) c.as_slice.ensures
    (subst (λ (n : Named). IsNamed (map item_view c.as_slice.result.now) (Ok n)) (sym c.told_names.ensures) c.in-Ok.ensures.named)
