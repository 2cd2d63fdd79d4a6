use Rattle.dg_base.specs.TreeView.{tree_view}
use Rattle.dg_access.specs.Answer.{IsRewritten}
use Rattle.dg_names.specs.State.{names_view}
use Rattle.dg_compile.proofs.SourceLemmas.{then_ok, then_err}
use Rattle.dg_compile.proofs.source.named_program.Goals as goal

pub core_with_prelude-requires-clause-few : goal.core_with_prelude-requires-clause-few
core_with_prelude-requires-clause-few c = (c.names_are_few.ensures (tree_view c.args.tree) (names_view c.args.names) c.requires.named).preds

pub core_with_prelude-requires-clause-given : goal.core_with_prelude-requires-clause-given
core_with_prelude-requires-clause-given c =
    let items = tree_view c.args.tree in
    let given = c.trees_are_given.ensures in (
      items,
      c.requires.named.1,
      given.given items (tree_view c.in-Ok.new) (names_view c.args.names) c.requires.source c.requires.named c.in-Ok.ensures.rewritten,
      given.room items (names_view c.args.names) c.requires.named,
    )

pub returns-in-Ok : goal.returns-in-Ok
returns-in-Ok c =
    then_ok (IsRewritten (tree_view c.args.tree)) _ (tree_view c.in-Ok.new) c.core_with_prelude.result c.in-Ok.ensures.rewritten
    (c.core_with_prelude.ensures (tree_view c.args.tree) c.requires.named.1)

pub returns-in-Err : goal.returns-in-Err
returns-in-Err c = then_err (IsRewritten (tree_view c.args.tree)) _ c.in-Err.fault c.in-Err.ensures.refused
