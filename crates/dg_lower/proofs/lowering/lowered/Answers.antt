use Rattle.std.proofs.Common.{Ok, Err, IfOk, IfErr, sym, subst}
use Rattle.std.specs.List.{Contains}
use Rattle.dg_base.specs.Faults.{IsFault}
use Rattle.dg_base.specs.TreeView.{tree_view}
use Rattle.dg_core.specs.Core.{entry_name}
use Rattle.dg_core.specs.Given.{IsGiven}
use Rattle.dg_names.specs.Named.{Named}
use Rattle.dg_names.specs.State.{names_view}
use Rattle.dg_lower.specs.Lowered.{ComesOf}
use Rattle.dg_lower.proofs.CoreLemmas.{entry_given, entry_there}
use Rattle.dg_lower.proofs.EntryLemmas.{entry_printable}
use Rattle.dg_lower.proofs.lowering.lowered.Goals as goal

pub lowered_with-result-requires-clause-given : goal.lowered_with-result-requires-clause-given
lowered_with-result-requires-clause-given c =
    subst (λ (d : Named). IsGiven d (tree_view c.args.tree.now)) (sym c.in_ok-names.ensures)
    (entry_given (names_view c.args.names) (tree_view c.args.tree.now) entry_printable c.requires.given c.requires.room)

pub lowered_with-result-requires-clause-entry : goal.lowered_with-result-requires-clause-entry
lowered_with-result-requires-clause-entry c =
    subst (λ (d : Named). Contains d.preds entry_name) (sym c.in_ok-names.ensures) (entry_there (names_view c.args.names))

pub returns-clause-lowered : goal.returns-clause-lowered
returns-clause-lowered c =
    subst (λ (d : Named). IfOk c.lowered_with-result.result (λ core. ComesOf d (tree_view c.args.tree.now) (Ok core))) c.in_ok-names.ensures
    c.lowered_with-result.ensures.lowered

pub returns-clause-refused : goal.returns-clause-refused
returns-clause-refused c =
    subst (λ (d : Named). IfErr c.lowered_with-result.result (IsFault (λ r. ComesOf d (tree_view c.args.tree.now) (Err r)))) c.in_ok-names.ensures
    c.lowered_with-result.ensures.refused
