use Rattle.std.proofs.Common.{List, Result, Ok, Err, IfErr, map, sym, ◌∙◌, subst}
use Rattle.dg_base.specs.Faults.{IsFault}
use Rattle.dg_base.specs.TreeView.{item_view, tree_view}
use Rattle.dg_base.specs.declared.program.CoreProgram.{CoreProgram as Core}
use Rattle.dg_base.specs.declared.refusal.Kind.TheVariants.{NoEntry}
use Rattle.dg_base.specs.declared.refusal.ReadFault.{ReadFault}
use Rattle.dg_base.specs.declared.tree.Item.{Item as TreeItem}
use Rattle.dg_names.specs.State.{names_view}
use Rattle.dg_lower.specs.Lowered.{IsLowered}
use Rattle.dg_lower.proofs.EmptyLemmas.{no_items, empty_refused, if_ok}
use Rattle.dg_lower.proofs.lowering.lower.Goals as goal

pub returns-then-is_empty-clause-refused : goal.returns-then-is_empty-clause-refused
returns-then-is_empty-clause-refused c =
    let names = names_view c.args.names in
    let none = sym c.as_slice.ensures ∙ no_items c.as_slice.result.now (sym c.is_empty.ensures ∙ c.if-is_empty.true) in
    subst (λ (x : Result Core ReadFault). IfErr x (IsFault (λ r. IsLowered names (tree_view c.args.tree) (Err r)))) (sym c.refused.ensures)
    (subst (λ (l : List TreeItem). IsLowered names (map item_view l) (Err (record { kind = NoEntry; line = 1 }))) (sym none) (empty_refused names))

pub returns-clause-sound : goal.returns-clause-sound
returns-clause-sound c =
    if_ok c.lowered-result.result (λ core l. c.core_is_sound.ensures (names_view c.args.names) (tree_view c.args.tree) core c.requires.given c.requires.room l)
    c.lowered-result.ensures.lowered
