use Rattle.std.proofs.Common.{◌≤◌, List, length, sym, ◌∙◌, subst}
use Rattle.dg_base.specs.Tree.{Item}
use Rattle.dg_base.specs.TreeView.{tree_view}
use Rattle.dg_core.specs.Given.{IsGiven}
use Rattle.dg_lower.specs.Lowered.{IsLowered}
use Rattle.dg_names.specs.Named.{Named}
use Rattle.dg_names.specs.State.{names_view}
use Rattle.dg_compile.specs.Source.{all_names, with_prelude, Meets}
use Rattle.dg_compile.proofs.PreludeLemmas.{grown_is}
use Rattle.dg_compile.proofs.SourceLemmas.{lowered_of}
use Rattle.dg_compile.proofs.source.core_with_prelude.Goals as goal

pub returns-in-Ok : goal.returns-in-Ok
returns-in-Ok c = λ items same.
    let named = c.in_ok-names.ensures ∙ grown_is c.firsts_go_on.ensures (names_view c.args.names) items same in
    let meets = lowered_of (names_view c.in_ok-names.names) (tree_view c.in-Ok.all) c.lower.result c.lower.ensures.lowered c.lower.ensures.refused in
    subst (λ (d : Named). Meets (IsLowered d (with_prelude (tree_view c.args.new))) c.lower.result) named
    (subst (λ (l : List Item). Meets (IsLowered (names_view c.in_ok-names.names) l) c.lower.result) c.in-Ok.ensures meets)

pub lower-requires-clause-given : goal.lower-requires-clause-given
lower-requires-clause-given c =
    let items = c.requires.given.0 in
    let named = c.in_ok-names.ensures ∙ grown_is c.firsts_go_on.ensures (names_view c.args.names) items c.requires.given.1 in
    subst (λ (d : Named). IsGiven d (tree_view c.in-Ok.all)) (sym named)
    (subst (IsGiven (all_names items)) (sym c.in-Ok.ensures) c.requires.given.2)

pub lower-requires-clause-room : goal.lower-requires-clause-room
lower-requires-clause-room c =
    let items = c.requires.given.0 in
    let named = c.in_ok-names.ensures ∙ grown_is c.firsts_go_on.ensures (names_view c.args.names) items c.requires.given.1 in
    subst (λ (d : Named). length d.preds ≤ 65534) (sym named) c.requires.given.3
