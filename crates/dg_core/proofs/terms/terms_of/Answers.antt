use Rattle.std.proofs.Common.{◌∙◌, ◌++◌, List, Bor, ap, map, sym}
use Rattle.dg_base.specs.Tree as tree
use Rattle.dg_base.specs.TreeView.{part_view}
use Rattle.dg_base.specs.declared.tree.Part.{Part}
use Rattle.dg_base.specs.declared.tree.Value.{Value}
use Rattle.dg_base.proofs.Views.{head_seen}
use Rattle.dg_core.specs.Bodies.{direct, in_parts}
use Rattle.dg_core.specs.inside.Making.{bodies_view}
use Rattle.dg_core.specs.inside.View.{directs, values_view}
use Rattle.dg_core.proofs.BodyLemmas.{parts_direct}
use Rattle.dg_core.proofs.MakeLemmas.{on_ok}
use Rattle.dg_core.proofs.terms.terms_of.Goals as goal

pub returns-clause-found : goal.returns-clause-found
returns-clause-found c =
    on_ok c.terms_of_values.result
    (λ e. e
    ∙ ap (λ (l : List tree.Body). bodies_view c.args.found.now ++ l)
    (ap (λ (vs : List (Bor Value)). directs (values_view vs)) c.as_slice-2.ensures.value
    ∙ ap directs c.in_ok-values.ensures
    ∙ parts_direct (tree.parts_of (map part_view c.as_slice.result.now))
    ∙ ap (λ (ps : List Part). direct (in_parts (tree.parts_of (map part_view ps)))) c.as_slice.ensures
    ∙ ap (λ (ps : tree.Parts). direct (in_parts ps)) (sym (head_seen c.args.head.now))))
    c.terms_of_values.ensures.found
