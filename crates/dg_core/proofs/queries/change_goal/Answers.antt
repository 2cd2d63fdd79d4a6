use Rattle.std.proofs.Common.{◌∷◌, ◌++◌, [], List, Bool, sym, ◌∙◌, ap}
use Rattle.dg_base.specs.Tree as tree
use Rattle.dg_base.specs.Tree.{Parts, changes_of}
use Rattle.dg_base.specs.TreeView.{head_view}
use Rattle.dg_base.proofs.Views.{change_seen}
use Rattle.dg_core.specs.Bodies.{Closed, direct, in_parts, in_changes}
use Rattle.dg_core.specs.inside.Making.{bodies_view}
use Rattle.dg_core.proofs.BodyLemmas.{join_none}
use Rattle.dg_core.proofs.queries.change_goal.Goals as goal

pub returns-clause-found : goal.returns-clause-found
returns-clause-found c =
    let change = c.args.change.now in
    c.in_ok-terms_of.ensures.found
    ∙ ap (λ (x : Closed). bodies_view c.args.found.now ++ direct x) (sym (join_none (in_parts (head_view change.head))))
    ∙ ap (λ (x : Parts × Bool). bodies_view c.args.found.now ++ direct (in_changes (changes_of (x ∷ [])))) (sym (change_seen change))
