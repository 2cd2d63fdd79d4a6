use Rattle.std.proofs.Common.{◌∙◌, ◌++◌, List, Bor, ap, sym}
use Rattle.dg_base.specs.Tree as tree
use Rattle.dg_base.specs.TreeView.{head_view, body_view}
use Rattle.dg_base.specs.declared.tree.Body.{Body}
use Rattle.dg_core.specs.Bodies.{direct, in_parts, in_branches}
use Rattle.dg_core.specs.inside.Making.{bodies_view}
use Rattle.dg_core.proofs.BodyLemmas.{direct_join}
use Rattle.dg_core.proofs.program.rule_of.Goals as goal

pub returns-clause-found : goal.returns-clause-found
returns-clause-found c =
    let ps = in_parts (head_view c.args.head.now) in
    let b = in_branches (body_view c.args.body.now) in
    c.in_ok-goals.ensures.found
    ∙ ap (λ (l : List tree.Body). l ++ direct b) (c.in_ok-terms.ensures.found ∙ ap (λ (bs : List (Bor Body)). bodies_view bs ++ direct ps) c.new-found.ensures)
    ∙ sym (direct_join ps b)
