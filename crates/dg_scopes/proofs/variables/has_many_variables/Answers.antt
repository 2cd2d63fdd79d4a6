use Rattle.std.proofs.Common.{◌≡◌, ◌∙◌, [], List, Bool, IfOk, ap, subst}
use Rattle.dg_base.specs.Mentions.{Thing, names_in, variable_in}
use Rattle.dg_base.specs.TreeView.{said_view}
use Rattle.dg_base.specs.Walk.{Met}
use Rattle.dg_scopes.specs.Counts.{times}
use Rattle.dg_scopes.specs.Scopes.{passes}
use Rattle.dg_scopes.specs.State.{total_in}
use Rattle.dg_scopes.proofs.FullLemmas.{item_full}
use Rattle.dg_scopes.proofs.variables.has_many_variables.Goals as goal

pub returns : goal.returns
returns c =
    let total = total_in c.in_ok-totals.totals in
    subst (λ (b : Bool). IfOk c.is_full_along.result (λ many. many ≡ b))
    (ap (λ (ms : List Met). passes total ms [] []) c.requires.walk
    ∙ item_full total (said_view c.args.said.now) (λ n. c.in_ok-totals.ensures n ∙ ap (λ (ts : List Thing). times n (names_in variable_in ts)) c.requires.things))
    c.is_full_along.ensures
