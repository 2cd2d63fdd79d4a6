use Rattle.std.proofs.Common.{◌∙◌, ◌++◌, ℕ, List, Bor, ap}
use Rattle.dg_base.specs.declared.tree.Body.{Body}
use Rattle.dg_scopes.specs.Closures.{Layout, variables_in}
use Rattle.dg_scopes.specs.inside.View.{layout_view}
use Rattle.dg_names.specs.State.{seen}
use Rattle.dg_core.specs.Bodies.{direct, in_branches}
use Rattle.dg_core.specs.Goals.{Scope, body_goals}
use Rattle.dg_core.specs.inside.Making.{bodies_view}
use Rattle.dg_core.specs.Rows.{row_with, scope_in}
use Rattle.dg_core.specs.inside.View.{scope_view, scope_behind}
use Rattle.dg_core.specs.inside.Waiting.{waiting_view, stack_of, waiting_from, home_view}
use Rattle.dg_core.proofs.MakeLemmas.{on_ok}
use Rattle.dg_core.proofs.WaitLemmas.{row_made, next_made}
use Rattle.dg_core.proofs.rows.add_row_with.Goals as goal

pub returns : goal.returns
returns c =
    let home = home_view c.args.home.now in
    let w = waiting_view c.args.waiting in
    let l = layout_view c.args.layout.now in
    let n = c.args.sites.now in
    let old = stack_of c.args.left.now in
    let found = bodies_view c.in_ok-goals.found in
    let scope = scope_view c.in_ok-scope.scope in
    let inside = c.in_ok-scope.ensures
    ∙ ap (λ (vs : List (List ℕ)). scope_in home vs c.as_slice-places.result.now) c.in_ok-variables.ensures
    ∙ ap (scope_in home (variables_in l)) c.as_slice-places.ensures.value in
    let made = c.in_ok-goals.ensures.goals ∙ ap (λ (bs : List (Bor Body)). body_goals (scope_behind c.in_ok-scope.scope bs) n w.body) c.new.ensures in
    let row = c.row_of.ensures ∙ row_made home w.captured n l w.body scope c.in_ok-goals.goals inside made ∙ ap (λ (x : Layout). row_with home w.captured n x w.body) c.requires in
    let vars = ap seen c.as_slice.ensures.value ∙ ap (λ (s : Scope). s.variables) c.in_ok-scope.ensures ∙ c.in_ok-variables.ensures in
    on_ok c.put_found.result
    (λ put. next_made home w n c.goals_of.new.sites old (stack_of c.put_found.new.left) c.args.rows.now c.push.new.self c.row_of.result found
    row
    (c.in_ok-goals.ensures.found ∙ ap (λ (bs : List (Bor Body)). bodies_view bs ++ direct (in_branches w.body)) c.new.ensures)
    c.in_ok-goals.ensures.sites
    c.in_ok-push.ensures.ok
    (put
    ∙ ap (λ (vs : List (List ℕ)). waiting_from home.layouts vs c.as_slice-places.result.now 0 found ++ old) vars
    ∙ ap (λ (ps : List ℕ). waiting_from home.layouts (variables_in l) ps 0 found ++ old) c.as_slice-places.ensures.value
    ∙ ap (λ (x : Layout). waiting_from home.layouts (variables_in x) x.places 0 found ++ old) c.requires))
    c.put_found.ensures
