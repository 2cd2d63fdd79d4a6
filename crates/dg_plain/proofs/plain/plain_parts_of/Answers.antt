use Rattle.std.specs.Prelude.{Vec}
use Rattle.std.specs.Global.{Global}
use Rattle.std.proofs.Common.{◌≡◌, List, ◌∙◌, ap, map}
use Rattle.dg_base.specs.Tree as tree
use Rattle.dg_base.specs.Tree.{parts_of}
use Rattle.dg_base.specs.TreeView.{part_view, stmt_view, body_view, head_view}
use Rattle.dg_base.specs.declared.tree.Part.{Part}
use Rattle.dg_base.specs.declared.tree.Stmt.{Stmt}
use Rattle.dg_base.specs.declared.tree.Body.{Body}
use Rattle.dg_base.proofs.Views.{head_seen}
use Rattle.dg_plain.specs.Building.{Built, built_view, last_or, run, unbuilt}
use Rattle.dg_plain.specs.State.{setting_view}
use Rattle.dg_plain.specs.declared.work.Work.{Work}
use Rattle.dg_plain.proofs.BuildLemmas.{parts_again}
use Rattle.dg_plain.proofs.StepLemmas.{rule_run}
use Rattle.dg_plain.proofs.plain.plain_parts_of.Goals as goal

pub returns-clause-head : goal.returns-clause-head
returns-clause-head c =
    let made = rule_run (setting_view c.args.setting) c.args.head.now c.as_slice-parts.result c.args.body (built_view c.in_ok-built.built) c.as_slice-parts.ensures (c.in_ok-built.ensures ∙ ap (λ (ws : List Work). run (setting_view c.args.setting) ws unbuilt) c.in_ok-left.ensures) in
    head_seen _
    ∙ ap (λ (l : List Part). parts_of (map part_view l)) c.from_vec.ensures
    ∙ ap (λ (v : Vec Part Global). parts_of (map part_view v.items)) c.rule_of-parts.ensures.parts
    ∙ ap (λ (s : Built). parts_of s.parts) made
    ∙ parts_again _

pub returns-clause-puts : goal.returns-clause-puts
returns-clause-puts c =
    let made = rule_run (setting_view c.args.setting) c.args.head.now c.as_slice-parts.result c.args.body (built_view c.in_ok-built.built) c.as_slice-parts.ensures (c.in_ok-built.ensures ∙ ap (λ (ws : List Work). run (setting_view c.args.setting) ws unbuilt) c.in_ok-left.ensures) in
    ap (λ (v : Vec Stmt Global). map stmt_view v.items) c.rule_of-parts.ensures.puts
    ∙ ap (λ (s : Built). s.puts) made

pub returns-clause-body : goal.returns-clause-body
returns-clause-body c =
    let made = rule_run (setting_view c.args.setting) c.args.head.now c.as_slice-parts.result c.args.body (built_view c.in_ok-built.built) c.as_slice-parts.ensures (c.in_ok-built.ensures ∙ ap (λ (ws : List Work). run (setting_view c.args.setting) ws unbuilt) c.in_ok-left.ensures) in
    c.pop_body-body.ensures.body
    ∙ ap (λ (v : Vec Body Global). last_or tree.no_branches (map body_view v.items)) c.rule_of-parts.ensures.bodies
    ∙ ap (λ (s : Built). last_or tree.no_branches s.bodies) made
