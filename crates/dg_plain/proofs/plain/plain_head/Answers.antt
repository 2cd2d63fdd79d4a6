use Rattle.std.specs.Prelude.{Vec}
use Rattle.std.specs.Global.{Global}
use Rattle.std.proofs.Common.{◌≡◌, List, ◌∙◌, ap, map}
use Rattle.dg_base.specs.Tree.{parts_of}
use Rattle.dg_base.specs.TreeView.{part_view}
use Rattle.dg_base.specs.declared.tree.Part.{Part}
use Rattle.dg_base.proofs.Views.{head_seen}
use Rattle.dg_plain.specs.Building.{built_view, run, unbuilt}
use Rattle.dg_plain.specs.State.{setting_view}
use Rattle.dg_plain.specs.declared.work.Work.{Work}
use Rattle.dg_plain.proofs.StepLemmas.{head_run}
use Rattle.dg_plain.proofs.plain.plain_head.Goals as goal

pub returns : goal.returns
returns c =
    head_seen _
    ∙ ap (λ (l : List Part). parts_of (map part_view l)) c.from_vec.ensures
    ∙ ap (λ (v : Vec Part Global). parts_of (map part_view v.items)) c.rule_of-parts.ensures.parts
    ∙ head_run (setting_view c.args.setting) c.args.head.now c.as_slice-parts.result (built_view c.in_ok-built.built) c.as_slice-parts.ensures (c.in_ok-built.ensures ∙ ap (λ (ws : List Work). run (setting_view c.args.setting) ws unbuilt) c.in_ok-left.ensures)
