use Rattle.std.proofs.Common.{◌≡◌, ◌∷◌, [], map, ◌∙◌, ap, subst}
use Rattle.std.specs.Prelude.{Vec}
use Rattle.std.specs.Global.{Global}
use Rattle.dg_base.specs.Tree.{Parts, changes_of, parts_of}
use Rattle.dg_base.specs.TreeView.{change_view, part_view}
use Rattle.dg_base.specs.declared.tree.NowChange.{NowChange}
use Rattle.dg_plain.specs.Building.{Built, built_view}
use Rattle.dg_put.specs.Put.{put_changes, one_change}
use Rattle.dg_put.specs.inside.Putting.{around, numbered, run}
use Rattle.dg_put.specs.inside.Weights.{HasManyHeads, IsPast}
use Rattle.dg_put.specs.declared.weighed.Weighed.{Weighed}
use Rattle.dg_put.specs.declared.work.Work.TheVariants as work
use Rattle.dg_put.proofs.BuiltLemmas.{changes_again}
use Rattle.dg_put.proofs.StepLemmas.{head_parts}
use Rattle.dg_put.proofs.WeightLemmas.{some_holds, none_holds, changes_past}
use Rattle.dg_put.proofs.expanding.heads_of.Goals as goal

pub returns-in-Some-clause-heads : goal.returns-in-Some-clause-heads
returns-in-Some-clause-heads c =
    let a = around c.args.uses c.args.at.now in
    let whole = run (around c.args.uses) (work.Change c.args.at c.args.set c.as_slice-parts.result ∷ []) (numbered 0) in
    let built = some_holds (λ (w : Weighed). built_view w.built ≡ whole) c.in_ok-built.built c.in-Some.field-0 c.in-Some.is c.in_ok-built.ensures.built in
    ap (λ (l : Vec NowChange Global). changes_of (map change_view l.items)) c.built_heads.ensures.heads
    ∙ ap (λ (s : Built). changes_of s.changes) built
    ∙ changes_again _
    ∙ ap (λ (ps : Parts). (put_changes a.at a.place 0 (one_change c.args.set ps)).0) (head_parts c.args.head.now c.as_slice-parts.result.now c.as_slice-parts.ensures)

pub returns-in-Some-clause-number : goal.returns-in-Some-clause-number
returns-in-Some-clause-number c =
    let a = around c.args.uses c.args.at.now in
    let whole = run (around c.args.uses) (work.Change c.args.at c.args.set c.as_slice-parts.result ∷ []) (numbered 0) in
    let built = some_holds (λ (w : Weighed). built_view w.built ≡ whole) c.in_ok-built.built c.in-Some.field-0 c.in-Some.is c.in_ok-built.ensures.built in
    c.built_heads.ensures.number
    ∙ ap (λ (s : Built). s.at) built
    ∙ ap (λ (ps : Parts). (put_changes a.at a.place 0 (one_change c.args.set ps)).1) (head_parts c.args.head.now c.as_slice-parts.result.now c.as_slice-parts.ensures)

pub returns-in-None-clause-large : goal.returns-in-None-clause-large
returns-in-None-clause-large c =
    let a = around c.args.uses c.args.at.now in
    let whole = run (around c.args.uses) (work.Change c.args.at c.args.set c.as_slice-parts.result ∷ []) (numbered 0) in
    let past = none_holds (IsPast whole) c.in_ok-built.built c.in-None.is c.in_ok-built.ensures.large in
    subst (λ (ps : Parts). HasManyHeads (put_changes a.at a.place 0 (one_change c.args.set ps)).0) (head_parts c.args.head.now c.as_slice-parts.result.now c.as_slice-parts.ensures)
    (changes_past a 0 (one_change c.args.set (parts_of (map part_view c.as_slice-parts.result.now))) past)
