use Rattle.std.proofs.Common.{◌≡◌, ◌∷◌, [], List, map, ◌∙◌, ap, subst}
use Rattle.std.specs.Prelude.{◌<◌}
use Rattle.dg_base.specs.Tree.{Parts, parts_of}
use Rattle.dg_base.specs.TreeView.{part_view}
use Rattle.dg_base.specs.declared.tree.Part.{Part}
use Rattle.dg_base.proofs.Views.{head_seen}
use Rattle.dg_plain.specs.Building.{Built, built_view}
use Rattle.dg_put.specs.Put.{put_parts}
use Rattle.dg_put.specs.inside.Putting.{around, numbered, run}
use Rattle.dg_put.specs.inside.Weights.{parts_load, IsPast}
use Rattle.dg_put.specs.declared.weighed.Weighed.{Weighed}
use Rattle.dg_put.specs.declared.work.Work.TheVariants as work
use Rattle.dg_put.proofs.BuiltLemmas.{parts_again}
use Rattle.dg_put.proofs.StepLemmas.{head_parts}
use Rattle.dg_put.proofs.WeightLemmas.{some_holds, none_holds, parts_past}
use Rattle.dg_put.proofs.expanding.head_of.Goals as goal

pub returns-in-Some-clause-head : goal.returns-in-Some-clause-head
returns-in-Some-clause-head c =
    let a = around c.args.uses c.args.at.now in
    let whole = run (around c.args.uses) (work.Parts c.args.at c.as_slice.result ∷ []) (numbered 0) in
    let built = some_holds (λ (w : Weighed). built_view w.built ≡ whole) c.in_ok-built.built c.in-Some.field-0 c.in-Some.is c.in_ok-built.ensures.built in
    head_seen _
    ∙ ap (λ (l : List Part). parts_of (map part_view l)) c.built_head.ensures
    ∙ ap (λ (s : Built). parts_of s.parts) built
    ∙ parts_again _
    ∙ ap (λ (ps : Parts). (put_parts a.at a.place 0 ps).0) (head_parts c.args.head.now c.as_slice.result.now c.as_slice.ensures)

pub returns-in-None-clause-large : goal.returns-in-None-clause-large
returns-in-None-clause-large c =
    let a = around c.args.uses c.args.at.now in
    let whole = run (around c.args.uses) (work.Parts c.args.at c.as_slice.result ∷ []) (numbered 0) in
    let past = none_holds (IsPast whole) c.in_ok-built.built c.in-None.is c.in_ok-built.ensures.large in
    subst (λ (ps : Parts). 2500000 < parts_load (put_parts a.at a.place 0 ps).0) (head_parts c.args.head.now c.as_slice.result.now c.as_slice.ensures)
    (parts_past a 0 (parts_of (map part_view c.as_slice.result.now)) past)
