use Rattle.std.proofs.Common.{◌≡◌, ◌∷◌, [], map, ◌∙◌, ap, arith}
use Rattle.std.specs.Prelude.{Vec}
use Rattle.std.specs.Global.{Global}
use Rattle.dg_base.specs.Tree as tree
use Rattle.dg_base.specs.TreeView.{body_view}
use Rattle.dg_base.specs.declared.tree.Body.{Body}
use Rattle.dg_plain.specs.Building.{Built, built_view, last_or}
use Rattle.dg_put.specs.inside.Putting.{around, numbered, run}
use Rattle.dg_put.specs.inside.Weights.{heavy, IsPast}
use Rattle.dg_put.specs.declared.weighed.Weighed.{Weighed}
use Rattle.dg_put.specs.declared.work.Work.TheVariants as work
use Rattle.dg_put.proofs.WeightLemmas.{some_holds, none_holds, body_heavy, body_past}
use Rattle.dg_put.proofs.expanding.body_of.Goals as goal

pub returns-in-Some-clause-body : goal.returns-in-Some-clause-body
returns-in-Some-clause-body c =
    let whole = run (around c.args.uses) (work.Body c.args.at c.args.body ∷ []) (numbered c.args.number) in
    let built = some_holds (λ (w : Weighed). built_view w.built ≡ whole) c.in_ok-built.built c.in-Some.field-0 c.in-Some.is c.in_ok-built.ensures.built in
    c.last_body-body.ensures
    ∙ ap (λ (bs : Vec Body Global). last_or tree.no_branches (map body_view bs.items)) c.built_bodies.ensures
    ∙ ap (λ (s : Built). last_or tree.no_branches s.bodies) built

pub returns-in-Some-clause-tally : goal.returns-in-Some-clause-tally
returns-in-Some-clause-tally c =
    let whole = run (around c.args.uses) (work.Body c.args.at c.args.body ∷ []) (numbered c.args.number) in
    let built = some_holds (λ (w : Weighed). built_view w.built ≡ whole) c.in_ok-built.built c.in-Some.field-0 c.in-Some.is c.in_ok-built.ensures.built in
    omega (arith, c.in-Some.field-0.least, ap heavy built, body_heavy (around c.args.uses c.args.at.now) c.args.number (body_view c.args.body.now))

pub returns-in-None-clause-large : goal.returns-in-None-clause-large
returns-in-None-clause-large c =
    let whole = run (around c.args.uses) (work.Body c.args.at c.args.body ∷ []) (numbered c.args.number) in
    let past = none_holds (IsPast whole) c.in_ok-built.built c.in-None.is c.in_ok-built.ensures.large in
    body_past (around c.args.uses c.args.at.now) c.args.number (body_view c.args.body.now) past
