use Rattle.std.proofs.Common.{◌++◌, Option, sym, ◌∙◌, ap}
use Rattle.std.specs.Prelude.{flat_map}
use Rattle.dg_base.specs.Mentions.{query, variable}
use Rattle.dg_base.specs.TreeView.{head_view}
use Rattle.dg_base.specs.Walk.{mention_view, thing_at}
use Rattle.dg_base.specs.declared.mentions.Mention.{Mention}
use Rattle.dg_lint.specs.Lines.{line_of, thing_line}
use Rattle.dg_lint.specs.declared.slip.Slip.{Slip}
use Rattle.dg_lint.specs.inside.View.{uses_view}
use Rattle.dg_lint.proofs.LineLemmas.{on_ok, alone}
use Rattle.dg_lint.proofs.lines.push_thing.Goals as goal

pub returns-in-Query : goal.returns-in-Query
returns-in-Query c = λ all totals.
    let f = thing_line c.args.place.now (uses_view c.args.uses.now) all in
    let old = c.args.text.now.items in
    on_ok c.push_query.result
    (λ e. alone f (query c.in-Query.role (head_view c.in-Query.head.now)) old c.push_query.new.text.items e
    ∙ ap (λ (m : Mention). old ++ flat_map f (thing_at (mention_view m))) (sym c.in-Query.is)) (c.push_query.ensures all)

pub returns-in-Variable : goal.returns-in-Variable
returns-in-Variable c = λ all totals.
    let f = thing_line c.args.place.now (uses_view c.args.uses.now) all in
    let old = c.args.text.now.items in
    on_ok c.push_line.result
    (λ e. alone f (variable c.in-Variable.name.now) old c.push_line.new.text.items
    (e ∙ ap (λ (s : Option Slip). old ++ line_of c.args.place.now c.in-Variable.name.now s) (c.variable_slip.ensures all totals))
    ∙ ap (λ (m : Mention). old ++ flat_map f (thing_at (mention_view m))) (sym c.in-Variable.is)) c.push_line.ensures
