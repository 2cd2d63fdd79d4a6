use Rattle.std.proofs.Common.{◌++◌, List, ◌∙◌, ap}
use Rattle.std.specs.Prelude.{flat_map}
use Rattle.dg_base.specs.Mentions.{Thing, names_in, variable_in, things_in}
use Rattle.dg_base.specs.TreeView.{said_view}
use Rattle.dg_base.specs.Walk.{seen, things_at}
use Rattle.dg_base.specs.declared.mentions.Mention.{Mention}
use Rattle.dg_scopes.specs.Counts.{times}
use Rattle.dg_lint.specs.Lines.{thing_line}
use Rattle.dg_lint.specs.inside.View.{uses_view}
use Rattle.dg_lint.proofs.LineLemmas.{on_ok}
use Rattle.dg_lint.proofs.lines.push_said.Goals as goal

pub returns : goal.returns
returns c =
    let all = things_in (said_view c.args.said.now) in
    let u = uses_view c.args.uses.now in
    let old = c.args.text.now.items in
    let found = ap (λ (ms : List Mention). things_at (seen ms)) c.as_slice.ensures.value ∙ c.in_ok-mentions.ensures.things in
    let again = ap (λ (ms : List Mention). things_at (seen ms)) c.as_slice-2.ensures.value ∙ c.in_ok-mentions.ensures.things in
    on_ok c.push_things.result
    (λ e. e
    ∙ ap (λ (ts : List Thing). old ++ flat_map (thing_line c.args.place.now u all) ts) again)
    (c.push_things.ensures all (λ n. c.in_ok-totals.ensures n ∙ ap (λ (ts : List Thing). times n (names_in variable_in ts)) found))
