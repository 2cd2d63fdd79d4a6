use Rattle.std.proofs.Common.{Some, length, map, refl, sym, ◌∙◌, ap}
use Rattle.std.specs.Prelude.{slice_get}
use Rattle.std.specs.Option.{option_map}
use Rattle.std.proofs.lemmas.Option.{slice_get_past, slice_get_read}
use Rattle.dg_base.specs.Tree.{parts_of}
use Rattle.dg_base.specs.TreeView.{part_view}
use Rattle.dg_put.specs.declared.access.Access.{Access}
use Rattle.dg_put.specs.inside.Putting.{access_view}
use Rattle.dg_put.proofs.ChainLemmas.{found}
use Rattle.dg_put.proofs.finding.rule_among.Goals as goal

pub returns-then-first-rules : goal.returns-then-first-rules
returns-then-first-rules c =
    let all = c.args.rules.all.now in
    let read = slice_get_read all (length all) c.first_of-first.result c.index-rules-first.result refl c.if-first-rules.true c.index-rules-first.is in
    ap (λ (x : Access). option_map access_view (Some x)) (sym c.index-rules-first.is)
    ∙ ap (option_map access_view) (sym read ∙ ap (slice_get all) c.first_of-first.ensures) ∙ found all (parts_of (map part_view c.args.parts.now))

pub returns-else-first-rules : goal.returns-else-first-rules
returns-else-first-rules c =
    let all = c.args.rules.all.now in
    let past = slice_get_past all c.first_of-first.result c.if-first-rules.false in
    ap (option_map access_view) (sym past ∙ ap (slice_get all) c.first_of-first.ensures) ∙ found all (parts_of (map part_view c.args.parts.now))
