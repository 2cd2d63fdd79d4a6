use Rattle.std.proofs.Common.{ℕ, Option, map, sym, ◌∙◌, ap}
use Rattle.std.specs.Borrow.{Bor}
use Rattle.std.specs.Option.{option_map}
use Rattle.dg_base.specs.Tree.{Value}
use Rattle.dg_base.specs.declared.tree.Value.{Value as CodeValue}
use Rattle.dg_base.specs.TreeView.{part_view, value_view}
use Rattle.dg_put.specs.Put.{Argument, argument_for, put_value}
use Rattle.dg_put.specs.inside.Putting.{Around, around_in, outer_view, given_from, argument_given}
use Rattle.dg_put.proofs.PlaceLemmas.{outer_within, given_in}
use Rattle.dg_put.proofs.place.argument_at.Goals as goal

pub returns-in_ok-value-in-Within : goal.returns-in_ok-value-in-Within
returns-in_ok-value-in-Within c = λ rules mark.
    let p = c.args.at.now in
    let a = around_in rules mark c.in-Within.outer.now in
    let f : Value → Argument = λ (u : Value) (n : ℕ). put_value a.at a.place n u in
    let g : Bor CodeValue → Value = λ (v : Bor CodeValue). value_view v.now in
    ap (λ (o : Option Around). argument_for (given_from o p.params.now p.args.now) c.args.name.now) (ap (outer_view rules mark) c.in-Within.is ∙ outer_within rules mark c.in-Within.outer)
    ∙ given_in a.at a.place c.args.name.now (map part_view p.params.now) (map part_view p.args.now)
    ∙ ap (option_map {U = Argument} f) (sym c.argument_among.ensures ∙ ap (option_map {U = Value} g) c.in_ok-value-in-Within.was)

pub returns-in_err-value-in-Within : goal.returns-in_err-value-in-Within
returns-in_err-value-in-Within c = λ rules mark.
    let p = c.args.at.now in
    let a = around_in rules mark c.in-Within.outer.now in
    let f : Value → Argument = λ (u : Value) (n : ℕ). put_value a.at a.place n u in
    let g : Bor CodeValue → Value = λ (v : Bor CodeValue). value_view v.now in
    ap (λ (o : Option Around). argument_for (given_from o p.params.now p.args.now) c.args.name.now) (ap (outer_view rules mark) c.in-Within.is ∙ outer_within rules mark c.in-Within.outer)
    ∙ given_in a.at a.place c.args.name.now (map part_view p.params.now) (map part_view p.args.now)
    ∙ ap (option_map {U = Argument} f) (sym c.argument_among.ensures ∙ ap (option_map {U = Value} g) c.in_err-value-in-Within.was)
    ∙ sym (ap (option_map {U = Argument} (argument_given rules mark)) c.from_residual.ensures)
