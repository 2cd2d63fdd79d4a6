use Rattle.std.proofs.Common.{arith, ◌∙◌, ap}
use Rattle.std.specs.Prelude.{◌&&◌}
use Rattle.dg_base.specs.declared.program.Goal.{out-Goal}
use Rattle.dg_meaning.specs.Quiet.{are_quiet}
use Rattle.dg_quiet.specs.inside.Left.{form_in, asks_in, inside_quiet, left_quiet}
use Rattle.dg_quiet.proofs.AsksLemmas.{others, looked, looked_weight, looked_left}
use Rattle.dg_quiet.proofs.asks.look_at.Goals as goal

pub returns-clause-quiet : goal.returns-clause-quiet
returns-clause-quiet c = λ set.
    let x = c.first-item.result in
    let whole = looked set c.args.goals.now x c.in-len1-up.len_at_least c.first-item.is ∙ ap (λ b. (b && inside_quiet set (out-Goal x)) && are_quiet set (others c.args.goals.now)) (c.form_of.ensures set) in
    let left = c.in_ok-add_inside.ensures.quiet set ∙ ap (λ b. b && inside_quiet set (out-Goal x)) (c.in_ok-add_list.ensures.quiet set) in
    looked_left (form_in set c.form_of.result) (inside_quiet set (out-Goal x)) (are_quiet set (others c.args.goals.now)) (left_quiet set c.args.left.now.items) (asks_in set c.args.asks.now.items)
    c.in_ok-fits.fits (asks_in set c.note.new.asks.items) (left_quiet set c.add_inside.new.left.items) (are_quiet set c.args.goals.now) whole (c.in_ok-fits.ensures set) left

pub returns-clause-weight : goal.returns-clause-weight
returns-clause-weight c =
    let e = looked_weight c.args.goals.now c.first-item.result c.in-len1-up.len_at_least c.first-item.is in
    let a = c.in_ok-add_inside.ensures.weight in
    let b = c.in_ok-add_list.ensures.weight in
    omega (arith, e, b, a)
