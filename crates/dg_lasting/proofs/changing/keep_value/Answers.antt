use Rattle.std.proofs.Common.{◌∙◌, ap, sym, subst, arith, length}
use Rattle.dg_meaning.specs.ValueCells.{cells_of}
use Rattle.dg_unify.specs.Store.{Store}
use Rattle.dg_lists.specs.Formed.{IsFormed}
use Rattle.dg_lasting.specs.Changing.{in_store}
use Rattle.dg_lasting.proofs.ChangeLemmas.{became_kept, became_full}
use Rattle.dg_lasting.proofs.changing.keep_value.Goals as goal

pub returns-in-None-clause-became : goal.returns-in-None-clause-became
returns-in-None-clause-became g c o facts st is long =
    let s = g.B.Bindings.meaning c.args.store.now in
    let same = ap (λ (t : Store). length (cells_of (in_store t c.args.value))) c.fully_bound.ensures.same in
    became_full o facts c.args.place (in_store s c.args.value) c.args.world.now _ is (sym c.fully_bound.ensures.bound ∙ c.if-not-fully_bound.false) (omega (arith, same, c.in-None.ensures.written, long, c.to_cells.auto.row))

pub returns-in-Some-clause-became : goal.returns-in-Some-clause-became
returns-in-Some-clause-became g c o facts st is long =
    let s = g.B.Bindings.meaning c.args.store.now in
    let same = ap (λ (t : Store). in_store t c.args.value) c.fully_bound.ensures.same in
    became_kept o facts c.args.place (in_store s c.args.value) _ c.args.world.now c.change.new.self c.change.result is (c.in-Some.ensures.written.1 ∙ ap cells_of same) (subst IsFormed same c.in-Some.ensures.formed) (λ b m. c.change.ensures.changed o facts b st m)
