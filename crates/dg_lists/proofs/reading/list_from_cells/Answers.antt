use Rattle.std.proofs.Common.{◌-◌, ◌*◌, ◌+◌, subst, arith, length, drop, length-drop}
use Rattle.std.proofs.lemmas.List.{take_all}
use Rattle.dg_meaning.specs.Copies.{all_copy_cells, values_of}
use Rattle.dg_lists.specs.Reading.{Stopped}
use Rattle.dg_lists.proofs.MakeLemmas.{weight_of_all, stopped_more, list_result, made_holds}
use Rattle.dg_lists.proofs.reading.list_from_cells.Goals as goal

pub returns-in-Err-clause-copied : goal.returns-in-Err-clause-copied
returns-in-Err-clause-copied g c = λ vs is formed.
    let s = g.B.Bindings.meaning c.args.store.now in
    let t = g.B.Bindings.meaning c.read_cells.new.store in
    let stop = subst (λ k. Stopped k s t c.in-Err.e) (weight_of_all vs c.args.cells.now is) c.in-Err.ensures.read in
    stopped_more (all_copy_cells vs) (all_copy_cells vs + 3 * length (values_of vs)) s t c.in-Err.e (omega arith) stop

pub returns-in-Ok-clause-copied : goal.returns-in-Ok-clause-copied
returns-in-Ok-clause-copied g c = λ vs is formed.
    let s = g.B.Bindings.meaning c.args.store.now in
    let row = c.read_cells.new.row in
    let refs = drop c.in-Ok.top row in
    let whole = take_all (length row - c.in-Ok.top) refs (omega (arith, length-drop c.in-Ok.top row)) in
    list_result s (g.B.Bindings.meaning c.read_cells.new.store) (g.B.Bindings.meaning c.make_list.new.store) vs c.args.cells.now refs _ c.make_list.result whole is formed c.in-Ok.ensures.read c.make_list.ensures.made

pub returns-in-Ok-clause-holds : goal.returns-in-Ok-clause-holds
returns-in-Ok-clause-holds g c = made_holds (g.B.Bindings.meaning c.read_cells.new.store) (g.B.Bindings.meaning c.make_list.new.store) _ _ c.make_list.result c.make_list.ensures.made
