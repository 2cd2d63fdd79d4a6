use Rattle.std.proofs.Common.{◌≡◌, ◌∙◌, ◌+◌, [], sym, subst, ap, arith, length, drop, length-drop}
use Rattle.dg_lists.specs.Reading.{Stopped, Copied}
use Rattle.dg_lists.proofs.MakeLemmas.{read_one, weight_of_one, same_first}
use Rattle.dg_lists.proofs.reading.from_cells.Goals as goal

pub returns-in-Err-clause-copied : goal.returns-in-Err-clause-copied
returns-in-Err-clause-copied g c = λ v is formed.
    subst (λ k. Stopped k (g.B.Bindings.meaning c.args.store.now) (g.B.Bindings.meaning c.read_cells.new.store) c.in-Err.e) (weight_of_one v c.args.cells.now is) c.in-Err.ensures.read

pub returns-then-top-scratch-clause-copied : goal.returns-then-top-scratch-clause-copied
returns-then-top-scratch-clause-copied g c = λ v is formed.
    let s = g.B.Bindings.meaning c.args.store.now in
    let t = g.B.Bindings.meaning c.read_cells.new.store in
    let row = c.read_cells.new.row in
    let one = read_one s t v c.args.cells.now (drop c.in-Ok.top row) is formed c.in-Ok.ensures.read in
    subst (λ r. Copied s t v r) (same_first one.r c.ref_at.result [] (drop (c.in-Ok.top + 1) row) (sym one.is ∙ c.ref_at.ensures)) one.copied

pub returns-else-top-scratch-clause-copied : goal.returns-else-top-scratch-clause-copied
returns-else-top-scratch-clause-copied g c = λ v is formed.
    let s = g.B.Bindings.meaning c.args.store.now in
    let t = g.B.Bindings.meaning c.read_cells.new.store in
    let row = c.read_cells.new.row in
    let one = read_one s t v c.args.cells.now (drop c.in-Ok.top row) is formed c.in-Ok.ensures.read in
    let count : length (drop c.in-Ok.top row) ≡ 1 = ap length one.is in
    absurd (omega (arith, count, length-drop c.in-Ok.top row, c.if-top-scratch.false))
