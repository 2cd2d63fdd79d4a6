use Rattle.std.proofs.Common.{◌≡◌, ◌+◌, ◌-◌, ◌∙◌, sym, ap, subst, arith, length, map, take, drop}
use Rattle.dg_meaning.specs.Values.{value_of_var}
use Rattle.dg_unify.specs.Store.{State}
use Rattle.dg_arena.specs.Held.{meaning_of}
use Rattle.dg_machine.specs.Refs.{RefsAt, Keeps}
use Rattle.dg_machine.specs.Tables.{captured_at}
use Rattle.dg_machine.proofs.Opens.{heap_full}
use Rattle.dg_machine.proofs.HeadLemmas.{keeps_on}
use Rattle.dg_machine.proofs.TableLemmas.{closure_made, closure_over, all_hold, slice_is, slice_length}
use Rattle.dg_machine.proofs.closures.closure_value.Goals as goal

pub returns-then-vars-capacity-clause-made : goal.returns-then-vars-capacity-clause-made
returns-then-vars-capacity-clause-made c p vs is at =
    let n = length c.captured_by-vars.result.now in
    closure_over p c.args.tables.now vs c.args.place is (meaning_of c.args.arena.now) n (ap length c.captured_by-vars.ensures.captured)
    (omega (arith, c.if-vars-capacity.true, c.capacity.ensures, c.len-height.ensures, c.args.spare.now.ok.0, c.requires.spare.fits, c.requires.spare.few))

pub closure-requires-clause-captured_in : goal.closure-requires-clause-captured_in
closure-requires-clause-captured_in c =
    let old = meaning_of c.args.arena.now in
    let mid = meaning_of c.push_vars.new.arena in
    let ys = c.push_vars.new.to.items in
    let n = length c.args.spare.now.items in
    let height : c.len-height.result ≡ n = omega (arith, c.len-height.ensures, c.args.spare.now.ok.0) in
    let refs = take (length c.deref.result.now - c.len-height.result) (drop c.len-height.result c.deref.result.now) in
    let same : refs ≡ drop n ys = slice_is ys c.deref.result.now c.len-height.result n c.deref.ensures.value height in
    let vars = captured_at c.args.tables.now c.args.place in
    let count : length refs ≡ length vars = slice_length ys c.deref.result.now c.len-height.result n (length vars) c.deref.ensures.value height (c.push_vars.ensures.count ∙ ap (λ l. n + length l) c.captured_by-vars.ensures.captured) in
    let row = c.requires.row in
    let at : RefsAt mid refs (map (value_of_var row.0) c.captured_by-vars.result.now) = subst (λ l. RefsAt mid l (map (value_of_var row.0) c.captured_by-vars.result.now)) (sym same) (c.push_vars.ensures.values row.0 row.1) in
    all_hold mid refs (map (value_of_var row.0) c.captured_by-vars.result.now) at

pub closure-requires-clause-few : goal.closure-requires-clause-few
closure-requires-clause-few c =
    let old = meaning_of c.args.arena.now in
    let mid = meaning_of c.push_vars.new.arena in
    let ys = c.push_vars.new.to.items in
    let n = length c.args.spare.now.items in
    let height : c.len-height.result ≡ n = omega (arith, c.len-height.ensures, c.args.spare.now.ok.0) in
    let refs = take (length c.deref.result.now - c.len-height.result) (drop c.len-height.result c.deref.result.now) in
    let same : refs ≡ drop n ys = slice_is ys c.deref.result.now c.len-height.result n c.deref.ensures.value height in
    let vars = captured_at c.args.tables.now c.args.place in
    let count : length refs ≡ length vars = slice_length ys c.deref.result.now c.len-height.result n (length vars) c.deref.ensures.value height (c.push_vars.ensures.count ∙ ap (λ l. n + length l) c.captured_by-vars.ensures.captured) in
    omega (arith, count, ap length c.captured_by-vars.ensures.captured, c.captured_by-vars.ensures.few)

pub returns-in-Err-clause-keeps : goal.returns-in-Err-clause-keeps
returns-in-Err-clause-keeps c =
    let further : Keeps c.push_vars.new.arena c.closure.new.self = record { kept = c.in-Err.ensures.kept; saved = c.in-Err.ensures.saved } in
    keeps_on c.args.arena.now c.push_vars.new.arena c.closure.new.self c.push_vars.ensures.stays.keeps further

pub returns-in-Err-clause-made : goal.returns-in-Err-clause-made
returns-in-Err-clause-made c p vs is at =
    let old = meaning_of c.args.arena.now in
    let mid = meaning_of c.push_vars.new.arena in
    let ys = c.push_vars.new.to.items in
    let n = length c.args.spare.now.items in
    let height : c.len-height.result ≡ n = omega (arith, c.len-height.ensures, c.args.spare.now.ok.0) in
    let refs = take (length c.deref.result.now - c.len-height.result) (drop c.len-height.result c.deref.result.now) in
    let same : refs ≡ drop n ys = slice_is ys c.deref.result.now c.len-height.result n c.deref.ensures.value height in
    let vars = captured_at c.args.tables.now c.args.place in
    let count : length refs ≡ length vars = slice_length ys c.deref.result.now c.len-height.result n (length vars) c.deref.ensures.value height (c.push_vars.ensures.count ∙ ap (λ l. n + length l) c.captured_by-vars.ensures.captured) in
    let over = heap_full (3 + length refs) c.push_vars.new.arena c.closure.new.self c.in-Err.full c.in-Err.ensures.made in
    let heap = ap (λ (s : State). s.heap) c.push_vars.ensures.stays.state in
    closure_over p c.args.tables.now vs c.args.place is old (length refs) count (omega (arith, over, heap, c.push_vars.ensures.stays.keeps.kept.heap_limit))

pub returns-in-Ok-clause-keeps : goal.returns-in-Ok-clause-keeps
returns-in-Ok-clause-keeps c =
    let further : Keeps c.push_vars.new.arena c.closure.new.self = record { kept = c.in-Ok.ensures.kept; saved = c.in-Ok.ensures.saved } in
    keeps_on c.args.arena.now c.push_vars.new.arena c.closure.new.self c.push_vars.ensures.stays.keeps further

pub returns-in-Ok-clause-made : goal.returns-in-Ok-clause-made
returns-in-Ok-clause-made c p vs is at =
    let old = meaning_of c.args.arena.now in
    let mid = meaning_of c.push_vars.new.arena in
    let ys = c.push_vars.new.to.items in
    let n = length c.args.spare.now.items in
    let height : c.len-height.result ≡ n = omega (arith, c.len-height.ensures, c.args.spare.now.ok.0) in
    let refs = take (length c.deref.result.now - c.len-height.result) (drop c.len-height.result c.deref.result.now) in
    let same : refs ≡ drop n ys = slice_is ys c.deref.result.now c.len-height.result n c.deref.ensures.value height in
    let vars = captured_at c.args.tables.now c.args.place in
    let count : length refs ≡ length vars = slice_length ys c.deref.result.now c.len-height.result n (length vars) c.deref.ensures.value height (c.push_vars.ensures.count ∙ ap (λ l. n + length l) c.captured_by-vars.ensures.captured) in
    let refs_at : RefsAt mid refs (map (value_of_var vs) vars) = subst (λ l. RefsAt mid l (map (value_of_var vs) vars)) (sym same) (subst (λ l. RefsAt mid (drop n ys) (map (value_of_var vs) l)) c.captured_by-vars.ensures.captured (c.push_vars.ensures.values vs at)) in
    closure_made p c.args.tables.now vs c.args.place is old mid (meaning_of c.closure.new.self) refs c.in-Ok.closure c.push_vars.ensures.stays.keeps.kept c.push_vars.ensures.stays.state refs_at count c.in-Ok.ensures.made
