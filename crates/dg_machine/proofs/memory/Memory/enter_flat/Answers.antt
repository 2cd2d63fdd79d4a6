use Rattle.std.proofs.Common.{◌+◌, ◌≤◌, ◌<◌, ◌∙◌, ap, map, arith, sym, subst}
use Rattle.std.specs.List.{zip}
use Rattle.dg_meaning.specs.Values.{value_of}
use Rattle.dg_meaning.specs.Cells.{cells}
use Rattle.dg_meaning.specs.Moves.{new_vars}
use Rattle.dg_meaning.specs.Unify.{solve}
use Rattle.dg_arena.specs.Held.{meaning_of}
use Rattle.dg_mid.specs.Step.{bound}
use Rattle.dg_machine.specs.Refs.{RowAt}
use Rattle.dg_machine.specs.Layout.{made_state, headed_state, heap_in, limit_in, CallAt}
use Rattle.dg_machine.proofs.Kept.{row_kept, refs_moved, moved_to}
use Rattle.dg_machine.proofs.Leaving.{enters, enters_full, enters_clash, enters_unmatched}
use Rattle.dg_machine.proofs.FlatHeads.{flat_full, flat_within, flat_matched, flat_unmatched}
use Rattle.dg_machine.proofs.memory.Memory.enter_flat.Goals as goal

pub match_head-requires-clause-args : goal.match_head-requires-clause-args
match_head-requires-clause-args c = refs_moved (meaning_of c.args.self.now.arena) (meaning_of c.fit_rule-row.new.self.arena) c.args.self.now.args.items c.fit_rule-row.new.self.args.items (ap (λ v. v.items) c.fit_rule-row.ensures.args) c.fit_rule-row.ensures.values c.requires.args

pub match_head-requires-clause-row : goal.match_head-requires-clause-row
match_head-requires-clause-row c = (new_vars c.args.vars (meaning_of c.args.self.now.arena).state.vars, c.fit_rule-row.ensures.row)

pub match_head-requires-clause-own : goal.match_head-requires-clause-own
match_head-requires-clause-own c = record {
  count = c.args.vars;
  vars = subst (λ n. RowAt (meaning_of c.fit_rule-row.new.self.arena) c.fit_rule-row.result (new_vars c.args.vars n)) (sym c.vars-number.ensures.count) c.fit_rule-row.ensures.row;
  low = c.vars-number.ensures.few;
}

pub match_head-requires-clause-fits : goal.match_head-requires-clause-fits
match_head-requires-clause-fits c = omega (arith, c.room.ensures, c.fit_rule-row.ensures.heap, c.fit_rule-row.ensures.values.heap_limit)

pub returns-then-room-vars : goal.returns-then-room-vars
returns-then-room-vars c t code rest g is_of l m call ops at k h =
    let now = c.args.self.now in
    let over : limit_in now < heap_in now + (6 + c.args.vars + c.args.cells) = omega (arith, c.room.ensures) in
    enters_full code g l m now.call call c.args.vars c.args.head.now now now ops rest at h
    (flat_full code l m g.program c.args.vars c.args.cells c.args.head.now c.requires.flat now h over)

pub returns-in-Err : goal.returns-in-Err
returns-in-Err c t code rest g is_of l m call ops at k h =
    let mid = c.fit_rule-row.new.self in
    let made = c.fit_rule-row.ensures.held code l m h in
    let vs = new_vars c.args.vars m.state.vars in
    let ruled = record m { state = made_state c.args.vars m.state } in
    let fits : heap_in mid + c.args.cells ≤ limit_in mid = omega (arith, c.room.ensures, c.fit_rule-row.ensures.heap, c.fit_rule-row.ensures.values.heap_limit) in
    let within = flat_within code l m g.program c.args.vars c.args.cells c.args.head.now c.requires.flat mid c.fit_rule-row.result made fits in
    let refs = moved_to (meaning_of c.args.self.now.arena) (meaning_of mid.arena) c.args.self.now.args.items mid.args.items call.args (ap (λ v. v.items) c.fit_rule-row.ensures.args) c.fit_rule-row.ensures.values k.args in
    let u = solve m.state.subst (zip call.args (map (value_of g.program vs) c.args.head.now)) in
    let x = flat_unmatched code l m g.program c.args.vars c.args.cells c.args.head.now c.requires.flat mid c.fit_rule-row.result made u c.match_head.new.self (c.in-Err.ensures.matched code l ruled g.program call.args vs made.held refs made.row_is) in
    enters_unmatched code g l m c.args.self.now.call call c.args.vars c.args.head.now c.args.self.now c.match_head.new.self ops rest at h within x

pub returns-in-Ok-false : goal.returns-in-Ok-false
returns-in-Ok-false c t code rest g is_of l m call ops at k h =
    let mid = c.fit_rule-row.new.self in
    let made = c.fit_rule-row.ensures.held code l m h in
    let vs = new_vars c.args.vars m.state.vars in
    let ruled = record m { state = made_state c.args.vars m.state } in
    let fits : heap_in mid + c.args.cells ≤ limit_in mid = omega (arith, c.room.ensures, c.fit_rule-row.ensures.heap, c.fit_rule-row.ensures.values.heap_limit) in
    let within = flat_within code l m g.program c.args.vars c.args.cells c.args.head.now c.requires.flat mid c.fit_rule-row.result made fits in
    let refs = moved_to (meaning_of c.args.self.now.arena) (meaning_of mid.arena) c.args.self.now.args.items mid.args.items call.args (ap (λ v. v.items) c.fit_rule-row.ensures.args) c.fit_rule-row.ensures.values k.args in
    let u = solve m.state.subst (zip call.args (map (value_of g.program vs) c.args.head.now)) in
    let x = flat_matched code l m g.program c.args.vars c.args.cells c.args.head.now c.requires.flat mid c.fit_rule-row.result made u c.match_head.new.self c.in-Ok-false.field-0 (c.in-Ok-false.ensures.matched code l ruled g.program call.args vs made.held refs made.row_is) in
    enters_clash code g l m c.args.self.now.call call c.args.vars c.args.head.now c.args.self.now c.match_head.new.self ops rest at h c.in-Ok-false.field-0 c.in-Ok-false.field-0-test within x
    (c.in-Ok-false.ensures.choices ∙ c.fit_rule-row.ensures.choices)

pub returns-in-Ok-true : goal.returns-in-Ok-true
returns-in-Ok-true c t code rest g is_of l m call ops at k h =
    let mid = c.fit_rule-row.new.self in
    let made = c.fit_rule-row.ensures.held code l m h in
    let vs = new_vars c.args.vars m.state.vars in
    let ruled = record m { state = made_state c.args.vars m.state } in
    let headed = record m { state = headed_state c.args.vars (cells g.program c.args.head.now) m.state } in
    let fits : heap_in mid + c.args.cells ≤ limit_in mid = omega (arith, c.room.ensures, c.fit_rule-row.ensures.heap, c.fit_rule-row.ensures.values.heap_limit) in
    let within = flat_within code l m g.program c.args.vars c.args.cells c.args.head.now c.requires.flat mid c.fit_rule-row.result made fits in
    let refs = moved_to (meaning_of c.args.self.now.arena) (meaning_of mid.arena) c.args.self.now.args.items mid.args.items call.args (ap (λ v. v.items) c.fit_rule-row.ensures.args) c.fit_rule-row.ensures.values k.args in
    let u = solve m.state.subst (zip call.args (map (value_of g.program vs) c.args.head.now)) in
    let x = flat_matched code l m g.program c.args.vars c.args.cells c.args.head.now c.requires.flat mid c.fit_rule-row.result made u c.match_head.new.self c.in-Ok-true.field-0 (c.in-Ok-true.ensures.matched code l ruled g.program call.args vs made.held refs made.row_is) in
    let here_k = subst (λ y. CallAt (meaning_of c.args.self.now.arena) c.args.self.now.args.items y call) (sym (c.in-Ok-true.ensures.call ∙ c.fit_rule-row.ensures.call)) k in
    let here = c.push_frame.ensures.held code l (bound u headed) call (meaning_of c.args.self.now.arena) c.args.self.now.args.items vs x.held here_k (row_kept (meaning_of mid.arena) (meaning_of c.match_head.new.self.arena) c.fit_rule-row.result vs c.in-Ok-true.ensures.values made.row_is) in
    enters code g l m c.args.self.now.call call c.args.vars c.args.head.now c.args.self.now c.push_frame.new.self ops rest at h c.match_head.new.self c.in-Ok-true.field-0 c.in-Ok-true.field-0-test within x here
    (c.push_frame.ensures.choices ∙ c.in-Ok-true.ensures.choices ∙ c.fit_rule-row.ensures.choices)
