use Rattle.std.proofs.Common.{◌≡◌, ◌∷◌, ◌++◌, ap, length, subst, drop}
use Rattle.dg_meaning.specs.Copies.{values_of}
use Rattle.dg_meaning.specs.Moves.{new_vars}
use Rattle.dg_meaning.specs.Unify.{solve}
use Rattle.dg_unify.specs.Store.{IsClosureAt}
use Rattle.dg_arena.specs.Held.{meaning_of}
use Rattle.dg_mid.specs.Code.{block_at}
use Rattle.dg_mid.specs.Step.{bound, passed}
use Rattle.dg_machine.specs.Refs.{RowAt, RefsAt}
use Rattle.dg_machine.specs.Layout.{made_state, parameter_equations, Matched, Unmatched}
use Rattle.dg_machine.proofs.Kept.{row_kept, moved_to, closure_kept}
use Rattle.dg_machine.proofs.Bodies.{body_full, body_unmatched, body_clash, body_entered, tail_refs}
use Rattle.dg_machine.proofs.memory.Memory.enter_body.Goals as goal

pub body_row-row-requires : goal.body_row-row-requires
body_row-row-requires c =
    let some = c.requires.closure in
    (some.0, some.1, closure_kept (meaning_of c.args.self.now.arena) (meaning_of c.make_rule.new.self.arena) c.args.closure some.0 some.1 c.in-Ok.ensures.values some.2)

pub match_parameter-requires-clause-args : goal.match_parameter-requires-clause-args
match_parameter-requires-clause-args c =
    let some = c.requires.args in
    (some.0, some.1, moved_to (meaning_of c.args.self.now.arena) (meaning_of c.make_rule.new.self.arena) c.args.self.now.args.items c.make_rule.new.self.args.items (some.0 ∷ some.1) (ap (λ x. x.items) c.in-Ok.ensures.args) c.in-Ok.ensures.values some.2)

pub match_parameter-requires-clause-row : goal.match_parameter-requires-clause-row
match_parameter-requires-clause-row c =
    let some = c.requires.closure in
    let own = new_vars c.args.body.own (meaning_of c.args.self.now.arena).state.vars in
    (values_of some.1 ++ own, c.body_row-row.ensures.row some.0 some.1 own (closure_kept (meaning_of c.args.self.now.arena) (meaning_of c.make_rule.new.self.arena) c.args.closure some.0 some.1 c.in-Ok.ensures.values some.2) c.in-Ok.ensures.plain c.in-Ok.ensures.row)

pub returns-in-Err : goal.returns-in-Err
returns-in-Err c g l m call v place parts h at next many cut is = body_full c.args.code.now g l m call c.args.body (values_of parts) c.args.self.now c.make_rule.new.self h (c.in-Err.ensures.held c.args.code.now l m h)

pub returns-in-Err-match_parameter : goal.returns-in-Err-match_parameter
returns-in-Err-match_parameter c g l m call v place parts h at next many cut is =
    let code = c.args.code.now in
    let s = meaning_of c.args.self.now.arena in
    let made = c.in-Ok.ensures.held code l m h in
    let mid = c.make_rule.new.self in
    let kept = c.in-Ok.ensures.values in
    let captured = values_of parts in
    let there : IsClosureAt (meaning_of mid.arena) c.args.closure place parts = closure_kept s (meaning_of mid.arena) c.args.closure place parts kept is in
    let vs = captured ++ new_vars c.args.body.own m.state.vars in
    let row_at : RowAt (meaning_of mid.arena) c.body_row-row.result vs = c.body_row-row.ensures.row place parts (new_vars c.args.body.own m.state.vars) there c.in-Ok.ensures.plain made.row_is in
    let refs : RefsAt (meaning_of mid.arena) mid.args.items (v ∷ call.args) = moved_to s (meaning_of mid.arena) c.args.self.now.args.items mid.args.items (v ∷ call.args) (ap (λ x. x.items) c.in-Ok.ensures.args) kept at in
    let count : c.body_row-row.result.captured ≡ length captured = c.body_row-row.ensures.count place parts there in
    let m' = record (passed m) { ops = block_at c.args.code.now c.args.body.block; state = made_state c.args.body.own m.state } in
    body_unmatched code g l m call c.args.body captured c.args.self.now c.match_parameter.new.self h mid made.held (subst (λ n. Unmatched l (solve m.state.subst (parameter_equations call.args vs n)) m' c.match_parameter.new.self) count (c.in-Err-match_parameter.ensures.matched code l m' v call.args vs made.held refs row_at))

pub returns-in-Ok-false : goal.returns-in-Ok-false
returns-in-Ok-false c g l m call v place parts h at next many cut is =
    let code = c.args.code.now in
    let s = meaning_of c.args.self.now.arena in
    let made = c.in-Ok.ensures.held code l m h in
    let mid = c.make_rule.new.self in
    let kept = c.in-Ok.ensures.values in
    let captured = values_of parts in
    let there : IsClosureAt (meaning_of mid.arena) c.args.closure place parts = closure_kept s (meaning_of mid.arena) c.args.closure place parts kept is in
    let vs = captured ++ new_vars c.args.body.own m.state.vars in
    let row_at : RowAt (meaning_of mid.arena) c.body_row-row.result vs = c.body_row-row.ensures.row place parts (new_vars c.args.body.own m.state.vars) there c.in-Ok.ensures.plain made.row_is in
    let refs : RefsAt (meaning_of mid.arena) mid.args.items (v ∷ call.args) = moved_to s (meaning_of mid.arena) c.args.self.now.args.items mid.args.items (v ∷ call.args) (ap (λ x. x.items) c.in-Ok.ensures.args) kept at in
    let count : c.body_row-row.result.captured ≡ length captured = c.body_row-row.ensures.count place parts there in
    let m' = record (passed m) { ops = block_at c.args.code.now c.args.body.block; state = made_state c.args.body.own m.state } in
    body_clash code g l m call c.args.body captured c.args.self.now c.match_parameter.new.self h mid made.held c.in-Ok-false.field-0 c.in-Ok-false.field-0-test (subst (λ n. Matched code l (solve m.state.subst (parameter_equations call.args vs n)) m' c.match_parameter.new.self c.in-Ok-false.field-0) count (c.in-Ok-false.ensures.matched code l m' v call.args vs made.held refs row_at))

pub returns-in-Ok-true : goal.returns-in-Ok-true
returns-in-Ok-true c g l m call v place parts h at next many cut is =
    let code = c.args.code.now in
    let s = meaning_of c.args.self.now.arena in
    let made = c.in-Ok.ensures.held code l m h in
    let mid = c.make_rule.new.self in
    let kept = c.in-Ok.ensures.values in
    let captured = values_of parts in
    let there : IsClosureAt (meaning_of mid.arena) c.args.closure place parts = closure_kept s (meaning_of mid.arena) c.args.closure place parts kept is in
    let vs = captured ++ new_vars c.args.body.own m.state.vars in
    let row_at : RowAt (meaning_of mid.arena) c.body_row-row.result vs = c.body_row-row.ensures.row place parts (new_vars c.args.body.own m.state.vars) there c.in-Ok.ensures.plain made.row_is in
    let refs : RefsAt (meaning_of mid.arena) mid.args.items (v ∷ call.args) = moved_to s (meaning_of mid.arena) c.args.self.now.args.items mid.args.items (v ∷ call.args) (ap (λ x. x.items) c.in-Ok.ensures.args) kept at in
    let count : c.body_row-row.result.captured ≡ length captured = c.body_row-row.ensures.count place parts there in
    let m' = record (passed m) { ops = block_at c.args.code.now c.args.body.block; state = made_state c.args.body.own m.state } in
    let x : Matched code l (solve m.state.subst (parameter_equations call.args vs (length captured))) m' c.match_parameter.new.self c.in-Ok-true.field-0 = (subst (λ n. Matched code l (solve m.state.subst (parameter_equations call.args vs n)) m' c.match_parameter.new.self c.in-Ok-true.field-0) count (c.in-Ok-true.ensures.matched code l m' v call.args vs made.held refs row_at)) in
    let u = solve m.state.subst (parameter_equations call.args vs (length captured)) in
    let here = c.push_frame.ensures.held code l (bound u m') call s (drop 1 c.args.self.now.args.items) vs x.held (record { args = tail_refs s c.args.self.now.args.items v call.args at; next = next; many = many; cut = cut }) (row_kept (meaning_of mid.arena) (meaning_of c.match_parameter.new.self.arena) c.body_row-row.result vs c.in-Ok-true.ensures.values row_at) in
    body_entered code g l m call c.args.body captured c.args.self.now c.push_frame.new.self h mid made.held c.match_parameter.new.self c.in-Ok-true.field-0 c.code_at.result c.in-Ok-true.field-0-test c.requires.built c.code_at.ensures x here
