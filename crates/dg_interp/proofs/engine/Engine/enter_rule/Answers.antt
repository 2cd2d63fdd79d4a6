use Rattle.dg_interp.specs.inside.Frames.{values_in}
use Rattle.dg_interp.specs.inside.Engine.{store_in}
use Rattle.std.proofs.Common.{arith, length, take, drop, ◌-◌, ◌≡◌, rules}
use Rattle.dg_interp.proofs.Turns.{first_and_rest}
use Rattle.dg_interp.proofs.Begins.{keep_full, enter_full, rule_wrong, rule_begun}
use Rattle.dg_interp.proofs.engine.Engine.enter_rule.Goals as goal

pub returns-in-Err-clause-full : goal.returns-in-Err-clause-full
returns-in-Err-clause-full c =
    let all = c.args.rules.now in
    keep_full c.args.self.now c.args.query c.args.args c.args.rules (record { ref_ptr = c.args.rules.ref_ptr; now = take (length all - 1) (drop 1 all) }) c.rule-item.result c.args.place c.keep.new.store c.keep.new.choices c.requires.sound c.requires.left c.requires.place
    (first_and_rest all c.rule-item.result (length all - 1) c.requires.some c.rule-item.is (omega arith)) c.pass.result.now (c.pass.ensures.begin (store_in c.args.self.now.store) (values_in (store_in c.args.self.now.store) c.args.self.now.refs.items c.args.args) c.requires.first) c.requires.candidate c.keep.ensures.kept c.keep.ensures.saved c.in-Err.e (rw c.choice_cells-cells.ensures at c.in-Err.ensures.taken)

pub returns-in-Err-enter-clause-full : goal.returns-in-Err-enter-clause-full
returns-in-Err-enter-clause-full c =
    let all = c.args.rules.now in
    enter_full c.args.self.now c.args.query c.args.args c.args.rules (record { ref_ptr = c.args.rules.ref_ptr; now = take (length all - 1) (drop 1 all) }) c.rule-item.result c.args.place c.keep.new.store c.keep.new.choices c.requires.sound c.requires.left c.requires.place
    (first_and_rest all c.rule-item.result (length all - 1) c.requires.some c.rule-item.is (omega arith)) c.pass.result.now (c.pass.ensures.begin (store_in c.args.self.now.store) (values_in (store_in c.args.self.now.store) c.args.self.now.refs.items c.args.args) c.requires.first) c.requires.candidate c.keep.ensures.kept c.keep.ensures.saved (rw c.choice_cells-cells.ensures at c.in_default-keep.ensures.taken) c.in-Err-enter.e c.in-Err-enter.ensures.entered

pub returns-in-Ok-false-clause-tried : goal.returns-in-Ok-false-clause-tried
returns-in-Ok-false-clause-tried c =
    let all = c.args.rules.now in
    rule_wrong c.args.self.now c.args.query c.args.args c.args.rules _ c.rule-item.result c.args.place c.keep.new.store c.keep.new.choices c.requires.sound c.requires.left c.requires.place
    (first_and_rest all c.rule-item.result (length all - 1) c.requires.some c.rule-item.is (omega arith)) c.pass.result.now (c.pass.ensures.begin (store_in c.args.self.now.store) (values_in (store_in c.args.self.now.store) c.args.self.now.refs.items c.args.args) c.requires.first) c.requires.candidate c.keep.ensures.kept c.keep.ensures.saved (rw c.choice_cells-cells.ensures at c.in_default-keep.ensures.taken) c.enter.new.store c.enter.new.refs c.enter.new.head c.in-Ok-false.field-0
    (rw c.choice_here-choice.ensures at c.in_default-keep.ensures.choices) c.enter.ensures.kept c.enter.ensures.saved c.in-Ok-false.ensures.entered c.in-Ok-false.field-0-test

pub returns-in-Ok-true-clause-tried : goal.returns-in-Ok-true-clause-tried
returns-in-Ok-true-clause-tried c =
    let all = c.args.rules.now in
    let h : c.len-height.result ≡ length c.args.self.now.frames.items = search rules in
    let r : c.len-refs.result ≡ length c.args.self.now.refs.items = search rules in
    rw h
    (rw r
    (rule_begun c.args.self.now c.args.query c.args.args c.args.rules _ c.rule-item.result c.args.place c.keep.new.store c.keep.new.choices c.requires.sound c.requires.left c.requires.place
    (first_and_rest all c.rule-item.result (length all - 1) c.requires.some c.rule-item.is (omega arith)) c.pass.result.now (c.pass.ensures.begin (store_in c.args.self.now.store) (values_in (store_in c.args.self.now.store) c.args.self.now.refs.items c.args.args) c.requires.first) c.requires.candidate c.keep.ensures.kept c.keep.ensures.saved (rw c.choice_cells-cells.ensures at c.in_default-keep.ensures.taken) c.enter.new.store c.enter.new.refs c.enter.new.head c.in-Ok-true.field-0
    (rw c.choice_here-choice.ensures at c.in_default-keep.ensures.choices) c.enter.ensures.kept c.enter.ensures.saved c.in-Ok-true.ensures.entered c.as_slice.result c.as_slice.ensures c.in-Ok-true.field-0-test))
