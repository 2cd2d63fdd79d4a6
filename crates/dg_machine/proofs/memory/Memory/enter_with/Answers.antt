use Rattle.std.proofs.Common.{suc, sym, subst, ap, ◌∙◌, ◌≡◌, ◌≤◌, arith, length, take}
use Rattle.std.proofs.lemmas.List.{take_all}
use Rattle.dg_arena.specs.Held.{meaning_of}
use Rattle.dg_mid.specs.Code.{block_at}
use Rattle.dg_mid.specs.State.{Calls}
use Rattle.dg_mid.specs.Step.{setting, enters as enters_of}
use Rattle.dg_machine.specs.declared.now.Now.TheVariants.{Enters}
use Rattle.dg_machine.specs.Layout.{RulesAt}
use Rattle.dg_machine.specs.Standing.{CallBegins}
use Rattle.dg_machine.proofs.TermLemmas.{refs_length}
use Rattle.dg_machine.proofs.Leaving.{rules_count, enters_last, enters_first, enters_not}
use Rattle.dg_machine.proofs.memory.Memory.enter_with.Goals as goal

pub returns-then-left-eq0 : goal.returns-then-left-eq0
returns-then-left-eq0 c g l m call rule rules h block at =
    let code = c.args.code.now in
    let k = c.args.call in
    let r = c.args.self.now in
    let s = meaning_of r.arena in
    let zero = c.if-left-eq0.true in
    let none : length rules ≡ 0 = omega (arith, zero, rules_count code s r.args.items k c.args.pred c.args.left call rules at) in
    subst (λ n. CallBegins code l r k c.args.pred (suc n) c.keep_call.new.self (Enters c.code_at.result) (enters_of (setting g code l) call rule rules m)) (sym zero)
    (subst (λ y. CallBegins code l r k c.args.pred 1 y (Enters c.code_at.result) (enters_of (setting g code l) call rule rules m)) (sym c.keep_call.ensures)
    (enters_last code g l m k c.args.pred c.args.left r r c.code_at.result c.requires.built h call rule rules none at.call (c.code_at.ensures ∙ ap (block_at code) (sym block))))

pub returns-in-Ok : goal.returns-in-Ok
returns-in-Ok c g l m call rule rules h block at =
    let code = c.args.code.now in
    let k = c.args.call in
    let r = c.args.self.now in
    let s = meaning_of r.arena in
    let n = c.len-count.result in
    let all : take n r.args.items ≡ r.args.items = take_all n r.args.items (omega (arith, c.len-count.ensures, r.args.ok.0)) in
    let way = subst (λ rs. RulesAt code s rs k c.args.pred c.args.left call rules) (sym all) at in
    let some : 1 ≤ length rules = let none = c.if-left-eq0.false in omega (arith, none, rules_count code s r.args.items k c.args.pred c.args.left call rules at) in
    let count : n ≡ length call.args = omega (arith, c.len-count.ensures, r.args.ok.0, refs_length s r.args.items call.args at.call.args) in
    subst (λ y. CallBegins code l r k c.args.pred (suc c.args.left) y (Enters c.code_at-ops.result) (enters_of (setting g code l) call rule rules m)) (sym c.keep_call-in-Ok.ensures)
    (enters_first code g l m k c.args.pred c.args.left r c.open.new.self c.code_at-ops.result c.requires.built h call rule rules n some count at.call (c.code_at-ops.ensures ∙ ap (block_at code) (sym block)) (c.in-Ok.ensures.held code l m (Calls call rules) h way) c.in-Ok.ensures.opened)

pub returns-in-Err : goal.returns-in-Err
returns-in-Err c g l m call rule rules h block at =
    let code = c.args.code.now in
    let k = c.args.call in
    let r = c.args.self.now in
    let s = meaning_of r.arena in
    let n = c.len-count.result in
    let all : take n r.args.items ≡ r.args.items = take_all n r.args.items (omega (arith, c.len-count.ensures, r.args.ok.0)) in
    let way = subst (λ rs. RulesAt code s rs k c.args.pred c.args.left call rules) (sym all) at in
    let some : 1 ≤ length rules = let none = c.if-left-eq0.false in omega (arith, none, rules_count code s r.args.items k c.args.pred c.args.left call rules at) in
    let count : n ≡ length call.args = omega (arith, c.len-count.ensures, r.args.ok.0, refs_length s r.args.items call.args at.call.args) in
    enters_not code g l m k c.args.pred c.args.left r c.open.new.self c.code_at-ops.result c.requires.built h call rule rules n some count (c.in-Err.ensures.held code l m (Calls call rules) h way)
