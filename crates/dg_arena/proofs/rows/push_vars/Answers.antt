use Rattle.std.proofs.Common.{◌≡◌, ◌+◌, ◌-◌, ◌++◌, ◌∙◌, refl, sym, ap, arith, append-nil}
use Rattle.dg_unify.specs.declared.slots.Slot.TheVariants as slot
use Rattle.dg_arena.specs.inside.Slots.{var_slots}
use Rattle.dg_arena.proofs.Making.{one_more_var}
use Rattle.dg_arena.proofs.rows.push_vars.Goals as goal

pub variables-init : goal.variables-init
variables-init c =
    record {
      items = ap (λ n. c.args.cells.now.items ++ var_slots n c.args.count) c.vars-number.ensures;
      capacity = refl;
      long = refl;
      small = omega (arith, c.vars-number.ensures);
    }

pub variables-preserved : goal.variables-preserved
variables-preserved c =
    let i = c.variables.invariant in
    let n = c.variables.number in
    record {
      items = one_more_var c.variables.cells.items c.push_reserved.new.self.items n (n + 1) c.variables.left (c.variables.left - 1) c.push_reserved.ensures.items refl (omega (arith, c.variables-test.true)) ∙ i.items;
      capacity = c.push_reserved.ensures.capacity ∙ i.capacity;
      long = omega (arith, c.push_reserved.ensures.len, c.variables-test.true, i.long);
      small = omega (arith, c.variables-test.true, i.small);
    }

pub returns-clause-items : goal.returns-clause-items
returns-clause-items c =
    let i = c.variables.invariant in
    let none : c.variables.left ≡ 0 = omega (arith, c.variables-test.false) in
    sym (append-nil c.variables.cells.items) ∙ ap (λ k. c.variables.cells.items ++ var_slots c.variables.number k) (sym none) ∙ i.items
