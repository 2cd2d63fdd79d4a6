use Rattle.std.proofs.Common.{◌≡◌, true, false, sym, ap, ◌∙◌, subst, reverse}
use Rattle.dg_unify.specs.Linked.{log_of, vars_of}
use Rattle.dg_unify.specs.Fences.{stands_between}
use Rattle.dg_unify.proofs.Stores.{bind_var}
use Rattle.dg_unify.proofs.FenceLemmas.{between_absent, constant_absent}
use Rattle.dg_arena.specs.Held.{fields_of}
use Rattle.dg_arena.specs.Joins.{IsAbsent}
use Rattle.dg_arena.proofs.arena.ArenaBindings.is_clear.Goals as goal

pub returns-then-stands_between : goal.returns-then-stands_between
returns-then-stands_between c = λ n hx is_true.
    let s = c.args.self.now in
    let e : n ≡ c.in-Var.number = bind_var false (fields_of s) c.args.x n hx c.index.result.now c.index.ensures c.in-Var.number c.in-Var.is in
    let is : stands_between s.fence c.args.at n ≡ true = ap (stands_between s.fence c.args.at) e ∙ sym c.if-stands_between.ensures in
    between_absent s.cells.items (reverse (log_of s.links)) (vars_of s.links) s.fence s.fenced n c.args.at c.requires.at_in is

pub returns-then-is_constant : goal.returns-then-is_constant
returns-then-is_constant c = λ n hx is_true.
    let s = c.args.self.now in
    constant_absent s.cells.items (reverse (log_of s.links)) (vars_of s.links) s.sound.fits n c.args.at c.requires.at_in (sym c.if-is_constant.ensures)

pub returns-else-is_constant : goal.returns-else-is_constant
returns-else-is_constant c = λ n hx is_true.
    let s = c.args.self.now in
    let e : n ≡ c.in-Var.number = bind_var false (fields_of s) c.args.x n hx c.index.result.now c.index.ensures c.in-Var.number c.in-Var.is in
    subst (λ k. IsAbsent (fields_of s) c.args.at k) (sym e) (c.parts_clear.ensures is_true)
