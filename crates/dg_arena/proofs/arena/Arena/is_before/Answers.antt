use Rattle.std.proofs.Common.{◌≡◌, ◌-◌, arith, sym, ◌∙◌, reverse}
use Rattle.dg_meaning.specs.Values.{Var, leaf}
use Rattle.dg_unify.specs.Linked.{log_of, vars_of}
use Rattle.dg_unify.specs.Slots.{label_at}
use Rattle.dg_unify.proofs.Reading.{simple_told}
use Rattle.dg_unify.proofs.FenceLemmas.{between_absent}
use Rattle.dg_arena.specs.Held.{fields_of}
use Rattle.dg_arena.proofs.Joining.{simple_absent}
use Rattle.dg_arena.proofs.Fencing.{between_older}
use Rattle.dg_arena.proofs.arena.Arena.is_before.Goals as goal

pub returns-then-end-ge-FIRST_SIMPLE-clause-before : goal.returns-then-end-ge-FIRST_SIMPLE-clause-before
returns-then-end-ge-FIRST_SIMPLE-clause-before c = λ yes var free.
    let f = fields_of c.args.self.now in
    let sound = c.args.self.now.sound in
    record {
      absent = simple_absent f sound c.args.end c.requires (omega arith) c.args.number;
      older = λ m e. let clash : leaf (label_at (c.args.end.0 - 2147483648)) ≡ Var m = sym (simple_told f sound c.args.end c.requires (omega arith)) ∙ e in absurd (cc clash);
    }

pub returns-clause-before : goal.returns-clause-before
returns-clause-before c = λ yes var free.
    let s = c.args.self.now in
    let between = sym c.stands_between.ensures ∙ yes in
    record {
      absent = between_absent s.cells.items (reverse (log_of s.links)) (vars_of s.links) s.fence s.fenced c.args.number c.args.end c.requires between;
      older = between_older s c.args.end c.requires c.args.number between var free;
    }
