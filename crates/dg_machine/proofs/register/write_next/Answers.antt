use Rattle.std.proofs.Common.{◌∷◌, [], Some, sym, ap, ◌∙◌}
use Rattle.dg_base.specs.declared.program.Term.{out-Term}
use Rattle.dg_meaning.specs.Values.{value_of}
use Rattle.dg_meaning.specs.Cells.{cells}
use Rattle.dg_arena.specs.Held.{meaning_of}
use Rattle.dg_mid.specs.Heads.{IsPlain}
use Rattle.dg_machine.proofs.TermLemmas.{var_value, var_plain}
use Rattle.dg_machine.proofs.TableLemmas.{leaf_plain, no_pair}
use Rattle.dg_machine.proofs.WriteSteps.{plain_made}
use Rattle.dg_machine.proofs.RegisterLemmas.{next_put}
use Rattle.dg_machine.proofs.register.write_next.Goals as goal

pub returns-in-Var-clause-put : goal.returns-in-Var-clause-put
returns-in-Var-clause-put c p us vs is hr at =
    let old = meaning_of c.args.arena.now in
    let new = meaning_of c.var_value-value.new.arena in
    let plain : IsPlain (out-Term c.args.term.now) = var_plain c.args.term.now c.in-Var.var c.in-Var.is in
    let value = c.var_value-value.ensures.value vs at ∙ ap Some (sym (var_value p vs c.args.term.now c.in-Var.var c.in-Var.is)) in
    next_put (cells p (c.args.term.now ∷ [])) us (value_of p vs c.args.term.now) old new c.args.to.now.items c.push_reserved.new.self.items c.var_value-value.result c.var_value-value.ensures.stays.keeps.kept hr
    (plain_made p c.args.term.now old new c.var_value-value.result (value_of p vs c.args.term.now) plain c.args.arena.now.sound.heap_fits c.var_value-value.ensures.stays.state value) c.push_reserved.ensures.items

pub constant_value-value-requires : goal.constant_value-value-requires
constant_value-value-requires c = record { plain = leaf_plain c.args.term.now (no_pair c.args.term.now c.in_default.not-Pair) c.in_default.not-Closure; other = c.in_default.not-Var }

pub returns-in_default-clause-put : goal.returns-in_default-clause-put
returns-in_default-clause-put c p us vs is hr at =
    let old = meaning_of c.args.arena.now in
    let new = meaning_of c.constant_value-value.new.arena in
    let plain = leaf_plain c.args.term.now (no_pair c.args.term.now c.in_default.not-Pair) c.in_default.not-Closure in
    next_put (cells p (c.args.term.now ∷ [])) us (value_of p vs c.args.term.now) old new c.args.to.now.items c.push_reserved-in_default.new.self.items c.constant_value-value.result c.constant_value-value.ensures.stays.keeps.kept hr
    (plain_made p c.args.term.now old new c.constant_value-value.result (value_of p vs c.args.term.now) plain c.args.arena.now.sound.heap_fits c.constant_value-value.ensures.stays.state (c.constant_value-value.ensures.value p vs)) c.push_reserved-in_default.ensures.items
