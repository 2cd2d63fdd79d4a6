use Rattle.std.proofs.Common.{sym, subst}
use Rattle.dg_meaning.specs.inside.Unify.{unify}
use Rattle.dg_unify.specs.Store.{told, Follows}
use Rattle.dg_arena.specs.Held.{meaning_of}
use Rattle.dg_machine.specs.inside.Joins.{answer_of}
use Rattle.dg_machine.proofs.TermLemmas.{var_value}
use Rattle.dg_machine.proofs.heads.match_plain.Goals as goal

pub returns-in-Var-clause-matched : goal.returns-in-Var-clause-matched
returns-in-Var-clause-matched c p vs at =
    let s = meaning_of c.args.arena.now in
    subst (λ w. Follows s (meaning_of c.match_var.new.arena) (unify s.state.subst (told s c.args.arg) w) (answer_of c.match_var.result)) (sym (var_value p vs c.args.term.now c.in-Var.var c.in-Var.is)) (c.match_var.ensures.matched vs at)

pub match_constant-requires : goal.match_constant-requires
match_constant-requires c = record { plain = c.requires.plain; other = c.in_default.not-Var; arg = c.requires.arg }

pub returns-in_default : goal.returns-in_default
returns-in_default c = record { keeps = c.match_constant.ensures.keeps; matched = λ p vs at. c.match_constant.ensures.matched p vs }
