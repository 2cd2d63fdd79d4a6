use Rattle.std.proofs.Common.{◌∷◌, sym, subst, map}
use Rattle.std.specs.Prelude.{MatchResult}
use Rattle.dg_base.specs.Goals.{option_terms}
use Rattle.dg_meaning.specs.Values.{value_of}
use Rattle.dg_meaning.specs.Cells.{cells}
use Rattle.dg_mid.specs.State.{vars_of}
use Rattle.dg_machine.specs.Layout.{HasPut, Lacks}
use Rattle.dg_machine.proofs.memory.Memory.put_query.Goals as goal

pub returns-in-None : goal.returns-in-None
returns-in-None c code l m p is h =
    let a = c.args.a.now in
    let new = c.put_one.new.self in
    subst (λ o. MatchResult c.put_one.result (λ u. HasPut code l (cells p (a ∷ option_terms o)) (map (value_of p (vars_of m.frames)) (a ∷ option_terms o)) m new) (λ e. Lacks (cells p (a ∷ option_terms o)) l m.state.heap new)) (sym c.in-None.is)
    (c.put_one.ensures code l m p is h)

pub returns-in-Some : goal.returns-in-Some
returns-in-Some c code l m p is h =
    let a = c.args.a.now in
    let new = c.put_both.new.self in
    subst (λ o. MatchResult c.put_both.result (λ u. HasPut code l (cells p (a ∷ option_terms o)) (map (value_of p (vars_of m.frames)) (a ∷ option_terms o)) m new) (λ e. Lacks (cells p (a ∷ option_terms o)) l m.state.heap new)) (sym c.in-Some.is)
    (c.put_both.ensures code l m p is h)
