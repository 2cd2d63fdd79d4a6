use Rattle.std.proofs.Common.{◌≤◌, subst, sym, ◌∙◌, arith, None}
use Rattle.dg_meaning.specs.Values.{Var}
use Rattle.dg_meaning.specs.Unify.{top}
use Rattle.dg_unify.proofs.FenceLemmas.{top_all}
use Rattle.dg_unify.proofs.Reading.{leads}
use Rattle.dg_unify.proofs.StoreLemmas.{holds_some, told_is}
use Rattle.dg_arena.specs.Held.{fields_of, meaning_of}
use Rattle.dg_arena.proofs.arena.Arena.join_new.Goals as goal

pub to-requires : goal.to-requires
to-requires c =
    let s = c.args.self.now in
    let tells = holds_some (meaning_of s) c.args.var (Var c.args.number) c.requires.var_in in
    let all = subst (λ v. top v ≤ (fields_of s).vars) (told_is (meaning_of s) c.args.var (Var c.args.number) c.requires.var_in) (top_all (fields_of s) s.sound c.args.var tells) in
    omega (arith, all)

pub join_unbound-requires-clause-free : goal.join_unbound-requires-clause-free
join_unbound-requires-clause-free c =
    let s = c.args.self.now in
    let tells = holds_some (meaning_of s) c.args.var (Var c.args.number) c.requires.var_in in
    let all = subst (λ v. top v ≤ (fields_of s).vars) (told_is (meaning_of s) c.args.var (Var c.args.number) c.requires.var_in) (top_all (fields_of s) s.sound c.args.var tells) in
    record {
      value = c.requires.var_in;
      end_is = leads (fields_of s) s.sound c.args.var tells c.args.number c.requires.var_in None (sym c.in-None.is ∙ c.to.ensures);
      within = omega (arith, all);
    }
