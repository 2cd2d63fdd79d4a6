use Rattle.std.proofs.Common.{rules, refl, ap, ◌≡◌, ◌∙◌, ◌∷◌, [], Some, List, map}
use Rattle.dg_base.specs.declared.program.Goal.TheVariants.{Query}
use Rattle.dg_meaning.specs.Values.{Value}
use Rattle.dg_unify.specs.Store.{told}
use Rattle.dg_unify.specs.declared.bindings.Ref.{Ref}
use Rattle.dg_interp.specs.inside.Frames.{stretch}
use Rattle.dg_interp.specs.inside.Engine.{store_in, TakesAt}
use Rattle.dg_interp.specs.inside.Querying.{QueriesAt}
use Rattle.dg_interp.proofs.Branches.{full_made}
use Rattle.dg_interp.proofs.Controls.{branches_made}
use Rattle.dg_interp.proofs.Queries.{asks, both_full, both_agree, two_among}
use Rattle.dg_interp.proofs.engine.Engine.query_with.Goals as goal

pub returns-in-Err-clause-full : goal.returns-in-Err-clause-full
returns-in-Err-clause-full c = both_full c.args.term.now c.args.arg.now c.args.many c.args.self.now c.in-Err.e c.in-Err.ensures.written

pub returns-else-is_err-clause-full : goal.returns-else-is_err-clause-full
returns-else-is_err-clause-full c =
    let old = c.args.self.now in
    let t = store_in c.write_both.new.store in
    let made = two_among c.args.term.now c.args.arg.now old t c.in-Ok.value c.in-Ok.arg c.stretch-env.result.now (c.stretch-env.ensures ∙ ap (λ (l : List Ref). stretch l old.here.env) c.deref.ensures.value) c.in-Ok.ensures.written in
    let items : c.push.new.self.items ≡ c.in-Ok.arg ∷ [] = search rules in
    full_made (TakesAt (Query c.args.term.now (Some c.args.arg.now) c.args.many) old) (QueriesAt c.in-Ok.value c.args.many _) (store_in old.store) t c.ask_value.result c.write_both.ensures.kept.heap_limit c.write_both.ensures.kept.trail_limit
    (asks c.args.term.now (Some c.args.arg.now) c.args.many old c.write_both.new.store c.push.new.self c.in-Ok.value c.requires.ready c.write_both.ensures.kept c.write_both.ensures.saved (both_agree c.args.term.now c.args.arg.now c.args.many old c.write_both.new.store c.in-Ok.value c.in-Ok.arg made)
    (λ program e. (made program e).left_is) (λ program e. ap (map (told t)) items ∙ ap (λ (v : Value). v ∷ []) (made program e).right_is)) c.ask_value.ensures.full

pub returns-else-is_err-clause-done : goal.returns-else-is_err-clause-done
returns-else-is_err-clause-done c =
    let old = c.args.self.now in
    let t = store_in c.write_both.new.store in
    let made = two_among c.args.term.now c.args.arg.now old t c.in-Ok.value c.in-Ok.arg c.stretch-env.result.now (c.stretch-env.ensures ∙ ap (λ (l : List Ref). stretch l old.here.env) c.deref.ensures.value) c.in-Ok.ensures.written in
    let items : c.push.new.self.items ≡ c.in-Ok.arg ∷ [] = search rules in
    let mid = record old { store = c.write_both.new.store; made = c.push.new.self } in
    branches_made (TakesAt (Query c.args.term.now (Some c.args.arg.now) c.args.many) old) (QueriesAt c.in-Ok.value c.args.many mid) old mid c.ask_value.new.self refl (record { heap = c.write_both.ensures.kept.heap_limit; trail = c.write_both.ensures.kept.trail_limit; aux = refl; keep = refl; told = refl })
    (asks c.args.term.now (Some c.args.arg.now) c.args.many old c.write_both.new.store c.push.new.self c.in-Ok.value c.requires.ready c.write_both.ensures.kept c.write_both.ensures.saved (both_agree c.args.term.now c.args.arg.now c.args.many old c.write_both.new.store c.in-Ok.value c.in-Ok.arg made)
    (λ program e. (made program e).left_is) (λ program e. ap (map (told t)) items ∙ ap (λ (v : Value). v ∷ []) (made program e).right_is)) c.ask_value.result c.ask_value.ensures.asked
