use Rattle.std.proofs.Common.{refl, ap, ◌∙◌, None, List, map}
use Rattle.dg_base.specs.declared.program.Goal.TheVariants.{Query}
use Rattle.dg_unify.specs.Store.{told}
use Rattle.dg_unify.specs.declared.bindings.Ref.{Ref}
use Rattle.dg_unify.proofs.StoreLemmas.{told_is}
use Rattle.dg_interp.specs.inside.Frames.{stretch}
use Rattle.dg_interp.specs.inside.Engine.{store_in, TakesAt}
use Rattle.dg_interp.specs.inside.Querying.{QueriesAt}
use Rattle.dg_interp.proofs.Branches.{full_made}
use Rattle.dg_interp.proofs.Controls.{branches_made}
use Rattle.dg_interp.proofs.Queries.{asks, one_full, one_agrees, one_among}
use Rattle.dg_interp.proofs.engine.Engine.query_alone.Goals as goal

pub returns-in-Err-clause-full : goal.returns-in-Err-clause-full
returns-in-Err-clause-full c = one_full c.args.term.now c.args.many c.args.self.now c.in-Err.e c.in-Err.ensures.written

pub returns-in-Ok-clause-full : goal.returns-in-Ok-clause-full
returns-in-Ok-clause-full c =
    let old = c.args.self.now in
    let made = one_among c.args.term.now old (store_in c.write_term.new.store) c.in-Ok.value c.stretch-env.result.now (c.stretch-env.ensures ∙ ap (λ (l : List Ref). stretch l old.here.env) c.deref.ensures.value) c.in-Ok.ensures.written in
    full_made (TakesAt (Query c.args.term.now None c.args.many) old) (QueriesAt c.in-Ok.value c.args.many _) (store_in old.store) (store_in c.write_term.new.store) c.ask_value.result c.write_term.ensures.kept.heap_limit c.write_term.ensures.kept.trail_limit
    (asks c.args.term.now None c.args.many old c.write_term.new.store c.clear.new.self c.in-Ok.value c.requires.ready c.write_term.ensures.kept c.write_term.ensures.saved (one_agrees c.args.term.now c.args.many old c.write_term.new.store c.in-Ok.value made)
    (λ program e. told_is (store_in c.write_term.new.store) c.in-Ok.value _ (made program e).value) (λ program e. ap (map (told (store_in c.write_term.new.store))) c.clear.ensures.items)) c.ask_value.ensures.full

pub returns-in-Ok-clause-done : goal.returns-in-Ok-clause-done
returns-in-Ok-clause-done c =
    let old = c.args.self.now in
    let made = one_among c.args.term.now old (store_in c.write_term.new.store) c.in-Ok.value c.stretch-env.result.now (c.stretch-env.ensures ∙ ap (λ (l : List Ref). stretch l old.here.env) c.deref.ensures.value) c.in-Ok.ensures.written in
    let mid = record old { store = c.write_term.new.store; made = c.clear.new.self } in
    branches_made (TakesAt (Query c.args.term.now None c.args.many) old) (QueriesAt c.in-Ok.value c.args.many mid) old mid c.ask_value.new.self refl (record { heap = c.write_term.ensures.kept.heap_limit; trail = c.write_term.ensures.kept.trail_limit; aux = refl; keep = refl; told = refl })
    (asks c.args.term.now None c.args.many old c.write_term.new.store c.clear.new.self c.in-Ok.value c.requires.ready c.write_term.ensures.kept c.write_term.ensures.saved (one_agrees c.args.term.now c.args.many old c.write_term.new.store c.in-Ok.value made)
    (λ program e. told_is (store_in c.write_term.new.store) c.in-Ok.value _ (made program e).value) (λ program e. ap (map (told (store_in c.write_term.new.store))) c.clear.ensures.items)) c.ask_value.result c.ask_value.ensures.asked
