use Rattle.std.proofs.Common.{◌≡◌, [], ◌∷◌, refl, ap, ◌∙◌}
use Rattle.dg_base.specs.declared.program.CoreProgram.{CoreProgram}
use Rattle.dg_base.specs.declared.program.Goal.TheVariants.{Random}
use Rattle.dg_interp.specs.inside.Frames.{stretch}
use Rattle.dg_interp.specs.inside.Engine.{store_in, TakesAt}
use Rattle.dg_interp.specs.inside.Giving.{GivesAt}
use Rattle.dg_interp.proofs.Giving.{written_full, branches_made}
use Rattle.dg_interp.proofs.Ariths.{three_among}
use Rattle.dg_interp.proofs.Throws.{random_held, thrown_ready, thrown_limits, random_leads}
use Rattle.dg_interp.proofs.Branches.{full_made}
use Rattle.dg_interp.proofs.engine.Engine.random.Goals as goal

pub returns-in-Err-clause-full : goal.returns-in-Err-clause-full
returns-in-Err-clause-full c =
    written_full (Random c.args.from.now c.args.to.now c.args.into.now) (c.args.from.now ∷ c.args.to.now ∷ c.args.into.now ∷ []) (random_held c.args.from.now c.args.to.now c.args.into.now) c.args.self.now c.in-Err.e c.in-Err.ensures.written

pub throw-n-requires : goal.throw-n-requires
throw-n-requires c = ((c.in-Ok.ensures.written c.args.self.now.program.now refl).first_in, (c.in-Ok.ensures.written c.args.self.now.program.now refl).second_in)

pub give_number-requires-clause-ready : goal.give_number-requires-clause-ready
give_number-requires-clause-ready c =
    let old = c.args.self.now in
    thrown_ready c.args.from.now c.args.to.now c.args.into.now old c.write_three.new.store c.write_three.new.stack c.throw-n.new.dice c.in-Ok.first c.in-Ok.second c.in-Ok.into c.requires.ready c.write_three.ensures.kept c.write_three.ensures.saved
    (λ program e. three_among program _ _ _ _ _ _ old.refs.items c.stretch-env.result.now old.here.env (c.stretch-env.ensures ∙ ap (λ l. stretch l old.here.env) c.deref.ensures.value) (c.in-Ok.ensures.written program e))

pub give_number-requires-clause-hold : goal.give_number-requires-clause-hold
give_number-requires-clause-hold c = (c.in-Ok.ensures.written c.args.self.now.program.now refl).third_in

pub returns-in-Ok-clause-full : goal.returns-in-Ok-clause-full
returns-in-Ok-clause-full c =
    let old = c.args.self.now in
    let e = record old { lasting = record old.lasting { dice = c.throw-n.new.dice }; store = c.write_three.new.store; made = c.write_three.new.stack } in
    let x = Random c.args.from.now c.args.to.now c.args.into.now in
    full_made (TakesAt x old) (GivesAt c.throw-n.result c.in-Ok.into e) (store_in old.store) (store_in c.write_three.new.store) c.give_number.result c.write_three.ensures.kept.heap_limit c.write_three.ensures.kept.trail_limit
    (random_leads c.args.from.now c.args.to.now c.args.into.now old c.write_three.new.store c.write_three.new.stack c.throw-n.new.dice c.in-Ok.first c.in-Ok.second c.in-Ok.into c.requires.ready c.write_three.ensures.kept c.write_three.ensures.saved
    (λ program e. three_among program _ _ _ _ _ _ old.refs.items c.stretch-env.result.now old.here.env (c.stretch-env.ensures ∙ ap (λ l. stretch l old.here.env) c.deref.ensures.value) (c.in-Ok.ensures.written program e)) c.throw-n.result c.throw-n.ensures) c.give_number.ensures.full

pub returns-in-Ok-clause-done : goal.returns-in-Ok-clause-done
returns-in-Ok-clause-done c =
    let old = c.args.self.now in
    let e = record old { lasting = record old.lasting { dice = c.throw-n.new.dice }; store = c.write_three.new.store; made = c.write_three.new.stack } in
    let x = Random c.args.from.now c.args.to.now c.args.into.now in
    let written = λ (program : CoreProgram) (e : old.program.now ≡ program). three_among program c.args.from.now c.args.to.now c.args.into.now (store_in old.store) (store_in c.write_three.new.store) (c.in-Ok.first, c.in-Ok.second, c.in-Ok.into) old.refs.items c.stretch-env.result.now old.here.env (c.stretch-env.ensures ∙ ap (λ l. stretch l old.here.env) c.deref.ensures.value) (c.in-Ok.ensures.written program e) in
    branches_made (TakesAt x old) (GivesAt c.throw-n.result c.in-Ok.into e) old e c.give_number.new.self refl
    (thrown_limits c.args.from.now c.args.to.now c.args.into.now old c.write_three.new.store c.write_three.new.stack c.throw-n.new.dice c.in-Ok.first c.in-Ok.second c.in-Ok.into c.requires.ready c.write_three.ensures.kept c.write_three.ensures.saved written)
    (random_leads c.args.from.now c.args.to.now c.args.into.now old c.write_three.new.store c.write_three.new.stack c.throw-n.new.dice c.in-Ok.first c.in-Ok.second c.in-Ok.into c.requires.ready c.write_three.ensures.kept c.write_three.ensures.saved
    written c.throw-n.result c.throw-n.ensures) c.give_number.result c.give_number.ensures.given
