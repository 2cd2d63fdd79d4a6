use Rattle.std.proofs.Common.{refl, sym, subst, ap, ◌∙◌, ◌∷◌, ◌++◌, []}
use Rattle.dg_meaning.specs.World.{Piece, GapOf}
use Rattle.dg_meaning.specs.Render.{growth}
use Rattle.dg_base.specs.Written.{Wrote, BrokeOff}
use Rattle.dg_spacing.specs.Spacer.{StandsFor}
use Rattle.dg_mid.specs.declared.code.Op.TheVariants as op
use Rattle.dg_mid.specs.declared.code.Action.TheVariants as action
use Rattle.dg_mid.specs.State.{Runs as RunsOf}
use Rattle.dg_mid.specs.Step.{setting, more}
use Rattle.dg_machine.proofs.Hands.{nothing_more}
use Rattle.dg_machine.proofs.Goals.{printed_done, printed_lost, silent_with, quiet_random, quiet_change, quiet_else, keeps_none}
use Rattle.dg_machine.specs.Built.{OpsBuilt}
use Rattle.dg_machine.proofs.steps.do_action.Goals as goal

pub returns-in-Ok-clause-ok : goal.returns-in-Ok-clause-ok
returns-in-Ok-clause-ok g c code game is_of l m o e at h w =
    let bytes = c.as_slice.result.now in
    let split = c.requires.whole ∙ ap (λ a. op.Do a ∷ c.args.rest.now) (c.in-Text.is ∙ ap action.Text (sym c.as_slice.ensures)) in
    printed_done code game l m c.args.memory.now 0 c.args.ops.now (action.Text bytes) (Piece bytes) c.args.rest split at (nothing_more code l c.args.memory.now m h) (keeps_none game code l (RunsOf (more 0 (record m { ops = c.args.rest.now })))) refl c.args.spacer.now c.event.new.self (g.K.Sink.view c.args.sink.now) (g.K.Sink.view c.event.new.sink) c.args.lasting.now w c.in-Ok.ensures.stands c.in-Ok.ensures.ok

pub returns-in-Err-clause-err : goal.returns-in-Err-clause-err
returns-in-Err-clause-err g c code game is_of l m at h start ps text =
    let bytes = c.as_slice.result.now in
    let split = c.requires.whole ∙ ap (λ a. op.Do a ∷ c.args.rest.now) (c.in-Text.is ∙ ap action.Text (sym c.as_slice.ensures)) in
    printed_lost code game l m c.args.memory.now 0 c.args.ops.now (action.Text bytes) (Piece bytes) c.args.rest split at (nothing_more code l c.args.memory.now m h) (keeps_none game code l (RunsOf (more 0 (record m { ops = c.args.rest.now })))) refl c.args.spacer.now (g.K.Sink.view c.args.sink.now) (g.K.Sink.view c.event.new.sink) start ps c.in-Err.ensures.err text

pub returns-in-Ok-event-clause-ok : goal.returns-in-Ok-event-clause-ok
returns-in-Ok-event-clause-ok g c code game is_of l m o e at h w =
    let split = c.requires.whole ∙ ap (λ a. op.Do a ∷ c.args.rest.now) c.in-Gap.is in
    let same = c.event_of.ensures in
    printed_done code game l m c.args.memory.now 0 c.args.ops.now (action.Gap c.in-Gap.kind) (GapOf c.in-Gap.kind) c.args.rest split at (nothing_more code l c.args.memory.now m h) (keeps_none game code l (RunsOf (more 0 (record m { ops = c.args.rest.now })))) refl c.args.spacer.now c.event-in-Gap.new.self (g.K.Sink.view c.args.sink.now) (g.K.Sink.view c.event-in-Gap.new.sink) c.args.lasting.now w
    (λ ps t. subst (λ p. StandsFor c.event-in-Gap.new.self (ps ++ p ∷ [])) same (c.in-Ok-event.ensures.stands ps t))
    (λ ps t. subst (λ p. Wrote (g.K.Sink.view c.args.sink.now) (g.K.Sink.view c.event-in-Gap.new.sink) (growth ps p)) same (c.in-Ok-event.ensures.ok ps t))

pub returns-in-Err-event-clause-err : goal.returns-in-Err-event-clause-err
returns-in-Err-event-clause-err g c code game is_of l m at h start ps text =
    let split = c.requires.whole ∙ ap (λ a. op.Do a ∷ c.args.rest.now) c.in-Gap.is in
    let same = c.event_of.ensures in
    printed_lost code game l m c.args.memory.now 0 c.args.ops.now (action.Gap c.in-Gap.kind) (GapOf c.in-Gap.kind) c.args.rest split at (nothing_more code l c.args.memory.now m h) (keeps_none game code l (RunsOf (more 0 (record m { ops = c.args.rest.now })))) refl c.args.spacer.now (g.K.Sink.view c.args.sink.now) (g.K.Sink.view c.event-in-Gap.new.sink) start ps
    (λ qs t. subst (λ p. BrokeOff (g.K.Sink.view c.args.sink.now) (g.K.Sink.view c.event-in-Gap.new.sink) (growth qs p)) same (c.in-Err-event.ensures.err qs t)) text

pub returns-in_default-clause-ok : goal.returns-in_default-clause-ok
returns-in_default-clause-ok g c =
    let a = c.in_default in
    absurd (c.requires.noisy (quiet_else c.args.action.now a.not-Text a.not-Gap a.not-GapN a.not-Print a.not-Random a.not-Now c.requires.no_stop c.requires.unread))

pub returns-in-Random-clause-ok : goal.returns-in-Random-clause-ok
returns-in-Random-clause-ok g c code game is_of l m o e at h w =
    let x = c.in-Random in
    let rest = c.args.rest.now in
    let split = c.requires.whole ∙ ap (λ a. op.Do a ∷ rest) x.is in
    let built : OpsBuilt (op.Do (action.Random x.a x.b x.into) ∷ rest) = subst OpsBuilt split at.1 in
    silent_with c.args.tables.now code game is_of l m c.args.memory.now c.random.new.self c.random.result c.args.ops.now (op.Do (action.Random x.a x.b x.into)) rest split at h c.args.spacer.now (g.K.Sink.view c.args.sink.now) c.random.new.lasting
    (quiet_random (setting game code l) m x.a x.b x.into rest) (c.random.ensures.does code game is_of l (record m { ops = rest }) built.0 (refl, built.1) h w)

pub returns-in-GapN-clause-ok : goal.returns-in-GapN-clause-ok
returns-in-GapN-clause-ok g c = c.print_spaces.ensures.ok c.args.lasting.now

pub returns-in-Now-clause-ok : goal.returns-in-Now-clause-ok
returns-in-Now-clause-ok g c code game is_of l m o e at h w =
    let x = c.in-Now in
    let rest = c.args.rest.now in
    let a = action.Now x.place c.as_slice-in-Now.result.now x.sets in
    let split = c.requires.whole ∙ ap (λ b. op.Do b ∷ rest) (x.is ∙ ap (λ ts. action.Now x.place ts x.sets) (sym c.as_slice-in-Now.ensures)) in
    let built : OpsBuilt (op.Do a ∷ rest) = subst OpsBuilt split at.1 in
    silent_with c.args.tables.now code game is_of l m c.args.memory.now c.change.new.self c.change.result c.args.ops.now (op.Do a) rest split at h c.args.spacer.now (g.K.Sink.view c.args.sink.now) c.change.new.lasting
    (quiet_change (setting game code l) m x.place c.as_slice-in-Now.result.now x.sets rest) (c.change.ensures.does code game is_of l (record m { ops = rest }) built.0 (refl, built.1) h w)

pub returns-in-Print-clause-ok : goal.returns-in-Print-clause-ok
returns-in-Print-clause-ok g c = c.print_term.ensures.ok c.args.lasting.now
