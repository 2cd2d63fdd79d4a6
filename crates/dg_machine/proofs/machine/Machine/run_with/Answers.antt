use Rattle.std.proofs.Common.{◌-◌, arith}
use Rattle.dg_meaning.specs.Engines.{game, left_told, HasShown, HasLostInput}
use Rattle.dg_meaning.proofs.Engines.{as_told, for_given}
use Rattle.dg_machine.specs.declared.now.Now.TheVariants.{Runs}
use Rattle.dg_machine.specs.Program.{HasLostText}
use Rattle.dg_machine.proofs.Runs.{shown, closing_lost, text_lost, input_lost, fault_lost}
use Rattle.dg_machine.proofs.Starts.{at_start, somewhere_first, roomy_after}
use Rattle.dg_machine.proofs.machine.Machine.run_with.Goals as goal

pub go-requires-clause-some : goal.go-requires-clause-some
go-requires-clause-some g c =
    let m = c.args.self.now in
    let some = c.requires.lasting in
    somewhere_first m.tables m.code some.0 some.1 m.limits c.clear.new.self c.args.lasting.now c.code_at.result (g.S.Source.view c.args.source.now) some.2 c.requires.built c.code_at.ensures (c.clear.ensures.held m.code m.limits m.roomy) c.clear.ensures.none some.3

pub go-requires-clause-may : goal.go-requires-clause-may
go-requires-clause-may g c = c.requires.lasting.3.may c.args.self.now.limits.steps (omega arith)

pub invariant_of-self : goal.invariant_of-self
invariant_of-self g c =
    let m = c.args.self.now in
    let k = g.K.Sink.view c.args.sink.now in
    let some = c.requires.lasting in
    record {
      roomy = roomy_after m.tables m.code (game some.0 some.1) m.limits c.clear.new.self c.go.new.memory c.args.lasting.now (Runs c.code_at.result) m.limits.steps c.new-spacer.result c.go.new.spacer k (g.K.Sink.view c.go.new.sink) (g.S.Source.view c.args.source.now) (g.S.Source.view c.go.new.source) c.go.result some.2 c.go.ensures.ok c.go.ensures.err
          (λ typed. at_start m.code some.0 some.1 m.limits typed c.clear.new.self c.args.lasting.now c.code_at.result c.new-spacer.result k c.requires.built c.code_at.ensures (c.clear.ensures.held m.code m.limits m.roomy) c.clear.ensures.none c.new-spacer.ensures some.3);
    }

pub overflow_sub-result : goal.overflow_sub-result
overflow_sub-result g c = let h = c.in-Ok.ensures.ok.within in omega (arith, h)

pub returns-in-Ok-close-2-clause-shows : goal.returns-in-Ok-close-2-clause-shows
returns-in-Ok-close-2-clause-shows g c p dice codes is_of starts =
    let m = c.args.self.now in
    let k = g.K.Sink.view c.args.sink.now in
    let i = g.S.Source.view c.args.source.now in
    let x = game p dice in
    let h = c.in-Ok.ensures.ok in
    let at = at_start m.code p dice m.limits h.typed c.clear.new.self c.args.lasting.now c.code_at.result c.new-spacer.result k c.requires.built c.code_at.ensures (c.clear.ensures.held m.code m.limits m.roomy) c.clear.ensures.none c.new-spacer.ensures starts in
    let told = left_told i (g.S.Source.view c.go.new.source) in
    let k' = g.K.Sink.view c.close-in-Ok.new.sink in
    for_given i.left h.typed (λ typed. HasShown x typed m.limits (record { ending = c.in-Ok.ending; goals = m.limits.steps - c.in-Ok.left }) told k k') h.is_typed
    (shown m.code x m.limits codes h.typed starts.begins c.in-Ok.ending c.in-Ok.left c.go.new.memory c.go.new.spacer k (g.K.Sink.view c.go.new.sink) k' h.rest told h.is_rest (h.ends x is_of m.limits h.typed k at) h.within (rw c.line.ensures at c.in-Ok-close-2.ensures.ok))

pub returns-in-Err-close-clause-output : goal.returns-in-Err-close-clause-output
returns-in-Err-close-clause-output g c e p dice codes is_of starts =
    let m = c.args.self.now in
    let k = g.K.Sink.view c.args.sink.now in
    let i = g.S.Source.view c.args.source.now in
    let x = game p dice in
    let h = c.in-Ok.ensures.ok in
    let at = at_start m.code p dice m.limits h.typed c.clear.new.self c.args.lasting.now c.code_at.result c.new-spacer.result k c.requires.built c.code_at.ensures (c.clear.ensures.held m.code m.limits m.roomy) c.clear.ensures.none c.new-spacer.ensures starts in
    let i' = g.S.Source.view c.go.new.source in
    let k' = g.K.Sink.view c.close-in-Ok.new.sink in
    for_given i.left h.typed (λ typed. HasLostText x typed m.limits i i' k k') h.is_typed
    (closing_lost m.code x m.limits codes h.typed starts.begins c.in-Ok.ending c.in-Ok.left c.go.new.memory c.go.new.spacer k (g.K.Sink.view c.go.new.sink) k' i i' h.rest h.is_rest (h.ends x is_of m.limits h.typed k at) h.within (rw c.line.ensures at c.in-Err-close.ensures.err))

pub returns-in-Err-Write-clause-output : goal.returns-in-Err-Write-clause-output
returns-in-Err-Write-clause-output g c e p dice codes is_of starts =
    let m = c.args.self.now in
    let k = g.K.Sink.view c.args.sink.now in
    let i = g.S.Source.view c.args.source.now in
    let x = game p dice in
    let h = rw c.in-Err-Write.field-0-is at c.in-Err-Write.ensures.err in
    let at = at_start m.code p dice m.limits h.typed c.clear.new.self c.args.lasting.now c.code_at.result c.new-spacer.result k c.requires.built c.code_at.ensures (c.clear.ensures.held m.code m.limits m.roomy) c.clear.ensures.none c.new-spacer.ensures starts in
    let i' = g.S.Source.view c.go.new.source in
    let k' = g.K.Sink.view c.go.new.sink in
    for_given i.left h.typed (λ typed. HasLostText x typed m.limits i i' k k') h.is_typed (text_lost m.code x m.limits codes h.typed starts.begins c.go.new.memory k k' i i' h.rest (as_told i i' h.rest h.is_rest) (h.loses x is_of m.limits h.typed k at))

pub returns-in-Err-clause-output : goal.returns-in-Err-clause-output
returns-in-Err-clause-output g c e p dice codes is_of starts =
    let m = c.args.self.now in
    let k = g.K.Sink.view c.args.sink.now in
    let i = g.S.Source.view c.args.source.now in
    let x = game p dice in
    let h = rw c.in-Err-Read.field-0-is at c.in-Err-Read.ensures.err in
    let at = at_start m.code p dice m.limits h.typed c.clear.new.self c.args.lasting.now c.code_at.result c.new-spacer.result k c.requires.built c.code_at.ensures (c.clear.ensures.held m.code m.limits m.roomy) c.clear.ensures.none c.new-spacer.ensures starts in
    let i' = g.S.Source.view c.go.new.source in
    let k' = g.K.Sink.view c.close.new.sink in
    for_given i.left h.typed (λ typed. HasLostText x typed m.limits i i' k k') h.is_typed
    (fault_lost m.code x m.limits codes h.typed c.go.new.memory c.go.new.spacer k (g.K.Sink.view c.go.new.sink) k' i i' h.taken h.rest h.rose (as_told i i' h.rest h.is_rest) (h.fails x is_of m.limits h.typed k at) h.short c.in-Err.ensures.err)

pub returns-in-Ok-close-clause-input : goal.returns-in-Ok-close-clause-input
returns-in-Ok-close-clause-input g c e p dice codes is_of starts =
    let m = c.args.self.now in
    let k = g.K.Sink.view c.args.sink.now in
    let i = g.S.Source.view c.args.source.now in
    let x = game p dice in
    let h = rw c.in-Err-Read.field-0-is at c.in-Err-Read.ensures.err in
    let at = at_start m.code p dice m.limits h.typed c.clear.new.self c.args.lasting.now c.code_at.result c.new-spacer.result k c.requires.built c.code_at.ensures (c.clear.ensures.held m.code m.limits m.roomy) c.clear.ensures.none c.new-spacer.ensures starts in
    let told = (g.S.Source.view c.go.new.source).left in
    let k' = g.K.Sink.view c.close.new.sink in
    for_given i.left h.typed (λ typed. HasLostInput x typed m.limits told k k') h.is_typed
    (input_lost m.code x m.limits codes h.typed c.go.new.memory c.go.new.spacer k (g.K.Sink.view c.go.new.sink) k' h.taken h.rest told h.is_rest (h.fails x is_of m.limits h.typed k at) h.short c.in-Ok-close.ensures.ok)
