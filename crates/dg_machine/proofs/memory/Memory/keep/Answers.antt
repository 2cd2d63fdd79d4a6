use Rattle.std.proofs.Common.{sym}
use Rattle.dg_unify.proofs.StoreLemmas.{holds_some}
use Rattle.dg_arena.specs.Held.{meaning_of}
use Rattle.dg_machine.proofs.Gatherings.{kept_at, kept_nowhere, kept_nothing, kept_one, kept_too_much}
use Rattle.dg_machine.proofs.memory.Memory.keep.Goals as goal

pub gather-requires : goal.gather-requires
gather-requires c =
    let some = c.requires.some in
    let x = kept_at some.0 some.1 some.2 c.args.self.now some.3 c.in-Some.inner (sym c.in-Some.ensures) c.in-Some-kept.value c.in-Some-kept.is in
    holds_some (meaning_of c.args.self.now.arena) c.in-Some-kept.value x.value x.kept

pub returns-in-None-clause-keeps : goal.returns-in-None-clause-keeps
returns-in-None-clause-keeps c code g l m h w = kept_nowhere code g l m c.args.lasting.now c.args.self.now c.args.ops h w (sym c.in-None.ensures)

pub returns-in-None-kept-clause-keeps : goal.returns-in-None-kept-clause-keeps
returns-in-None-kept-clause-keeps c code g l m h w = kept_nothing code g l m c.args.lasting.now c.args.self.now c.args.ops h w c.in-Some.inner (sym c.in-Some.ensures) c.in-None-kept.is

pub returns-in-Err-clause-keeps : goal.returns-in-Err-clause-keeps
returns-in-Err-clause-keeps c code g l m h w =
    kept_too_much code g l m c.args.lasting.now c.args.self.now c.args.ops h w c.in-Some.inner (sym c.in-Some.ensures) c.in-Some-kept.value c.in-Some-kept.is c.gather.new.self c.gather.new.store c.in-Err.ensures.same c.in-Err.ensures.saved c.in-Err.ensures.full

pub returns-in-Ok-clause-keeps : goal.returns-in-Ok-clause-keeps
returns-in-Ok-clause-keeps c code g l m h w =
    kept_one code g l m c.args.lasting.now c.args.self.now c.args.ops h w c.in-Some.inner (sym c.in-Some.ensures) c.in-Some-kept.value c.in-Some-kept.is c.gather.new.self c.gather.new.store c.in-Ok.ensures.same c.in-Ok.ensures.saved c.in-Ok.ensures.gathered
