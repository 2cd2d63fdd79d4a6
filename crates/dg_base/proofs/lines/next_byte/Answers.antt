use Rattle.std.proofs.Common.{[], ◌∷◌, inl, inr, refl, arith}
use Rattle.std.specs.Io.KnownBytes.{Consumes, IsAtEnd, Keeps}
use Rattle.std.proofs.KnownBytes.{Consumes-nil}
use Rattle.dg_base.proofs.LineLemmas.{nothing_left, took_none}
use Rattle.dg_base.proofs.lines.next_byte.Goals as goal

pub returns-then-room-eq0-clause-took : goal.returns-then-room-eq0-clause-took
returns-then-room-eq0-clause-took g c = ([], Consumes-nil (g.S.Source.view c.args.source.now).left, inr (inl c.if-room-eq0.true, refl))

pub returns-in-Err-clause-took : goal.returns-in-Err-clause-took
returns-in-Err-clause-took g c = c.in-Err.ensures.byte

pub returns-in-Ok-None-clause-took : goal.returns-in-Ok-None-clause-took
returns-in-Ok-None-clause-took g c =
    let over : IsAtEnd (g.S.Source.view c.args.source.now).left × Keeps (g.S.Source.view c.args.source.now).left (g.S.Source.view c.next.new.self).left = rw c.in-Ok-None.field-0-is at c.in-Ok-None.ensures.byte in
    ([], took_none (g.S.Source.view c.args.source.now).left (g.S.Source.view c.next.new.self).left over.1, inr (inr (nothing_left (g.S.Source.view c.args.source.now).left over.0), refl))

pub returns-then-byte-eq10-clause-took : goal.returns-then-byte-eq10-clause-took
returns-then-byte-eq10-clause-took g c =
    let took : Consumes (g.S.Source.view c.args.source.now).left (g.S.Source.view c.next.new.self).left (c.in-Ok-Some.byte ∷ []) = rw c.in-Ok-Some.field-0-is at c.in-Ok-Some.ensures.byte in
    (c.in-Ok-Some.byte ∷ [], took, inl (omega arith, rw c.if-byte-eq10.true refl))

pub returns-clause-took : goal.returns-clause-took
returns-clause-took g c =
    let took : Consumes (g.S.Source.view c.args.source.now).left (g.S.Source.view c.next.new.self).left (c.in-Ok-Some.byte ∷ []) = rw c.in-Ok-Some.field-0-is at c.in-Ok-Some.ensures.byte in
    (took, c.if-byte-eq10.false, omega arith)
