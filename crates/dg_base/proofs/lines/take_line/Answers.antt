use Rattle.std.proofs.Common.{[], ◌∷◌, inl, refl, arith}
use Rattle.std.specs.Io.KnownBytes.{Consumes}
use Rattle.std.proofs.lemmas.List.Elements.{All-nil}
use Rattle.dg_base.proofs.LineLemmas.{took_none, no_text, none_kept}
use Rattle.dg_base.proofs.lines.take_line.Goals as goal

pub returns-in-Err-clause-took : goal.returns-in-Err-clause-took
returns-in-Err-clause-took g c = ([], record { no_newline = All-nil _; within = omega arith }, took_none (g.S.Source.view c.args.source.now).left (g.S.Source.view c.next.new.self).left c.in-Err.ensures.byte)

pub returns-then-first-eq10-clause-took : goal.returns-then-first-eq10-clause-took
returns-then-first-eq10-clause-took g c =
    let took : Consumes (g.S.Source.view c.args.source.now).left (g.S.Source.view c.next.new.self).left (c.in-Ok-Some.first ∷ []) = rw c.in-Ok-Some.field-0-is at c.in-Ok-Some.ensures.byte in (
      [],
      record { plain = record { no_newline = All-nil _; within = omega arith }; end = c.in-Ok-Some.first ∷ []; took = took; ends = inl (omega arith, rw c.if-first-eq10.true refl); some = λ none. cc },
      record { text = []; is = no_text; keeps = none_kept c.args.line.now },
    )

pub returns-in-Ok-clause-took : goal.returns-in-Ok-clause-took
returns-in-Ok-clause-took g c =
    let took : Consumes (g.S.Source.view c.args.source.now).left (g.S.Source.view c.next.new.self).left (c.in-Ok-Some.first ∷ []) = rw c.in-Ok-Some.field-0-is at c.in-Ok-Some.ensures.byte in
    c.in-Ok.ensures.took (g.S.Source.view c.args.source.now).left took

pub returns-in-Err-take_rest-clause-took : goal.returns-in-Err-take_rest-clause-took
returns-in-Err-take_rest-clause-took g c =
    let took : Consumes (g.S.Source.view c.args.source.now).left (g.S.Source.view c.next.new.self).left (c.in-Ok-Some.first ∷ []) = rw c.in-Ok-Some.field-0-is at c.in-Ok-Some.ensures.byte in
    c.in-Err-take_rest.ensures.took (g.S.Source.view c.args.source.now).left took
