use Rattle.std.proofs.Common.{◌≢◌, ◌<◌, ◌++◌, ◌∷◌, ◌∙◌, List, ℕ, [], refl, arith}
use Rattle.std.specs.Io.KnownBytes.{Consumes}
use Rattle.std.proofs.KnownBytes.{Consumes-kept}
use Rattle.dg_base.specs.Lines.{Ends}
use Rattle.dg_base.proofs.LineLemmas.{none_kept, first_plain, reading_goes, line_ends}
use Rattle.dg_base.proofs.lines.take_rest.Goals as goal

pub loop-failed-init : goal.loop-failed-init
loop-failed-init g c = record {
  within = omega arith;
  steady = refl;
  reading = record { front = []; plain = first_plain c.args.first c.requires.plain; long = refl; took = λ before h. h; keeps = none_kept c.args.line.now };
}

pub returns-in-Err-clause-took : goal.returns-in-Err-clause-took
returns-in-Err-clause-took g c = λ before h.
    let r = c.loop-failed.invariant.reading in
    let bytes = r.front ++ c.loop-failed.held ∷ [] in
    (bytes, record { no_newline = r.plain; within = omega (arith, r.long) }, Consumes-kept before (g.S.Source.view c.loop-failed.source).left (g.S.Source.view c.next_byte.new.source).left bytes (r.took before h) c.in-Err.ensures.took)

pub returns-in-Ok-None-clause-took : goal.returns-in-Ok-None-clause-took
returns-in-Ok-None-clause-took g c = λ before h.
    let r = c.loop-failed.invariant.reading in
    let now = (g.S.Source.view c.loop-failed.source).left in
    let new = (g.S.Source.view c.next_byte.new.source).left in
    let end : (end : List ℕ) × Consumes now new end × Ends c.loop-failed.room now [] end = rw c.in-Ok-None.field-0-is at c.in-Ok-None.ensures.took in
    (r.front ++ c.loop-failed.held ∷ [], line_ends r.front c.loop-failed.held c.loop-failed.room before now new end.0 r.plain r.long (r.took before h) end.1 end.2, c.keep_last.ensures.keeps r.front r.keeps)

pub loop-failed-preserved : goal.loop-failed-preserved
loop-failed-preserved g c = record {
  within = c.keep-kept.ensures.within;
  steady = c.in-Ok-Some.ensures.cause.steady ∙ c.loop-failed.invariant.steady;
  reading =
      let r = c.loop-failed.invariant.reading in
      let now = (g.S.Source.view c.loop-failed.source).left in
      let new = (g.S.Source.view c.next_byte.new.source).left in
      let next : Consumes now new (c.in-Ok-Some.byte ∷ []) × (c.in-Ok-Some.byte ≢ 10) × (0 < c.loop-failed.room) = rw c.in-Ok-Some.field-0-is at c.in-Ok-Some.ensures.took in
      reading_goes c.args.first c.loop-failed.line c.keep-kept.new.line c.loop-failed.kept c.keep-kept.result c.loop-failed.held c.loop-failed.room c.in-Ok-Some.byte (g.S.Source.view c.args.source.now).left now new r next.0 next.1 next.2 (c.keep-kept.ensures.keeps r.front r.keeps);
}
