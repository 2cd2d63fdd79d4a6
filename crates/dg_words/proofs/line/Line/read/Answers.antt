use Rattle.std.proofs.Common.{◌≡◌, ◌∙◌, sym, ap, subst, length, take, rules, Option, Ok, ℕ}
use Rattle.std.specs.Prelude.{encode_utf8_all}
use Rattle.dg_base.specs.Lines.{TakesLine}
use Rattle.dg_words.specs.Letters.{IsLine}
use Rattle.dg_words.proofs.LineLemmas.{line_is, took_line, took_part}
use Rattle.dg_words.proofs.LetterLemmas.{line_kept}
use Rattle.dg_words.proofs.line.Line.read.Goals as goal

pub returns-in-Err-clause-read : goal.returns-in-Err-clause-read
returns-in-Err-clause-read g c =
    let part = c.in-Err.ensures.took in
    took_part (g.S.Source.view c.args.source.now).left (g.S.Source.view c.take_line.new.source).left part.0 part.1 part.2

pub returns-in-Ok-None-clause-read : goal.returns-in-Ok-None-clause-read
returns-in-Ok-None-clause-read g c =
    subst (λ (o : Option ℕ). TakesLine (Ok o) c.take_line.new.line (g.S.Source.view c.args.source.now).left (g.S.Source.view c.take_line.new.source).left) c.in-Ok-None.field-0-is c.in-Ok-None.ensures.took

pub returns-in-Ok-Some-clause-read : goal.returns-in-Ok-Some-clause-read
returns-in-Ok-Some-clause-read g c =
    let room : length c.take_line.new.line ≡ 1024 = search rules in
    let a = (g.S.Source.view c.args.source.now).left in
    let b = (g.S.Source.view c.take_line.new.source).left in
    let took = subst (λ (o : Option ℕ). TakesLine (Ok o) c.take_line.new.line a b) c.in-Ok-Some.field-0-is c.in-Ok-Some.ensures.took in
    let keeps = took.2 in
    took_line a b took.0 (IsLine c.set.new.self) took.1
    (λ typed rest line.
    let is = line_is keeps.text took.0 typed rest line keeps.is in
    let kept = keeps.keeps.front ∙ ap (take (length c.take_line.new.line)) (sym is.0) in
    record {
      some = line.some;
      spelled = c.set.ensures ∙ ap encode_utf8_all (line_kept (take c.in-Ok-Some.kept c.take_line.new.line) c.take_line.new.line typed kept room);
      behind = is.1;
    })
