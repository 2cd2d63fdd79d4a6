use Rattle.std.proofs.Common.{arith}
use Rattle.dg_meaning.specs.Words.{spelled_list}
use Rattle.dg_unify.proofs.StoreLemmas.{kept_on, holds_some}
use Rattle.dg_texts.proofs.WriteLemmas.{line_starts, word_here, line_goes, line_full, line_ends}
use Rattle.dg_texts.proofs.spelling.write_line.Goals as goal

pub words-init : goal.words-init
words-init g c = record {
  within = omega arith;
  kept = c.empty_list-list.ensures.kept;
  saved = c.empty_list-list.ensures.saved;
  written = λ letters short is. line_starts c.args.words.now letters c.args.line.now (g.B.Bindings.meaning c.args.store.now) (g.B.Bindings.meaning c.empty_list-list.new.store) c.empty_list-list.result c.empty_list-list.ensures.made short is;
}

pub write_before-requires-clause-list : goal.write_before-requires-clause-list
write_before-requires-clause-list g c =
    let r = c.requires.line in
    let w = (c.words.invariant.written r.letters r.hold r.is).writing in
    holds_some (g.B.Bindings.meaning c.words.store) c.words.list (spelled_list c.args.words.now w.done) w.made.value

pub write_before-requires-clause-spelling : goal.write_before-requires-clause-spelling
write_before-requires-clause-spelling g c =
    let r = c.requires.line in
    let h = word_here c.args.words.now r.letters c.args.line.now c.words.end (g.B.Bindings.meaning c.args.store.now) (g.B.Bindings.meaning c.words.store) c.words.list (c.words.invariant.written r.letters r.hold r.is) c.in-Some.from c.in-Some.to c.in-Some.ensures in
    record { letters = h.word; hold = h.short; is = h.bytes }

pub returns-in-Err-clause-made : goal.returns-in-Err-clause-made
returns-in-Err-clause-made g c = λ letters short is.
    let s = g.B.Bindings.meaning c.args.store.now in
    let t = g.B.Bindings.meaning c.words.store in
    let p = c.words.invariant.written letters short is in
    let h = word_here c.args.words.now letters c.args.line.now c.words.end s t c.words.list p c.in-Some.from c.in-Some.to c.in-Some.ensures in
    line_full c.args.words.now letters c.args.line.now c.words.end s t c.words.list p c.in-Some.from c.in-Some.to c.in-Err.e c.words.invariant.kept h (c.in-Err.ensures.made h.word h.short h.bytes)

pub words-preserved : goal.words-preserved
words-preserved g c =
    let s = g.B.Bindings.meaning c.args.store.now in
    let t = g.B.Bindings.meaning c.words.store in
    let u = g.B.Bindings.meaning c.write_before.new.store in
    let order = c.in-Some.ensures.order in
    let before = c.in-Some.ensures.before in
    let within = c.words.invariant.within in
    record {
      within = omega (arith, order, before, within);
      kept = kept_on s t u c.words.invariant.kept c.in-Ok.ensures.kept;
      saved = λ ms k. c.in-Ok.ensures.saved ms (c.words.invariant.saved ms k);
      written = λ letters short is.
          let p = c.words.invariant.written letters short is in
          let h = word_here c.args.words.now letters c.args.line.now c.words.end s t c.words.list p c.in-Some.from c.in-Some.to c.in-Some.ensures in
          line_goes c.args.words.now letters c.args.line.now c.words.end s t c.words.list p c.in-Some.from c.in-Some.to u c.in-Ok.longer c.words.invariant.kept h (c.in-Ok.ensures.made h.word h.short h.bytes);
    }

pub returns-clause-made : goal.returns-clause-made
returns-clause-made g c = λ letters short is.
    line_ends c.args.words.now letters c.args.line.now c.words.end (g.B.Bindings.meaning c.args.store.now) (g.B.Bindings.meaning c.words.store) c.words.list (c.words.invariant.written letters short is) c.in_default.ensures
