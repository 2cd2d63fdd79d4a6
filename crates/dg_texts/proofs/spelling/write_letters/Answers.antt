use Rattle.std.proofs.Common.{◌∷◌, ◌∙◌, [], refl, arith}
use Rattle.dg_meaning.specs.Words.{spelled_list}
use Rattle.dg_unify.proofs.StoreLemmas.{kept_on, holds_some}
use Rattle.dg_texts.proofs.WriteLemmas.{letters_start, letter_found, short_here, letters_go, letters_full, letters_end}
use Rattle.dg_texts.proofs.spelling.write_letters.Goals as goal

pub letters-init : goal.letters-init
letters-init g c = record {
  within = omega arith;
  kept = c.empty_list-list.ensures.kept;
  saved = c.empty_list-list.ensures.saved;
  written = λ letters small is. letters_start c.args.words.now letters c.args.spelling.now (g.B.Bindings.meaning c.args.store.now) (g.B.Bindings.meaning c.empty_list-list.new.store) c.empty_list-list.result c.empty_list-list.ensures.made small is;
}

pub part-requires : goal.part-requires
part-requires g c =
    let r = c.requires.spelling in
    let p = c.letters.invariant.written r.letters r.hold r.is in
    let f = letter_found c.args.words.now r.letters c.args.spelling.now c.letters.end (g.B.Bindings.meaning c.args.store.now) (g.B.Bindings.meaning c.letters.store) c.letters.list p c.in-Some.from r.is c.in-Some.ensures.none (λ none. absurd (cc none)) c.in-Some.ensures.start in
    let fewer = f.fewer in
    (omega (arith, fewer), c.letters.invariant.within)

pub write_before-requires-clause-list : goal.write_before-requires-clause-list
write_before-requires-clause-list g c =
    let r = c.requires.spelling in
    let w = (c.letters.invariant.written r.letters r.hold r.is).writing in
    holds_some (g.B.Bindings.meaning c.letters.store) c.letters.list (spelled_list c.args.words.now w.done) w.made.value

pub write_before-requires-clause-spelling : goal.write_before-requires-clause-spelling
write_before-requires-clause-spelling g c =
    let r = c.requires.spelling in
    let p = c.letters.invariant.written r.letters r.hold r.is in
    let f = letter_found c.args.words.now r.letters c.args.spelling.now c.letters.end (g.B.Bindings.meaning c.args.store.now) (g.B.Bindings.meaning c.letters.store) c.letters.list p c.in-Some.from r.is c.in-Some.ensures.none (λ none. absurd (cc none)) c.in-Some.ensures.start in
    record { letters = f.last.letter ∷ []; hold = (short_here c.args.words.now r.letters c.args.spelling.now c.letters.end (g.B.Bindings.meaning c.args.store.now) (g.B.Bindings.meaning c.letters.store) c.letters.list p f.last); is = c.part.ensures ∙ f.bytes }

pub returns-in-Err-clause-made : goal.returns-in-Err-clause-made
returns-in-Err-clause-made g c = λ letters small is.
    let p = c.letters.invariant.written letters small is in
    let f = letter_found c.args.words.now letters c.args.spelling.now c.letters.end (g.B.Bindings.meaning c.args.store.now) (g.B.Bindings.meaning c.letters.store) c.letters.list p c.in-Some.from is c.in-Some.ensures.none (λ none. absurd (cc none)) c.in-Some.ensures.start in
    letters_full c.args.words.now letters c.args.spelling.now c.letters.end (g.B.Bindings.meaning c.args.store.now) (g.B.Bindings.meaning c.letters.store) c.letters.list p c.in-Err.e c.letters.invariant.kept f.last (c.in-Err.ensures.made (f.last.letter ∷ []) (short_here c.args.words.now letters c.args.spelling.now c.letters.end (g.B.Bindings.meaning c.args.store.now) (g.B.Bindings.meaning c.letters.store) c.letters.list p f.last) (c.part.ensures ∙ f.bytes))

pub letters-smaller : goal.letters-smaller
letters-smaller g c =
    let r = c.requires.spelling in
    let p = c.letters.invariant.written r.letters r.hold r.is in
    let f = letter_found c.args.words.now r.letters c.args.spelling.now c.letters.end (g.B.Bindings.meaning c.args.store.now) (g.B.Bindings.meaning c.letters.store) c.letters.list p c.in-Some.from r.is c.in-Some.ensures.none (λ none. absurd (cc none)) c.in-Some.ensures.start in
    f.fewer

pub letters-preserved : goal.letters-preserved
letters-preserved g c =
    let s = g.B.Bindings.meaning c.args.store.now in
    let t = g.B.Bindings.meaning c.letters.store in
    let u = g.B.Bindings.meaning c.write_before.new.store in
    record {
      within =
          let r = c.requires.spelling in
          let p = c.letters.invariant.written r.letters r.hold r.is in
          let f = letter_found c.args.words.now r.letters c.args.spelling.now c.letters.end (g.B.Bindings.meaning c.args.store.now) (g.B.Bindings.meaning c.letters.store) c.letters.list p c.in-Some.from r.is c.in-Some.ensures.none (λ none. absurd (cc none)) c.in-Some.ensures.start in
          let fewer = f.fewer in
          let within = c.letters.invariant.within in
          omega (arith, fewer, within);
      kept = kept_on s t u c.letters.invariant.kept c.in-Ok.ensures.kept;
      saved = λ ms k. c.in-Ok.ensures.saved ms (c.letters.invariant.saved ms k);
      written = λ letters small is.
          let p = c.letters.invariant.written letters small is in
          let f = letter_found c.args.words.now letters c.args.spelling.now c.letters.end (g.B.Bindings.meaning c.args.store.now) (g.B.Bindings.meaning c.letters.store) c.letters.list p c.in-Some.from is c.in-Some.ensures.none (λ none. absurd (cc none)) c.in-Some.ensures.start in
          letters_go c.args.words.now letters c.args.spelling.now c.letters.end (g.B.Bindings.meaning c.args.store.now) (g.B.Bindings.meaning c.letters.store) c.letters.list p c.in-Some.from u c.in-Ok.longer c.letters.invariant.kept f.last f.from_is (c.in-Ok.ensures.made (f.last.letter ∷ []) (short_here c.args.words.now letters c.args.spelling.now c.letters.end (g.B.Bindings.meaning c.args.store.now) (g.B.Bindings.meaning c.letters.store) c.letters.list p f.last) (c.part.ensures ∙ f.bytes));
    }

pub returns-clause-made : goal.returns-clause-made
returns-clause-made g c = λ letters small is.
    letters_end c.args.words.now letters c.args.spelling.now c.letters.end (g.B.Bindings.meaning c.args.store.now) (g.B.Bindings.meaning c.letters.store) c.letters.list (c.letters.invariant.written letters small is) (c.in_default.ensures.none.0 refl)
