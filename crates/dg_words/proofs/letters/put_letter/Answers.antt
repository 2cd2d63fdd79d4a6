use Rattle.std.proofs.Common.{◌∙◌, ◌+◌, ◌++◌, ◌∷◌, [], ap, sym, arith, take}
use Rattle.std.specs.Prelude.{◌/◌, ◌%◌}
use Rattle.dg_words.proofs.LetterLemmas.{two_bytes, three_bytes}
use Rattle.dg_words.proofs.letters.put_letter.Goals as goal

pub returns-then-letter-lt2048-clause-bytes : goal.returns-then-letter-lt2048-clause-bytes
returns-then-letter-lt2048-clause-bytes c =
    let front = take c.args.len c.args.row.now in
    c.put_behind-then-letter-lt2048.ensures
    ∙ ap (λ n. front ++ (192 + c.args.letter / 64) ∷ n ∷ []) c.next.ensures
    ∙ ap (λ l. front ++ l) (sym (two_bytes c.args.letter c.if-letter-lt128.false c.if-letter-lt2048.true))

pub returns-clause-bytes : goal.returns-clause-bytes
returns-clause-bytes c =
    let front = take c.args.len c.args.row.now in
    c.put_behind-2.ensures
    ∙ ap (λ n. front ++ (224 + c.args.letter / 4096) ∷ n ∷ c.next-3.result ∷ []) c.next-2.ensures
    ∙ ap (λ n. front ++ (224 + c.args.letter / 4096) ∷ (128 + c.args.letter / 64 % 64) ∷ n ∷ []) c.next-3.ensures
    ∙ ap (λ l. front ++ l) (sym (three_bytes c.args.letter c.if-letter-lt2048.false (omega (arith, c.ranges.letter.fits))))
