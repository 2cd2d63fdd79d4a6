use Rattle.std.proofs.Common.{◌≡◌, true, false, subst, ap, arith, rules}
use Rattle.dg_meaning.specs.Unify.{size}
use Rattle.dg_meaning.specs.Words.{letters_in_word}
use Rattle.dg_unify.proofs.StoreLemmas.{walked_to}
use Rattle.dg_texts.specs.Printing.{value_at}
use Rattle.dg_texts.specs.Spelling.{JoinsWord}
use Rattle.dg_texts.proofs.PrintLemmas.{pair_of}
use Rattle.dg_texts.proofs.SpellLemmas.{joining_starts, joining_on, joining_refused, joining_over, word_walked, end_shown}
use Rattle.dg_texts.proofs.spelling.join_list.Goals as goal

pub words-init : goal.words-init
words-init g c = record { rest = c.requires.list; joining = joining_starts c.args.words.now (value_at (g.B.Bindings.meaning c.args.store.now) c.args.list) c.args.joined.now c.requires.new }

pub returns-then-not-join_word : goal.returns-then-not-join_word
returns-then-not-join_word g c =
    let s = g.B.Bindings.meaning c.args.store.now in
    let sound = g.met.B.Bindings.sound c.args.store.now in
    let p = pair_of s sound c.words.rest c.in-Pair.head c.in-Pair.tail c.in-Pair.ensures in
    let no : c.join_word.result ≡ false = search rules in
    joining_refused c.args.words.now (value_at s c.args.list) (value_at s c.words.rest) (value_at s c.in-Pair.head) (value_at s c.in-Pair.tail) c.words.joined c.join_word.new.joined (letters_in_word c.args.words.now (walked_to s c.in-Pair.head)) c.words.invariant.joining p.is (word_walked s sound c.args.words.now c.in-Pair.head)
    (subst (JoinsWord (letters_in_word c.args.words.now (walked_to s c.in-Pair.head)) c.words.joined c.join_word.new.joined) no (c.join_word.ensures (walked_to s c.in-Pair.head) c.walk-in-Pair.ensures))

pub words-smaller : goal.words-smaller
words-smaller g c =
    let s = g.B.Bindings.meaning c.args.store.now in
    let p = pair_of s (g.met.B.Bindings.sound c.args.store.now) c.words.rest c.in-Pair.head c.in-Pair.tail c.in-Pair.ensures in
    omega (arith, ap size p.is)

pub words-preserved : goal.words-preserved
words-preserved g c =
    let s = g.B.Bindings.meaning c.args.store.now in
    let sound = g.met.B.Bindings.sound c.args.store.now in
    let p = pair_of s sound c.words.rest c.in-Pair.head c.in-Pair.tail c.in-Pair.ensures in
    let yes : c.join_word.result ≡ true = search rules in
    record {
      rest = p.tail_in;
      joining = joining_on c.args.words.now (value_at s c.args.list) (value_at s c.words.rest) (value_at s c.in-Pair.head) (value_at s c.in-Pair.tail) c.words.joined c.join_word.new.joined (letters_in_word c.args.words.now (walked_to s c.in-Pair.head)) c.words.invariant.joining p.is (word_walked s sound c.args.words.now c.in-Pair.head)
          (subst (JoinsWord (letters_in_word c.args.words.now (walked_to s c.in-Pair.head)) c.words.joined c.join_word.new.joined) yes (c.join_word.ensures (walked_to s c.in-Pair.head) c.walk-in-Pair.ensures));
    }

pub returns-in_default : goal.returns-in_default
returns-in_default g c =
    let s = g.B.Bindings.meaning c.args.store.now in
    rw c.is_nil.ensures (joining_over c.args.words.now (value_at s c.args.list) (value_at s c.words.rest) c.words.joined _ c.words.invariant.joining (end_shown s (g.met.B.Bindings.sound c.args.store.now) c.args.words.now c.words.rest c.walk.result c.in_default.not-Pair c.walk.ensures))
