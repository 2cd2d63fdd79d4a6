use Rattle.std.proofs.Common.{◌≡◌, ◌≤◌, ℕ, List, length}
use Rattle.std.specs.Prelude.{encode_utf8_all}
use Rattle.dg_unify.specs.Store.{Saved, Kept}
use Rattle.dg_words.specs.Letters.{AreSmall}
use Rattle.dg_texts.proofs.WriteLemmas.{LetterWriting}
use Rattle.dg_texts.proofs.spelling.write_letters.Given as goal

abbrev pub invariant-letters : goal.invariant-letters
invariant-letters g l = record {
  within : l.end ≤ length l.spelling;
  kept : Kept (g.B.Bindings.meaning l.fn.store) (g.B.Bindings.meaning l.store);
  saved : (ms : List Saved) → g.B.Bindings.saves l.fn.store ms → g.B.Bindings.saves l.store ms;
  written : (letters : List ℕ) → AreSmall letters → l.spelling ≡ encode_utf8_all letters → LetterWriting l.words letters l.end (g.B.Bindings.meaning l.fn.store) (g.B.Bindings.meaning l.store) l.list;
}

abbrev pub decreases-letters : goal.decreases-letters
decreases-letters g l = l.end
