use Rattle.std.proofs.Common.{◌≡◌, ◌≤◌, ℕ, List, length}
use Rattle.std.specs.Prelude.{encode_utf8_all}
use Rattle.dg_unify.specs.Store.{Saved, Kept}
use Rattle.dg_texts.specs.Spelling.{IsShort}
use Rattle.dg_texts.proofs.WriteLemmas.{LineWriting}
use Rattle.dg_texts.proofs.spelling.write_line.Given as goal

abbrev pub invariant-words : goal.invariant-words
invariant-words g l = record {
  within : l.end ≤ length l.line;
  kept : Kept (g.B.Bindings.meaning l.fn.store) (g.B.Bindings.meaning l.store);
  saved : (ms : List Saved) → g.B.Bindings.saves l.fn.store ms → g.B.Bindings.saves l.store ms;
  written : (letters : List ℕ) → IsShort letters → l.line ≡ encode_utf8_all letters → LineWriting l.words letters l.line l.end (g.B.Bindings.meaning l.fn.store) (g.B.Bindings.meaning l.store) l.list;
}

abbrev pub decreases-words : goal.decreases-words
decreases-words g l = l.end
