-- Where tokens can't be read on, no item goes on, and before that one does.
use Rattle.std.proofs.Common.{◌≡◌, ◌+◌, ◌-◌, ◌<◌, ◌≤◌, ℕ, List, [], ◌∷◌, ◌++◌, take, drop, map, true, Option, Some, None, refl, sym, ◌∙◌, ap, subst, arith}
use Rattle.std.specs.Prelude.{option_and_then, Err}
use Rattle.std.proofs.Math.Seq.{take-add}
use Rattle.std.proofs.lemmas.List.{take-map, length-map}
use Rattle.dg_lex.specs.declared.token.Token.{Token}
use Rattle.dg_reader.specs.Tokens.{Tok}
use Rattle.dg_reader.specs.TokenView.{token_view}
use Rattle.dg_reader.specs.Grammar.{IsUnexpected, IsUnexpectedAt}
use Rattle.dg_reader.specs.inside.Items.{StopsAt, OnUnexpected}
use Rattle.dg_reader.specs.declared.item.ShapeFault.{ShapeFault}
use Rattle.dg_reader.specs.declared.item.ShapeFault.TheVariants as fault
use Rattle.dg_open.specs.inside.Standing.{Stack, start}
use Rattle.dg_reader.specs.inside.Machine.{run}
use Rattle.dg_reader.proofs.Closing.{run-append}
use Rattle.dg_reader.proofs.Laws.{unexpected_there, goes_on}

front_run : (front back : List Tok) (st : Stack) (o : Option Stack) → run front (start ∷ []) ≡ o → run (front ++ back) (start ∷ []) ≡ Some st → IsUnexpected true front → ⊥
front_run front back st None e whole u = absurd (let none : None ≡ Some st = sym (run-append front back (start ∷ []) ∙ ap (option_and_then (run back)) e) ∙ whole in cc)
front_run front back st (Some new) e whole u = goes_on front new e u

cut_at : (ts : List Tok) (less index : ℕ) → less ≤ index → take index ts ≡ take less ts ++ take (index - less) (drop less ts)
cut_at ts less index le =
    let sum : less + (index - less) ≡ index = omega arith in
    ap (λ (n : ℕ). take n ts) (sym sum) ∙ take-add less (index - less) ts

pub stops_at : (ts : List Token) (index : ℕ) → StopsAt ts index → IsUnexpectedAt true (map token_view ts) index
stops_at ts index h = record {
  within = subst (λ (n : ℕ). index < n) (sym (length-map ts token_view)) h.within;
  here = subst (λ (l : List Tok). IsUnexpected true l) (sym (take-map token_view (index + 1) ts)) (unexpected_there (map token_view (take (index + 1) ts)) h.stops);
  first = λ before lt u. front_run (take (before + 1) (map token_view ts)) (take (index - (before + 1)) (drop (before + 1) (map token_view ts))) h.before _ refl
      (ap (λ (l : List Tok). run l (start ∷ [])) (sym (cut_at (map token_view ts) (before + 1) index (omega arith)) ∙ take-map token_view index ts) ∙ h.taken) u;
}

pub unexpected_map : (S T : Type 0) (fault : ShapeFault) (P Q : ℕ → Type 0) → ((index : ℕ) → P index → Q index) → OnUnexpected {T = S} (Err fault) P → OnUnexpected {T = T} (Err fault) Q
unexpected_map S T fault.Unclosed P Q f h = tt
unexpected_map S T (fault.Unexpected index) P Q f h = f index h
unexpected_map S T fault.OutOfMemory P Q f h = tt
