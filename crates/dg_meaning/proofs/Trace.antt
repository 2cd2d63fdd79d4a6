-- What is left of a trace without its calls.
use Rattle.std.proofs.Common.{◌≡◌, ◌≢◌, ℕ, List, [], ◌∷◌, ◌++◌, Option, Some, None, true, false, refl, sym, ap, ◌∙◌, subst, get_or, append_assoc}
use Rattle.std.specs.Prelude.{All, codes, eqb}
use Rattle.std.specs.List.{flat_map}
use Rattle.std.proofs.lemmas.Bool.{eqb-true, cond-false, false_from_ne_true}
use Rattle.std.proofs.lemmas.List.{append-nil}
use Rattle.std.proofs.lemmas.List.Elements.{All-head, All-tail}
use Rattle.dg_meaning.specs.World.{Piece, GapOf, SpacesOf, Event, Prints, Asked, Answered, Retried, HasFailed, prints}
use Rattle.dg_meaning.specs.Render.{Met, nothing_met, met_behind, written, render, render_from}
use Rattle.dg_meaning.specs.Transcript.{ending_line}
use Rattle.dg_meaning.specs.Shows.{plain}
use Rattle.dg_meaning.specs.Trace.{Entry, Wrote, Asks, Answers, Retries, Fails, entries, byte_lines, line_on, lines_of, closing_entries, as_lines, erased, erased_next, erased_line}
use Rattle.dg_meaning.specs.inside.Erasing.{HaveNoNewline}

-- ## Bytes

mutual
  bytes_left : (bs rest : List ℕ) → erased (byte_lines bs ++ rest) ≡ bs ++ erased rest
  bytes_left [] rest = refl
  bytes_left (b ∷ bs) rest = (elim (eqb b 10) as (λ x. eqb b 10 ≡ x → erased (byte_lines (b ∷ bs) ++ rest) ≡ b ∷ (bs ++ erased rest)) [
    | true ↦ λ e. subst (λ n. erased (byte_lines (n ∷ bs) ++ rest) ≡ n ∷ (bs ++ erased rest)) (sym (eqb-true b 10 e)) (ap (λ l. 10 ∷ l) (bytes_left bs rest))
    | false ↦ λ e. ap (λ l. erased (l ++ rest)) (cond-false (eqb b 10) _ _ e) ∙ (cond-false (eqb b 10) _ _ e ∙ ap (λ l. b ∷ l) (line_left bs rest))
  ]) refl

  line_left : (bs rest : List ℕ) → erased_line (line_on bs ++ rest) ≡ bs ++ erased rest
  line_left [] rest = refl
  line_left (b ∷ bs) rest = (elim (eqb b 10) as (λ x. eqb b 10 ≡ x → erased_line (line_on (b ∷ bs) ++ rest) ≡ b ∷ (bs ++ erased rest)) [
    | true ↦ λ e. subst (λ n. erased_line (line_on (n ∷ bs) ++ rest) ≡ n ∷ (bs ++ erased rest)) (sym (eqb-true b 10 e)) (ap (λ l. 10 ∷ l) (bytes_left bs rest))
    | false ↦ λ e. ap (λ l. erased_line (l ++ rest)) (cond-false (eqb b 10) _ _ e) ∙ (cond-false (eqb b 10) _ _ e ∙ ap (λ l. b ∷ l) (line_left bs rest))
  ]) refl

-- ## Calls

next_left : (name rest : List ℕ) → All (λ b. b ≢ 10) name → erased_next (name ++ 10 ∷ rest) ≡ erased rest
next_left [] rest h = refl
next_left (b ∷ bs) rest h =
    let other : eqb b 10 ≡ false = false_from_ne_true (eqb b 10) (λ e. All-head (λ n. n ≢ 10) b bs h (eqb-true b 10 e)) in
    cond-false (eqb b 10) _ _ other ∙ next_left bs rest (All-tail (λ n. n ≢ 10) b bs h)

name_left : (name rest : List ℕ) → All (λ b. b ≢ 10) name → erased_next ((name ++ codes "\n") ++ rest) ≡ erased rest
name_left name rest h = ap erased_next (append_assoc name (codes "\n") rest) ∙ next_left name rest h

-- ## Entries

-- the bytes of an entry
abbrev bytes_in : Entry → List ℕ
bytes_in (Wrote bytes) = bytes
bytes_in e = []

abbrev all_bytes : List Entry → List ℕ
all_bytes [] = []
all_bytes (e ∷ es) = bytes_in e ++ all_bytes es

bytes_append : (es fs : List Entry) → all_bytes (es ++ fs) ≡ all_bytes es ++ all_bytes fs
bytes_append [] fs = refl
bytes_append (e ∷ es) fs = ap (λ l. bytes_in e ++ l) (bytes_append es fs) ∙ sym (append_assoc (bytes_in e) (all_bytes es) (all_bytes fs))

module _ (names : List (List ℕ)) (plain_names : HaveNoNewline names) where
  entry_left : (e : Entry) (rest : List ℕ) → erased (lines_of names e ++ rest) ≡ bytes_in e ++ erased rest
  entry_left (Wrote bytes) rest = bytes_left bytes rest
  entry_left (Asks pred) rest = name_left (get_or names pred []) rest (plain_names pred)
  entry_left (Answers pred) rest = name_left (get_or names pred []) rest (plain_names pred)
  entry_left (Retries pred) rest = name_left (get_or names pred []) rest (plain_names pred)
  entry_left (Fails pred) rest = name_left (get_or names pred []) rest (plain_names pred)

  entries_left : (es : List Entry) → erased (flat_map (lines_of names) es) ≡ all_bytes es
  entries_left [] = refl
  entries_left (e ∷ es) = entry_left e (flat_map (lines_of names) es) ∙ ap (λ l. bytes_in e ++ l) (entries_left es)

  entries_render : (m : Met) (es : List Event) → all_bytes (entries m es) ≡ render_from m (prints es)
  entries_render m [] = refl
  entries_render m (Prints (Piece bytes) ∷ es) = ap (λ l. written m (Piece bytes) ++ l) (entries_render (met_behind m (Piece bytes)) es)
  entries_render m (Prints (GapOf kind) ∷ es) = entries_render (met_behind m (GapOf kind)) es
  entries_render m (Prints (SpacesOf n) ∷ es) = entries_render (met_behind m (SpacesOf n)) es
  entries_render m (Asked pred ∷ es) = entries_render m es
  entries_render m (Answered pred ∷ es) = entries_render m es
  entries_render m (Retried pred ∷ es) = entries_render m es
  entries_render m (HasFailed pred ∷ es) = entries_render m es

  closing_bytes : (es : List Event) (line : Option (List ℕ)) → all_bytes (entries nothing_met es) ++ all_bytes (closing_entries es line) ≡ plain es line
  unfolding render
  closing_bytes es None = append-nil (all_bytes (entries nothing_met es)) ∙ entries_render nothing_met es
  closing_bytes es (Some line) = ap (λ l. all_bytes (entries nothing_met es) ++ l) (append-nil (ending_line (prints es) line)) ∙ ap (λ l. l ++ ending_line (prints es) line) (entries_render nothing_met es)

  pub erases : (es : List Event) (line : Option (List ℕ)) → erased (as_lines names es line) ≡ plain es line
  erases es line = entries_left (entries nothing_met es ++ closing_entries es line) ∙ bytes_append (entries nothing_met es) (closing_entries es line) ∙ closing_bytes es line
