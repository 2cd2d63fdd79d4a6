-- What a line's letters spell is a value that can be laid on the heap, and no large one.
use Rattle.std.proofs.Common.{◌≡◌, ℕ, ◌+◌, ◌*◌, ◌≤◌, Bool, true, false, List, [], ◌∷◌, ◌++◌, length, map, refl, sym, ap, subst, arith, length-append}
use Rattle.std.specs.Prelude.{eqb}
use Rattle.dg_meaning.specs.Copies.{list_of, vars_in, copy_cells}
use Rattle.dg_meaning.specs.Unify.{size}
use Rattle.dg_meaning.specs.Values.{Value}
use Rattle.dg_meaning.specs.Words.{is_alone, if_spelled, spellings_behind, spellings_of, word_from, spelled_value, spelled_list}
use Rattle.dg_rt.specs.Copies.{words_of}
use Rattle.dg_rt.specs.Laying.{Formed}
use Rattle.dg_rt.specs.Shapes.{ArePrinted}
use Rattle.dg_rt.proofs.LineCells.{pair_words}
use Rattle.dg_rt.proofs.SpelledCells.{Numbered, a_number, no_number, numbered, Looked, a_word, unknown, looked, short_cells}

-- A value that can be laid, of at most so many cells of the heap, nodes and cells of a row.
pub record IsSmall (captures : ℕ → ℕ) (v : Value) (most nodes row : ℕ) : Type 0 where
  pub formed : Formed captures v
  pub free : vars_in v ≡ 0
  pub few_cells : copy_cells v ≤ most
  pub few_nodes : size v ≤ nodes
  pub short : length (words_of v) ≤ row

module _ (captures : ℕ → ℕ) (words : List (List ℕ)) (few : length words ≤ 8192) where
  abbrev IsOne : List ℕ → Value → Type 0
  IsOne letters v = IsSmall captures v (3 + 3 * length letters) 1 (1 + length letters)

  pub one_value : (letters : List ℕ) → ArePrinted letters → IsOne letters (spelled_value words letters)
  one_value letters fine = by_number (numbered letters) (short_cells words letters)
    where
      by_look : (v : Value) → length (words_of v) ≤ 1 + length letters → Looked letters v → IsOne letters v
      by_look v short (a_word n lt is) = subst (IsOne letters) (sym is) (record { formed = (lt, tt); free = refl; few_cells = omega arith; few_nodes = omega arith; short = omega arith })
      by_look v short (unknown is) = subst (IsOne letters) (sym is) (record { formed = (fine, tt); free = refl; few_cells = omega arith; few_nodes = omega arith; short = subst (λ (u : Value). length (words_of u) ≤ 1 + length letters) is short })

      by_number : Numbered letters → length (words_of (spelled_value words letters)) ≤ 1 + length letters → IsOne letters (spelled_value words letters)
      by_number (a_number n lt is value) short = subst (IsOne letters) (sym (value words)) (record { formed = (lt, tt); free = refl; few_cells = omega arith; few_nodes = omega arith; short = omega arith })
      by_number (no_number none value) short = subst (IsOne letters) (sym (value words)) (by_look (word_from 0 words letters) (subst (λ (u : Value). length (words_of u) ≤ 1 + length letters) (value words) short) (looked 0 words letters (omega arith)))

  abbrev IsMany : ℕ → List (List ℕ) → Type 0
  IsMany n spellings = IsSmall captures (list_of (map (spelled_value words) spellings)) (9 * n) (2 * n + 1) (3 * n + 1)

  -- one more in front
  in_front : (n : ℕ) (begun : List ℕ) (rest : List (List ℕ)) → ArePrinted begun → IsMany n rest → IsMany (length begun + n) (if_spelled begun ++ rest)
  in_front n [] rest fine r =
      let e : n ≡ 0 + n = omega arith in
      subst (λ (k : ℕ). IsMany k rest) e r
  in_front n (c ∷ cs) rest fine r =
      let one = one_value (c ∷ cs) fine in
      let v = spelled_value words (c ∷ cs) in
      let t = list_of (map (spelled_value words) rest) in
      let a1 = one.free in
      let a2 = r.free in
      let b1 = one.few_cells in
      let b2 = r.few_cells in
      let d1 = one.few_nodes in
      let d2 = r.few_nodes in
      let e1 = one.short in
      let e2 = r.short in
      let total = ap (λ (l : List ℕ). length l) (pair_words v t) in
      let sum = length-append (words_of v) (words_of t) in
      record { formed = (tt, (one.formed, (r.formed, tt))); free = omega arith; few_cells = omega arith; few_nodes = omega arith; short = omega arith }

  printed_on : (begun : List ℕ) (c : ℕ) (cs : List ℕ) → ArePrinted begun → ArePrinted (c ∷ cs) → ArePrinted (begun ++ c ∷ [])
  printed_on [] c cs fine fine' = (fine'.0, tt)
  printed_on (b ∷ bs) c cs fine fine' = (fine.0, printed_on bs c cs fine.1 fine')

  wider : (m n : ℕ) (spellings : List (List ℕ)) → m ≤ n → IsMany m spellings → IsMany n spellings
  wider m n spellings le r =
      let b = r.few_cells in
      let d = r.few_nodes in
      let e = r.short in
      record { formed = r.formed; free = r.free; few_cells = omega arith; few_nodes = omega arith; short = omega arith }

  by_tests : (begun : List ℕ) (c : ℕ) (cs : List ℕ) → ArePrinted begun → ArePrinted (c ∷ cs) → (space alone : Bool) → eqb c 32 ≡ space → is_alone c ≡ alone → IsMany (length cs) (spellings_behind [] cs) → IsMany (length (begun ++ c ∷ []) + length cs) (spellings_behind (begun ++ c ∷ []) cs) → IsMany (length begun + length (c ∷ cs)) (spellings_behind begun (c ∷ cs))
  by_tests begun c cs fine fine' true alone e1 e2 rest on = rw e1 (wider (length begun + length cs) (length begun + length (c ∷ cs)) (if_spelled begun ++ spellings_behind [] cs) (omega arith) (in_front (length cs) begun (spellings_behind [] cs) fine rest))
  by_tests begun c cs fine fine' false true e1 e2 rest on = rw (e1, e2) (wider (length begun + (1 + length cs)) (length begun + length (c ∷ cs)) (if_spelled begun ++ (c ∷ []) ∷ spellings_behind [] cs) (omega arith) (in_front (1 + length cs) begun ((c ∷ []) ∷ spellings_behind [] cs) fine (in_front (length cs) (c ∷ []) (spellings_behind [] cs) (fine'.0, tt) rest)))
  by_tests begun c cs fine fine' false false e1 e2 rest on =
      let size' = length-append begun (c ∷ []) in
      rw (e1, e2) (wider (length (begun ++ c ∷ []) + length cs) (length begun + length (c ∷ cs)) (spellings_behind (begun ++ c ∷ []) cs) (omega arith) on)

  behind : (begun cs : List ℕ) → ArePrinted begun → ArePrinted cs → IsMany (length begun + length cs) (spellings_behind begun cs)
  behind [] [] fine fine' = record { formed = (tt, tt); free = refl; few_cells = omega arith; few_nodes = omega arith; short = omega arith }
  behind (b ∷ bs) [] fine fine' = wider (length (b ∷ bs) + 0) (length (b ∷ bs) + 0) ((b ∷ bs) ∷ []) (omega arith) (in_front 0 (b ∷ bs) [] fine (record { formed = (tt, tt); free = refl; few_cells = omega arith; few_nodes = omega arith; short = omega arith }))
  behind begun (c ∷ cs) fine fine' = by_tests begun c cs fine fine' (eqb c 32) (is_alone c) refl refl (wider (0 + length cs) (length cs) (spellings_behind [] cs) (omega arith) (behind [] cs tt fine'.1)) (behind (begun ++ c ∷ []) cs (printed_on begun c cs fine fine') fine'.1)

  pub line_is_small : (letters : List ℕ) → ArePrinted letters → IsSmall captures (spelled_list words (spellings_of letters)) (9 * length letters) (2 * length letters + 1) (3 * length letters + 1)
  line_is_small letters fine = wider (0 + length letters) (length letters) (spellings_of letters) (omega arith) (behind [] letters tt fine)
