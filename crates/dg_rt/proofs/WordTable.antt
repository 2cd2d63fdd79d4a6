-- Where the spelling of a word stands in the table of words.
use Rattle.std.proofs.Common.{◌≡◌, ℕ, zero, suc, ◌+◌, ◌*◌, List, [], ◌∷◌, ◌++◌, length, Some, sym, subst, arith, append_assoc, length-append}
use Rattle.std.specs.Prelude.{slice_get}
use Rattle.z_lang.specs.State.{Program}
use Rattle.dg_rt.specs.Words.{two_bytes, word_starts, spellings, BytesFrom}
use Rattle.dg_rt.proofs.Characters.{bytes_front, bytes_back}

-- where the spelling of a word begins, the first at a place
unfoldable pub begins : ℕ → List (List ℕ) → ℕ → ℕ
begins at [] n = at
begins at (w ∷ ws) zero = at
begins at (w ∷ ws) (suc n) = begins (at + length w + 1) ws n

module _ (p : Program) where
  pub record Found (m : List ℕ) (t u n o : ℕ) (text : List ℕ) : Type 0 where
    pub start : BytesFrom p m (u + 2 * n) (two_bytes o)
    pub spelled : BytesFrom p m (t + o) (text ++ 0 ∷ [])

  pub find : (words : List (List ℕ)) (n : ℕ) (text : List ℕ) (m : List ℕ) (t u at : ℕ) → slice_get words n ≡ Some text → BytesFrom p m u (word_starts at words) → BytesFrom p m (t + at) (spellings words) → Found m t u n (begins at words n) text
  unfolding begins
  find [] n text m t u at e starts spelled = absurd (cc)
  find (w ∷ ws) zero text m t u at e starts spelled =
      let same : w ≡ text = cc in
      let whole = subst (BytesFrom p m (t + at)) (sym (append_assoc w (0 ∷ []) (spellings ws))) spelled in
      let at_u : u ≡ u + 2 * 0 = omega arith in
      record {
        start = subst (λ (i : ℕ). BytesFrom p m i (two_bytes at)) at_u (bytes_front p m u (two_bytes at) (word_starts (at + length w + 1) ws) starts);
        spelled = subst (λ (x : List ℕ). BytesFrom p m (t + at) (x ++ 0 ∷ [])) same (bytes_front p m (t + at) (w ++ 0 ∷ []) (spellings ws) whole);
      }
  find (w ∷ ws) (suc n) text m t u at e starts spelled =
      let rest = bytes_back p m (t + at) (t + (at + length w + 1)) (w ++ 0 ∷ []) (spellings ws) (omega (arith, length-append w (0 ∷ []))) (subst (BytesFrom p m (t + at)) (sym (append_assoc w (0 ∷ []) (spellings ws))) spelled) in
      let r = find ws n text m t (suc (suc u)) (at + length w + 1) e starts.1.1 rest in
      let same : suc (suc u) + 2 * n ≡ u + 2 * suc n = omega arith in
      record { start = subst (λ (i : ℕ). BytesFrom p m i (two_bytes (begins (at + length w + 1) ws n))) same r.start; spelled = r.spelled }
