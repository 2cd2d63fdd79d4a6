-- The table of a program's words is one in which words are looked up.
use Rattle.std.proofs.Common.{◌≡◌, ℕ, zero, suc, ◌+◌, ◌*◌, ◌/◌, ◌%◌, ◌<◌, ◌≤◌, List, [], ◌∷◌, ◌++◌, take, length, get_or, ap, ◌∙◌, subst, arith}
use Rattle.std.specs.List.{sum_by}
use Rattle.std.proofs.lemmas.List.{take_all}
use Rattle.std.proofs.lemmas.List.Sums.{sum_by-cons}
use Rattle.std.proofs.lemmas.Option.{slice_get-get_or}
use Rattle.z_lang.specs.State.{Program}
use Rattle.z_lang.specs.Standing.{IsKept}
use Rattle.dg_rt.specs.Dictionary.{spelling_at, BytesStand, HasSpellings}
use Rattle.dg_rt.specs.Words.{two_bytes, word_starts, spellings, BytesFrom, HasWords}
use Rattle.dg_rt.proofs.Characters.{bytes_front, bytes_back, reads_byte, reads_word}
use Rattle.dg_rt.proofs.Following.{word}
use Rattle.dg_rt.proofs.WordTable.{begins, Found, find}
use Rattle.dg_fits.specs.Sizes.{words_size}

starts_long : (at : ℕ) (words : List (List ℕ)) → length (word_starts at words) ≡ 2 * length words
starts_long at [] = omega arith
starts_long at (w ∷ ws) = omega (arith, starts_long (at + length w + 1) ws)

-- where a spelling begins
begins_is : (at : ℕ) (words : List (List ℕ)) (n : ℕ) → n < length words → begins at words n ≡ at + sum_by length (take n words) + n
unfolding begins
begins_is at [] n lt = absurd (omega arith)
begins_is at (w ∷ ws) zero lt = omega arith
begins_is at (w ∷ ws) (suc n) lt = omega (arith, begins_is (at + length w + 1) ws n (omega arith), sum_by-cons length w (take n ws))

module _ (p : Program) (story : List ℕ) (words : List (List ℕ)) (h : HasWords p story words) where
  abbrev t : ℕ
  t = p.names.table 1

  abbrev first : ℕ
  first = 2 + 2 * length words

  abbrev Kept : List ℕ → Type 0
  Kept m = IsKept p.world.layout.base story m

  behind : (m : List ℕ) → Kept m → BytesFrom p m (t + 2) (word_starts first words ++ spellings words)
  behind m kept = bytes_back p m t (t + 2) (two_bytes (length words)) (word_starts first words ++ spellings words) (omega arith) (h.told m kept)

  found : (n : ℕ) → n < length words → (m : List ℕ) → Kept m → Found p m t (t + 2) n (begins first words n) (get_or words n [])
  found n lt m kept =
      find p words n (get_or words n []) m t (t + 2) first (slice_get-get_or words n [] lt)
      (bytes_front p m (t + 2) (word_starts first words) (spellings words) (behind m kept))
      (bytes_back p m (t + 2) (t + first) (word_starts first words) (spellings words) (omega (arith, starts_long first words)) (behind m kept))

  bytes_stand : (x : ℕ) (bs : List ℕ) → ((m : List ℕ) → Kept m → BytesFrom p m (t + x) bs) → BytesStand p story x bs
  bytes_stand x [] there = tt
  bytes_stand x (b ∷ bs) there =
      let next : suc (t + x) ≡ t + suc x = omega arith in (
        λ m kept. reads_byte p m t x (t + x) b (omega arith) (there m kept).0,
        bytes_stand (suc x) bs (λ m kept. subst (λ (i : ℕ). BytesFrom p m i bs) next (there m kept).1),
      )

  pub spellings_stand : length words ≤ 8192 → spelling_at words (length words) < 32768 → HasSpellings p story words
  spellings_stand few small = record {
    few = few;
    small = small;
    names = λ n lt. h.names n [] lt;
    many = λ m kept.
        let n = length words in
        let is : 256 * (n / 256) + n % 256 ≡ n = omega arith in
        reads_word p m t 0 t (n / 256) (n % 256) (omega arith) (bytes_front p m t (two_bytes n) (word_starts first words ++ spellings words) (h.told m kept)) ∙ ap word is;
    begins = λ n lt m kept.
        let o = begins first words n in
        let at : o ≡ spelling_at words n = begins_is first words n lt ∙ (omega arith) in
        let is : 256 * (o / 256) + o % 256 ≡ o = omega arith in
        reads_word p m t (suc n) (t + 2 + 2 * n) (o / 256) (o % 256) (omega arith) (found n lt m kept).start ∙ ap word is ∙ ap word at;
    bytes = λ n lt.
        let at : begins first words n ≡ spelling_at words n = begins_is first words n lt ∙ (omega arith) in
        bytes_stand (spelling_at words n) (get_or words n [] ++ 0 ∷ [])
        (λ m kept. subst (λ (o : ℕ). BytesFrom p m (t + o) (get_or words n [] ++ 0 ∷ [])) at (found n lt m kept).spelled);
  }

-- words that fit are few, and so are the bytes of their table
sized : (words : List (List ℕ)) → sum_by length words + 3 * length words ≡ words_size words
sized [] = omega arith
sized (w ∷ ws) = omega (arith, sized ws, sum_by-cons length w ws)

pub spelled_within : (words : List (List ℕ)) → words_size words ≤ 20000 → (length words ≤ 8192) × (spelling_at words (length words) < 32768)
spelled_within words fits =
    let all = ap (λ (ws : List (List ℕ)). sum_by length ws) (take_all (length words) words (omega arith)) in
    let s = sized words in
    (omega arith, omega arith)
