-- The words of letters, from the last on.
use Rattle.std.proofs.Common.{◌≡◌, ℕ, suc, ◌+◌, ◌-◌, ◌<◌, ◌≤◌, List, [], ◌∷◌, ◌++◌, Bool, true, false, refl, sym, ap, ◌∙◌, arith, length, take, drop, append_assoc, append-nil}
use Rattle.std.specs.Prelude.{eqb, ◌||◌, if◌then◌else◌, slice_index}
use Rattle.std.proofs.lemmas.List.{take_more, length-append}
use Rattle.std.proofs.Math.Seq.{take-add, drop-cons, length-take-le}
use Rattle.dg_meaning.specs.Words.{is_alone, if_spelled, spellings_behind, spellings_of}
use Rattle.dg_words.specs.Cutting.{between, words_before}

-- ## Letters behind others

-- a space, or a word of its own
abbrev pub Separates : ℕ → Type 0
Separates c = (eqb c 32 || is_alone c) ≡ true

-- these begin no further letter of a word
abbrev Opens : List ℕ → Type 0
Opens ys = (begun : List ℕ) → spellings_behind begun ys ≡ if_spelled begun ++ spellings_of ys

by_separator : (space alone : Bool) (c : ℕ) (begun ys : List ℕ) → (space || alone) ≡ true → (if space then if_spelled begun ++ spellings_behind [] ys else if alone then if_spelled begun ++ (c ∷ []) ∷ spellings_behind [] ys else spellings_behind (begun ++ c ∷ []) ys) ≡ if_spelled begun ++ (if space then spellings_behind [] ys else if alone then (c ∷ []) ∷ spellings_behind [] ys else spellings_behind (c ∷ []) ys)
by_separator true alone c begun ys h = refl
by_separator false true c begun ys h = refl
by_separator false false c begun ys h = absurd (cc h)

opens : (c : ℕ) (ys : List ℕ) → Separates c → Opens (c ∷ ys)
opens c ys h begun = by_separator (eqb c 32) (is_alone c) c begun ys h

by_letter : (space alone : Bool) (c : ℕ) (begun xs zs : List ℕ) (words : List (List ℕ)) → spellings_behind [] zs ≡ spellings_behind [] xs ++ words → spellings_behind (begun ++ c ∷ []) zs ≡ spellings_behind (begun ++ c ∷ []) xs ++ words →
    (if space then if_spelled begun ++ spellings_behind [] zs else if alone then if_spelled begun ++ (c ∷ []) ∷ spellings_behind [] zs else spellings_behind (begun ++ c ∷ []) zs) ≡ (if space then if_spelled begun ++ spellings_behind [] xs else if alone then if_spelled begun ++ (c ∷ []) ∷ spellings_behind [] xs else spellings_behind (begun ++ c ∷ []) xs) ++ words
by_letter true alone c begun xs zs words rest on = ap (λ l. if_spelled begun ++ l) rest ∙ sym (append_assoc (if_spelled begun) (spellings_behind [] xs) words)
by_letter false true c begun xs zs words rest on = ap (λ l. if_spelled begun ++ (c ∷ []) ∷ l) rest ∙ sym (append_assoc (if_spelled begun) ((c ∷ []) ∷ spellings_behind [] xs) words)
by_letter false false c begun xs zs words rest on = on

behind_all : (xs ys : List ℕ) → Opens ys → (begun : List ℕ) → spellings_behind begun (xs ++ ys) ≡ spellings_behind begun xs ++ spellings_of ys
behind_all [] ys o begun = o begun
behind_all (x ∷ xs) ys o begun = by_letter (eqb x 32) (is_alone x) x begun xs (xs ++ ys) (spellings_of ys) (behind_all xs ys o []) (behind_all xs ys o (begun ++ x ∷ []))

-- ## The last letter

by_space : (space : Bool) (c : ℕ) → space ≡ true → (if space then spellings_behind [] [] else if is_alone c then (c ∷ []) ∷ spellings_behind [] [] else spellings_behind (c ∷ []) []) ≡ []
by_space true c h = refl
by_space false c h = absurd (cc h)

space_separates : (c : ℕ) → eqb c 32 ≡ true → Separates c
space_separates c h = ap (λ b. b || is_alone c) h

-- a space at the end
pub space_last : (xs : List ℕ) (c : ℕ) → eqb c 32 ≡ true → spellings_of (xs ++ c ∷ []) ≡ spellings_of xs
space_last xs c h = behind_all xs (c ∷ []) (opens c [] (space_separates c h)) [] ∙ ap (λ l. spellings_of xs ++ l) (by_space (eqb c 32) c h) ∙ append-nil (spellings_of xs)

by_alone : (space alone : Bool) (c : ℕ) → space ≡ false → alone ≡ true → (if space then spellings_behind [] [] else if alone then (c ∷ []) ∷ spellings_behind [] [] else spellings_behind (c ∷ []) []) ≡ (c ∷ []) ∷ []
by_alone true alone c plain h = absurd (cc plain)
by_alone false true c plain h = refl
by_alone false false c plain h = absurd (cc h)

alone_separates : (c : ℕ) → eqb c 32 ≡ false → is_alone c ≡ true → Separates c
alone_separates c plain h = ap (λ b. b || is_alone c) plain ∙ h

-- a word of its own at the end
alone_last : (xs : List ℕ) (c : ℕ) → eqb c 32 ≡ false → is_alone c ≡ true → spellings_of (xs ++ c ∷ []) ≡ spellings_of xs ++ (c ∷ []) ∷ []
alone_last xs c plain h = behind_all xs (c ∷ []) (opens c [] (alone_separates c plain h)) [] ∙ ap (λ l. spellings_of xs ++ l) (by_alone (eqb c 32) (is_alone c) c plain h)

-- ## A word at the end

-- letters that separate nothing
abbrev pub ArePlain : List ℕ → Type 0
ArePlain [] = Unit {0}
ArePlain (c ∷ cs) = ((eqb c 32 || is_alone c) ≡ false) × ArePlain cs

by_plain : (space alone : Bool) (c : ℕ) (begun cs : List ℕ) → (space || alone) ≡ false → (if space then if_spelled begun ++ spellings_behind [] cs else if alone then if_spelled begun ++ (c ∷ []) ∷ spellings_behind [] cs else spellings_behind (begun ++ c ∷ []) cs) ≡ spellings_behind (begun ++ c ∷ []) cs
by_plain true alone c begun cs h = absurd (cc h)
by_plain false true c begun cs h = absurd (cc h)
by_plain false false c begun cs h = refl

plain_word : (w begun : List ℕ) → ArePlain w → spellings_behind begun w ≡ if_spelled (begun ++ w)
plain_word [] begun h = ap if_spelled (sym (append-nil begun))
plain_word (c ∷ cs) begun h = by_plain (eqb c 32) (is_alone c) c begun cs h.0 ∙ plain_word cs (begun ++ c ∷ []) h.1 ∙ ap if_spelled (append_assoc begun (c ∷ []) cs)

some_word : (w : List ℕ) → 0 < length w → ArePlain w → spellings_of w ≡ w ∷ []
some_word [] lt h = absurd (omega (arith, lt))
some_word (c ∷ cs) lt h = plain_word (c ∷ cs) [] h

by_first : (space alone : Bool) (c : ℕ) (w : List ℕ) → (space || alone) ≡ true → (if space then spellings_behind [] w else if alone then (c ∷ []) ∷ spellings_behind [] w else spellings_behind (c ∷ []) w) ≡ (if space then spellings_behind [] [] else if alone then (c ∷ []) ∷ spellings_behind [] [] else spellings_behind (c ∷ []) []) ++ spellings_of w
by_first true alone c w h = refl
by_first false true c w h = refl
by_first false false c w h = absurd (cc h)

word_last : (xs : List ℕ) (c : ℕ) (w : List ℕ) → Separates c → 0 < length w → ArePlain w → spellings_of ((xs ++ c ∷ []) ++ w) ≡ spellings_of (xs ++ c ∷ []) ++ w ∷ []
word_last xs c w h some plain =
    ap spellings_of (append_assoc xs (c ∷ []) w)
    ∙ behind_all xs (c ∷ w) (opens c w h) []
    ∙ ap (λ l. spellings_of xs ++ l) (by_first (eqb c 32) (is_alone c) c w h)
    ∙ sym (append_assoc (spellings_of xs) (spellings_of (c ∷ [])) (spellings_of w))
    ∙ ap (λ l. l ++ spellings_of w) (sym (behind_all xs (c ∷ []) (opens c [] h) []))
    ∙ ap (λ l. spellings_of (xs ++ c ∷ []) ++ l) (some_word w some plain)

-- ## Places of a line

module _ (line : List ℕ) where
  pub one_before : (to : ℕ) → 0 < to → to ≤ length line → take to line ≡ take (to - 1) line ++ slice_index line (to - 1) ∷ []
  one_before to some within = let e : to ≡ (to - 1) + 1 = omega (arith, some) in ap (λ n. take n line) e ∙ take_more line (to - 1) 0 (omega (arith, some, within))

  front_and : (from to : ℕ) → from < to → take to line ≡ take from line ++ between line from to
  front_and from to lt = let e : to ≡ from + (to - from) = omega (arith, lt) in ap (λ n. take n line) e ∙ take-add from (to - from) line

  pub between_more : (from to : ℕ) → 0 < from → from ≤ to → to ≤ length line → between line (from - 1) to ≡ slice_index line (from - 1) ∷ between line from to
  between_more from to some le within =
      let first : drop (from - 1) line ≡ slice_index line (from - 1) ∷ drop from line = drop-cons line (from - 1) 0 (omega (arith, some, le, within)) ∙ ap (λ n. slice_index line (from - 1) ∷ drop n line) (let e : suc (from - 1) ≡ from = omega (arith, some) in e) in
      let count : to - (from - 1) ≡ suc (to - from) = omega (arith, some, le) in
      ap (λ n. take n (drop (from - 1) line)) count ∙ ap (take (suc (to - from))) first

  -- one letter, or none
  pub between_one : (to : ℕ) → 0 < to → to ≤ length line → between line (to - 1) to ≡ slice_index line (to - 1) ∷ []
  between_one to some within = between_more to to some (omega arith) within ∙ ap (λ n. slice_index line (to - 1) ∷ take n (drop to line)) (let e : to - to ≡ 0 = omega arith in e)

  pub skips_one : (end to : ℕ) → 0 < to → to ≤ length line → words_before line end ≡ words_before line to → eqb (slice_index line (to - 1)) 32 ≡ true → words_before line end ≡ words_before line (to - 1)
  skips_one end to some within same space = same ∙ ap spellings_of (one_before to some within) ∙ space_last (take (to - 1) line) (slice_index line (to - 1)) space

  pub alone_words : (to : ℕ) → 0 < to → to ≤ length line → eqb (slice_index line (to - 1)) 32 ≡ false → is_alone (slice_index line (to - 1)) ≡ true → words_before line to ≡ words_before line (to - 1) ++ between line (to - 1) to ∷ []
  alone_words to some within plain h =
      ap spellings_of (one_before to some within) ∙ alone_last (take (to - 1) line) (slice_index line (to - 1)) plain h ∙ ap (λ w. words_before line (to - 1) ++ w ∷ []) (sym (between_one to some within))

  some_between : (from to : ℕ) → from < to → to ≤ length line → 0 < length (between line from to)
  some_between from to lt within = omega (arith, lt, within, ap length (front_and from to lt), length-append (take from line) (between line from to), length-take-le to line within, length-take-le from line (omega (arith, lt, within)))

  -- a word that begins behind what separates, or at the beginning of the line
  pub word_behind : (from to : ℕ) → from < to → to ≤ length line → 0 < from → Separates (slice_index line (from - 1)) → ArePlain (between line from to) → words_before line to ≡ words_before line from ++ between line from to ∷ []
  word_behind from to lt within some h plain =
      let w = between line from to in
      let front = one_before from some (omega (arith, lt, within)) in
      ap spellings_of (front_and from to lt ∙ ap (λ l. l ++ w) front)
      ∙ word_last (take (from - 1) line) (slice_index line (from - 1)) w h (some_between from to lt within) plain
      ∙ ap (λ l. spellings_of l ++ w ∷ []) (sym front)

  pub word_first : (from to : ℕ) → from < to → to ≤ length line → from ≡ 0 → ArePlain (between line from to) → words_before line to ≡ words_before line from ++ between line from to ∷ []
  word_first from to lt within none plain =
      let w = between line from to in
      let empty : take from line ≡ [] = ap (λ n. take n line) none in
      ap spellings_of (front_and from to lt ∙ ap (λ l. l ++ w) empty) ∙ some_word w (some_between from to lt within) plain ∙ ap (λ l. spellings_of l ++ w ∷ []) (sym empty)
