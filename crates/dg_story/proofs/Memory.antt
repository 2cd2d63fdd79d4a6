-- The memory of a built story begins with zeros and with what starts set, as far as it may be written.
use Rattle.std.proofs.Common.{◌≡◌, ℕ, zero, suc, ◌+◌, ◌-◌, ◌*◌, ◌<◌, ◌≤◌, List, [], ◌∷◌, ◌++◌, length, take, replicate, get_or, inl, inr, Bool, true, false, refl, sym, ap, ◌∙◌, arith, append_assoc, length-append}
use Rattle.std.specs.Prelude.{slice_index}
use Rattle.std.proofs.Math.Seq.{take-length}
use Rattle.std.proofs.lemmas.Bool.{cases_lt}
use Rattle.std.proofs.lemmas.List.{length-replicate}
use Rattle.dg_base.specs.declared.program.CoreProgram.{CoreProgram}
use Rattle.dg_mid.specs.declared.code.Code.{Code}
use Rattle.z_model.specs.Story.{memory_of}
use Rattle.z_code.specs.Targets.{label_from, ops_bytes}
use Rattle.z_asm.specs.declared.image.Image.{Image}
use Rattle.z_asm.specs.Story.{front_of, story_of, header_of, dictionary, image_names, code_start, first_ops, all_strings, image_routines, image_end}
use Rattle.z_asm.specs.Layout.{aligned, table_bytes}
use Rattle.z_story.specs.Parts.{image_of}
use Rattle.dg_rt.specs.Cells.{cell, Holds}
use Rattle.dg_story.specs.Built.{story_tables, site_words, story_parts, IsStoryOf}
use Rattle.dg_story.proofs.Mapped.{zeros, p, base_is, globals_are}
use Rattle.dg_story.proofs.Rows.{behind_front, in_front, there, are_words, from_kept, start_words, written_is, StartsFit, all_below}

-- all bytes are zeros
abbrev AreZeros : List ℕ → Type 0
AreZeros xs = (a : ℕ) → get_or xs a 0 ≡ 0

zeros_replicate : (n : ℕ) → AreZeros (replicate n 0)
zeros_replicate zero a = refl
zeros_replicate (suc n) zero = refl
zeros_replicate (suc n) (suc a) = zeros_replicate n a

zeros_append : (xs ys : List ℕ) → AreZeros xs → AreZeros ys → AreZeros (xs ++ ys)
zeros_append [] ys f g a = g a
zeros_append (x ∷ xs) ys f g zero = f 0
zeros_append (x ∷ xs) ys f g (suc a) = zeros_append xs ys (λ b. f (suc b)) g a

-- as far as zeros go
front_zero : (xs ys : List ℕ) → AreZeros xs → (a : ℕ) → a < length xs → get_or (xs ++ ys) a 0 ≡ 0
front_zero [] ys f a lt = absurd (omega arith)
front_zero (x ∷ xs) ys f zero lt = f 0
front_zero (x ∷ xs) ys f (suc a) lt = front_zero xs ys (λ b. f (suc b)) a (omega arith)

-- bytes in front of others
front_is : (xs ys : List ℕ) (a : ℕ) → a < length xs → get_or (xs ++ ys) a 0 ≡ get_or xs a 0
front_is [] ys a lt = absurd (omega arith)
front_is (x ∷ xs) ys zero lt = refl
front_is (x ∷ xs) ys (suc a) lt = front_is xs ys a (omega arith)

module _ (header bs others : List ℕ) (m n : ℕ) where
  abbrev written : List ℕ
  written = zeros m ++ (zeros n ++ bs)

  zeros_long : length (zeros m ++ zeros n) ≡ m + n
  zeros_long = omega (arith, length-append (zeros m) (zeros n), length-replicate {A = ℕ} m 0, length-replicate {A = ℕ} n 0)

  parted : written ++ others ≡ (zeros m ++ zeros n) ++ (bs ++ others)
  parted = ap (λ (l : List ℕ). l ++ others) (sym (append_assoc (zeros m) (zeros n) bs)) ∙ append_assoc (zeros m ++ zeros n) bs others

  -- zeros behind a header
  zeros_in : (a : ℕ) → a < m + n → get_or (header ++ (written ++ others)) (length header + a) 0 ≡ 0
  zeros_in a lt =
      behind_front header (written ++ others) a ∙ ap (λ (l : List ℕ). get_or l a 0) parted
      ∙ front_zero (zeros m ++ zeros n) (bs ++ others) (zeros_append (zeros m) (zeros n) (zeros_replicate m) (zeros_replicate n)) a (omega (arith, zeros_long))

  -- and what stands behind the zeros
  bytes_in : (a : ℕ) → a < length bs → get_or (header ++ (written ++ others)) (length header + (m + n + a)) 0 ≡ get_or bs a 0
  bytes_in a lt =
      let e : m + n + a ≡ length (zeros m ++ zeros n) + a = omega (arith, zeros_long) in
      behind_front header (written ++ others) (m + n + a) ∙ ap (λ (l : List ℕ). get_or l (m + n + a) 0) parted ∙ ap (λ (k : ℕ). get_or ((zeros m ++ zeros n) ++ (bs ++ others)) k 0) e
      ∙ behind_front (zeros m ++ zeros n) (bs ++ others) a ∙ front_is bs others a lt

  long_enough : length header + (m + n + length bs) ≤ length (header ++ (written ++ others))
  long_enough =
      omega (
        arith,
        length-append header (written ++ others),
        length-append written others,
        length-append (zeros m) (zeros n ++ bs),
        length-append (zeros n) bs,
        length-replicate {A = ℕ} m 0,
        length-replicate {A = ℕ} n 0,
      )

split : (a b c d : List ℕ) → (a ++ (b ++ c)) ++ d ≡ (a ++ b) ++ (c ++ d)
split a b c d = append_assoc a (b ++ c) d ∙ ap (λ (l : List ℕ). a ++ l) (append_assoc b c d) ∙ sym (append_assoc a b (c ++ d))

module _ (program : CoreProgram) (starts : StartsFit program) (code : Code) (keeps : Bool) (story : List ℕ) (is : IsStoryOf (story_parts program code keeps) story) (dice : List ℕ) where
  abbrev built : Image
  built = image_of (story_parts program code keeps)

  abbrev header : List ℕ
  header = header_of built

  header_long : length header ≡ 64
  header_long = refl

  pub memory_is : memory_of story ≡ story
  memory_is = ap (λ (n : ℕ). take n story) is.assembled.header.length ∙ take-length story

  abbrev behind : List ℕ
  behind = from_kept program (site_words code)

  -- what stands behind all that may be written
  abbrev others : List ℕ
  others =
      (table_bytes false (story_tables program code) ++ (dictionary ++ ops_bytes (image_names built) (label_from (code_start built) first_ops) (code_start built) first_ops))
      ++ (all_strings built ++ (image_routines built ++ replicate (aligned (image_end built) - image_end built) 0))

  abbrev told : List ℕ
  told = table_bytes false (story_tables program code) ++ (dictionary ++ ops_bytes (image_names built) (label_from (code_start built) first_ops) (code_start built) first_ops)

  story_is : story ≡ header ++ (((zeros 606) ++ ((zeros 28024) ++ behind)) ++ others)
  unfolding story_of
  story_is =
      is.bytes
      ∙ ap (λ (l : List ℕ). header ++ l)
      (split ((zeros 606)) (table_bytes true (story_tables program code)) told (all_strings built ++ (image_routines built ++ replicate (aligned (image_end built) - image_end built) 0))
      ∙ ap (λ (l : List ℕ). (zeros 606 ++ l) ++ others) (written_is program (zeros 28024) (site_words code)))

  -- a byte that may be written
  zero_is : (a : ℕ) → a < 28630 → get_or story (64 + a) 0 ≡ 0
  zero_is a lt =
      ap (λ (l : List ℕ). get_or l (64 + a) 0) story_is
      ∙ ap (λ (n : ℕ). get_or (header ++ (((zeros 606) ++ ((zeros 28024) ++ behind)) ++ others)) (n + a) 0) (sym header_long)
      ∙ zeros_in header behind others 606 28024 a (omega arith)

  byte_is : (a : ℕ) → a < length behind → get_or story (28694 + a) 0 ≡ get_or behind a 0
  byte_is a lt =
      let e : 28694 + a ≡ length header + (606 + 28024 + a) = omega (arith, header_long) in
      ap (λ (l : List ℕ). get_or l (28694 + a) 0) story_is
      ∙ ap (λ (n : ℕ). get_or (header ++ (((zeros 606) ++ ((zeros 28024) ++ behind)) ++ others)) n 0) e
      ∙ bytes_in header behind others 606 28024 a lt

  long : 28694 + length behind ≤ length story
  long = omega (arith, ap (λ (l : List ℕ). length l) story_is, long_enough header behind others 606 28024, header_long)

  at : (a : ℕ) → slice_index (memory_of story) a ≡ get_or story a 0
  at a = ap (λ (l : List ℕ). get_or l a 0) memory_is

  low_is : (k : ℕ) → k < 14315 → cell (memory_of story) k ≡ start_words program (site_words code) k
  low_is k lt =
      let e : 64 + 2 * k + 1 ≡ 64 + (2 * k + 1) = omega arith in
      let first : slice_index (memory_of story) (64 + 2 * k) ≡ 0 = at (64 + 2 * k) ∙ zero_is (2 * k) (omega arith) in
      let second : slice_index (memory_of story) (64 + 2 * k + 1) ≡ 0 = at (64 + 2 * k + 1) ∙ ap (λ (n : ℕ). get_or story n 0) e ∙ zero_is (2 * k + 1) (omega arith) in
      omega (arith, first, second, in_front 14315 behind (all_below program starts (site_words code)) k lt)

  high_is : (k : ℕ) → 14315 ≤ k → 2 * (k - 14315) + 1 < length behind → cell (memory_of story) k ≡ start_words program (site_words code) k
  high_is k le lt =
      let j = k - 14315 in
      let e : 64 + 2 * k ≡ 28694 + 2 * j = omega arith in
      let e' : 64 + 2 * k + 1 ≡ 28694 + (2 * j + 1) = omega arith in
      let first : slice_index (memory_of story) (64 + 2 * k) ≡ get_or behind (2 * j) 0 = at (64 + 2 * k) ∙ ap (λ (n : ℕ). get_or story n 0) e ∙ byte_is (2 * j) (omega arith) in
      let second : slice_index (memory_of story) (64 + 2 * k + 1) ≡ get_or behind (2 * j + 1) 0 = at (64 + 2 * k + 1) ∙ ap (λ (n : ℕ). get_or story n 0) e' ∙ byte_is (2 * j + 1) lt in
      omega (arith, first, second, there 14315 behind (all_below program starts (site_words code)) k le)

  -- What may be written has addresses.
  pub near : (p program code keeps story is dice).world.layout.base ≤ 65536
  near = elim (cases_lt 65536 (front_of built)) [
    | inl lt ↦ absurd (is.small (inr lt))
    | inr le ↦ (let base = base_is program code keeps story is dice in omega arith)
  ]

  -- At the start memory holds zeros, and the world.
  pub starts_holding : Holds (p program code keeps story is dice).world.layout (memory_of story) (start_words program (site_words code))
  starts_holding =
      let base = base_is program code keeps story is dice in
      record {
        globals = globals_are program code keeps story is dice;
        base = omega (arith, long, ap (λ (l : List ℕ). length l) memory_is);
        low = near;
        is = λ k within. elim (cases_lt k 14315) [
          | inl lt ↦ low_is k lt
          | inr le ↦ high_is k le (omega arith)
        ];
        words = are_words 14315 behind (all_below program starts (site_words code));
      }
