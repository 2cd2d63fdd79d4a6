-- The words of memory where a story starts: zeros, what global variables start with, and behind it what starts set in the world.
use Rattle.std.proofs.Common.{◌≡◌, ℕ, zero, suc, ◌+◌, ◌-◌, ◌/◌, ◌%◌, ◌*◌, ◌<◌, ◌≤◌, inl, inr, List, [], ◌∷◌, ◌++◌, length, replicate, get_or, Some, Bool, true, false, refl, sym, ap, ◌∙◌, subst, arith, append_assoc, length-append}
use Rattle.std.specs.Prelude.{nat_lt, is_some, ◌==◌, if◌then◌else◌}
use Rattle.std.specs.List.{slice_get}
use Rattle.std.proofs.lemmas.Bool.{cases_lt, cond-true, cond-false, lt-ltb, le-ltb, eq-eqb, ne_eqb, leb-true}
use Rattle.std.proofs.lemmas.List.{length-replicate}
use Rattle.dg_base.specs.declared.program.CoreProgram.{CoreProgram}
use Rattle.dg_base.specs.declared.program.PlaceKind.{PlaceKind}
use Rattle.dg_base.specs.declared.program.PlaceKind.TheVariants.{Flag, ObjectFlag, ObjectVar, Parent, Global}
use Rattle.dg_meaning.specs.Facts.{Fact, value_at, kept_at, kept_from, kept_size, start_facts, kinds_of}
use Rattle.dg_meaning.specs.Values.{Value}
use Rattle.dg_meaning.specs.ValueCells.{cells_of}
use Rattle.dg_rt.specs.Cells.{bit}
use Rattle.dg_rt.specs.Copies.{Row}
use Rattle.dg_rt.specs.Tables.{byte_at}
use Rattle.dg_turn.specs.Starts.{set_word, object_words, object_bytes, bytes_of_place, bytes_from, FitsPlace, AreSimple}
use Rattle.dg_turn.specs.Told.{told_count}
use Rattle.dg_turn.specs.World.{world_at, world_end, all_words, all_bytes, FactsIn}
use Rattle.dg_turn.proofs.ReadingTurn.{word_small}
use Rattle.dg_story.specs.Built.{word_bytes, world_table, zero_words}
use Rattle.dg_story.specs.Kept.{blocks_from, kept_areas, place_words_at, start_words_from, keeps_within, kept_facts, kept_blocks}
use Rattle.dg_story.specs.inside.Keeping.{AreWords, KeepsWords}
use Rattle.dg_story.proofs.Worlds.{word_bytes_long, flags_all_long}
use Rattle.dg_story.proofs.KeptStart.{start_words_long}
use Rattle.dg_story.proofs.KeptFactsLaid.{facts_stand}
use Rattle.dg_story.proofs.KeptValues.{IsFine}
use Rattle.dg_story.proofs.KeptBytes.{kept_within, areas_long}
use Rattle.dg_story.proofs.Below.{AreBelow, below_append, below_filled, below_or, bytes_below, blocks_below, variable_below}

-- ## Bytes

-- What stands behind others.
pub behind_front : (xs ys : List ℕ) (a : ℕ) → get_or (xs ++ ys) (length xs + a) 0 ≡ get_or ys a 0
behind_front [] ys a = let e : 0 + a ≡ a = omega arith in ap (λ (n : ℕ). get_or ys n 0) e
behind_front (x ∷ xs) ys a = let e : length (x ∷ xs) + a ≡ suc (length xs + a) = omega arith in ap (λ (n : ℕ). get_or (x ∷ (xs ++ ys)) n 0) e ∙ behind_front xs ys a

-- the two bytes of a word
quotient_is : (x a b : ℕ) → x ≡ 256 * a + b → b < 256 → x / 256 ≡ a
quotient_is x a b e lt = omega arith

remainder_is : (x a b : ℕ) → x ≡ 256 * a + b → b < 256 → x % 256 ≡ b
remainder_is x a b e lt = omega arith

-- ## Words

-- The word of two bytes, and a word of bytes that lie behind words that are zero.
abbrev pub word_in : List ℕ → ℕ → ℕ
word_in bytes j = 256 * get_or bytes (2 * j) 0 + get_or bytes (2 * j + 1) 0

abbrev pub words_behind : ℕ → List ℕ → ℕ → ℕ
words_behind at bytes k = if nat_lt k at then 0 else word_in bytes (k - at)

module _ (at : ℕ) (bytes : List ℕ) (small : AreBelow 256 bytes) where
  abbrev words : ℕ → ℕ
  words = words_behind at bytes

  pub in_front : (k : ℕ) → k < at → words k ≡ 0
  in_front k lt = cond-true (nat_lt k at) 0 (word_in bytes (k - at)) (lt-ltb k at lt)

  pub there : (k : ℕ) → at ≤ k → words k ≡ word_in bytes (k - at)
  there k le = cond-false (nat_lt k at) 0 (word_in bytes (k - at)) (le-ltb k at le)

  word_small_in : (j : ℕ) → word_in bytes j < 65536
  word_small_in j = let a = below_or 256 bytes (2 * j) (omega arith) small in let b = below_or 256 bytes (2 * j + 1) (omega arith) small in omega arith

  pub are_words : (k : ℕ) → words k < 65536
  are_words k = elim (cases_lt k at) [
    | inl lt ↦ let e = in_front k lt in omega arith
    | inr le ↦ let e = there k le in let s = word_small_in (k - at) in omega arith
  ]

  -- a word of these bytes
  here : (j : ℕ) → words (at + j) ≡ word_in bytes j
  here j = let e : at + j - at ≡ j = omega arith in there (at + j) (omega arith) ∙ ap (word_in bytes) e

  -- Words that are written in two bytes each stand in a row.
  pub row_words : (ws front back : List ℕ) (j : ℕ) → length front ≡ 2 * j → bytes ≡ front ++ (word_bytes ws ++ back) → AreBelow 65536 ws → Row words (at + j) ws
  row_words [] front back j long is few = tt
  row_words (w ∷ ws) front back j long is few =
      let rest = word_bytes ws ++ back in
      let a : get_or bytes (2 * j) 0 ≡ w / 256 = ap (λ (l : List ℕ). get_or l (2 * j) 0) is ∙ (let e : 2 * j ≡ length front + 0 = omega arith in ap (λ (k : ℕ). get_or (front ++ (w / 256 ∷ w % 256 ∷ rest)) k 0) e) ∙ behind_front front (w / 256 ∷ w % 256 ∷ rest) 0 in
      let b : get_or bytes (2 * j + 1) 0 ≡ w % 256 = ap (λ (l : List ℕ). get_or l (2 * j + 1) 0) is ∙ (let e : 2 * j + 1 ≡ length front + 1 = omega arith in ap (λ (k : ℕ). get_or (front ++ (w / 256 ∷ w % 256 ∷ rest)) k 0) e) ∙ behind_front front (w / 256 ∷ w % 256 ∷ rest) 1 in
      let value : word_in bytes j ≡ w = omega arith in
      let two : List ℕ = w / 256 ∷ w % 256 ∷ [] in
      let next : at + (j + 1) ≡ suc (at + j) = omega arith in
      let long' : length (front ++ two) ≡ 2 * (j + 1) = omega (arith, length-append front two) in
      (here j ∙ value, subst (λ (k : ℕ). Row words k ws) next (row_words ws (front ++ two) back (j + 1) long' (is ∙ sym (append_assoc front two rest)) few.1))

  -- a byte
  byte_is : (i : ℕ) → byte_at words (2 * at + i) ≡ get_or bytes i 0
  byte_is i =
      let half : (2 * at + i) / 2 ≡ at + i / 2 = omega arith in
      let x = words ((2 * at + i) / 2) in
      let first = get_or bytes (2 * (i / 2)) 0 in
      let second = get_or bytes (2 * (i / 2) + 1) 0 in
      let w : words ((2 * at + i) / 2) ≡ 256 * get_or bytes (2 * (i / 2)) 0 + get_or bytes (2 * (i / 2) + 1) 0 = ap words half ∙ here (i / 2) in
      let b = below_or 256 bytes (2 * (i / 2) + 1) (omega arith) small in
      elim (cases_lt 0 ((2 * at + i) % 2)) [
        | inl lt ↦ cond-false ((2 * at + i) % 2 == 0) (x / 256) (x % 256) (ne_eqb ((2 * at + i) % 2) 0 (λ (q : (2 * at + i) % 2 ≡ 0). (omega arith))) ∙ (remainder_is x first second w b ∙ ap (λ (k : ℕ). get_or bytes k 0) (let e : 2 * (i / 2) + 1 ≡ i = omega arith in e))
        | inr le ↦ cond-true ((2 * at + i) % 2 == 0) (x / 256) (x % 256) (eq-eqb ((2 * at + i) % 2) 0 (omega arith)) ∙ (quotient_is x first second w b ∙ ap (λ (k : ℕ). get_or bytes k 0) (let e : 2 * (i / 2) ≡ i = omega arith in e))
      ]

  -- Bytes stand in a row behind words.
  pub row_bytes : (ys front back : List ℕ) (i : ℕ) → length front ≡ i → bytes ≡ front ++ (ys ++ back) → Row (byte_at words) (2 * at + i) ys
  row_bytes [] front back i long is = tt
  row_bytes (y ∷ ys) front back i long is =
      let a : get_or bytes i 0 ≡ y = ap (λ (l : List ℕ). get_or l i 0) is ∙ (let e : i ≡ length front + 0 = omega arith in ap (λ (k : ℕ). get_or (front ++ (y ∷ (ys ++ back))) k 0) e) ∙ behind_front front (y ∷ (ys ++ back)) 0 in
      let one : List ℕ = y ∷ [] in
      let next : 2 * at + (i + 1) ≡ suc (2 * at + i) = omega arith in
      (byte_is i ∙ a, subst (λ (k : ℕ). Row (byte_at words) k ys) next (row_bytes ys (front ++ one) back (i + 1) (omega (arith, length-append front one)) (is ∙ sym (append_assoc front one (ys ++ back)))))

-- ## Words of zero

zeros_long : (k : ℕ) → length (zero_words k) ≡ 2 * k
zeros_long zero = refl
zeros_long (suc k) = omega (arith, zeros_long k)

zeros_only : (k a : ℕ) → get_or (zero_words k ++ []) a 0 ≡ 0
zeros_only zero a = refl
zeros_only (suc k) zero = refl
zeros_only (suc k) (suc zero) = refl
zeros_only (suc k) (suc (suc a)) = zeros_only k a

zeros_below : (k : ℕ) → AreBelow 256 (zero_words k)
zeros_below zero = tt
zeros_below (suc k) = ((omega arith), ((omega arith), zeros_below k))

-- ## The world

module _ (program : CoreProgram) where
  abbrev n : ℕ
  n = length program.objects

  abbrev facts : List Fact
  facts = start_facts program.places

  abbrev ks : List PlaceKind
  ks = kinds_of program

  abbrev kept : List ℕ
  kept = kept_areas (kept_blocks program)

  abbrev ws : List ℕ
  ws = start_words_from n facts (kept_facts program) 14315 0 ks

  abbrev flags : List ℕ
  flags = bytes_from n facts 0 ks

  abbrev filler : List ℕ
  filler = replicate (length flags % 2) 0

  -- What is kept, and the areas behind it.
  abbrev areas : List ℕ
  areas = word_bytes kept ++ replicate 1260 0

  -- What stands behind the zeros, and may be written: what is kept, the world, and so many words of zero.
  abbrev pub from_kept : ℕ → List ℕ
  from_kept k = areas ++ ((world_table program).bytes ++ (zero_words k ++ []))

  abbrev pub start_words : ℕ → ℕ → ℕ
  start_words k = words_behind 14315 (from_kept k)

  -- All that may be written behind the registers.
  pub written_is : (zeros : List ℕ) (k : ℕ) → (zeros ++ areas) ++ ((world_table program).bytes ++ (zero_words k ++ [])) ≡ zeros ++ from_kept k
  written_is zeros k = append_assoc zeros areas ((world_table program).bytes ++ (zero_words k ++ []))

  -- So many bytes are the areas.
  behind_long : length areas ≡ 3260
  behind_long = omega (arith, length-append (word_bytes kept) (replicate 1260 0), areas_long program, length-replicate {A = ℕ} 1260 0)

  -- So many bytes is the world.
  world_long : length (world_table program).bytes ≡ 2 * all_words n ks + all_bytes n ks + all_bytes n ks % 2
  world_long =
      let long = flags_all_long n facts 0 ks in
      let parity : length flags % 2 ≡ all_bytes n ks % 2 = ap (λ (k : ℕ). k % 2) long in
      omega (
        arith,
        length-append (word_bytes ws) (flags ++ filler),
        length-append flags filler,
        length-replicate {A = ℕ} (length flags % 2) 0,
        word_bytes_long ws,
        start_words_long n facts (kept_facts program) 14315 0 ks,
      )

  -- So many are they all.
  pub from_kept_long : (k : ℕ) → length (from_kept k) ≡ 3260 + (2 * all_words n ks + all_bytes n ks + all_bytes n ks % 2) + 2 * k
  from_kept_long k =
      omega (
        arith,
        length-append areas ((world_table program).bytes ++ (zero_words k ++ [])),
        length-append (world_table program).bytes (zero_words k ++ []),
        length-append (zero_words k) [],
        zeros_long k,
        world_long,
        behind_long,
      )

  -- Behind the world stand zeros.
  zero_at : (k i : ℕ) → 3260 + length (world_table program).bytes ≤ i → get_or (from_kept k) i 0 ≡ 0
  zero_at k i far =
      let world = (world_table program).bytes in
      let zeros = zero_words k ++ [] in
      let b = i - (3260 + length world) in
      let e : i ≡ length areas + (length world + b) = omega (arith, behind_long) in
      ap (λ (m : ℕ). get_or (from_kept k) m 0) e ∙ behind_front areas (world ++ zeros) (length world + b) ∙ behind_front world zeros b ∙ zeros_only k b

  pub zeros_behind : (k j : ℕ) → world_end program ≤ j → start_words k j ≡ 0
  zeros_behind k j le =
      let a = j - 14315 in
      let long = world_long in
      let first = zero_at k (2 * a) (omega arith) in
      let second = zero_at k (2 * a + 1) (omega arith) in
      cond-false (nat_lt j 14315) 0 (word_in (from_kept k) a) (le-ltb j 14315 (omega arith)) ∙ (omega (arith, first, second))

  -- What starts set fits its places, there is room for it, and the values of global variables are formed and have words.
  pub record StartsFit : Type 0 where
    pub fits : (place : ℕ) (kind : PlaceKind) → slice_get ks place ≡ Some kind → FitsPlace n facts place kind
    pub small : 2 * all_words n ks + all_bytes n ks ≤ 8000
    pub few : n ≤ 4096
    pub fine : (place : ℕ) → slice_get ks place ≡ Some Global → (v : Value) → value_at facts place 0 ≡ Some v → IsFine (told_count program) v

module _ (program : CoreProgram) (starts : StartsFit program) where
  pub keeps_words : KeepsWords program
  keeps_words place e v q = by (keeps_within program) q
    where
      by : (b : Bool) → value_at (if b then facts program else []) place 0 ≡ Some v → AreWords (cells_of v)
      by true z = (starts.fine place e v z).1
      by false z = absurd (cc)

  -- ---- words are words

  simple_small : (place o k : ℕ) → ((i : ℕ) → i < o + k → set_word (value_at (facts program) place i) < 65536) → AreBelow 65536 (object_words (facts program) place o k)
  simple_small place o zero f = tt
  simple_small place o (suc k) f = (f o (omega arith), simple_small place (suc o) k (λ i lt. f i (omega arith)))

  of_simple : (place k : ℕ) → AreSimple (facts program) place k → AreBelow 65536 (object_words (facts program) place 0 k)
  of_simple place k fits = simple_small place 0 k (λ i lt. word_small (set_word (value_at (facts program) place i)) (value_at (facts program) place i) (fits.each i (omega arith)))

  place_small : (j place : ℕ) (kind : PlaceKind) → j + kept_at (kept_facts program) place kind ≤ 14815 → FitsPlace (n program) (facts program) place kind → AreBelow 65536 (place_words_at (n program) (facts program) (kept_facts program) j place kind)
  place_small j place Flag le fits = of_simple place 1 fits
  place_small j place ObjectFlag le fits = tt
  place_small j place ObjectVar le fits = of_simple place (n program) fits
  place_small j place Parent le fits = of_simple place (n program) fits
  place_small j place Global le fits = variable_below (value_at (kept_facts program) place 0) j le

  all_small : (j from : ℕ) (kinds : List PlaceKind) → j + kept_from from kinds (kept_facts program) ≤ 14815 → ((i : ℕ) (kind : PlaceKind) → slice_get kinds i ≡ Some kind → FitsPlace (n program) (facts program) (from + i) kind) →
      AreBelow 65536 (start_words_from (n program) (facts program) (kept_facts program) j from kinds)
  all_small j from [] le fits = tt
  all_small j from (kind ∷ kinds) le fits =
      let e : from + 0 ≡ from = omega arith in
      let next : from + 1 ≡ suc from = omega arith in
      let here = kept_at (kept_facts program) from kind in
      let rest : kept_from (from + 1) kinds (kept_facts program) ≡ kept_from (suc from) kinds (kept_facts program) = ap (λ (i : ℕ). kept_from i kinds (kept_facts program)) next in
      below_append 65536 (place_words_at (n program) (facts program) (kept_facts program) j from kind) (start_words_from (n program) (facts program) (kept_facts program) (j + here) (suc from) kinds)
      (place_small j from kind (omega arith) (subst (λ (k : ℕ). FitsPlace (n program) (facts program) k kind) e (fits 0 kind refl)))
      (all_small (j + here) (suc from) kinds (omega arith) (λ i k is. subst (λ (m : ℕ). FitsPlace (n program) (facts program) m k) (let q : from + suc i ≡ suc from + i = omega arith in q) (fits (suc i) k is)))

  words_below : AreBelow 65536 (ws program)
  words_below =
      all_small 14315 0 (ks program) (omega (arith, kept_within program))
      (λ i kind is. subst (λ (j : ℕ). FitsPlace (n program) (facts program) j kind) (let q : i ≡ 0 + i = omega arith in q) (starts.fits i kind is))

  kept_below : AreBelow 65536 (kept program)
  kept_below = let room = starts.small in blocks_below (n program) (kept_facts program) world_at (ks program) (omega arith) keeps_words

  -- ---- bytes are bytes

  bit_small : (b : Bool) → bit b < 256
  bit_small true = omega arith
  bit_small false = omega arith

  object_flags_small : (place o k : ℕ) → AreBelow 256 (object_bytes (facts program) place o k)
  object_flags_small place o zero = tt
  object_flags_small place o (suc k) = (bit_small (is_some (value_at (facts program) place o)), object_flags_small place (suc o) k)

  place_flags_small : (place : ℕ) (kind : PlaceKind) → AreBelow 256 (bytes_of_place (n program) (facts program) place kind)
  place_flags_small place Flag = tt
  place_flags_small place ObjectFlag = object_flags_small place 0 (n program)
  place_flags_small place ObjectVar = tt
  place_flags_small place Parent = tt
  place_flags_small place Global = tt

  flags_below : (from : ℕ) (kinds : List PlaceKind) → AreBelow 256 (bytes_from (n program) (facts program) from kinds)
  flags_below from [] = tt
  flags_below from (kind ∷ kinds) = below_append 256 (bytes_of_place (n program) (facts program) from kind) (bytes_from (n program) (facts program) (suc from) kinds) (place_flags_small from kind) (flags_below (suc from) kinds)

  world_below : AreBelow 256 (world_table program).bytes
  world_below =
      below_append 256 (word_bytes (ws program)) (flags program ++ filler program) (bytes_below (ws program) words_below)
      (below_filled 256 (length (flags program) % 2) (flags program) (omega arith) (flags_below 0 (ks program)))

  pub all_below : (k : ℕ) → AreBelow 256 (from_kept program k)
  all_below k =
      below_append 256 (areas program) ((world_table program).bytes ++ (zero_words k ++ []))
      (below_filled 256 1260 (word_bytes (kept program)) (omega arith) (bytes_below (kept program) kept_below))
      (below_append 256 (world_table program).bytes (zero_words k ++ []) world_below (below_append 256 (zero_words k) [] (zeros_below k) tt))

  -- ---- what is kept stands, and the world

  module _ (k : ℕ) where
    abbrev after : List ℕ
    after = zero_words k ++ []

    kept_split : from_kept program k ≡ [] ++ (word_bytes (kept program) ++ (replicate 1260 0 ++ ((world_table program).bytes ++ after)))
    kept_split = append_assoc (word_bytes (kept program)) (replicate 1260 0) ((world_table program).bytes ++ after)

    words_split : from_kept program k ≡ areas program ++ (word_bytes (ws program) ++ ((flags program ++ filler program) ++ after))
    words_split = ap (λ (l : List ℕ). areas program ++ l) (append_assoc (word_bytes (ws program)) (flags program ++ filler program) after)

    flags_split : from_kept program k ≡ (areas program ++ word_bytes (ws program)) ++ (flags program ++ (filler program ++ after))
    flags_split =
        words_split ∙ sym (append_assoc (areas program) (word_bytes (ws program)) ((flags program ++ filler program) ++ after))
        ∙ ap (λ (l : List ℕ). (areas program ++ word_bytes (ws program)) ++ l) (append_assoc (flags program) (filler program) after)

    kept_in : Row (start_words program k) 14315 (kept program)
    kept_in =
        let at : 14315 + 0 ≡ 14315 = omega arith in
        subst (λ (j : ℕ). Row (start_words program k) j (kept program)) at
        (row_words 14315 (from_kept program k) (all_below k) (kept program) [] (replicate 1260 0 ++ ((world_table program).bytes ++ after)) 0 refl kept_split kept_below)

    words_in : Row (start_words program k) world_at (ws program)
    words_in =
        let at : 14315 + 1630 ≡ world_at = omega arith in
        let long : length (areas program) ≡ 2 * 1630 = omega (arith, behind_long program) in
        subst (λ (j : ℕ). Row (start_words program k) j (ws program)) at
        (row_words 14315 (from_kept program k) (all_below k) (ws program) (areas program) ((flags program ++ filler program) ++ after) 1630 long words_split words_below)

    flags_in : Row (byte_at (start_words program k)) (2 * (world_at + all_words (n program) (ks program))) (flags program)
    flags_in =
        let front = areas program ++ word_bytes (ws program) in
        let long : length front ≡ 3260 + 2 * all_words (n program) (ks program) = omega (
          arith,
          length-append (areas program) (word_bytes (ws program)),
          behind_long program,
          word_bytes_long (ws program),
          start_words_long (n program) (facts program) (kept_facts program) 14315 0 (ks program),
        ) in
        let at : 2 * 14315 + length front ≡ 2 * (world_at + all_words (n program) (ks program)) = omega (arith, long) in
        subst (λ (j : ℕ). Row (byte_at (start_words program k)) j (flags program)) at (row_bytes 14315 (from_kept program k) (all_below k) (flags program) front (filler program ++ after) (length front) refl flags_split)

    -- What starts set stands in memory where a story starts.
    pub facts_start : keeps_within program ≡ true → FactsIn program (facts program) (start_words program k)
    facts_start keeps =
        let same : kept_facts program ≡ facts program = cond-true (keeps_within program) (facts program) [] keeps in
        facts_stand program (facts program) (start_words program k) starts.fits flags_in (record {
          own = subst (λ (l : List Fact). Row (start_words program k) world_at (start_words_from (n program) (facts program) l 14315 0 (ks program))) same words_in;
          areas = subst (λ (l : List Fact). Row (start_words program k) 14315 (kept_areas (blocks_from (n program) l world_at 0 (ks program)))) same kept_in;
          few = leb-true (kept_size (ks program) (facts program)) 500 keeps;
          formed = λ place e v q. (starts.fine place e v q).0;
        })
