-- The bytes of what is kept are written, place by place.
use Rattle.std.proofs.Common.{◌≡◌, ℕ, zero, suc, ◌+◌, ◌-◌, ◌*◌, ◌<◌, ◌≤◌, List, [], ◌∷◌, ◌++◌, length, map, drop, drop-cons, get_or, replicate, Option, Some, None, Bool, true, false, refl, sym, ap, ◌∙◌, subst, arith, append_assoc, append-nil, length-append}
use Rattle.std.specs.Prelude.{option_map, if◌then◌else◌}
use Rattle.std.proofs.lemmas.Bool.{leb-true}
use Rattle.std.proofs.lemmas.List.{length-replicate}
use Rattle.std.proofs.lemmas.List.Sums.{sum_by-cons}
use Rattle.std.specs.List.{slice_get}
use Rattle.dg_base.specs.declared.cells.Cell.{Cell}
use Rattle.dg_base.specs.declared.program.CoreProgram.{CoreProgram}
use Rattle.dg_base.specs.declared.program.Place.{Place}
use Rattle.dg_base.specs.declared.program.PlaceKind.{PlaceKind}
use Rattle.dg_base.specs.declared.program.PlaceKind.TheVariants.{Flag, ObjectFlag, ObjectVar, Parent, Global}
use Rattle.dg_meaning.specs.Facts.{Fact, value_at, kept_from, kept_size, kinds_of, start_facts}
use Rattle.dg_meaning.specs.Values.{Value}
use Rattle.dg_meaning.specs.ValueCells.{cells_of}
use Rattle.dg_rt.specs.Cells.{at_cell}
use Rattle.dg_rt.specs.Copies.{cell_word, words_of}
use Rattle.dg_rt.specs.Kept.{Block, total}
use Rattle.dg_turn.specs.Layout.{world_at, place_words, all_words}
use Rattle.dg_story.specs.Built.{word_bytes}
use Rattle.dg_story.specs.Kept.{variable_block, place_block, blocks_from, kept_words, owner_words, kept_areas, kept_facts, kept_blocks, keeps_within}
use Rattle.dg_story.specs.inside.Keeping.{kept_value, AreWords, KeepsWords}
use Rattle.dg_rt.proofs.Blocks.{words_long}
use Rattle.dg_story.proofs.Worlds.{word_bytes_append, word_bytes_long}
use Rattle.dg_story.proofs.KeptStart.{kept_long, owner_long, blocks_total}

pub word_zeros : (k : ℕ) → word_bytes (replicate k 0) ≡ replicate (2 * k) 0
word_zeros zero = refl
word_zeros (suc k) = let e : suc (suc (2 * k)) ≡ 2 * suc k = omega arith in ap (λ (l : List ℕ). 0 ∷ 0 ∷ l) (word_zeros k) ∙ ap (λ (n : ℕ). replicate n 0) e

both_zeros : (j k : ℕ) → ◌≡◌ {A = List ℕ} (replicate j 0 ++ replicate k 0) (replicate (j + k) 0)
both_zeros zero k = let e : k ≡ 0 + k = omega arith in ap (λ (n : ℕ). replicate {A = ℕ} n 0) e
both_zeros (suc j) k = let e : suc (j + k) ≡ suc j + k = omega arith in ap (λ (l : List ℕ). 0 ∷ l) (both_zeros j k) ∙ ap (λ (n : ℕ). replicate {A = ℕ} n 0) e

pub two_zeros : (k : ℕ) (old : List ℕ) (a b : ℕ) → ((old ++ a ∷ b ∷ []) ++ replicate k 0) ++ replicate k 0 ≡ old ++ a ∷ b ∷ word_bytes (replicate k 0)
two_zeros k old a b =
    let twice : k + k ≡ 2 * k = omega arith in
    append_assoc (old ++ a ∷ b ∷ []) (replicate k 0) (replicate k 0) ∙ append_assoc old (a ∷ b ∷ []) (replicate k 0 ++ replicate k 0)
    ∙ ap (λ (l : List ℕ). old ++ a ∷ b ∷ l) (both_zeros k k ∙ ap (λ (n : ℕ). replicate n 0) twice ∙ sym (word_zeros k))

kept_append : (bs cs : List Block) → kept_words (bs ++ cs) ≡ kept_words bs ++ kept_words cs
kept_append [] cs = refl
kept_append (b ∷ bs) cs = ap (λ (l : List ℕ). words_of b.value ++ l) (kept_append bs cs) ∙ sym (append_assoc (words_of b.value) (kept_words bs) (kept_words cs))

owner_append : (bs cs : List Block) → owner_words (bs ++ cs) ≡ owner_words bs ++ owner_words cs
owner_append [] cs = refl
owner_append (b ∷ bs) cs =
    let zeros = replicate (length (words_of b.value) - 1) 0 in
    ap (λ (l : List ℕ). at_cell b.entry ∷ (zeros ++ l)) (owner_append bs cs) ∙ ap (λ (l : List ℕ). at_cell b.entry ∷ l) (sym (append_assoc zeros (owner_words bs) (owner_words cs)))

-- The value that is kept of a place, as its block.
pub block_is : (facts : List Fact) (h place : ℕ) (kind : PlaceKind) → place_block facts h place kind ≡ variable_block (kept_value facts place kind) h
block_is facts h place Flag = refl
block_is facts h place ObjectFlag = refl
block_is facts h place ObjectVar = refl
block_is facts h place Parent = refl
block_is facts h place Global = refl

module _ (n : ℕ) (facts : List Fact) where
  next_blocks : (kinds : List PlaceKind) (h i : ℕ) (kind : PlaceKind) → i < length kinds → kind ≡ get_or kinds i kind → blocks_from n facts h i (drop i kinds) ≡ variable_block (kept_value facts i kind) h ++ blocks_from n facts (h + place_words n kind) (i + 1) (drop (i + 1) kinds)
  next_blocks kinds h i kind lt is =
      let next : suc i ≡ i + 1 = omega arith in
      ap (blocks_from n facts h i) (drop-cons kinds i kind lt ∙ ap (λ (k : PlaceKind). k ∷ drop (suc i) kinds) (sym is))
      ∙ ap (λ (l : List Block). l ++ blocks_from n facts (h + place_words n kind) (suc i) (drop (suc i) kinds)) (block_is facts h i kind)
      ∙ ap (λ (j : ℕ). variable_block (kept_value facts i kind) h ++ blocks_from n facts (h + place_words n kind) j (drop j kinds)) next

  -- What is written of a place, and what is written of those behind it.
  pub kept_next : (kinds : List PlaceKind) (h i : ℕ) (kind : PlaceKind) → i < length kinds → kind ≡ get_or kinds i kind → (old new : List ℕ) → new ≡ old ++ word_bytes (kept_words (variable_block (kept_value facts i kind) h)) →
      new ++ word_bytes (kept_words (blocks_from n facts (h + place_words n kind) (i + 1) (drop (i + 1) kinds))) ≡ old ++ word_bytes (kept_words (blocks_from n facts h i (drop i kinds)))
  kept_next kinds h i kind lt is old new e =
      let here = variable_block (kept_value facts i kind) h in
      let rest = blocks_from n facts (h + place_words n kind) (i + 1) (drop (i + 1) kinds) in
      ap (λ (l : List ℕ). l ++ word_bytes (kept_words rest)) e ∙ append_assoc old (word_bytes (kept_words here)) (word_bytes (kept_words rest))
      ∙ ap (λ (l : List ℕ). old ++ l) (sym (word_bytes_append (kept_words here) (kept_words rest)) ∙ ap word_bytes (sym (kept_append here rest)) ∙ ap (λ (l : List Block). word_bytes (kept_words l)) (sym (next_blocks kinds h i kind lt is)))

  pub owner_next : (kinds : List PlaceKind) (h i : ℕ) (kind : PlaceKind) → i < length kinds → kind ≡ get_or kinds i kind → (old new : List ℕ) → new ≡ old ++ word_bytes (owner_words (variable_block (kept_value facts i kind) h)) →
      new ++ word_bytes (owner_words (blocks_from n facts (h + place_words n kind) (i + 1) (drop (i + 1) kinds))) ≡ old ++ word_bytes (owner_words (blocks_from n facts h i (drop i kinds)))
  owner_next kinds h i kind lt is old new e =
      let here = variable_block (kept_value facts i kind) h in
      let rest = blocks_from n facts (h + place_words n kind) (i + 1) (drop (i + 1) kinds) in
      ap (λ (l : List ℕ). l ++ word_bytes (owner_words rest)) e ∙ append_assoc old (word_bytes (owner_words here)) (word_bytes (owner_words rest))
      ∙ ap (λ (l : List ℕ). old ++ l) (sym (word_bytes_append (owner_words here) (owner_words rest)) ∙ ap word_bytes (sym (owner_append here rest)) ∙ ap (λ (l : List Block). word_bytes (owner_words l)) (sym (next_blocks kinds h i kind lt is)))

-- ## One place

one_kept : (s : Option Value) (h : ℕ) (cells : List Cell) → option_map cells_of s ≡ Some cells → kept_words (variable_block s h) ≡ map cell_word cells
one_kept None h cells e = absurd (cc)
one_kept (Some v) h cells e = let same : cells_of v ≡ cells = cc in append-nil (words_of v) ∙ ap (map cell_word) same

one_owner : (s : Option Value) (h : ℕ) (cells : List Cell) → option_map cells_of s ≡ Some cells → owner_words (variable_block s h) ≡ at_cell h ∷ replicate (length cells - 1) 0
one_owner None h cells e = absurd (cc)
one_owner (Some v) h cells e =
    let same : cells_of v ≡ cells = cc in
    let long : length (words_of v) ≡ length cells = words_long v ∙ ap length same in
    ap (λ (l : List ℕ). at_cell h ∷ l) (append-nil (replicate (length (words_of v) - 1) 0)) ∙ ap (λ (k : ℕ). at_cell h ∷ replicate (k - 1) 0) long

pub some_kept : (s : Option Value) (h : ℕ) (cells : List Cell) (set : Option (List Cell)) → set ≡ Some cells → set ≡ option_map cells_of s → kept_words (variable_block s h) ≡ map cell_word cells
some_kept s h cells set is e = one_kept s h cells (sym e ∙ is)

pub some_owner : (s : Option Value) (h : ℕ) (cells : List Cell) (set : Option (List Cell)) → set ≡ Some cells → set ≡ option_map cells_of s → owner_words (variable_block s h) ≡ at_cell h ∷ replicate (length cells - 1) 0
some_owner s h cells set is e = one_owner s h cells (sym e ∙ is)

-- its words are words
pub some_words : (program : CoreProgram) → KeepsWords program → (place : ℕ) (kind : PlaceKind) → slice_get (kinds_of program) place ≡ Some kind → (cells : List Cell) (set : Option (List Cell)) → set ≡ Some cells → set ≡ option_map cells_of (kept_value (kept_facts program) place kind) → AreWords cells
some_words program small place Flag e cells set is q = absurd (cc)
some_words program small place ObjectFlag e cells set is q = absurd (cc)
some_words program small place ObjectVar e cells set is q = absurd (cc)
some_words program small place Parent e cells set is q = absurd (cc)
some_words program small place Global e cells set is q = by (value_at (kept_facts program) place 0) refl
  where
    by : (s : Option Value) → value_at (kept_facts program) place 0 ≡ s → AreWords cells
    by None z = (let r : option_map cells_of (value_at (kept_facts program) place 0) ≡ None = ap (option_map cells_of) z in absurd (cc))
    by (Some v) z = (let r : option_map cells_of (value_at (kept_facts program) place 0) ≡ Some (cells_of v) = ap (option_map cells_of) z in let same : cells_of v ≡ cells = cc in subst AreWords same (small place e v z))

-- ## All places

abbrev kinds_in : List Place → List PlaceKind
kinds_in places = map (λ (place : Place). place.kind) places

kind_at : (places : List Place) (i : ℕ) (place : Place) → i < length places → place ≡ get_or places i place → (place.kind ≡ get_or (kinds_in places) i place.kind) × (i < length (kinds_in places))
kind_at [] i place lt is = absurd (omega arith)
kind_at (p ∷ ps) zero place lt is = (ap (λ (q : Place). q.kind) is, omega arith)
kind_at (p ∷ ps) (suc i) place lt is = let r = kind_at ps i place (omega arith) is in (r.0, omega (arith, r.1))

pub kind_there : (places rows : List Place) → rows ≡ places → (i : ℕ) (place : Place) → i < length rows → place ≡ get_or rows i place → (place.kind ≡ get_or (kinds_in places) i place.kind) × (i < length (kinds_in places))
kind_there places rows same i place lt is = kind_at places i place (subst (λ (l : List Place). i < length l) same lt) (subst (λ (l : List Place). place ≡ get_or l i place) same is)

pub width : (n : ℕ) (kinds : List PlaceKind) (i : ℕ) (kind : PlaceKind) → i < length kinds → kind ≡ get_or kinds i kind → all_words n (drop i kinds) ≡ place_words n kind + all_words n (drop (i + 1) kinds)
width n kinds i kind lt is =
    let next : suc i ≡ i + 1 = omega arith in
    ap (all_words n) (drop-cons kinds i kind lt ∙ ap (λ (k : PlaceKind). k ∷ drop (suc i) kinds) (sym is)) ∙ sum_by-cons (place_words n) kind (drop (suc i) kinds) ∙ ap (λ (j : ℕ). place_words n kind + all_words n (drop j kinds)) next

-- ## The areas

-- Bytes that are written one behind another.
pub six : (a b c d e f : List ℕ) → (((((([] ++ a) ++ b) ++ c) ++ d) ++ e) ++ f) ≡ a ++ (((b ++ c) ++ (d ++ e)) ++ f)
six a b c d e f =
    ap (λ (l : List ℕ). l ++ f) (ap (λ (l : List ℕ). l ++ e) (ap (λ (l : List ℕ). l ++ d) (append_assoc a b c) ∙ append_assoc a (b ++ c) d) ∙ append_assoc a ((b ++ c) ++ d) e ∙ ap (λ (l : List ℕ). a ++ l) (append_assoc (b ++ c) d e))
    ∙ append_assoc a ((b ++ c) ++ (d ++ e)) f

-- The bytes of what is kept, filled up.
pub areas_bytes : (bs : List Block) (left : ℕ) (ws os : List ℕ) → ws ≡ word_bytes (kept_words bs) → os ≡ word_bytes (owner_words bs) → left ≡ 1000 - length ws → (ws ++ replicate left 0) ++ (os ++ replicate left 0) ≡ word_bytes (kept_areas bs)
areas_bytes bs left ws os e f l =
    let filler : List ℕ = replicate (500 - total bs) 0 in
    let long : length ws ≡ 2 * total bs = ap length e ∙ word_bytes_long (kept_words bs) ∙ ap (λ (k : ℕ). 2 * k) (kept_long bs) in
    let many : left ≡ 2 * (500 - total bs) = omega arith in
    let zeros : replicate left 0 ≡ word_bytes filler = ap (λ (k : ℕ). replicate {A = ℕ} k 0) many ∙ sym (word_zeros (500 - total bs)) in
    ap (λ (z : List ℕ). (ws ++ z) ++ (os ++ z)) zeros
    ∙ ap (λ (x : List ℕ). (x ++ word_bytes filler) ++ (os ++ word_bytes filler)) e
    ∙ ap (λ (x : List ℕ). (word_bytes (kept_words bs) ++ word_bytes filler) ++ (x ++ word_bytes filler)) f
    ∙ ap (λ (x : List ℕ). x ++ (word_bytes (owner_words bs) ++ word_bytes filler)) (sym (word_bytes_append (kept_words bs) filler))
    ∙ ap (λ (x : List ℕ). word_bytes (kept_words bs ++ filler) ++ x) (sym (word_bytes_append (owner_words bs) filler))
    ∙ sym (word_bytes_append (kept_words bs ++ filler) (owner_words bs ++ filler))

-- ## So much is kept

nothing_kept : (place : ℕ) (kinds : List PlaceKind) → kept_from place kinds [] ≡ 0
nothing_kept place [] = refl
nothing_kept place (Flag ∷ kinds) = omega (arith, nothing_kept (place + 1) kinds)
nothing_kept place (ObjectFlag ∷ kinds) = omega (arith, nothing_kept (place + 1) kinds)
nothing_kept place (ObjectVar ∷ kinds) = omega (arith, nothing_kept (place + 1) kinds)
nothing_kept place (Parent ∷ kinds) = omega (arith, nothing_kept (place + 1) kinds)
nothing_kept place (Global ∷ kinds) = omega (arith, nothing_kept (place + 1) kinds)

-- No more than the limit.
pub kept_within : (program : CoreProgram) → kept_size (kinds_of program) (kept_facts program) ≤ 500
kept_within program = by (keeps_within program) refl
  where
    by : (b : Bool) → keeps_within program ≡ b → kept_size (kinds_of program) (if b then start_facts program.places else []) ≤ 500
    by true e = leb-true (kept_size (kinds_of program) (start_facts program.places)) 500 e
    by false e = omega (arith, nothing_kept 0 (kinds_of program))

pub total_within : (program : CoreProgram) → total (kept_blocks program) ≤ 500
total_within program = omega (arith, blocks_total (length program.objects) (kept_facts program) world_at 0 (kinds_of program), kept_within program)

-- So many are its bytes, and as many those of what names its variables.
pub bytes_few : (program : CoreProgram) → length (word_bytes (kept_words (kept_blocks program))) ≤ 1000
bytes_few program = omega (arith, word_bytes_long (kept_words (kept_blocks program)), kept_long (kept_blocks program), total_within program)

pub bytes_same : (bs : List Block) → length (word_bytes (owner_words bs)) ≡ length (word_bytes (kept_words bs))
bytes_same bs = omega (arith, word_bytes_long (kept_words bs), kept_long bs, word_bytes_long (owner_words bs), owner_long bs)

-- So many words are the areas of both.
pub areas_long : (program : CoreProgram) → length (word_bytes (kept_areas (kept_blocks program))) ≡ 2000
areas_long program =
    let bs = kept_blocks program in
    let k = 500 - total bs in
    let filler : List ℕ = replicate k 0 in
    let long : length (kept_areas bs) ≡ 1000 = omega (
      arith,
      length-append (kept_words bs ++ filler) (owner_words bs ++ filler),
      length-append (kept_words bs) filler,
      length-append (owner_words bs) filler,
      kept_long bs,
      owner_long bs,
      length-replicate {A = ℕ} k 0,
      total_within program,
    ) in
    word_bytes_long (kept_areas bs) ∙ (omega (arith, long))
