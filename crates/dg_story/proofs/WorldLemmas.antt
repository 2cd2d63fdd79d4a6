-- What starts set is written, object by object and place by place.
use Rattle.std.proofs.Common.{◌≡◌, ℕ, suc, ◌+◌, ◌-◌, ◌<◌, List, [], ◌∷◌, ◌++◌, length, map, drop, get_or, Option, Some, None, option_map, refl, sym, ap, ◌∙◌, subst, arith, append_assoc, length-drop}
use Rattle.std.proofs.Math.Seq.{drop-cons}
use Rattle.dg_base.specs.declared.cells.Cell.{Cell}
use Rattle.dg_base.specs.declared.program.Place.{Place}
use Rattle.dg_base.specs.declared.program.PlaceKind.{PlaceKind}
use Rattle.dg_base.specs.declared.program.PlaceKind.TheVariants.{Flag, ObjectFlag, ObjectVar, Parent, Global}
use Rattle.dg_meaning.specs.Facts.{Fact, value_at, size_of, kept_at, kept_from}
use Rattle.dg_meaning.specs.Values.{Value}
use Rattle.dg_meaning.specs.ValueCells.{cells_of}
use Rattle.dg_rt.specs.Cells.{at_cell}
use Rattle.dg_rt.proofs.Blocks.{words_long}
use Rattle.dg_story.specs.Built.{word_bytes, zero_words}
use Rattle.dg_story.specs.Kept.{variable_words}
use Rattle.dg_story.specs.inside.Keeping.{kept_value}
use Rattle.dg_story.specs.inside.World.{Starts, word_by, flag_by, words_by, flags_by, cells_words, cells_many, own_words, own_flags, laid_own, laid_words, world_flags}
use Rattle.dg_story.proofs.Worlds.{word_bytes_append}

pub words_next : (bytes old : List ℕ) (starts : Starts) (i n : ℕ) → i < n → bytes ≡ old ++ word_bytes (word_by starts i ∷ []) → bytes ++ word_bytes (words_by starts (i + 1) (n - (i + 1))) ≡ old ++ word_bytes (words_by starts i (n - i))
words_next bytes old starts i n lt e =
    let k = n - (i + 1) in
    let more : n - i ≡ suc k = omega arith in
    let next : i + 1 ≡ suc i = omega arith in
    ap (λ (l : List ℕ). l ++ word_bytes (words_by starts (i + 1) k)) e
    ∙ append_assoc old (word_bytes (word_by starts i ∷ [])) (word_bytes (words_by starts (i + 1) k))
    ∙ ap (λ (j : ℕ). old ++ word_bytes (word_by starts i ∷ words_by starts j k)) next
    ∙ ap (λ (j : ℕ). old ++ word_bytes (words_by starts i j)) (sym more)

pub flags_next : (bytes old : List ℕ) (starts : Starts) (i n : ℕ) → i < n → bytes ≡ old ++ flag_by starts i ∷ [] → bytes ++ flags_by starts (i + 1) (n - (i + 1)) ≡ old ++ flags_by starts i (n - i)
flags_next bytes old starts i n lt e =
    let k = n - (i + 1) in
    let more : n - i ≡ suc k = omega arith in
    let next : i + 1 ≡ suc i = omega arith in
    ap (λ (l : List ℕ). l ++ flags_by starts (i + 1) k) e
    ∙ append_assoc old (flag_by starts i ∷ []) (flags_by starts (i + 1) k)
    ∙ ap (λ (j : ℕ). old ++ flag_by starts i ∷ flags_by starts j k) next
    ∙ ap (λ (j : ℕ). old ++ flags_by starts i j) (sym more)

-- The words of a place are those of its cells, and they are as many as it keeps.
variable_is : (s : Option Value) (j : ℕ) → cells_words (option_map cells_of s) j ≡ variable_words s j
variable_is None j = refl
variable_is (Some v) j = ap (λ (k : ℕ). at_cell j ∷ k ∷ []) (sym (words_long v))

many_are : (s : Option Value) → cells_many (option_map cells_of s) ≡ size_of s
many_are None = refl
many_are (Some v) = refl

pub own_is : (objects : ℕ) (kept : List Fact) (j number : ℕ) (kind : PlaceKind) (starts : Starts) (cells : Option (List Cell)) → cells ≡ option_map cells_of (kept_value kept number kind) → own_words objects cells j kind starts ≡ laid_own objects kept j number kind starts
own_is objects kept j number Flag starts cells e = refl
own_is objects kept j number ObjectFlag starts cells e = refl
own_is objects kept j number ObjectVar starts cells e = refl
own_is objects kept j number Parent starts cells e = refl
own_is objects kept j number Global starts cells e = ap (λ (c : Option (List Cell)). cells_words c j) e ∙ variable_is (value_at kept number 0) j

pub many_is : (kept : List Fact) (number : ℕ) (kind : PlaceKind) (cells : Option (List Cell)) → cells ≡ option_map cells_of (kept_value kept number kind) → cells_many cells ≡ kept_at kept number kind
many_is kept number Flag cells e = ap cells_many e
many_is kept number ObjectFlag cells e = ap cells_many e
many_is kept number ObjectVar cells e = ap cells_many e
many_is kept number Parent cells e = ap cells_many e
many_is kept number Global cells e = ap cells_many e ∙ many_are (value_at kept number 0)

-- A place of a list is one of the same list.
pub is_there : (places rows : List Place) → rows ≡ places → (i : ℕ) (place : Place) → i < length rows → place ≡ get_or rows i place → (i < length places) × (place ≡ get_or places i place)
is_there places rows same i place lt is = (subst (λ (l : List Place). i < length l) same lt, subst (λ (l : List Place). place ≡ get_or l i place) same is)

abbrev kinds : List Place → List PlaceKind
kinds places = map (λ (place : Place). place.kind) places

module _ (places : List Place) (i : ℕ) (place : Place) (lt : i < length places) (is : place ≡ get_or places i place) where
  next_place : drop i places ≡ place ∷ drop (suc i) places
  next_place = drop-cons places i place lt ∙ ap (λ (p : Place). p ∷ drop (suc i) places) (sym is)

  -- What is kept of a place, and of those behind it.
  pub kept_next : (kept : List Fact) → kept_from i (kinds (drop i places)) kept ≡ kept_at kept i place.kind + kept_from (i + 1) (kinds (drop (i + 1) places)) kept
  kept_next kept =
      let next : suc i ≡ i + 1 = omega arith in
      ap (λ (l : List Place). kept_from i (kinds l) kept) next_place ∙ ap (λ (j : ℕ). kept_at kept i place.kind + kept_from (i + 1) (kinds (drop j places)) kept) next

  pub kept_on : (kept : List Fact) (number at size : ℕ) (cells : Option (List Cell)) → number ≡ i → cells ≡ option_map cells_of (kept_value kept number place.kind) → at + kept_from i (kinds (drop i places)) kept ≡ size → at + cells_many cells + kept_from (i + 1) (kinds (drop (i + 1) places)) kept ≡ size
  kept_on kept number at size cells same e whole =
      let here : kept_at kept number place.kind ≡ kept_at kept i place.kind = ap (λ (k : ℕ). kept_at kept k place.kind) same in
      omega (arith, kept_next kept, many_is kept number place.kind cells e, here, whole)

  pub laid_next : (bytes old : List ℕ) (objects : ℕ) (kept : List Fact) (j : ℕ) → bytes ≡ old ++ word_bytes (laid_own objects kept j i place.kind place.start) →
      bytes ++ word_bytes (laid_words objects kept (j + kept_at kept i place.kind) (i + 1) (drop (i + 1) places)) ≡ old ++ word_bytes (laid_words objects kept j i (drop i places))
  laid_next bytes old objects kept j e =
      let next : i + 1 ≡ suc i = omega arith in
      let here = laid_own objects kept j i place.kind place.start in
      let rest = laid_words objects kept (j + kept_at kept i place.kind) (suc i) (drop (suc i) places) in
      ap (λ (l : List ℕ). l ++ word_bytes (laid_words objects kept (j + kept_at kept i place.kind) (i + 1) (drop (i + 1) places))) e
      ∙ ap (λ (k : ℕ). (old ++ word_bytes here) ++ word_bytes (laid_words objects kept (j + kept_at kept i place.kind) k (drop k places))) next
      ∙ append_assoc old (word_bytes here) (word_bytes rest) ∙ ap (λ (l : List ℕ). old ++ l) (sym (word_bytes_append here rest)) ∙ ap (λ (l : List Place). old ++ word_bytes (laid_words objects kept j i l)) (sym next_place)

pub flags_on : (bytes old : List ℕ) (objects : ℕ) (places : List Place) (i : ℕ) (place : Place) → i < length places → place ≡ get_or places i place → bytes ≡ old ++ own_flags objects place.kind place.start →
    bytes ++ world_flags objects (drop (i + 1) places) ≡ old ++ world_flags objects (drop i places)
flags_on bytes old objects places i place lt is e =
    let next : i + 1 ≡ suc i = omega arith in
    let rest = world_flags objects (drop (suc i) places) in
    let here : drop i places ≡ place ∷ drop (suc i) places = drop-cons places i place lt ∙ ap (λ (p : Place). p ∷ drop (suc i) places) (sym is) in
    ap (λ (l : List ℕ). l ++ world_flags objects (drop (i + 1) places)) e
    ∙ ap (λ (j : ℕ). (old ++ own_flags objects place.kind place.start) ++ world_flags objects (drop j places)) next
    ∙ append_assoc old (own_flags objects place.kind place.start) rest
    ∙ ap (λ (l : List Place). old ++ world_flags objects l) (sym here)

-- A word of zero is written for each of some others.
pub zeros_next : {A : Type 0} (bytes bytes' : List ℕ) (xs : List A) (i : ℕ) → i < length xs → bytes' ≡ bytes ++ 0 ∷ 0 ∷ [] → bytes' ++ zero_words (length (drop (i + 1) xs)) ≡ bytes ++ zero_words (length (drop i xs))
zeros_next bytes bytes' xs i lt e =
    let m = length (drop (i + 1) xs) in
    let long : length (drop i xs) ≡ suc m = omega (arith, length-drop i xs, length-drop (i + 1) xs) in
    ap (λ (l : List ℕ). l ++ zero_words m) e ∙ append_assoc bytes (0 ∷ 0 ∷ []) (zero_words m) ∙ ap (λ (k : ℕ). bytes ++ zero_words k) (sym long)
