-- The words of what is kept and of places are words.
use Rattle.std.proofs.Common.{◌≡◌, ℕ, zero, suc, ◌+◌, ◌-◌, ◌<◌, ◌≤◌, List, [], ◌∷◌, ◌++◌, length, map, replicate, get_or, Option, Some, None, refl, ap, ◌∙◌, arith}
use Rattle.std.specs.List.{slice_get}
use Rattle.std.proofs.lemmas.List.Elements.{All-head, All-tail}
use Rattle.std.proofs.lemmas.List.Sums.{sum_by-cons}
use Rattle.dg_base.specs.declared.cells.Cell.{Cell}
use Rattle.dg_base.specs.declared.program.PlaceKind.{PlaceKind}
use Rattle.dg_base.specs.declared.program.PlaceKind.TheVariants.{Flag, ObjectFlag, ObjectVar, Parent, Global}
use Rattle.dg_meaning.specs.Facts.{Fact, value_at, size_of}
use Rattle.dg_meaning.specs.Values.{Value}
use Rattle.dg_meaning.specs.ValueCells.{cells_of}
use Rattle.dg_rt.specs.Cells.{at_cell}
use Rattle.dg_rt.specs.Copies.{cell_word, words_of}
use Rattle.dg_rt.specs.Kept.{Block, total}
use Rattle.dg_rt.proofs.Blocks.{words_long}
use Rattle.dg_turn.specs.World.{place_words, all_words}
use Rattle.dg_story.specs.Built.{word_bytes}
use Rattle.dg_story.specs.Kept.{variable_block, blocks_from, kept_words, owner_words, kept_areas, variable_words}
use Rattle.dg_story.specs.inside.Keeping.{AreWords}

abbrev pub AreBelow : ℕ → List ℕ → Type 0
AreBelow most [] = Unit {0}
AreBelow most (x ∷ xs) = (x < most) × AreBelow most xs

pub below_append : (most : ℕ) (xs ys : List ℕ) → AreBelow most xs → AreBelow most ys → AreBelow most (xs ++ ys)
below_append most [] ys f g = g
below_append most (x ∷ xs) ys f g = (f.0, below_append most xs ys f.1 g)

pub below_zeros : (most n : ℕ) → 0 < most → AreBelow most (replicate n 0)
below_zeros most zero lt = tt
below_zeros most (suc n) lt = (lt, below_zeros most n lt)

pub below_filled : (most n : ℕ) (xs : List ℕ) → 0 < most → AreBelow most xs → AreBelow most (xs ++ replicate n 0)
below_filled most n xs lt f = below_append most xs (replicate n 0) f (below_zeros most n lt)

pub below_or : (most : ℕ) (xs : List ℕ) (k : ℕ) → 0 < most → AreBelow most xs → get_or xs k 0 < most
below_or most [] k lt f = lt
below_or most (x ∷ xs) zero lt f = f.0
below_or most (x ∷ xs) (suc k) lt f = below_or most xs k lt f.1

pub bytes_below : (ws : List ℕ) → AreBelow 65536 ws → AreBelow 256 (word_bytes ws)
bytes_below [] f = tt
bytes_below (w ∷ ws) f = ((let small = f.0 in omega arith), (omega arith, bytes_below ws f.1))

-- ## What is kept

cells_below : (cells : List Cell) → AreWords cells → AreBelow 65536 (map cell_word cells)
cells_below [] all = tt
cells_below (c ∷ cells) all =
    let small = λ (x : Cell). cell_word x < 65536 in
    (All-head small c cells all, cells_below cells (All-tail small c cells all))

-- The words of values are words, and so are the addresses of their variables.
abbrev AreFine : List Block → Type 0
AreFine [] = Unit {0}
AreFine (b ∷ bs) = (AreWords (cells_of b.value) × (at_cell b.entry < 65536)) × AreFine bs

kept_below : (bs : List Block) → AreFine bs → AreBelow 65536 (kept_words bs)
kept_below [] fine = tt
kept_below (b ∷ bs) fine = below_append 65536 (words_of b.value) (kept_words bs) (cells_below (cells_of b.value) fine.0.0) (kept_below bs fine.1)

owners_below : (bs : List Block) → AreFine bs → AreBelow 65536 (owner_words bs)
owners_below [] fine = tt
owners_below (b ∷ bs) fine =
    let k = length (words_of b.value) - 1 in
    (fine.0.1, below_append 65536 (replicate k 0) (owner_words bs) (below_zeros 65536 k (omega arith)) (owners_below bs fine.1))

areas_below : (bs : List Block) → AreFine bs → AreBelow 65536 (kept_areas bs)
areas_below bs fine =
    let filler : List ℕ = replicate (500 - total bs) 0 in
    let zeros = below_zeros 65536 (500 - total bs) (omega arith) in
    below_append 65536 (kept_words bs ++ filler) (owner_words bs ++ filler) (below_append 65536 (kept_words bs) filler (kept_below bs fine) zeros) (below_append 65536 (owner_words bs) filler (owners_below bs fine) zeros)

module _ (n : ℕ) (facts : List Fact) where
  fine_from : (h place : ℕ) (kinds : List PlaceKind) → h + all_words n kinds ≤ 19945 → ((i : ℕ) → slice_get kinds i ≡ Some Global → (v : Value) → value_at facts (place + i) 0 ≡ Some v → AreWords (cells_of v)) → AreFine (blocks_from n facts h place kinds)
  fine_from h place [] le each = tt
  fine_from h place (k ∷ ks) le each =
      let cons = sum_by-cons (place_words n) k ks in
      by k each (fine_from (h + place_words n k) (suc place) ks (omega arith) (λ i g v q. each (suc i) g v (ap (λ (j : ℕ). value_at facts j 0) (let z : place + suc i ≡ suc place + i = omega arith in z) ∙ q)))
    where
      with_one : (s : Option Value) (bs : List Block) → ((v : Value) → s ≡ Some v → AreWords (cells_of v)) → AreFine bs → AreFine (variable_block s h ++ bs)
      with_one None bs f b = b
      with_one (Some v) bs f b = ((f v refl, (omega arith)), b)

      by : (kind : PlaceKind) → ((i : ℕ) → slice_get (kind ∷ ks) i ≡ Some Global → (v : Value) → value_at facts (place + i) 0 ≡ Some v → AreWords (cells_of v)) → AreFine (blocks_from n facts (h + place_words n kind) (suc place) ks) → AreFine (blocks_from n facts h place (kind ∷ ks))
      by Flag f b = b
      by ObjectFlag f b = b
      by ObjectVar f b = b
      by Parent f b = b
      by Global f b = with_one (value_at facts place 0) (blocks_from n facts (h + 2) (suc place) ks) (λ v w. f 0 refl v (ap (λ (j : ℕ). value_at facts j 0) (let z : place + 0 ≡ place = omega arith in z) ∙ w)) b

  -- So are the words of the areas.
  pub blocks_below : (h : ℕ) (kinds : List PlaceKind) → h + all_words n kinds ≤ 19945 → ((place : ℕ) → slice_get kinds place ≡ Some Global → (v : Value) → value_at facts place 0 ≡ Some v → AreWords (cells_of v)) → AreBelow 65536 (kept_areas (blocks_from n facts h 0 kinds))
  blocks_below h kinds le each = areas_below (blocks_from n facts h 0 kinds) (fine_from h 0 kinds le (λ i g v q. each i g v (ap (λ (j : ℕ). value_at facts j 0) (let z : i ≡ 0 + i = omega arith in z) ∙ q)))

-- So are those of a variable.
pub variable_below : (s : Option Value) (j : ℕ) → j + size_of s ≤ 14815 → AreBelow 65536 (variable_words s j)
variable_below None j le = (omega arith, (omega arith, tt))
variable_below (Some v) j le = let long = words_long v in (omega arith, (omega arith, tt))
