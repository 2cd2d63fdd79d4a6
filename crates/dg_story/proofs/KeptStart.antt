-- The values that global variables start with are kept, where the rows of their words stand in memory.
use Rattle.std.proofs.Common.{◌≡◌, ℕ, zero, suc, ◌+◌, ◌-◌, ◌<◌, ◌≤◌, inl, Bool, true, false, List, [], ◌∷◌, ◌++◌, length, take, replicate, Option, Some, None, refl, sym, ap, ◌∙◌, subst, arith, length-append}
use Rattle.std.specs.Prelude.{◌==◌}
use Rattle.std.specs.List.{slice_get, sum_by}
use Rattle.std.proofs.lemmas.Bool.{eq-eqb, ne_eqb, cond-true, cond-false}
use Rattle.std.proofs.lemmas.List.{length-replicate}
use Rattle.std.proofs.lemmas.List.Sums.{sum_by-cons}
use Rattle.dg_base.specs.declared.program.CoreProgram.{CoreProgram}
use Rattle.dg_base.specs.declared.program.PlaceKind.{PlaceKind}
use Rattle.dg_base.specs.declared.program.PlaceKind.TheVariants.{Flag, ObjectFlag, ObjectVar, Parent, Global}
use Rattle.dg_meaning.specs.Facts.{Fact, value_at, size_of, kept_at, kept_from, kept_size, kinds_of}
use Rattle.dg_meaning.specs.Values.{Value}
use Rattle.dg_rt.specs.Copies.{Row, words_of}
use Rattle.dg_rt.specs.Kept.{Block, total, value_in, IsBeside, HaveEntries, BlocksIn}
use Rattle.dg_rt.specs.Laying.{Formed}
use Rattle.dg_rt.proofs.Blocks.{words_long, words_some, total_on}
use Rattle.dg_turn.specs.Told.{told_count}
use Rattle.dg_turn.specs.World.{world_at, place_words, all_words, words_at, words_end, IsGlobal, AreGlobal, KeptFacts}
use Rattle.dg_turn.specs.Starts.{words_of_place}
use Rattle.dg_turn.proofs.Starts.{table_long}
use Rattle.dg_story.specs.Kept.{variable_block, place_block, blocks_from, kept_words, owner_words, kept_areas, variable_words, place_words_at, start_words_from}

-- ## Rows

pub row_front : (c : ℕ → ℕ) (j : ℕ) (xs ys : List ℕ) → Row c j (xs ++ ys) → Row c j xs
row_front c j [] ys h = tt
row_front c j (x ∷ xs) ys h = (h.0, row_front c (suc j) xs ys h.1)

pub row_back : (c : ℕ → ℕ) (j : ℕ) (xs ys : List ℕ) → Row c j (xs ++ ys) → Row c (j + length xs) ys
row_back c j [] ys h = subst (λ (i : ℕ). Row c i ys) (let e : j ≡ j + 0 = omega arith in e) h
row_back c j (x ∷ xs) ys h = subst (λ (i : ℕ). Row c i ys) (let e : suc j + length xs ≡ j + suc (length xs) = omega arith in e) (row_back c (suc j) xs ys h.1)

row_at : (c : ℕ → ℕ) (i j : ℕ) (xs : List ℕ) → i ≡ j → Row c i xs → Row c j xs
row_at c i j xs e h = subst (λ (k : ℕ). Row c k xs) e h

-- ## How long they are

variable_long : (s : Option Value) (j : ℕ) → length (variable_words s j) ≡ 2
variable_long None j = refl
variable_long (Some v) j = refl

variable_total : (s : Option Value) (h : ℕ) → total (variable_block s h) ≡ size_of s
variable_total None h = refl
variable_total (Some v) h = omega (arith, words_long v)

pub kept_long : (bs : List Block) → length (kept_words bs) ≡ total bs
kept_long [] = refl
kept_long (b ∷ bs) = omega (arith, length-append (words_of b.value) (kept_words bs), kept_long bs)

pub owner_long : (bs : List Block) → length (owner_words bs) ≡ total bs
owner_long [] = refl
owner_long (b ∷ bs) =
    let k = length (words_of b.value) - 1 in
    omega (arith, length-append (replicate k 0) (owner_words bs), length-replicate {A = ℕ} k 0, owner_long bs, words_some b.value)

-- ## One variable

one : (c : ℕ → ℕ) (s : Option Value) (h j : ℕ) (ws : List ℕ) (bs : List Block) → Row c h (variable_words s j ++ ws) → Row c j (kept_words (variable_block s h ++ bs)) → Row c (j + 500) (owner_words (variable_block s h ++ bs)) →
    (Row c (h + 2) ws → Row c (j + size_of s) (kept_words bs) → Row c (j + size_of s + 500) (owner_words bs) → BlocksIn c (j + size_of s) bs) → BlocksIn c j (variable_block s h ++ bs)
one c None h j ws bs own kept owners go =
    let e : j ≡ j + 0 = omega arith in
    subst (λ (i : ℕ). BlocksIn c i bs) (sym e)
    (go (row_at c (suc (suc h)) (h + 2) ws (omega arith) own.1.1) (row_at c j (j + 0) (kept_words bs) e kept) (row_at c (j + 500) (j + 0 + 500) (owner_words bs) (omega arith) owners))
one c (Some v) h j ws bs own kept owners go =
    let k = length (words_of v) - 1 in
    let long = words_long v in
    let some = words_some v in
    let size : j + length (words_of v) ≡ j + size_of (Some v) = omega arith in
    let zeros = length-replicate {A = ℕ} k 0 in
    let next : h + 1 ≡ suc h = omega arith in (
      record { begins = own.0; long = ap c next ∙ own.1.0; owner = owners.0; row = row_front c j (words_of v) (kept_words bs) kept },
      subst (λ (i : ℕ). BlocksIn c i bs) (sym size)
          (go (row_at c (suc (suc h)) (h + 2) ws (omega arith) own.1.1) (row_at c (j + length (words_of v)) (j + size_of (Some v)) (kept_words bs) size (row_back c j (words_of v) (kept_words bs) kept))
          (row_at c (suc (j + 500) + length (replicate k 0)) (j + size_of (Some v) + 500) (owner_words bs) (omega arith) (row_back c (suc (j + 500)) (replicate k 0) (owner_words bs) owners.1))),
    )

module _ (n : ℕ) (facts : List Fact) where
  place_long : (kept : List Fact) (j place : ℕ) (kind : PlaceKind) → length (place_words_at n facts kept j place kind) ≡ place_words n kind
  place_long kept j place Flag = table_long n facts place Flag
  place_long kept j place ObjectFlag = table_long n facts place ObjectFlag
  place_long kept j place ObjectVar = table_long n facts place ObjectVar
  place_long kept j place Parent = table_long n facts place Parent
  place_long kept j place Global = variable_long (value_at kept place 0) j

  -- So many words have all places.
  pub start_words_long : (kept : List Fact) (j place : ℕ) (kinds : List PlaceKind) → length (start_words_from n facts kept j place kinds) ≡ all_words n kinds
  start_words_long kept j place [] = refl
  start_words_long kept j place (k ∷ ks) =
      omega (
        arith,
        length-append (place_words_at n facts kept j place k) (start_words_from n facts kept (j + kept_at kept place k) (suc place) ks),
        place_long kept j place k,
        start_words_long kept (j + kept_at kept place k) (suc place) ks,
        sum_by-cons (place_words n) k ks,
      )

  -- ## The values

  pub blocks_total : (h place : ℕ) (kinds : List PlaceKind) → total (blocks_from n facts h place kinds) ≡ kept_from place kinds facts
  blocks_total h place [] = refl
  blocks_total h place (k ∷ ks) =
      let next : place + 1 ≡ suc place = omega arith in
      let rest = blocks_total (h + place_words n k) (suc place) ks in
      let same : kept_from (place + 1) ks facts ≡ kept_from (suc place) ks facts = ap (λ (i : ℕ). kept_from i ks facts) next in
      omega (arith, total_on (place_block facts h place k) (blocks_from n facts (h + place_words n k) (suc place) ks), here k, rest, same)
    where
      here : (kind : PlaceKind) → total (place_block facts h place kind) ≡ kept_at facts place kind
      here Flag = refl
      here ObjectFlag = refl
      here ObjectVar = refl
      here Parent = refl
      here Global = variable_total (value_at facts place 0) h

  -- A place that is no variable keeps nothing.
  beside : (c : ℕ → ℕ) (h j w : ℕ) (xs ws : List ℕ) (bs : List Block) → length xs ≡ w → Row c h (xs ++ ws) → Row c j (kept_words bs) → Row c (j + 500) (owner_words bs) →
      (Row c (h + w) ws → Row c (j + 0) (kept_words bs) → Row c (j + 0 + 500) (owner_words bs) → BlocksIn c (j + 0) bs) → BlocksIn c j bs
  beside c h j w xs ws bs long own kept owners go =
      let e : j ≡ j + 0 = omega arith in
      subst (λ (i : ℕ). BlocksIn c i bs) (sym e)
      (go (row_at c (h + length xs) (h + w) ws (ap (λ (i : ℕ). h + i) long) (row_back c h xs ws own)) (row_at c j (j + 0) (kept_words bs) e kept) (row_at c (j + 500) (j + 0 + 500) (owner_words bs) (omega arith) owners))

  blocks_lie : (c : ℕ → ℕ) (h j place : ℕ) (kinds : List PlaceKind) → Row c h (start_words_from n facts facts j place kinds) → Row c j (kept_words (blocks_from n facts h place kinds)) → Row c (j + 500) (owner_words (blocks_from n facts h place kinds)) → BlocksIn c j (blocks_from n facts h place kinds)
  blocks_lie c h j place [] own kept owners = tt
  blocks_lie c h j place (Flag ∷ ks) own kept owners = beside c h j 1 (words_of_place n facts place Flag) (start_words_from n facts facts (j + 0) (suc place) ks) (blocks_from n facts (h + 1) (suc place) ks) (table_long n facts place Flag) own kept owners (blocks_lie c (h + 1) (j + 0) (suc place) ks)
  blocks_lie c h j place (ObjectFlag ∷ ks) own kept owners = beside c h j 0 [] (start_words_from n facts facts (j + 0) (suc place) ks) (blocks_from n facts (h + 0) (suc place) ks) refl own kept owners (blocks_lie c (h + 0) (j + 0) (suc place) ks)
  blocks_lie c h j place (ObjectVar ∷ ks) own kept owners = beside c h j n (words_of_place n facts place ObjectVar) (start_words_from n facts facts (j + 0) (suc place) ks) (blocks_from n facts (h + n) (suc place) ks) (table_long n facts place ObjectVar) own kept owners (blocks_lie c (h + n) (j + 0) (suc place) ks)
  blocks_lie c h j place (Parent ∷ ks) own kept owners = beside c h j n (words_of_place n facts place Parent) (start_words_from n facts facts (j + 0) (suc place) ks) (blocks_from n facts (h + n) (suc place) ks) (table_long n facts place Parent) own kept owners (blocks_lie c (h + n) (j + 0) (suc place) ks)
  blocks_lie c h j place (Global ∷ ks) own kept owners =
      let s = value_at facts place 0 in
      one c s h j (start_words_from n facts facts (j + size_of s) (suc place) ks) (blocks_from n facts (h + 2) (suc place) ks) own kept owners (blocks_lie c (h + 2) (j + size_of s) (suc place) ks)

  -- ## Their variables

  abbrev sum : List PlaceKind → ℕ
  sum ks = sum_by (place_words n) ks

  later : (h i : ℕ) (k : PlaceKind) (ks : List PlaceKind) → h + place_words n k + sum (take i ks) ≡ h + sum (k ∷ take i ks)
  later h i k ks = omega (arith, sum_by-cons (place_words n) k (take i ks))

  here_is : (h : ℕ) → h + sum [] ≡ h
  here_is h = let none : sum [] ≡ 0 = refl in omega arith

  beside_all : (x h place : ℕ) (kinds : List PlaceKind) → x + 2 ≤ h → IsBeside x (blocks_from n facts h place kinds)
  beside_all x h place [] le = tt
  beside_all x h place (k ∷ ks) le = by k (beside_all x (h + place_words n k) (suc place) ks (omega arith))
    where
      with_one : (s : Option Value) (bs : List Block) → IsBeside x bs → IsBeside x (variable_block s h ++ bs)
      with_one None bs b = b
      with_one (Some v) bs b = (inl le, b)

      by : (kind : PlaceKind) → IsBeside x (blocks_from n facts (h + place_words n kind) (suc place) ks) → IsBeside x (blocks_from n facts h place (kind ∷ ks))
      by Flag b = b
      by ObjectFlag b = b
      by ObjectVar b = b
      by Parent b = b
      by Global b = with_one (value_at facts place 0) (blocks_from n facts (h + 2) (suc place) ks) b

  have : (last h place : ℕ) (kinds : List PlaceKind) → 15945 ≤ h → h + sum kinds ≤ last → HaveEntries last (blocks_from n facts h place kinds)
  have last h place [] from within = tt
  have last h place (k ∷ ks) from within = let cons = sum_by-cons (place_words n) k ks in by k (omega arith) (have last (h + place_words n k) (suc place) ks (omega arith) (omega arith))
    where
      with_one : (s : Option Value) → h + 2 ≤ last → HaveEntries last (blocks_from n facts (h + 2) (suc place) ks) → HaveEntries last (variable_block s h ++ blocks_from n facts (h + 2) (suc place) ks)
      with_one None fits b = b
      with_one (Some v) fits b = (record { from = from; within = fits }, (beside_all h (h + 2) (suc place) ks (omega arith), b))

      by : (kind : PlaceKind) → h + place_words n kind ≤ last → HaveEntries last (blocks_from n facts (h + place_words n kind) (suc place) ks) → HaveEntries last (blocks_from n facts h place (kind ∷ ks))
      by Flag fits b = b
      by ObjectFlag fits b = b
      by ObjectVar fits b = b
      by Parent fits b = b
      by Global fits b = with_one (value_at facts place 0) fits b

  none_below : (x h place : ℕ) (kinds : List PlaceKind) → x < h → value_in (blocks_from n facts h place kinds) x ≡ None
  none_below x h place [] lt = refl
  none_below x h place (k ∷ ks) lt = by k (none_below x (h + place_words n k) (suc place) ks (omega arith))
    where
      with_one : (s : Option Value) (bs : List Block) → value_in bs x ≡ None → value_in (variable_block s h ++ bs) x ≡ None
      with_one None bs b = b
      with_one (Some v) bs b = cond-false (h == x) (Some v) (value_in bs x) (ne_eqb h x (λ (q : h ≡ x). omega arith)) ∙ b

      by : (kind : PlaceKind) → value_in (blocks_from n facts (h + place_words n kind) (suc place) ks) x ≡ None → value_in (blocks_from n facts h place (kind ∷ ks)) x ≡ None
      by Flag b = b
      by ObjectFlag b = b
      by ObjectVar b = b
      by Parent b = b
      by Global b = with_one (value_at facts place 0) (blocks_from n facts (h + 2) (suc place) ks) b

  -- the variable of a place in front isn't looked at
  past : (x h place : ℕ) (kind : PlaceKind) (ks : List PlaceKind) → h + place_words n kind ≤ x → value_in (blocks_from n facts h place (kind ∷ ks)) x ≡ value_in (blocks_from n facts (h + place_words n kind) (suc place) ks) x
  past x h place Flag ks le = refl
  past x h place ObjectFlag ks le = refl
  past x h place ObjectVar ks le = refl
  past x h place Parent ks le = refl
  past x h place Global ks le = with_one (value_at facts place 0) (blocks_from n facts (h + 2) (suc place) ks)
    where
      with_one : (s : Option Value) (bs : List Block) → value_in (variable_block s h ++ bs) x ≡ value_in bs x
      with_one None bs = refl
      with_one (Some v) bs = cond-false (h == x) (Some v) (value_in bs x) (ne_eqb h x (λ (q : h ≡ x). omega arith))

  first_value : (s : Option Value) (h place : ℕ) (ks : List PlaceKind) → value_in (variable_block s h ++ blocks_from n facts (h + 2) (suc place) ks) h ≡ s
  first_value None h place ks = none_below h (h + 2) (suc place) ks (omega arith)
  first_value (Some v) h place ks = cond-true (h == h) (Some v) (value_in (blocks_from n facts (h + 2) (suc place) ks) h) (eq-eqb h h refl)

  value_from : (h place i : ℕ) (kinds : List PlaceKind) → slice_get kinds i ≡ Some Global → value_in (blocks_from n facts h place kinds) (h + sum (take i kinds)) ≡ value_at facts (place + i) 0
  value_from h place i [] e = absurd (cc)
  value_from h place zero (k ∷ ks) e =
      let same : k ≡ Global = cc in
      let at : place ≡ place + 0 = omega arith in
      ap (value_in (blocks_from n facts h place (k ∷ ks))) (here_is h) ∙ ap (λ (kind : PlaceKind). value_in (blocks_from n facts h place (kind ∷ ks)) h) same ∙ first_value (value_at facts place 0) h place ks ∙ ap (λ (q : ℕ). value_at facts q 0) at
  value_from h place (suc i) (k ∷ ks) e =
      let at : suc place + i ≡ place + suc i = omega arith in
      let x = h + sum (k ∷ take i ks) in
      let cons = sum_by-cons (place_words n) k (take i ks) in
      past x h place k ks (omega arith) ∙ ap (value_in (blocks_from n facts (h + place_words n k) (suc place) ks)) (sym (later h i k ks)) ∙ value_from (h + place_words n k) (suc place) i ks e ∙ ap (λ (q : ℕ). value_at facts q 0) at

  -- what holds of each value that a variable starts with holds of all that are kept
  all_values : (P : Value → Type 0) (x h place : ℕ) (kinds : List PlaceKind) → ((i : ℕ) → slice_get kinds i ≡ Some Global → (v : Value) → value_at facts (place + i) 0 ≡ Some v → P v) → (v : Value) → value_in (blocks_from n facts h place kinds) x ≡ Some v → P v
  all_values P x h place [] each v e = absurd (cc)
  all_values P x h place (k ∷ ks) each v e =
      by k each (λ q. all_values P x (h + place_words n k) (suc place) ks (λ i g u w. each (suc i) g u (ap (λ (j : ℕ). value_at facts j 0) (let z : place + suc i ≡ suc place + i = omega arith in z) ∙ w)) v q) e
    where
      with_one : (s : Option Value) (bs : List Block) → ((u : Value) → s ≡ Some u → P u) → (value_in bs x ≡ Some v → P v) → value_in (variable_block s h ++ bs) x ≡ Some v → P v
      with_one None bs f g q = g q
      with_one (Some u) bs f g q = by_test (h == x) refl
        where
          by_test : (b : Bool) → (h == x) ≡ b → P v
          by_test true t = (let same : Some u ≡ Some v = sym (cond-true (h == x) (Some u) (value_in bs x) t) ∙ q in let same' : u ≡ v = cc in subst P same' (f u refl))
          by_test false t = g (sym (cond-false (h == x) (Some u) (value_in bs x) t) ∙ q)

      by : (kind : PlaceKind) → ((i : ℕ) → slice_get (kind ∷ ks) i ≡ Some Global → (u : Value) → value_at facts (place + i) 0 ≡ Some u → P u) → (value_in (blocks_from n facts (h + place_words n kind) (suc place) ks) x ≡ Some v → P v) → value_in (blocks_from n facts h place (kind ∷ ks)) x ≡ Some v → P v
      by Flag f rest q = rest q
      by ObjectFlag f rest q = rest q
      by ObjectVar f rest q = rest q
      by Parent f rest q = rest q
      by Global f rest q = with_one (value_at facts place 0) (blocks_from n facts (h + 2) (suc place) ks) (λ u w. f 0 refl u (ap (λ (j : ℕ). value_at facts j 0) (let z : place + 0 ≡ place = omega arith in z) ∙ w)) rest q

  -- ## Words of a place

  pub record There (c : ℕ → ℕ) (at place : ℕ) (kind : PlaceKind) : Type 0 where
    pub from : ℕ
    pub row : Row c at (place_words_at n facts facts from place kind)

  pub words_there : (c : ℕ → ℕ) (kinds : List PlaceKind) (h j place i : ℕ) (kind : PlaceKind) → slice_get kinds i ≡ Some kind → Row c h (start_words_from n facts facts j place kinds) → There c (h + sum (take i kinds)) (place + i) kind
  words_there c [] h j place i kind e r = absurd (cc)
  words_there c (k ∷ ks) h j place zero kind e r =
      let same : k ≡ kind = cc in
      let at : place ≡ place + 0 = omega arith in
      subst (λ (a : ℕ). There c a (place + 0) kind) (sym (here_is h)) (subst (λ (q : ℕ). There c h q kind) at (subst (λ (x : PlaceKind). There c h place x) same (record { from = j; row = row_front c h (place_words_at n facts facts j place k) (start_words_from n facts facts (j + kept_at facts place k) (suc place) ks) r })))
  words_there c (k ∷ ks) h j place (suc i) kind e r =
      let next = j + kept_at facts place k in
      let at : suc place + i ≡ place + suc i = omega arith in
      let rest = row_back c h (place_words_at n facts facts j place k) (start_words_from n facts facts next (suc place) ks) r in
      let moved = row_at c (h + length (place_words_at n facts facts j place k)) (h + place_words n k) (start_words_from n facts facts next (suc place) ks) (ap (λ (a : ℕ). h + a) (place_long facts j place k)) rest in
      subst (λ (a : ℕ). There c a (place + suc i) kind) (later h i k ks) (subst (λ (q : ℕ). There c (h + place_words n k + sum (take i ks)) q kind) at (words_there c ks (h + place_words n k) next (suc place) i kind e moved))

  unset_zero : (c : ℕ → ℕ) (at j : ℕ) (s : Option Value) → s ≡ None → Row c at (variable_words s j) → c at ≡ 0
  unset_zero c at j None e r = r.0
  unset_zero c at j (Some v) e r = absurd (cc)

-- ## What is kept

module _ (program : CoreProgram) (facts : List Fact) (c : ℕ → ℕ) where
  abbrev n : ℕ
  n = length program.objects

  abbrev ks : List PlaceKind
  ks = kinds_of program

  abbrev pub start_blocks : List Block
  start_blocks = blocks_from n facts world_at 0 ks

  globals : (h place : ℕ) (kinds : List PlaceKind) → ((i : ℕ) → slice_get kinds i ≡ Some Global → IsGlobal program (h + sum_by (place_words n) (take i kinds))) → AreGlobal program (blocks_from n facts h place kinds)
  globals h place [] each = tt
  globals h place (k ∷ kinds) each = by k each (globals (h + place_words n k) (suc place) kinds (λ i e. subst (IsGlobal program) (sym (later n facts h i k kinds)) (each (suc i) e)))
    where
      with_one : (s : Option Value) (bs : List Block) → IsGlobal program h → AreGlobal program bs → AreGlobal program (variable_block s h ++ bs)
      with_one None bs g b = b
      with_one (Some v) bs g b = (g, b)

      by : (kind : PlaceKind) → ((i : ℕ) → slice_get (kind ∷ kinds) i ≡ Some Global → IsGlobal program (h + sum_by (place_words n) (take i (kind ∷ kinds)))) → AreGlobal program (blocks_from n facts (h + place_words n kind) (suc place) kinds) → AreGlobal program (blocks_from n facts h place (kind ∷ kinds))
      by Flag f rest = rest
      by ObjectFlag f rest = rest
      by ObjectVar f rest = rest
      by Parent f rest = rest
      by Global f rest = with_one (value_at facts place 0) (blocks_from n facts (h + 2) (suc place) kinds) (subst (IsGlobal program) (here_is n facts h) (f 0 refl)) rest

  abbrev filler : List ℕ
  filler = replicate (500 - total start_blocks) 0

  -- The rows of words that keep what starts set.
  pub record KeptRows : Type 0 where
    pub own : Row c world_at (start_words_from n facts facts 14315 0 ks)
    pub areas : Row c 14315 (kept_areas start_blocks)
    pub few : kept_size ks facts ≤ 500
    pub formed : (place : ℕ) → slice_get ks place ≡ Some Global → (v : Value) → value_at facts place 0 ≡ Some v → Formed (told_count program) v

  pub kept_stands : KeptRows → KeptFacts program facts c
  kept_stands r = record {
    blocks = start_blocks;
    lie = record { lie = blocks_lie n facts c world_at 14315 0 ks r.own kept_row owners_row; end = λ lt. end_zero (500 - total start_blocks) lt (omega arith) zeros_row; few = few; entries = have n facts (words_end program) world_at 0 ks (omega arith) (omega arith) };
    of_places = globals world_at 0 ks (λ i e. record { place = i; is = e; at = refl });
    values = λ place e. value_from n facts world_at 0 place ks e ∙ ap (λ (q : ℕ). value_at facts q 0) (zero_on place);
    unset = λ place e none. (let there = words_there n facts c ks world_at 14315 0 place Global e r.own in unset_zero n facts c (words_at program place) there.from (value_at facts (0 + place) 0) (ap (λ (q : ℕ). value_at facts q 0) (zero_on place) ∙ none) there.row);
    size = size;
    formed = λ h v e. all_values n facts (Formed (told_count program)) h world_at 0 ks (λ i g u w. r.formed i g u (ap (λ (q : ℕ). value_at facts q 0) (sym (zero_on i)) ∙ w)) v e;
  }
    where
      zero_on : (place : ℕ) → 0 + place ≡ place
      zero_on place = omega arith

      size : total start_blocks ≡ kept_size ks facts
      size = blocks_total n facts world_at 0 ks

      few : total start_blocks ≤ 500
      few = let a = r.few in let b = size in omega arith

      front_long : length (kept_words start_blocks ++ filler) ≡ 500
      front_long = omega (arith, length-append (kept_words start_blocks) filler, kept_long start_blocks, length-replicate {A = ℕ} (500 - total start_blocks) 0, few)

      kept_row : Row c 14315 (kept_words start_blocks)
      kept_row = row_front c 14315 (kept_words start_blocks) filler (row_front c 14315 (kept_words start_blocks ++ filler) (owner_words start_blocks ++ filler) r.areas)

      behind_row : Row c 14815 (owner_words start_blocks ++ filler)
      behind_row = row_at c (14315 + length (kept_words start_blocks ++ filler)) 14815 (owner_words start_blocks ++ filler) (let l = front_long in omega arith) (row_back c 14315 (kept_words start_blocks ++ filler) (owner_words start_blocks ++ filler) r.areas)

      owners_row : Row c (14315 + 500) (owner_words start_blocks)
      owners_row = row_at c 14815 (14315 + 500) (owner_words start_blocks) (omega arith) (row_front c 14815 (owner_words start_blocks) filler behind_row)

      zeros_row : Row c (14815 + total start_blocks) filler
      zeros_row = row_at c (14815 + length (owner_words start_blocks)) (14815 + total start_blocks) filler (ap (λ (i : ℕ). 14815 + i) (owner_long start_blocks)) (row_back c 14815 (owner_words start_blocks) filler behind_row)

      end_zero : (k : ℕ) → total start_blocks < 500 → k ≡ 500 - total start_blocks → Row c (14815 + total start_blocks) (replicate k 0) → c (14815 + total start_blocks) ≡ 0
      end_zero zero lt e row = absurd (omega arith)
      end_zero (suc k) lt e row = row.0
