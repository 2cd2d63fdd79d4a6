-- Parts that are laid out: where they end, and how long they are.
use Rattle.std.proofs.Common.{◌≡◌, ℕ, zero, suc, ◌+◌, ◌-◌, ◌*◌, ◌/◌, ◌<◌, ◌≤◌, Bool, true, false, List, [], ◌∷◌, ◌++◌, length, map, drop, get_or, replicate, sym, subst, arith, length-append}
use Rattle.std.specs.Prelude.{slice_index, if◌then◌else◌}
use Rattle.std.proofs.lemmas.List.{at_drop_more, length-replicate}
use Rattle.z_asm.specs.declared.image.Table.{Table}
use Rattle.z_asm.specs.Layout.{aligned, stand_from, end_from, laid, packed_address, table_bytes, table_places}

pub aligned_most : (at : ℕ) → at ≤ aligned at
aligned_most at = omega arith

pub aligned_is : (at : ℕ) → 8 * (aligned at / 8) ≡ aligned at
aligned_is at = omega arith

pub end_most : (at : ℕ) (sizes : List ℕ) → at ≤ end_from at sizes
end_most at [] = omega arith
end_most at (size ∷ sizes) = let a = aligned_most at in let b = end_most (aligned at + size) sizes in omega arith

-- the end of parts of which this is the next
pub next_end : {X : Type 0} (size : X → ℕ) (xs : List X) (i : ℕ) (x : X) (at : ℕ) → i < length xs → x ≡ get_or xs i x → end_from at (map size (drop i xs)) ≡ end_from (aligned at + size x) (map size (drop (i + 1) xs))
next_end size xs i x at lt is =
    let next = at_drop_more (λ ys. end_from at (map size ys)) xs i x lt in
    subst (λ y. end_from at (map size (drop i xs)) ≡ end_from (aligned at + size y) (map size (drop (i + 1) xs))) (sym is) next

-- a part that ends too far
pub too_far : {X : Type 0} (size : X → ℕ) (xs : List X) (i : ℕ) (x : X) (start at most : ℕ) → i < length xs → x ≡ get_or xs i x → end_from start (map size xs) ≡ end_from at (map size (drop i xs)) → most < aligned at + size x → most < end_from start (map size xs)
too_far size xs i x start at most lt is e far =
    let same = next_end size xs i x at lt is in
    let b = end_most (aligned at + size x) (map size (drop (i + 1) xs)) in
    omega arith

-- a part that doesn't
pub near : {X : Type 0} (size : X → ℕ) (xs : List X) (i : ℕ) (x : X) (at most : ℕ) → i < length xs → x ≡ get_or xs i x → end_from at (map size (drop i xs)) < most → aligned at + size x < most
near size xs i x at most lt is h =
    let same = next_end size xs i x at lt is in
    let b = end_most (aligned at + size x) (map size (drop (i + 1) xs)) in
    omega arith

pub padded_long : (out : List ℕ) → length (out ++ replicate (aligned (length out) - length out) 0) ≡ aligned (length out)
padded_long out = let w = aligned_most (length out) in omega (arith, length-append out (replicate (aligned (length out) - length out) 0), length-replicate {A = ℕ} (aligned (length out) - length out) 0)

-- parts have these sizes, wherever they stand
abbrev pub HaveSizes : List (ℕ → List ℕ) → List ℕ → Type 0
HaveSizes [] [] = Unit {0}
HaveSizes [] (size ∷ sizes) = ⊥
HaveSizes (part ∷ parts) [] = ⊥
HaveSizes (part ∷ parts) (size ∷ sizes) = ((at : ℕ) → length (part at) ≡ size) × HaveSizes parts sizes

pub laid_long : (at : ℕ) (parts : List (ℕ → List ℕ)) (sizes : List ℕ) → HaveSizes parts sizes → at + length (laid at parts sizes) ≡ end_from at sizes
laid_long at [] [] h = omega arith
laid_long at [] (size ∷ sizes) h = absurd h
laid_long at (part ∷ parts) [] h = absurd h
laid_long at (part ∷ parts) (size ∷ sizes) h =
    let w = aligned_most at in
    let s = h.0 (aligned at) in
    let r = laid_long (aligned at + size) parts sizes h.1 in
    omega (arith, length-append (replicate (aligned at - at) 0) (part (aligned at) ++ laid (aligned at + size) parts sizes), length-append (part (aligned at)) (laid (aligned at + size) parts sizes), length-replicate {A = ℕ} (aligned at - at) 0)

-- ---- addresses are words

pub packed_below : (at : ℕ) (sizes : List ℕ) (k : ℕ) → end_from at sizes ≤ 524280 → slice_index (map packed_address (stand_from at sizes)) k < 65536
packed_below at [] k h = omega arith
packed_below at (size ∷ sizes) zero h = let b = end_most (aligned at + size) sizes in omega arith
packed_below at (size ∷ sizes) (suc k) h = packed_below (aligned at + size) sizes k h

pub table_below : (here there : ℕ) (ts : List Table) (k : ℕ) → here + length (table_bytes true ts) ≤ 65528 → there + length (table_bytes false ts) ≤ 65528 → slice_index (table_places here there ts) k < 65536
table_below here there [] k h g = omega arith
table_below here there (t ∷ ts) k h g = by_kind t.writable k h g (λ b j. table_below (here + length t.bytes) there ts j) (λ b j. table_below here (there + length t.bytes) ts j)
  where
    by_kind : (w : Bool) (k : ℕ) → here + length (if w then t.bytes ++ table_bytes true ts else table_bytes true ts) ≤ 65528 → there + length (if w then table_bytes false ts else t.bytes ++ table_bytes false ts) ≤ 65528 →
        (Bool → (j : ℕ) → here + length t.bytes + length (table_bytes true ts) ≤ 65528 → there + length (table_bytes false ts) ≤ 65528 → slice_index (table_places (here + length t.bytes) there ts) j < 65536) →
        (Bool → (j : ℕ) → here + length (table_bytes true ts) ≤ 65528 → there + length t.bytes + length (table_bytes false ts) ≤ 65528 → slice_index (table_places here (there + length t.bytes) ts) j < 65536) →
        slice_index (if w then here ∷ table_places (here + length t.bytes) there ts else there ∷ table_places here (there + length t.bytes) ts) k < 65536
    by_kind true zero h g p q = omega arith
    by_kind true (suc j) h g p q = p true j (omega (arith, length-append t.bytes (table_bytes true ts))) g
    by_kind false zero h g p q = omega arith
    by_kind false (suc j) h g p q = q true j h (omega (arith, length-append t.bytes (table_bytes false ts)))
