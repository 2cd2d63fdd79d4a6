-- A typed line in its buffer: bytes that are written, and those that stay.
use Rattle.std.proofs.Common.{◌≡◌, ℕ, zero, suc, ◌+◌, ◌%◌, ◌<◌, ◌≤◌, inl, inr, Bool, true, List, [], ◌∷◌, length, map, take, Option, Ok, refl, sym, ap, ◌∙◌, subst, arith, length-set}
use Rattle.std.specs.Prelude.{◌==◌, if◌then◌else◌, slice_index, slice_set}
use Rattle.std.proofs.lemmas.Bool.{cases_eq}
use Rattle.std.proofs.lemmas.List.{get_or-set_same, get_or-set_other, drop-set-lt}
use Rattle.dg_base.specs.Typed.{extra}
use Rattle.dg_base.specs.Units.{units_of}
use Rattle.dg_meaning.specs.Words as meant
use Rattle.z_model.specs.declared.story.Layout.{Layout}
use Rattle.z_model.specs.Memory.{Memory, guarded, is_writable, with_byte, with_bytes, have_right}
use Rattle.z_model.specs.Run.{with_line}
use Rattle.z_model.specs.Typed.{line_limit, line_within, left_within, without_return, typed_bytes, typed_code, typed_codes, typed_line, typed_left}
use Rattle.z_lang.specs.Standing.{IsKept}
use Rattle.dg_rt.proofs.Cells.{may}
use Rattle.dg_rt.proofs.Unicode.{found, unit_is}
use Rattle.dg_rt.specs.Shapes.{ArePrinted}

-- ## The same line

line_same : (n : ℕ) (bytes : List ℕ) → line_within n bytes ≡ meant.line_within n bytes
unfolding line_within
line_same zero bytes = refl
line_same (suc n) [] = refl
line_same (suc n) (b ∷ bytes) = ap (λ (l : List ℕ). if b == 10 then [] else b ∷ l) (line_same n bytes)

left_same : (n : ℕ) (bytes : List ℕ) → left_within n bytes ≡ meant.behind_line n bytes
unfolding left_within
left_same zero bytes = refl
left_same (suc n) [] = refl
left_same (suc n) (b ∷ bytes) = ap (λ (l : List ℕ). if b == 10 then bytes else l) (left_same n bytes)

return_same : (bytes : List ℕ) → without_return bytes ≡ meant.without_return bytes
unfolding without_return
return_same [] = refl
return_same (b ∷ []) = refl
return_same (b ∷ c ∷ bytes) = ap (λ (l : List ℕ). b ∷ l) (return_same (c ∷ bytes))

bytes_same : (bytes : List ℕ) → typed_bytes bytes ≡ meant.first_line bytes
unfolding typed_bytes
bytes_same bytes = ap without_return (line_same line_limit bytes) ∙ return_same (meant.line_within line_limit bytes)

pub behind_same : (bytes : List ℕ) → typed_left bytes ≡ meant.behind_first bytes
unfolding typed_left
behind_same bytes = left_same line_limit bytes

-- ## Its codes

-- Each of some codes is a byte.
abbrev pub AreBytes : List ℕ → Type 0
AreBytes [] = Unit {0}
AreBytes (b ∷ bs) = (b < 256) × AreBytes bs

front_bytes : (n : ℕ) (units : List (Option ℕ)) → AreBytes (take n (map typed_code units))
front_bytes zero units = tt
front_bytes (suc n) [] = tt
front_bytes (suc n) (u ∷ units) = ((unit_is u).small, front_bytes n units)

-- the letter of a code
abbrev pub letter : ℕ → ℕ
letter c = found 155 extra c

front_letters : (n : ℕ) (units : List (Option ℕ)) → map letter (take n (map typed_code units)) ≡ take n (map meant.letter_of units)
front_letters zero units = refl
front_letters (suc n) [] = refl
front_letters (suc n) (u ∷ units) = ap (λ (c : ℕ). c ∷ map letter (take n (map typed_code units))) (unit_is u).letter_is ∙ ap (λ (l : List ℕ). meant.letter_of u ∷ l) (front_letters n units)

front_printed : (n : ℕ) (units : List (Option ℕ)) → ArePrinted (take n (map meant.letter_of units))
front_printed zero units = tt
front_printed (suc n) [] = tt
front_printed (suc n) (u ∷ units) = let is = unit_is u in ((is.low, is.printed), front_printed n units)

pub codes_are_bytes : (bytes : List ℕ) → AreBytes (typed_line 200 bytes)
unfolding typed_line
codes_are_bytes bytes = front_bytes 200 (units_of (typed_bytes bytes))

pub codes_are_letters : (bytes : List ℕ) → map letter (typed_line 200 bytes) ≡ meant.letters_of (meant.first_line bytes)
unfolding typed_line
codes_are_letters bytes = front_letters 200 (units_of (typed_bytes bytes)) ∙ ap (λ (l : List ℕ). take 200 (map meant.letter_of (units_of l))) (bytes_same bytes)

pub line_printed : (bytes : List ℕ) → ArePrinted (meant.letters_of (meant.first_line bytes))
line_printed bytes = front_printed 200 (units_of (meant.first_line bytes))

few_taken : (n : ℕ) (l : List ℕ) → length (take n l) ≤ n
few_taken zero l = omega arith
few_taken (suc n) [] = omega arith
few_taken (suc n) (x ∷ l) = let e = few_taken n l in omega arith

pub few_codes : (bytes : List ℕ) → length (typed_line 200 bytes) ≤ 200
unfolding typed_line
few_codes bytes = few_taken 200 (typed_codes (typed_bytes bytes))

pub same_length : (l : List ℕ) → length (map letter l) ≡ length l
same_length [] = refl
same_length (x ∷ l) = ap suc (same_length l)

-- ## Bytes that are written

-- Memory with bytes from an address on.
abbrev pub put_bytes : List ℕ → ℕ → List ℕ → List ℕ
put_bytes m a [] = m
put_bytes m a (b ∷ bs) = put_bytes (slice_set m a b) (suc a) bs

pub put_length : (m : List ℕ) (a : ℕ) (bs : List ℕ) → length (put_bytes m a bs) ≡ length m
put_length m a [] = refl
put_length m a (b ∷ bs) = put_length (slice_set m a b) (suc a) bs ∙ length-set m a b

pub put_kept : (base : ℕ) (story m : List ℕ) (a : ℕ) (bs : List ℕ) → a + length bs ≤ base → IsKept base story m → IsKept base story (put_bytes m a bs)
put_kept base story m a [] le kept = kept
put_kept base story m a (b ∷ bs) le kept = put_kept base story (slice_set m a b) (suc a) bs (omega arith) (drop-set-lt base m a b (omega arith) ∙ kept)

pub put_other : (m : List ℕ) (a : ℕ) (bs : List ℕ) (j : ℕ) → (a ≤ j → a + length bs ≤ j) → slice_index (put_bytes m a bs) j ≡ slice_index m j
put_other m a [] j far = refl
put_other m a (b ∷ bs) j far = put_other (slice_set m a b) (suc a) bs j (λ z. (let q = far (omega arith) in omega arith)) ∙ get_or-set_other m a j b 0 (λ (e : j ≡ a). (let q = far (omega arith) in omega arith))

-- Bytes stand in memory from an address on.
abbrev pub StandAt : List ℕ → ℕ → List ℕ → Type 0
StandAt m a [] = Unit {0}
StandAt m a (b ∷ bs) = (slice_index m a ≡ b) × StandAt m (suc a) bs

pub put_stand : (m : List ℕ) (a : ℕ) (bs : List ℕ) → a + length bs ≤ length m → StandAt (put_bytes m a bs) a bs
put_stand m a [] le = tt
put_stand m a (b ∷ bs) le = (put_other (slice_set m a b) (suc a) bs a (λ z. (omega arith)) ∙ get_or-set_same m a b 0 (omega arith), put_stand (slice_set m a b) (suc a) bs (let e = length-set m a b in omega arith))

pub stand_keep : (m m' : List ℕ) (a : ℕ) (bs : List ℕ) → ((j : ℕ) → a ≤ j → j < a + length bs → slice_index m' j ≡ slice_index m j) → StandAt m a bs → StandAt m' a bs
stand_keep m m' a [] same h = tt
stand_keep m m' a (b ∷ bs) same h = (same a (omega arith) (omega arith) ∙ h.0, stand_keep m m' (suc a) bs (λ j from to. same j (omega arith) (omega arith)) h.1)

pub put_small : (m : List ℕ) (a : ℕ) (bs : List ℕ) (j : ℕ) → a + length bs ≤ length m → AreBytes bs → slice_index m j < 256 → slice_index (put_bytes m a bs) j < 256
put_small m a [] j le all small = small
put_small m a (b ∷ bs) j le all small =
    put_small (slice_set m a b) (suc a) bs j (let e = length-set m a b in omega arith) all.1
    (elim (cases_eq j a) [
      | inl here ↦ subst (λ (i : ℕ). slice_index (slice_set m a b) i < 256) (sym here) (subst (λ (x : ℕ). x < 256) (sym (get_or-set_same m a b 0 (omega arith))) all.0)
      | inr far ↦ subst (λ (x : ℕ). x < 256) (sym (get_or-set_other m a j b 0 far)) small
    ])

-- ## The player's way

writes_in : (layout : Layout) (mem : Memory) → mem.may_write ≡ is_writable layout → (a : ℕ) (bs : List ℕ) → 64 ≤ a → a + length bs ≤ layout.base → a + length bs < 65536 → with_bytes mem a bs ≡ Ok (record mem { bytes = put_bytes mem.bytes a bs })
unfolding with_bytes with_byte
writes_in layout mem is a [] low le small = refl
writes_in layout mem is a (b ∷ bs) low le small =
    let on : (a + 1) % 65536 ≡ suc a = omega arith in
    let allowed : mem.may_write a ≡ true = ap (λ (g : ℕ → Bool). g a) is ∙ may layout a low (omega arith) in
    rw (allowed, on) (writes_in layout (record mem { bytes = slice_set mem.bytes a b }) is (suc a) bs (omega arith) (omega arith) (omega arith))

pub rights : (layout : Layout) (n a : ℕ) → 64 ≤ a → a + n ≤ layout.base → layout.base ≤ 65536 → n + a < 65536 → have_right (is_writable layout) a n ≡ true
unfolding have_right
rights layout zero a low le small less = refl
rights layout (suc n) a low le small less =
    let on : (a + 1) % 65536 ≡ suc a = omega arith in
    rw (may layout a low (omega arith), on) (rights layout n (suc a) (omega arith) (omega arith) small (omega arith))

-- A line of at most 200 codes in a buffer.
pub writes_line : (layout : Layout) (m : List ℕ) (a : ℕ) (codes : List ℕ) → 64 ≤ a → a + 2 + length codes ≤ layout.base → a + 2 + length codes < 65536 → with_line (guarded layout m) a codes ≡ Ok (record (guarded layout m) { bytes = slice_set (put_bytes m (a + 2) codes) (a + 1) (length codes) })
unfolding with_line with_byte
writes_line layout m a codes low le small =
    let two : (a + 2) % 65536 ≡ a + 2 = omega arith in
    let one : (a + 1) % 65536 ≡ a + 1 = omega arith in
    rw (two, one, writes_in layout (guarded layout m) refl (a + 2) codes (omega arith) le small, may layout (a + 1) (omega arith) (omega arith)) refl
