-- The definitions that go on from place to place, one place at a time.
use Rattle.std.proofs.Common.{◌≡◌, ◌≢◌, ℕ, zero, suc, ◌+◌, ◌-◌, ◌%◌, ◌<◌, ◌≤◌, true, eqb, List, [], ◌∷◌, ◌++◌, length, take, drop, get_or, Some, None, Result, Ok, Err, refl, sym, ap, ◌∙◌, arith, append_assoc, drop-cons, eq-eqb}
use Rattle.std.proofs.Math.ListN.{drop_of_length-le, set}
use Rattle.std.proofs.lemmas.Bool.{ne_eqb}
use Rattle.std.proofs.lemmas.List.{length-set, append-nil, take_all}
use Rattle.z_model.specs.declared.fault.ZFault.{ZFault}
use Rattle.z_model.specs.declared.fault.ZFault.TheVariants.{BadObject, BadProperty}
use Rattle.z_model.specs.declared.property.Property.{Property}
use Rattle.z_model.specs.Decode.{◌>>=◌}
use Rattle.z_model.specs.Memory.{Memory, byte_in, with_byte, memory_word, with_bytes}
use Rattle.z_full.specs.Calls.{SameRights}
use Rattle.z_model.specs.Objects.{sibling_at, link_to}
use Rattle.z_model.specs.Properties.{property_end, property_at, property_from}
use Rattle.z_model.specs.Tables.{entry_in, scanned, bytes_in, cleared, copied_on}

-- What is left gives what the whole does, over the same rights.
pub record GoesOn (first now : Memory) (whole left : Result Memory ZFault) : Type 0 where
  pub goes : whole ≡ left
  pub rights : SameRights first now

pub rights_then : (a b c : Memory) → SameRights a b → SameRights b c → SameRights a c
rights_then a b c p q = record { reads = q.reads ∙ p.reads; writes = q.writes ∙ p.writes }

same_is : (n : ℕ) → eqb n n ≡ true
same_is n = eq-eqb n n refl

-- ---- a chain of siblings

pub link_failed : (mem : Memory) (objects a n place : ℕ) (fault : ZFault) → 0 < n → memory_word mem place ≡ Err fault → link_to mem objects a n place ≡ Err fault
unfolding link_to
link_failed mem objects a zero place fault some e = absurd (omega arith)
link_failed mem objects a (suc n) place fault some e = rw e refl

pub link_here : (mem : Memory) (objects a n place x : ℕ) → 0 < n → memory_word mem place ≡ Ok x → x ≡ a → link_to mem objects a n place ≡ Ok (Some place)
unfolding link_to
link_here mem objects a zero place x some e same = absurd (omega arith)
link_here mem objects a (suc n) place x some e same = rw (e, same, same_is) refl

pub link_ends : (mem : Memory) (objects a n place x : ℕ) → 0 < n → memory_word mem place ≡ Ok x → x ≢ a → x ≡ 0 → link_to mem objects a n place ≡ Ok None
unfolding link_to
link_ends mem objects a zero place x some e other none = absurd (omega arith)
link_ends mem objects a (suc n) place x some e other none = rw (e, ne_eqb x a other, none) refl

pub link_later : (mem : Memory) (objects a n place next x : ℕ) → 0 < n → memory_word mem place ≡ Ok x → x ≢ a → x ≢ 0 → next ≡ sibling_at objects x →
    link_to mem objects a n place ≡ link_to mem objects a (n - 1) next
unfolding link_to
link_later mem objects a zero place next x some e other more is = absurd (omega arith)
link_later mem objects a (suc n) place next x some e other more is =
    let less : suc n - 1 ≡ n = omega arith in
    rw (e, ne_eqb x a other, ne_eqb x 0 more, less, is) refl

pub link_over : (mem : Memory) (objects a n place : ℕ) → n ≡ 0 → link_to mem objects a n place ≡ Err BadObject
unfolding link_to
link_over mem objects a n place e = rw e refl

-- ---- a list of properties

pub property_failed : (mem : Memory) (number n limit place : ℕ) (fault : ZFault) → 0 < n → property_at mem limit place ≡ Err fault → property_from mem number n limit place ≡ Err fault
unfolding property_from
property_failed mem number zero limit place fault some e = absurd (omega arith)
property_failed mem number (suc n) limit place fault some e = rw e refl

pub property_ends : (mem : Memory) (number n limit place : ℕ) → 0 < n → property_at mem limit place ≡ Ok None → property_from mem number n limit place ≡ Ok None
unfolding property_from
property_ends mem number zero limit place some e = absurd (omega arith)
property_ends mem number (suc n) limit place some e = rw e refl

pub property_here : (mem : Memory) (number n limit place : ℕ) (p : Property) → 0 < n → property_at mem limit place ≡ Ok (Some p) → p.number ≡ number →
    property_from mem number n limit place ≡ Ok (Some p)
unfolding property_from
property_here mem number zero limit place p some e same = absurd (omega arith)
property_here mem number (suc n) limit place p some e same = rw (e, same, same_is) refl

pub property_later : (mem : Memory) (number n limit place next : ℕ) (p : Property) → 0 < n → property_at mem limit place ≡ Ok (Some p) → p.number ≢ number →
    next ≡ property_end p → property_from mem number n limit place ≡ property_from mem number (n - 1) p.number next
unfolding property_from
property_later mem number zero limit place next p some e other is = absurd (omega arith)
property_later mem number (suc n) limit place next p some e other is =
    let less : suc n - 1 ≡ n = omega arith in
    rw (e, ne_eqb p.number number other, less, is) refl

pub property_over : (mem : Memory) (number n limit place : ℕ) → n ≡ 0 → property_from mem number n limit place ≡ Err BadProperty
unfolding property_from
property_over mem number n limit place e = rw e refl

-- ---- a table

pub scan_over : (mem : Memory) (x form n at : ℕ) → n ≡ 0 → scanned mem x form n at ≡ Ok None
unfolding scanned
scan_over mem x form n at e = rw e refl

pub scan_failed : (mem : Memory) (x form n at : ℕ) (fault : ZFault) → 0 < n → entry_in mem form at ≡ Err fault → scanned mem x form n at ≡ Err fault
unfolding scanned
scan_failed mem x form zero at fault some e = absurd (omega arith)
scan_failed mem x form (suc n) at fault some e = rw e refl

pub scan_here : (mem : Memory) (x form n at y : ℕ) → 0 < n → entry_in mem form at ≡ Ok y → y ≡ x → scanned mem x form n at ≡ Ok (Some at)
unfolding scanned
scan_here mem x form zero at y some e same = absurd (omega arith)
scan_here mem x form (suc n) at y some e same = rw (e, same, same_is) refl

pub scan_later : (mem : Memory) (x form n at y : ℕ) → 0 < n → entry_in mem form at ≡ Ok y → y ≢ x →
    scanned mem x form n at ≡ scanned mem x form (n - 1) ((at + form % 128) % 65536)
unfolding scanned
scan_later mem x form zero at y some e other = absurd (omega arith)
scan_later mem x form (suc n) at y some e other =
    let less : suc n - 1 ≡ n = omega arith in
    rw (e, ne_eqb y x other, less) refl

-- ---- copying

pub clear_failed : (mem : Memory) (at n : ℕ) (fault : ZFault) → 0 < n → with_byte mem at 0 ≡ Err fault → cleared mem at n ≡ Err fault
unfolding cleared
clear_failed mem at zero fault some e = absurd (omega arith)
clear_failed mem at (suc n) fault some e = rw e refl

pub clear_later : (mem after : Memory) (at n : ℕ) → 0 < n → with_byte mem at 0 ≡ Ok after → cleared mem at n ≡ cleared after ((at + 1) % 65536) (n - 1)
unfolding cleared
clear_later mem after at zero some e = absurd (omega arith)
clear_later mem after at (suc n) some e =
    let less : suc n - 1 ≡ n = omega arith in
    rw (e, less) refl

pub clear_over : (mem : Memory) (at n : ℕ) → n ≡ 0 → cleared mem at n ≡ Ok mem
unfolding cleared
clear_over mem at n e = rw e refl

pub read_failed : (mem : Memory) (a b n : ℕ) (fault : ZFault) → 0 < n → byte_in mem a ≡ Err fault → copied_on mem a b n ≡ Err fault
unfolding copied_on
read_failed mem a b zero fault some e = absurd (omega arith)
read_failed mem a b (suc n) fault some e = rw e refl

pub write_failed : (mem : Memory) (a b n byte : ℕ) (fault : ZFault) → 0 < n → byte_in mem a ≡ Ok byte → with_byte mem b byte ≡ Err fault → copied_on mem a b n ≡ Err fault
unfolding copied_on
write_failed mem a b zero byte fault some e f = absurd (omega arith)
write_failed mem a b (suc n) byte fault some e f = rw (e, f) refl

pub copy_later : (mem after : Memory) (a b n byte : ℕ) → 0 < n → byte_in mem a ≡ Ok byte → with_byte mem b byte ≡ Ok after →
    copied_on mem a b n ≡ copied_on after ((a + 1) % 65536) ((b + 1) % 65536) (n - 1)
unfolding copied_on
copy_later mem after a b zero byte some e f = absurd (omega arith)
copy_later mem after a b (suc n) byte some e f =
    let less : suc n - 1 ≡ n = omega arith in
    rw (e, f, less) refl

pub copy_over : (mem : Memory) (a b n : ℕ) → n ≡ 0 → copied_on mem a b n ≡ Ok mem
unfolding copied_on
copy_over mem a b n e = rw e refl

-- ---- bytes that are read

-- bytes stand in front of those that are read
abbrev pub behind_front : List ℕ → Result (List ℕ) ZFault → Result (List ℕ) ZFault
behind_front front r = r >>= λ bytes. Ok (front ++ bytes)

pub bytes_failed : (mem : Memory) (front : List ℕ) (at n : ℕ) (fault : ZFault) → 0 < n → byte_in mem at ≡ Err fault → behind_front front (bytes_in mem at n) ≡ Err fault
unfolding bytes_in
bytes_failed mem front at zero fault some e = absurd (omega arith)
bytes_failed mem front at (suc n) fault some e = rw e refl

one_behind : (front : List ℕ) (byte : ℕ) (r : Result (List ℕ) ZFault) → behind_front front (r >>= λ bytes. Ok (byte ∷ bytes)) ≡ behind_front (front ++ byte ∷ []) r
one_behind front byte (Ok bytes) = ap (λ (l : List ℕ). Ok l) (sym (append_assoc front (byte ∷ []) bytes))
one_behind front byte (Err fault) = refl

pub bytes_later : (mem : Memory) (front : List ℕ) (at n byte : ℕ) → 0 < n → byte_in mem at ≡ Ok byte →
    behind_front front (bytes_in mem at n) ≡ behind_front (front ++ byte ∷ []) (bytes_in mem ((at + 1) % 65536) (n - 1))
unfolding bytes_in
bytes_later mem front at zero byte some e = absurd (omega arith)
bytes_later mem front at (suc n) byte some e =
    let less : suc n - 1 ≡ n = omega arith in
    rw (e, less) (one_behind front byte (bytes_in mem ((at + 1) % 65536) n))

pub bytes_over : (mem : Memory) (front : List ℕ) (at n : ℕ) → n ≡ 0 → behind_front front (bytes_in mem at n) ≡ Ok (front ++ [])
unfolding bytes_in
bytes_over mem front at n e = rw e refl

-- a place is filled, and the front grows by it
take_set : (xs : List ℕ) (i b : ℕ) → i < length xs → take (i + 1) (set xs i b) ≡ take i xs ++ b ∷ []
take_set [] i b lt = absurd (omega arith)
take_set (x ∷ xs) zero b lt = refl
take_set (x ∷ xs) (suc i) b lt =
    let one : suc i + 1 ≡ suc (i + 1) = omega arith in
    rw one (ap (λ (l : List ℕ). x ∷ l) (take_set xs i b (omega arith)))

pub front_more : (mem : Memory) (xs : List ℕ) (i b at : ℕ) → i < length xs →
    behind_front (take i xs ++ b ∷ []) (bytes_in mem at (length xs - i - 1)) ≡ behind_front (take (i + 1) (set xs i b)) (bytes_in mem at (length (set xs i b) - (i + 1)))
front_more mem xs i b at lt =
    let front = take_set xs i b lt in
    let count : length (set xs i b) - (i + 1) ≡ length xs - i - 1 = omega (arith, length-set xs i b) in
    rw (front, count) refl

pub whole_front : (mem : Memory) (xs : List ℕ) (i at : ℕ) → length xs ≤ i → behind_front (take i xs) (bytes_in mem at (length xs - i)) ≡ Ok xs
whole_front mem xs i at le =
    bytes_over mem (take i xs) at (length xs - i) (omega arith) ∙ ap (λ (l : List ℕ). Ok l) (append-nil (take i xs) ∙ take_all i xs le)

-- ---- bytes that are written

pub byte_refused : (mem : Memory) (a : ℕ) (bytes : List ℕ) (i : ℕ) (fault : ZFault) → i < length bytes → with_byte mem a (get_or bytes i 0) ≡ Err fault → with_bytes mem a (drop i bytes) ≡ Err fault
unfolding with_bytes
byte_refused mem a bytes i fault lt e = rw (drop-cons bytes i 0 lt, e) refl

pub byte_written : (mem after : Memory) (a : ℕ) (bytes : List ℕ) (i : ℕ) → i < length bytes → with_byte mem a (get_or bytes i 0) ≡ Ok after → with_bytes mem a (drop i bytes) ≡ with_bytes after ((a + 1) % 65536) (drop (i + 1) bytes)
unfolding with_bytes
byte_written mem after a bytes i lt e =
    let one : i + 1 ≡ suc i = omega arith in
    rw (drop-cons bytes i 0 lt, e, one) refl

pub bytes_written : (mem : Memory) (a : ℕ) (bytes : List ℕ) (i : ℕ) → length bytes ≤ i → with_bytes mem a (drop i bytes) ≡ Ok mem
unfolding with_bytes
bytes_written mem a bytes i le = rw (drop_of_length-le bytes le) refl
