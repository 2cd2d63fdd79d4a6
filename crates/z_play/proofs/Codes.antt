-- The codes of a line's units, as they are kept one by one.
use Rattle.std.proofs.Common.{◌≡◌, ℕ, zero, suc, ◌+◌, ◌-◌, ◌*◌, ◌<◌, ◌≤◌, List, [], ◌∷◌, ◌++◌, length, map, take, drop, get_or, Option, refl, sym, ap, ◌∙◌, arith, drop-cons, append_assoc}
use Rattle.std.proofs.Math.ListN.{set, drop_of_length-le}
use Rattle.std.proofs.Math.Seq.{take-suc-set, take-length}
use Rattle.std.proofs.lemmas.List.{drop-drop, append-nil, length-drop}
use Rattle.dg_base.specs.declared.units.Unit.{Unit}
use Rattle.dg_base.specs.Units.{unit_at, units_behind, units_of}
use Rattle.dg_base.proofs.UnitLemmas.{units_first, units_front}
use Rattle.z_model.specs.Typed.{typed_code, typed_codes, typed_bytes, typed_line}

-- So many codes are kept, and with those of the bytes from a place on they are as many as there is room for.
pub record KeepsCodes (line bytes : List ℕ) (kept at : ℕ) : Type 0 where
  pub within : kept ≤ length line
  pub same : take kept line ++ take (length line - kept) (typed_codes (drop at bytes)) ≡ take (length line) (typed_codes bytes)

pub codes_start : (line bytes : List ℕ) → KeepsCodes line bytes 0 0
codes_start line bytes =
    let whole : length line - 0 ≡ length line = omega arith in
    record { within = omega arith; same = rw whole refl }

none_coded : (n : ℕ) (bytes : List ℕ) → bytes ≡ [] → take n (typed_codes bytes) ≡ []
unfolding units_behind
none_coded zero bytes e = refl
none_coded (suc n) bytes e = rw e refl

pub codes_full : (line bytes : List ℕ) (kept at : ℕ) → length line ≤ kept → KeepsCodes line bytes kept at → take kept line ≡ take (length line) (typed_codes bytes)
codes_full line bytes kept at le k =
    let none : length line - kept ≡ 0 = omega arith in
    sym (append-nil (take kept line)) ∙ ap (λ (n : ℕ). take kept line ++ take n (typed_codes (drop at bytes))) (sym none) ∙ k.same

pub codes_end : (line bytes : List ℕ) (kept at : ℕ) → length bytes ≤ at → KeepsCodes line bytes kept at → take kept line ≡ take (length line) (typed_codes bytes)
codes_end line bytes kept at le k =
    let none = none_coded (length line - kept) (drop at bytes) (drop_of_length-le bytes le) in
    sym (append-nil (take kept line)) ∙ ap (λ (l : List ℕ). take kept line ++ l) (sym none) ∙ k.same

-- the codes from a place on
codes_from : (bytes : List ℕ) (at size : ℕ) → at < length bytes → 1 ≤ size → size ≡ (unit_at (get_or bytes at 0) (drop (at + 1) bytes)).size →
    typed_codes (drop at bytes) ≡ typed_code (unit_at (get_or bytes at 0) (drop (at + 1) bytes)).character ∷ typed_codes (drop (at + size) bytes)
codes_from bytes at size lt some is =
    let u : Unit = unit_at (get_or bytes at 0) (drop (at + 1) bytes) in
    let one : suc at ≡ at + 1 = omega arith in
    let cut : drop at bytes ≡ get_or bytes at 0 ∷ drop (at + 1) bytes = drop-cons bytes at 0 lt ∙ ap (λ (k : ℕ). get_or bytes at 0 ∷ drop k bytes) one in
    let behind : drop ((unit_at (get_or bytes at 0) (drop (at + 1) bytes)).size - 1) (drop (at + 1) bytes) ≡ drop (at + size) bytes =
    drop-drop ((unit_at (get_or bytes at 0) (drop (at + 1) bytes)).size - 1) (at + 1) bytes ∙ ap (λ (k : ℕ). drop k bytes) (omega arith) in
    ap typed_codes cut ∙ ap (map typed_code) (units_first (get_or bytes at 0) (drop (at + 1) bytes))
    ∙ ap (λ (l : List ℕ). typed_code (unit_at (get_or bytes at 0) (drop (at + 1) bytes)).character ∷ typed_codes l) behind

pub codes_more : (line bytes : List ℕ) (kept at : ℕ) (u : Unit) → kept < length line → at < length bytes → 1 ≤ u.size → u ≡ unit_at (get_or bytes at 0) (drop (at + 1) bytes) →
    (line' : List ℕ) → line' ≡ set line kept (typed_code u.character) → length line' ≡ length line → KeepsCodes line bytes kept at → KeepsCodes line' bytes (kept + 1) (at + u.size)
codes_more line bytes kept at u lt there some is line' set_is long k =
    let first = codes_from bytes at u.size there some (ap (λ (v : Unit). v.size) is) in
    let code : typed_code (unit_at (get_or bytes at 0) (drop (at + 1) bytes)).character ≡ typed_code u.character = ap (λ (v : Unit). typed_code v.character) (sym is) in
    let one : kept + 1 ≡ suc kept = omega arith in
    let front : take (kept + 1) line' ≡ take kept line ++ typed_code u.character ∷ [] =
    ap (λ (l : List ℕ). take (kept + 1) l) set_is ∙ ap (λ (n : ℕ). take n (set line kept (typed_code u.character))) one ∙ take-suc-set line kept (typed_code u.character) lt in
    let room : length line - kept ≡ suc (length line - (kept + 1)) = omega arith in
    let rest : take (length line - kept) (typed_codes (drop at bytes)) ≡ typed_code u.character ∷ take (length line - (kept + 1)) (typed_codes (drop (at + u.size) bytes)) =
    ap (λ (n : ℕ). take n (typed_codes (drop at bytes))) room ∙ ap (take (suc (length line - (kept + 1)))) (first ∙ ap (λ (c : ℕ). c ∷ typed_codes (drop (at + u.size) bytes)) code) in
    record {
      within = omega arith;
      same =
          ap (λ (n : ℕ). take (kept + 1) line' ++ take (n - (kept + 1)) (typed_codes (drop (at + u.size) bytes))) long
          ∙ ap (λ (l : List ℕ). l ++ take (length line - (kept + 1)) (typed_codes (drop (at + u.size) bytes))) front
          ∙ append_assoc (take kept line) (typed_code u.character ∷ []) (take (length line - (kept + 1)) (typed_codes (drop (at + u.size) bytes)))
          ∙ ap (λ (l : List ℕ). take kept line ++ l) (sym rest)
          ∙ k.same
          ∙ ap (λ (n : ℕ). take n (typed_codes bytes)) (sym long);
    }

take_map : (n : ℕ) (l : List (Option ℕ)) → take n (map typed_code l) ≡ map typed_code (take n l)
take_map zero l = refl
take_map (suc n) [] = refl
take_map (suc n) (x ∷ l) = ap (λ (r : List ℕ). typed_code x ∷ r) (take_map n l)

-- So many codes of a line are those of a front that is four times as long.
pub codes_front : (n m : ℕ) (bytes : List ℕ) → 4 * n ≤ m → take n (typed_codes (take m bytes)) ≡ take n (typed_codes bytes)
codes_front n m bytes le =
    take_map n (units_of (take m bytes)) ∙ ap (map typed_code) (units_front n m bytes le) ∙ sym (take_map n (units_of bytes))

-- The codes that are kept of the first 1,024 bytes of a line are those of the line.
pub line_kept : (most : ℕ) (kept line raw front typed : List ℕ) → kept ≡ take (length line) (typed_codes front) → length line ≡ most → most ≤ 255 →
    front ≡ take (length raw) (typed_bytes typed) → length raw ≡ 1024 → kept ≡ typed_line most typed
unfolding typed_line
line_kept most kept line raw front typed is long few cut room =
    is ∙ ap (λ (n : ℕ). take n (typed_codes front)) long ∙ ap (λ (l : List ℕ). take most (typed_codes l)) (cut ∙ ap (λ (n : ℕ). take n (typed_bytes typed)) room)
    ∙ codes_front most 1024 (typed_bytes typed) (omega arith)

-- what is behind a place, as a range up to the end
pub rest_whole : (l : List ℕ) (k : ℕ) → take (length l - k) (drop k l) ≡ drop k l
rest_whole l k = ap (λ (n : ℕ). take n (drop k l)) (sym (length-drop k l)) ∙ take-length (drop k l)
