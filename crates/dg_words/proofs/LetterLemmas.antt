-- The letters of a line's units, as they are kept one by one.
use Rattle.std.proofs.Common.{◌≡◌, ℕ, zero, suc, ◌+◌, ◌-◌, ◌*◌, ◌<◌, ◌≤◌, List, [], ◌∷◌, ◌++◌, length, map, take, drop, get_or, Option, refl, sym, ap, ◌∙◌, arith, drop-cons, append_assoc}
use Rattle.std.specs.Prelude.{◌/◌, ◌%◌, encode_utf8_all}
use Rattle.std.proofs.lemmas.Str.{encodes-append}
use Rattle.std.proofs.lemmas.List.{take_more}
use Rattle.std.proofs.Math.Utf8.{encode}
use Rattle.std.proofs.lemmas.Bool.{lt-ltb, le-ltb}
use Rattle.std.proofs.Math.ListN.{set, drop_of_length-le}
use Rattle.std.proofs.Math.Seq.{take-suc-set, take-length}
use Rattle.std.proofs.lemmas.List.{drop-drop, append-nil, length-drop}
use Rattle.dg_base.specs.declared.units.Unit.{Unit}
use Rattle.dg_base.specs.Units.{unit_at, units_behind, units_of}
use Rattle.dg_base.proofs.UnitLemmas.{units_first, units_front}
use Rattle.dg_meaning.specs.Words.{letter_of, letters_of, first_line}
use Rattle.dg_words.specs.Letters.{all_letters}

-- So many letters are kept, and with those of the bytes from a place on they are as many as there is room for.
pub record KeepsLetters (line bytes : List ℕ) (kept at : ℕ) : Type 0 where
  pub within : kept ≤ length line
  pub same : take kept line ++ take (length line - kept) (all_letters (drop at bytes)) ≡ take (length line) (all_letters bytes)

pub letters_start : (line bytes : List ℕ) → KeepsLetters line bytes 0 0
letters_start line bytes =
    let whole : length line - 0 ≡ length line = omega arith in
    record { within = omega arith; same = rw whole refl }

none_left : (n : ℕ) (bytes : List ℕ) → bytes ≡ [] → take n (all_letters bytes) ≡ []
unfolding units_behind
none_left zero bytes e = refl
none_left (suc n) bytes e = rw e refl

pub letters_full : (line bytes : List ℕ) (kept at : ℕ) → length line ≤ kept → KeepsLetters line bytes kept at → take kept line ≡ take (length line) (all_letters bytes)
letters_full line bytes kept at le k =
    let none : length line - kept ≡ 0 = omega arith in
    sym (append-nil (take kept line)) ∙ ap (λ (n : ℕ). take kept line ++ take n (all_letters (drop at bytes))) (sym none) ∙ k.same

pub letters_end : (line bytes : List ℕ) (kept at : ℕ) → length bytes ≤ at → KeepsLetters line bytes kept at → take kept line ≡ take (length line) (all_letters bytes)
letters_end line bytes kept at le k =
    let none = none_left (length line - kept) (drop at bytes) (drop_of_length-le bytes le) in
    sym (append-nil (take kept line)) ∙ ap (λ (l : List ℕ). take kept line ++ l) (sym none) ∙ k.same

-- the codes from a place on
letters_from : (bytes : List ℕ) (at size : ℕ) → at < length bytes → 1 ≤ size → size ≡ (unit_at (get_or bytes at 0) (drop (at + 1) bytes)).size →
    all_letters (drop at bytes) ≡ letter_of (unit_at (get_or bytes at 0) (drop (at + 1) bytes)).character ∷ all_letters (drop (at + size) bytes)
letters_from bytes at size lt some is =
    let u : Unit = unit_at (get_or bytes at 0) (drop (at + 1) bytes) in
    let one : suc at ≡ at + 1 = omega arith in
    let cut : drop at bytes ≡ get_or bytes at 0 ∷ drop (at + 1) bytes = drop-cons bytes at 0 lt ∙ ap (λ (k : ℕ). get_or bytes at 0 ∷ drop k bytes) one in
    let behind : drop ((unit_at (get_or bytes at 0) (drop (at + 1) bytes)).size - 1) (drop (at + 1) bytes) ≡ drop (at + size) bytes =
    drop-drop ((unit_at (get_or bytes at 0) (drop (at + 1) bytes)).size - 1) (at + 1) bytes ∙ ap (λ (k : ℕ). drop k bytes) (omega arith) in
    ap all_letters cut ∙ ap (map letter_of) (units_first (get_or bytes at 0) (drop (at + 1) bytes))
    ∙ ap (λ (l : List ℕ). letter_of (unit_at (get_or bytes at 0) (drop (at + 1) bytes)).character ∷ all_letters l) behind

pub letters_more : (line bytes : List ℕ) (kept at : ℕ) (u : Unit) → kept < length line → at < length bytes → 1 ≤ u.size → u ≡ unit_at (get_or bytes at 0) (drop (at + 1) bytes) →
    (line' : List ℕ) → line' ≡ set line kept (letter_of u.character) → length line' ≡ length line → KeepsLetters line bytes kept at → KeepsLetters line' bytes (kept + 1) (at + u.size)
letters_more line bytes kept at u lt there some is line' set_is long k =
    let first = letters_from bytes at u.size there some (ap (λ (v : Unit). v.size) is) in
    let code : letter_of (unit_at (get_or bytes at 0) (drop (at + 1) bytes)).character ≡ letter_of u.character = ap (λ (v : Unit). letter_of v.character) (sym is) in
    let one : kept + 1 ≡ suc kept = omega arith in
    let front : take (kept + 1) line' ≡ take kept line ++ letter_of u.character ∷ [] =
    ap (λ (l : List ℕ). take (kept + 1) l) set_is ∙ ap (λ (n : ℕ). take n (set line kept (letter_of u.character))) one ∙ take-suc-set line kept (letter_of u.character) lt in
    let room : length line - kept ≡ suc (length line - (kept + 1)) = omega arith in
    let rest : take (length line - kept) (all_letters (drop at bytes)) ≡ letter_of u.character ∷ take (length line - (kept + 1)) (all_letters (drop (at + u.size) bytes)) =
    ap (λ (n : ℕ). take n (all_letters (drop at bytes))) room ∙ ap (take (suc (length line - (kept + 1)))) (first ∙ ap (λ (c : ℕ). c ∷ all_letters (drop (at + u.size) bytes)) code) in
    record {
      within = omega arith;
      same =
          ap (λ (n : ℕ). take (kept + 1) line' ++ take (n - (kept + 1)) (all_letters (drop (at + u.size) bytes))) long
          ∙ ap (λ (l : List ℕ). l ++ take (length line - (kept + 1)) (all_letters (drop (at + u.size) bytes))) front
          ∙ append_assoc (take kept line) (letter_of u.character ∷ []) (take (length line - (kept + 1)) (all_letters (drop (at + u.size) bytes)))
          ∙ ap (λ (l : List ℕ). take kept line ++ l) (sym rest)
          ∙ k.same
          ∙ ap (λ (n : ℕ). take n (all_letters bytes)) (sym long);
    }

take_map : (n : ℕ) (l : List (Option ℕ)) → take n (map letter_of l) ≡ map letter_of (take n l)
take_map zero l = refl
take_map (suc n) [] = refl
take_map (suc n) (x ∷ l) = ap (λ (r : List ℕ). letter_of x ∷ r) (take_map n l)

-- So many letters of a line are those of a front that is four times as long.
pub letters_front : (n m : ℕ) (bytes : List ℕ) → 4 * n ≤ m → take n (all_letters (take m bytes)) ≡ take n (all_letters bytes)
letters_front n m bytes le =
    take_map n (units_of (take m bytes)) ∙ ap (map letter_of) (units_front n m bytes le) ∙ sym (take_map n (units_of bytes))

-- The letters that are kept of the first 1,024 bytes of a line are those of the line.
pub line_kept : (front raw typed : List ℕ) → front ≡ take (length raw) (first_line typed) → length raw ≡ 1024 → take 200 (all_letters front) ≡ letters_of (first_line typed)
line_kept front raw typed cut room =
    ap (λ (l : List ℕ). take 200 (all_letters l)) (cut ∙ ap (λ (n : ℕ). take n (first_line typed)) room) ∙ letters_front 200 1024 (first_line typed) (omega arith)

-- what is behind a place, as a range up to the end
pub rest_whole : (l : List ℕ) (k : ℕ) → take (length l - k) (drop k l) ≡ drop k l
rest_whole l k = ap (λ (n : ℕ). take n (drop k l)) (sym (length-drop k l)) ∙ take-length (drop k l)

-- ## Their bytes

pub one_byte : (c : ℕ) → c < 128 → encode c ≡ c ∷ []
unfolding encode
one_byte c h = rw (lt-ltb c 128 h) refl

pub two_bytes : (c : ℕ) → 128 ≤ c → c < 2048 → encode c ≡ (192 + c / 64) ∷ (128 + c % 64) ∷ []
unfolding encode
two_bytes c h l = rw (le-ltb c 128 h, lt-ltb c 2048 l) refl

pub three_bytes : (c : ℕ) → 2048 ≤ c → c < 65536 → encode c ≡ (224 + c / 4096) ∷ (128 + c / 64 % 64) ∷ (128 + c % 64) ∷ []
unfolding encode
three_bytes c h l = rw (le-ltb c 128 (omega (arith, h)), le-ltb c 2048 h, lt-ltb c 65536 l) refl

pub spelled_more : (letters : List ℕ) (i : ℕ) → i < length letters → encode_utf8_all (take i letters) ++ encode (get_or letters i 0) ≡ encode_utf8_all (take (i + 1) letters)
spelled_more letters i lt =
    let one = get_or letters i 0 ∷ [] in
    ap (λ l. encode_utf8_all (take i letters) ++ l) (sym (append-nil (encode (get_or letters i 0)))) ∙ sym (encodes-append (take i letters) one) ∙ ap encode_utf8_all (sym (take_more letters i 0 lt))
