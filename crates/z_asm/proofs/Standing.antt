-- What stands in an assembled story.
use Rattle.std.proofs.Common.{◌≡◌, ℕ, zero, suc, ◌+◌, ◌-◌, ◌*◌, ◌/◌, ◌%◌, ◌<◌, ◌≤◌, Bool, true, false, List, [], ◌∷◌, ◌++◌, length, map, drop, take, replicate, sum, Some, None, refl, sym, ap, ◌∙◌, subst, arith, append_assoc, length-append}
use Rattle.std.specs.Prelude.{slice_get, slice_index, ◌==◌, if◌then◌else◌}
use Rattle.std.proofs.lemmas.Bool.{le-ltb, lt-ltb, eq-eqb, ne_eqb}
use Rattle.std.proofs.lemmas.List.{length-replicate}
use Rattle.std.proofs.lemmas.Option.{same_Some}
use Rattle.std.proofs.Math.Seq.{take-length}
use Rattle.z_model.specs.Spelling.{BytesAt}
use Rattle.z_model.specs.Story.{story_refusal, header_word, first_address, globals_of, static_base as story_base, length_of, memory_of, checksum_of}
use Rattle.z_code.specs.Targets.{Names, label_from, spot_of, ops_bytes, OpsAt}
use Rattle.z_text.specs.Encode.{string_of}
use Rattle.z_text.specs.Codes.{codes_from}
use Rattle.z_text.proofs.TextCodes.{text_codes}
use Rattle.z_asm.specs.declared.image.Code.{Code}
use Rattle.z_asm.specs.declared.image.Table.{Table}
use Rattle.z_asm.specs.declared.image.Image.{Image}
use Rattle.z_asm.specs.Layout.{code_bytes, code_size, aligned, stand_from, laid, packed_address, table_bytes, table_places}
use Rattle.z_asm.specs.Header.{header_bytes}
use Rattle.z_asm.specs.Story.{image_base, dictionary, code_start, front_of, first_ops, string_bytes, strings_of, string_sizes, routines_from, image_end, image_names, string_part, code_part, readable_bytes, all_strings, image_routines, bytes_behind, header_of, story_of}
use Rattle.z_asm.specs.Conditions.{counts_of_image, AreCodes, IsImage}
use Rattle.z_asm.specs.inside.Filled.{AreWords, IsWritable, AreWritable}
use Rattle.z_asm.specs.Assembled.{HasTable, HasText, HasCode, IsAssembled}
use Rattle.z_asm.proofs.Layouts.{aligned_most, aligned_is, end_most, HaveSizes, laid_long}
use Rattle.z_asm.proofs.Parts.{image_words, codes_writable, codes_sized, strings_sized, first_filled, front_long}
use Rattle.z_asm.proofs.Placing.{placed_by}

-- ---- lists that stand in others

behind_one : (b : ℕ) (bytes : List ℕ) (at : ℕ) (xs : List ℕ) → BytesAt bytes at xs → BytesAt (b ∷ bytes) (suc at) xs
behind_one b bytes at [] h = tt
behind_one b bytes at (x ∷ xs) h = (h.0, let e : suc at + 1 ≡ suc (at + 1) = omega arith in subst (λ (n : ℕ). BytesAt (b ∷ bytes) n xs) (sym e) (behind_one b bytes (at + 1) xs h.1))

at_front : (xs ys : List ℕ) → BytesAt (xs ++ ys) 0 xs
at_front [] ys = tt
at_front (x ∷ xs) ys = (refl, let e : 0 + 1 ≡ suc 0 = omega arith in subst (λ (n : ℕ). BytesAt (x ∷ (xs ++ ys)) n xs) (sym e) (behind_one x (xs ++ ys) 0 xs (at_front xs ys)))

between : (front xs ys : List ℕ) → BytesAt (front ++ (xs ++ ys)) (length front) xs
between [] xs ys = at_front xs ys
between (b ∷ front) xs ys = behind_one b (front ++ (xs ++ ys)) (length front) xs (between front xs ys)

pub stands_between : (story front xs ys : List ℕ) (at : ℕ) → story ≡ front ++ (xs ++ ys) → length front ≡ at → BytesAt story at xs
stands_between story front xs ys at e long = subst (λ (n : ℕ). BytesAt story n xs) long (subst (λ (l : List ℕ). BytesAt l (length front) xs) (sym e) (between front xs ys))

-- ---- parts that are laid out

group_first : (front pad part more rest : List ℕ) → front ++ ((pad ++ (part ++ more)) ++ rest) ≡ (front ++ pad) ++ (part ++ (more ++ rest))
group_first front pad part more rest = simp append_assoc

group_next : (front pad part more rest : List ℕ) → front ++ ((pad ++ (part ++ more)) ++ rest) ≡ ((front ++ pad) ++ part) ++ (more ++ rest)
group_next front pad part more rest = simp append_assoc

-- a part stands at its place
pub laid_stands : (story front : List ℕ) (at : ℕ) (parts : List (ℕ → List ℕ)) (sizes : List ℕ) (rest : List ℕ) (k : ℕ) (part : ℕ → List ℕ) → length front ≡ at → story ≡ front ++ (laid at parts sizes ++ rest) → HaveSizes parts sizes → slice_get parts k ≡ Some part →
    BytesAt story (slice_index (stand_from at sizes) k) (part (slice_index (stand_from at sizes) k))
laid_stands story front at [] sizes rest k part long is h e = absurd (cc)
laid_stands story front at (p ∷ parts) [] rest k part long is h e = absurd h
laid_stands story front at (p ∷ parts) (size ∷ sizes) rest zero part long is h e =
    let a = aligned at in
    let pad = replicate (a - at) 0 in
    let same : p ≡ part = same_Some p part e in
    let w = aligned_most at in
    let there : length (front ++ pad) ≡ a = omega (arith, length-append front pad, length-replicate {A = ℕ} (a - at) 0) in
    subst (λ (q : ℕ → List ℕ). BytesAt story a (q a)) same (stands_between story (front ++ pad) (p a) (laid (a + size) parts sizes ++ rest) a (is ∙ group_first front pad (p a) (laid (a + size) parts sizes) rest) there)
laid_stands story front at (p ∷ parts) (size ∷ sizes) rest (suc k) part long is h e =
    let a = aligned at in
    let pad = replicate (a - at) 0 in
    let w = aligned_most at in
    let s = h.0 a in
    let there : length ((front ++ pad) ++ p a) ≡ a + size = omega (arith, length-append (front ++ pad) (p a), length-append front pad, length-replicate {A = ℕ} (a - at) 0) in
    laid_stands story ((front ++ pad) ++ p a) (a + size) parts sizes rest k part there (is ∙ group_next front pad (p a) (laid (a + size) parts sizes) rest) h.1 e

-- packed addresses
pub packed_place : (at : ℕ) (sizes : List ℕ) (k : ℕ) → 8 * slice_index (map packed_address (stand_from at sizes)) k ≡ slice_index (stand_from at sizes) k
packed_place at [] k = omega arith
packed_place at (size ∷ sizes) zero = aligned_is at
packed_place at (size ∷ sizes) (suc k) = packed_place (aligned at + size) sizes k

pub place_most : (at : ℕ) (sizes : List ℕ) (k : ℕ) → k < length sizes → at ≤ slice_index (stand_from at sizes) k
place_most at [] k lt = absurd (omega arith)
place_most at (size ∷ sizes) zero lt = aligned_most at
place_most at (size ∷ sizes) (suc k) lt = let a = aligned_most at in let b = place_most (aligned at + size) sizes k (omega arith) in omega arith

-- what stands at a number in a list that is made of another
pub mapped : {A B : Type 0} (f : A → B) (xs : List A) (k : ℕ) (x : A) → slice_get xs k ≡ Some x → slice_get (map f xs) k ≡ Some (f x)
mapped f [] k x e = absurd (cc)
mapped f (y ∷ xs) zero x e = ap (λ z. Some (f z)) (same_Some y x e)
mapped f (y ∷ xs) (suc k) x e = mapped f xs k x e

pub within : {A : Type 0} (xs : List A) (k : ℕ) (x : A) → slice_get xs k ≡ Some x → k < length xs
within [] k x e = absurd (cc)
within (y ∷ xs) zero x e = omega arith
within (y ∷ xs) (suc k) x e = let r = within xs k x e in omega arith

pub many : {A B : Type 0} (f : A → B) (xs : List A) → length (map f xs) ≡ length xs
many f [] = refl
many f (x ∷ xs) = ap suc (many f xs)

-- ---- tables

-- A table's bytes at its address, within those of its kind.
record TableAt (story : List ℕ) (from base end place : ℕ) (t : Table) : Type 0 where
  stands : BytesAt story place t.bytes
  writable : t.writable ≡ true → place + length t.bytes ≤ from + end
  fixed : t.writable ≡ false → base ≤ place

abbrev StandBehind : List ℕ → List ℕ → List ℕ → List Table → Table → Type 0
StandBehind story mid rest ts t = (a b : List ℕ) (here there j : ℕ) → story ≡ a ++ (table_bytes true ts ++ mid) → length a ≡ here → story ≡ b ++ (table_bytes false ts ++ rest) → length b ≡ there → slice_get ts j ≡ Some t →
    TableAt story here there (length (table_bytes true ts)) (slice_index (table_places here there ts) j) t

table_step : (story a mid b rest : List ℕ) (here there : ℕ) (u : Table) (ts : List Table) (t : Table) (w : Bool) → u.writable ≡ w → length a ≡ here → length b ≡ there → StandBehind story mid rest ts t → (k : ℕ) →
    story ≡ a ++ ((if w then u.bytes ++ table_bytes true ts else table_bytes true ts) ++ mid) → story ≡ b ++ ((if w then table_bytes false ts else u.bytes ++ table_bytes false ts) ++ rest) → slice_get (u ∷ ts) k ≡ Some t →
    TableAt story here there (length (if w then u.bytes ++ table_bytes true ts else table_bytes true ts)) (slice_index (if w then here ∷ table_places (here + length u.bytes) there ts else there ∷ table_places here (there + length u.bytes) ts) k) t
table_step story a mid b rest here there u ts t true q la lb more zero ea eb e =
    let same = same_Some u t e in
    let first = stands_between story a u.bytes (table_bytes true ts ++ mid) here (ea ∙ (simp append_assoc)) la in
    subst (λ (x : Table). TableAt story here there (length (u.bytes ++ table_bytes true ts)) here x) same
    (record { stands = first; writable = λ y. omega (arith, length-append u.bytes (table_bytes true ts)); fixed = λ y. absurd (cc) })
table_step story a mid b rest here there u ts t false q la lb more zero ea eb e =
    let same = same_Some u t e in
    let first = stands_between story b u.bytes (table_bytes false ts ++ rest) there (eb ∙ (simp append_assoc)) lb in
    subst (λ (x : Table). TableAt story here there (length (table_bytes true ts)) there x) same
    (record { stands = first; writable = λ y. absurd (cc); fixed = λ y. omega arith })
table_step story a mid b rest here there u ts t true q la lb more (suc j) ea eb e =
    let long : length (a ++ u.bytes) ≡ here + length u.bytes = length-append a u.bytes ∙ ap (λ (n : ℕ). n + length u.bytes) la in
    let r = more (a ++ u.bytes) b (here + length u.bytes) there j (ea ∙ (simp append_assoc)) long eb lb e in
    record { stands = r.stands; writable = λ y. (let w = r.writable y in omega (arith, length-append u.bytes (table_bytes true ts))); fixed = r.fixed }
table_step story a mid b rest here there u ts t false q la lb more (suc j) ea eb e =
    let long : length (b ++ u.bytes) ≡ there + length u.bytes = length-append b u.bytes ∙ ap (λ (n : ℕ). n + length u.bytes) lb in
    let r = more a (b ++ u.bytes) here (there + length u.bytes) j ea la (eb ∙ (simp append_assoc)) long e in
    record { stands = r.stands; writable = r.writable; fixed = λ y. (let w = r.fixed y in omega arith) }

tables_stand : (story mid rest : List ℕ) (ts : List Table) (t : Table) → StandBehind story mid rest ts t
tables_stand story mid rest [] t a b here there j ea la eb lb e = absurd (cc)
tables_stand story mid rest (u ∷ ts) t a b here there j ea la eb lb e = table_step story a mid b rest here there u ts t u.writable refl la lb (tables_stand story mid rest ts t) j ea eb e

-- ---- the whole story

-- a multiple of 8 stays
header_long : (first dictionary base length_is checksum : ℕ) → length (header_bytes first dictionary base length_is checksum) ≡ 64
header_long first dictionary base length_is checksum = refl

module _ (image : Image) (is : IsImage image) (readable : front_of image ≤ 65536) (near : image_end image ≤ 524280) where
  abbrev names : Names
  names = image_names image

  abbrev first : List ℕ
  first = ops_bytes (image_names image) (spot_of []) (code_start image) first_ops

  abbrev pad : List ℕ
  pad = replicate (aligned (image_end image) - image_end image) 0

  words : AreWords (image_names image)
  words = image_words image readable near

  writable : AreWritable (image_names image) image.routines
  writable = codes_writable (image_names image) (counts_of_image image) image.routines words is.routines

  -- behind the readable part come the strings
  by_strings : story_of image ≡ (header_of image ++ readable_bytes image) ++ (all_strings image ++ (image_routines image ++ pad))
  unfolding story_of
  by_strings = sym (append_assoc (header_of image) (readable_bytes image) (all_strings image ++ (image_routines image ++ pad)))

  front : length (header_of image ++ readable_bytes image) ≡ front_of image
  front = length-append (header_of image) (readable_bytes image) ∙ (let a = front_long image in let b = length-append {A = ℕ} (replicate 64 0) (readable_bytes image) in omega arith)

  -- and then the routines
  by_routines : story_of image ≡ ((header_of image ++ readable_bytes image) ++ all_strings image) ++ (image_routines image ++ pad)
  by_routines = by_strings ∙ sym (append_assoc (header_of image ++ readable_bytes image) (all_strings image) (image_routines image ++ pad))

  middle : length ((header_of image ++ readable_bytes image) ++ all_strings image) ≡ routines_from image
  middle = length-append (header_of image ++ readable_bytes image) (all_strings image) ∙ ap (λ (n : ℕ). n + length (all_strings image)) front ∙ laid_long (front_of image) (map string_part (strings_of image)) (string_sizes image) (strings_sized (strings_of image))

  has_text : (k : ℕ) (text : List ℕ) → slice_get image.strings k ≡ Some text → HasText image (story_of image) k text
  has_text k text e =
      let sizes = string_sizes image in
      let there = mapped string_bytes image.strings k text e in
      let place = packed_place (front_of image) sizes k in
      let stands = laid_stands (story_of image) (header_of image ++ readable_bytes image) (front_of image) (map string_part (strings_of image)) sizes (image_routines image ++ pad) k (string_part (string_bytes text)) front by_strings (strings_sized (strings_of image)) (mapped string_part (strings_of image) k (string_bytes text) there) in
      let lt : k < length sizes = omega (arith, many length (strings_of image), many string_bytes image.strings, within image.strings k text e) in
      let most = place_most (front_of image) sizes k lt in
      record {
        stands = λ codes of. subst (λ (b : List ℕ). BytesAt (story_of image) (8 * names.text k) b) (ap string_of (ap (codes_from None) of.printed ∙ text_codes codes of.coded)) (subst (λ (n : ℕ). BytesAt (story_of image) n (string_bytes text)) (sym place) stands);
        behind = omega arith;
      }

  routine_of : (codes : List Code) (k : ℕ) (code : Code) → AreCodes (counts_of_image image) codes → AreWritable (image_names image) codes → slice_get codes k ≡ Some code → IsWritable (image_names image) code
  routine_of [] k code a w e = absurd (cc)
  routine_of (c ∷ codes) zero code a w e = subst (λ (x : Code). IsWritable (image_names image) x) (same_Some c code e) w.0
  routine_of (c ∷ codes) (suc k) code a w e = routine_of codes k code a.1 w.1 e

  has_code : (k : ℕ) (code : Code) → slice_get image.routines k ≡ Some code → HasCode image (story_of image) k code
  has_code k code e =
      let sizes = map code_size image.routines in
      let place = packed_place (routines_from image) sizes k in
      let stands = laid_stands (story_of image) ((header_of image ++ readable_bytes image) ++ all_strings image) (routines_from image) (map (code_part (image_names image)) image.routines) sizes pad k (code_part (image_names image) code) middle by_routines (codes_sized (image_names image) image.routines writable) (mapped (code_part (image_names image)) image.routines k code e) in
      let here = subst (λ (n : ℕ). BytesAt (story_of image) n (code_bytes (image_names image) n code)) (sym place) stands in
      let lt : k < length sizes = omega (arith, many code_size image.routines, within image.routines k code e) in
      let most = place_most (routines_from image) sizes k lt in
      let far = end_most (front_of image) (string_sizes image) in
      let at = 8 * names.routine k + 1 in
      record {
        count = here.0;
        ops = placed_by (story_of image) (image_names image) (label_from at code.ops) at code.ops ((routine_of image.routines k code is.routines writable e).filled at) here.1;
        behind = omega arith;
      }

  has_table : (k : ℕ) (t : Table) → slice_get image.tables k ≡ Some t → HasTable image (story_of image) k t
  unfolding story_of
  has_table k t e =
      let w = table_bytes true image.tables in
      let f = table_bytes false image.tables in
      let mid = (f ++ (dictionary ++ first)) ++ (all_strings image ++ (image_routines image ++ pad)) in
      let rest = (dictionary ++ first) ++ (all_strings image ++ (image_routines image ++ pad)) in
      let at = tables_stand (story_of image) mid rest image.tables t (header_of image ++ replicate 606 0) ((header_of image ++ replicate 606 0) ++ w) 670 (image_base image) k
      (by_writable (header_of image) (replicate 606 0) w (f ++ (dictionary ++ first)) (all_strings image ++ (image_routines image ++ pad))) refl
      (by_fixed (header_of image) (replicate 606 0) w f (dictionary ++ first) (all_strings image ++ (image_routines image ++ pad))) (length-append (header_of image ++ replicate 606 0) w) e in
      record { stands = at.stands; writable = at.writable; fixed = at.fixed }
    where
      by_writable : (h z w x y : List ℕ) → h ++ ((z ++ (w ++ x)) ++ y) ≡ (h ++ z) ++ (w ++ (x ++ y))
      by_writable h z w x y = simp append_assoc

      by_fixed : (h z w f x y : List ℕ) → h ++ ((z ++ (w ++ (f ++ x))) ++ y) ≡ ((h ++ z) ++ w) ++ (f ++ (x ++ y))
      by_fixed h z w f x y = simp append_assoc

  has_first : OpsAt (story_of image) (image_names image) (label_from (code_start image) first_ops) (code_start image) first_ops
  unfolding story_of
  has_first =
      let w = table_bytes true image.tables in
      let f = table_bytes false image.tables in
      let h = header_of image ++ replicate 606 0 in
      let before = ((h ++ w) ++ f) ++ dictionary in
      let long : length before ≡ code_start image = omega (arith, length-append ((h ++ w) ++ f) dictionary, length-append (h ++ w) f, length-append h w) in
      placed_by (story_of image) (image_names image) (spot_of []) (code_start image) first_ops (first_filled (image_names image) (counts_of_image image) (code_start image) words is.some)
      (stands_between (story_of image) before first (all_strings image ++ (image_routines image ++ pad)) (code_start image) (by_first (header_of image) (replicate 606 0) w f dictionary first (all_strings image ++ (image_routines image ++ pad))) long)
    where
      by_first : (h z w f d x y : List ℕ) → h ++ ((z ++ (w ++ (f ++ (d ++ x)))) ++ y) ≡ ((((h ++ z) ++ w) ++ f) ++ d) ++ (x ++ y)
      by_first h z w f d x y = simp append_assoc

  pub whole : length (story_of image) ≡ aligned (image_end image)
  whole =
      let a = laid_long (routines_from image) (map (code_part (image_names image)) image.routines) (map code_size image.routines) (codes_sized (image_names image) image.routines writable) in
      let m = aligned_most (image_end image) in
      ap length by_routines ∙ length-append ((header_of image ++ readable_bytes image) ++ all_strings image) (image_routines image ++ pad) ∙ omega (arith, middle, length-append (image_routines image) pad, length-replicate {A = ℕ} (aligned (image_end image) - image_end image) 0)

  -- ---- the header

  word_again : (n : ℕ) → 256 * (n / 256) + n % 256 ≡ n
  word_again n = omega arith

  start_is : first_address (story_of image) ≡ code_start image
  unfolding story_of
  start_is = word_again (code_start image)

  base_is : story_base (story_of image) ≡ image_base image
  unfolding story_of
  base_is = word_again (image_base image)

  globals_is : globals_of (story_of image) ≡ 64
  unfolding story_of
  globals_is = refl

  length_word : header_word (story_of image) 0x1A ≡ aligned (image_end image) / 8
  unfolding story_of
  length_word = word_again (aligned (image_end image) / 8)

  long_enough : front_of image ≤ image_end image
  long_enough = let a = end_most (front_of image) (string_sizes image) in let b = end_most (routines_from image) (map code_size image.routines) in omega arith

  length_is : length_of (story_of image) ≡ length (story_of image)
  length_is =
      let big = long_enough in
      let m = aligned_most (image_end image) in
      let eight = aligned_is (image_end image) in
      rw (length_word, ne_eqb (aligned (image_end image) / 8) 0 (λ (e : aligned (image_end image) / 8 ≡ 0). (omega arith))) (eight ∙ sym whole)

  memory_is : memory_of (story_of image) ≡ story_of image
  memory_is = ap (λ (n : ℕ). take n (story_of image)) length_is ∙ take-length (story_of image)

  behind_header : drop 64 (story_of image) ≡ bytes_behind image
  unfolding story_of
  behind_header = refl

  checksum_word : header_word (story_of image) 0x1C ≡ sum (bytes_behind image) % 65536
  unfolding story_of
  checksum_word = word_again (sum (bytes_behind image) % 65536)

  right : (checksum_of (story_of image) == header_word (story_of image) 0x1C) ≡ true
  right = eq-eqb _ _ (ap (λ (l : List ℕ). sum (drop 64 l) % 65536) memory_is ∙ ap (λ (l : List ℕ). sum l % 65536) behind_header ∙ sym checksum_word)

  version : slice_index (story_of image) 0 ≡ 8
  unfolding story_of
  version = refl

  accepted : story_refusal (story_of image) ≡ None
  unfolding story_refusal
  accepted =
      let big = long_enough in
      let m = aligned_most (image_end image) in
      let eight = aligned_is (image_end image) in
      let few : aligned (image_end image) ≤ 524280 = omega arith in
      rw (
        length_is,
        globals_is,
        base_is,
        start_is,
        version,
        whole,
        le-ltb 524288 (aligned (image_end image)) (omega arith),
        le-ltb (aligned (image_end image)) 64 (omega arith),
        le-ltb (aligned (image_end image)) (aligned (image_end image)) (omega arith),
        le-ltb (image_base image) (64 + 480) (omega arith),
        le-ltb (aligned (image_end image)) (image_base image) (omega arith),
        le-ltb 65534 (image_base image) (omega arith),
        le-ltb (code_start image) 64 (omega arith),
        lt-ltb (code_start image) (aligned (image_end image)) (omega arith),
      ) refl

  pub assembled : IsAssembled image (story_of image)
  assembled = record {
    header = record { accepted = accepted; right = right; globals_is = globals_is; base = base_is; start = start_is; length = length_is };
    first = has_first;
    tables = has_table;
    texts = has_text;
    routines = has_code;
  }
