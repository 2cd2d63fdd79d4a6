-- The parts of a story, as they are written one behind another.
use Rattle.std.proofs.Common.{◌≡◌, ℕ, ◌+◌, ◌-◌, ◌%◌, ◌<◌, ◌≤◌, true, false, List, [], ◌∷◌, ◌++◌, length, map, drop, get_or, replicate, sum, None, refl, sym, ap, ◌∙◌, subst, arith, append_assoc, length-append}
use Rattle.std.proofs.lemmas.List.{at_drop_more, drop_more}
use Rattle.z_model.specs.declared.table.Instr.TheVariants as instrs
use Rattle.z_model.specs.declared.table.One.TheVariants as one
use Rattle.z_model.specs.declared.table.Zero.TheVariants as none
use Rattle.z_model.specs.Decode.{operand_count, count_in_row}
use Rattle.z_model.specs.Table.{player_rows}
use Rattle.z_model.specs.Spelling.{IsOfTable}
use Rattle.z_code.specs.Targets.{Names, label_from, spot_of, ops_bytes}
use Rattle.z_code.specs.Open.{Counts, AreOpen}
use Rattle.z_text.specs.Encode.{string_of, IsTextOf, IsPrintable}
use Rattle.z_text.specs.Codes.{codes_from}
use Rattle.z_text.proofs.TextCodes.{text_codes}
use Rattle.z_asm.specs.declared.image.Code.{Code}
use Rattle.z_asm.specs.declared.image.Image.{Image}
use Rattle.z_asm.specs.declared.layout.Plan.{Plan}
use Rattle.z_asm.specs.declared.layout.Addresses.{Addresses}
use Rattle.z_asm.specs.Layout.{code_bytes, code_size, aligned, end_from, laid, table_bytes, names_at}
use Rattle.z_asm.specs.Header.{header_bytes}
use Rattle.z_asm.specs.Story.{image_base, dictionary_of, dictionary, code_start, front_of, call_first, then_quit, first_ops, string_bytes, strings_of, string_sizes, routines_from, image_end, image_names, string_part, code_part, readable_bytes, all_strings, image_routines, bytes_behind, story_of}
use Rattle.z_asm.specs.Conditions.{counts_of_image, AreCodes, ArePrintable, IsImage}
use Rattle.z_asm.specs.inside.Filled.{AreWords, AreFilled, IsWritable, AreWritable}
use Rattle.z_asm.specs.Plan.{IsPlan}
use Rattle.z_asm.proofs.Layouts.{end_most, padded_long, HaveSizes, laid_long, packed_below, table_below}
use Rattle.z_asm.proofs.Placing.{filled_all, filled_long}

-- ---- texts

pub encoded_is : (text bytes : List ℕ) → IsPrintable text → ((codes : List ℕ) → IsTextOf codes text → bytes ≡ string_of codes) → bytes ≡ string_bytes text
encoded_is text bytes p h = h p.codes p.is ∙ sym (ap string_of (ap (codes_from None) p.is.printed ∙ text_codes p.codes p.is.coded))

pub printable_next : (texts : List (List ℕ)) (i : ℕ) (text : List ℕ) → i < length texts → ArePrintable (drop i texts) → IsPrintable (get_or texts i text) × ArePrintable (drop (i + 1) texts)
printable_next texts i text lt p = subst (λ (l : List (List ℕ)). ArePrintable l) (drop_more texts i text lt) p

-- ---- routines

pub writable_next : (names : Names) (codes : List Code) (i : ℕ) (code : Code) → i < length codes → AreWritable names (drop i codes) → IsWritable names (get_or codes i code) × AreWritable names (drop (i + 1) codes)
writable_next names codes i code lt w = subst (λ (l : List Code). AreWritable names l) (drop_more codes i code lt) w

pub code_long : (names : Names) (at : ℕ) (code : Code) → IsWritable names code → length (code_bytes names at code) ≡ code_size code
code_long names at code w = let r = filled_long names (label_from (at + 1) code.ops) (at + 1) code.ops (w.filled (at + 1)) in omega arith

-- one more routine
pub codes_step : (names : Names) (codes : List Code) (i : ℕ) (code : Code) (whole out padded new : List ℕ) → i < length codes → code ≡ get_or codes i code → IsWritable names code →
    whole ≡ out ++ laid (length out) (map (code_part names) (drop i codes)) (map code_size (drop i codes)) → padded ≡ out ++ replicate (aligned (length out) - length out) 0 → new ≡ padded ++ code_bytes names (length padded) code →
    (whole ≡ new ++ laid (length new) (map (code_part names) (drop (i + 1) codes)) (map code_size (drop (i + 1) codes))) × (length new ≡ aligned (length out) + code_size code)
codes_step names codes i code whole out padded new lt is w e p n = (e ∙ ap (λ (l : List ℕ). out ++ l) split ∙ regroup, long)
  where
    at : ℕ
    at = aligned (length out)

    rest : ℕ → List ℕ
    rest k = laid k (map (code_part names) (drop (i + 1) codes)) (map code_size (drop (i + 1) codes))

    here : length padded ≡ at
    here = ap length p ∙ padded_long out

    now : new ≡ (out ++ replicate (at - length out) 0) ++ code_bytes names at code
    now = n ∙ ap (λ (k : ℕ). padded ++ code_bytes names k code) here ∙ ap (λ (l : List ℕ). l ++ code_bytes names at code) p

    long : length new ≡ at + code_size code
    long = ap length n ∙ length-append padded (code_bytes names (length padded) code) ∙ (let a = code_long names (length padded) code w in omega (arith, here))

    split : laid (length out) (map (code_part names) (drop i codes)) (map code_size (drop i codes)) ≡ replicate (at - length out) 0 ++ (code_bytes names at code ++ rest (at + code_size code))
    split = subst (λ (c : Code). laid (length out) (map (code_part names) (drop i codes)) (map code_size (drop i codes)) ≡ replicate (aligned (length out) - length out) 0 ++ (code_bytes names (aligned (length out)) c ++ laid (aligned (length out) + code_size c) (map (code_part names) (drop (i + 1) codes)) (map code_size (drop (i + 1) codes)))) (sym is)
        (at_drop_more (λ (l : List Code). laid (length out) (map (code_part names) l) (map code_size l)) codes i code lt)

    regroup : out ++ (replicate (at - length out) 0 ++ (code_bytes names at code ++ rest (at + code_size code))) ≡ new ++ rest (length new)
    regroup = sym (append_assoc out (replicate (at - length out) 0) (code_bytes names at code ++ rest (at + code_size code)))
        ∙ sym (append_assoc (out ++ replicate (at - length out) 0) (code_bytes names at code) (rest (at + code_size code)))
        ∙ ap (λ (l : List ℕ). l ++ rest (at + code_size code)) (sym now) ∙ ap (λ (k : ℕ). new ++ rest k) (sym long)

-- the condition of an image gives what its routines are written by
pub codes_writable : (names : Names) (counts : Counts) (codes : List Code) → AreWords names → AreCodes counts codes → AreWritable names codes
codes_writable names counts [] words h = tt
codes_writable names counts (code ∷ codes) words h =
    (record { filled = λ at. filled_all names words counts at code.ops (λ l has. let short = h.0.short l has in omega arith) h.0.are_open }, codes_writable names counts codes words h.1)

pub codes_sized : (names : Names) (codes : List Code) → AreWritable names codes → HaveSizes (map (code_part names) codes) (map code_size codes)
codes_sized names [] w = tt
codes_sized names (code ∷ codes) w = (λ at. code_long names at code w.0, codes_sized names codes w.1)

pub strings_sized : (strings : List (List ℕ)) → HaveSizes (map string_part strings) (map length strings)
strings_sized [] = tt
strings_sized (s ∷ strings) = (λ at. refl, strings_sized strings)

-- ---- the first instructions

call_table : IsOfTable player_rows call_first
unfolding count_in_row operand_count
call_table = record {
  row = record { instr = instrs.One one.Call1n; fewest = 1; most = 1; store = false; branch = false; text = false };
  is = record { known = refl; form = (omega arith, refl, refl, refl, (λ (e : 143 ≡ 190). (omega arith))); count = refl; first = omega arith; second = refl; third = refl; fourth = refl; store = tt; branch = tt };
  text = refl;
}

quit_table : IsOfTable player_rows then_quit
unfolding count_in_row operand_count
quit_table = record {
  row = record { instr = instrs.Zero none.Quit; fewest = 0; most = 0; store = false; branch = false; text = false };
  is = record { known = refl; form = (omega arith, refl, refl, refl, (λ (e : 186 ≡ 190). (omega arith))); count = refl; first = refl; second = refl; third = refl; fourth = refl; store = tt; branch = tt };
  text = refl;
}

first_open : (counts : Counts) → 0 < counts.routines → AreOpen counts first_ops first_ops
first_open counts some = (
  record { table = call_table; text = refl; first = (refl, some); second = tt; third = tt; fourth = tt; branch_open = tt },
  (record { table = quit_table; text = refl; first = tt; second = tt; third = tt; fourth = tt; branch_open = tt }, tt),
)

pub first_filled : (names : Names) (counts : Counts) (at : ℕ) → AreWords names → 0 < counts.routines → AreFilled names (spot_of []) at first_ops
first_filled names counts at words some = filled_all names words counts at first_ops (omega arith) (first_open counts some)

-- ---- the plan

pub image_words : (image : Image) → front_of image ≤ 65536 → image_end image ≤ 524280 → AreWords (image_names image)
image_words image readable near = record {
  routine = λ k. packed_below (routines_from image) (map code_size image.routines) k near;
  table = λ k. table_below 670 (image_base image) image.tables k (omega arith) (omega arith);
  text = λ k. packed_below (front_of image) (string_sizes image) k (let e = end_most (routines_from image) (map code_size image.routines) in omega arith);
}

pub plan_words : (image : Image) (p : Plan) → IsPlan image p → AreWords (names_at p.addresses)
plan_words image p is = subst (λ (a : Addresses). AreWords (names_at a)) (sym is.addresses_are) (image_words image is.readable is.near)

-- ---- the whole

pub readable_is : (image : Image) (p : Plan) (a b c d new : List ℕ) → IsPlan image p → a ≡ replicate 670 0 → b ≡ a ++ table_bytes true image.tables → c ≡ b ++ table_bytes false image.tables → d ≡ c ++ dictionary →
    new ≡ d ++ ops_bytes (names_at p.addresses) (spot_of []) (length d) first_ops → new ≡ replicate 64 0 ++ readable_bytes image
readable_is image p a b c d new is ea eb ec ed en = en ∙ ap (λ (n : Names). d ++ ops_bytes n (spot_of []) (length d) first_ops) (ap names_at is.addresses_are)
    ∙ ap (λ (k : ℕ). d ++ ops_bytes (image_names image) (spot_of []) k first_ops) long ∙ ap (λ (l : List ℕ). l ++ first) all ∙ regroup (replicate 64 0) (replicate 606 0) (table_bytes true image.tables) (table_bytes false image.tables) dictionary first
  where
    first : List ℕ
    first = ops_bytes (image_names image) (spot_of []) (code_start image) first_ops

    all : d ≡ (((replicate 64 0 ++ replicate 606 0) ++ table_bytes true image.tables) ++ table_bytes false image.tables) ++ dictionary
    all = ed ∙ ap (λ (l : List ℕ). l ++ dictionary) (ec ∙ ap (λ (l : List ℕ). l ++ table_bytes false image.tables) (eb ∙ ap (λ (l : List ℕ). l ++ table_bytes true image.tables) ea))

    long : length d ≡ code_start image
    long =
        let x : length a ≡ 670 = ap length ea in
        let y = ap length eb ∙ length-append a (table_bytes true image.tables) in
        let z = ap length ec ∙ length-append b (table_bytes false image.tables) in
        let u = ap length ed ∙ length-append c dictionary in
        omega arith

    regroup : (z y t u v w : List ℕ) → ((((z ++ y) ++ t) ++ u) ++ v) ++ w ≡ z ++ (y ++ (t ++ (u ++ (v ++ w))))
    regroup z y t u v w = simp append_assoc

pub front_long : (image : Image) → length (replicate 64 0 ++ readable_bytes image) ≡ front_of image
front_long image =
    let first = ops_bytes (image_names image) (spot_of []) (code_start image) first_ops in
    let t = table_bytes true image.tables in
    let u = table_bytes false image.tables in
    omega (arith, length-append {A = ℕ} (replicate 64 0) (readable_bytes image), length-append {A = ℕ} (replicate 606 0) (t ++ (u ++ (dictionary ++ first))), length-append t (u ++ (dictionary ++ first)), length-append u (dictionary ++ first))

pub strings_long : (image : Image) (out new : List ℕ) → out ≡ replicate 64 0 ++ readable_bytes image → new ≡ out ++ laid (length out) (map string_part (strings_of image)) (string_sizes image) → length new ≡ routines_from image
strings_long image out new e n =
    let a = ap length e ∙ front_long image in
    let b = laid_long (length out) (map string_part (strings_of image)) (string_sizes image) (strings_sized (strings_of image)) in
    ap length n ∙ length-append out (laid (length out) (map string_part (strings_of image)) (string_sizes image)) ∙ b ∙ ap (λ (k : ℕ). end_from k (string_sizes image)) a

pub routines_long : (image : Image) (names : Names) (out new : List ℕ) → length out ≡ routines_from image → AreWritable names image.routines → new ≡ out ++ laid (length out) (map (code_part names) image.routines) (map code_size image.routines) → length new ≡ image_end image
routines_long image names out new e w n =
    let b = laid_long (length out) (map (code_part names) image.routines) (map code_size image.routines) (codes_sized names image.routines w) in
    ap length n ∙ length-append out (laid (length out) (map (code_part names) image.routines) (map code_size image.routines)) ∙ b ∙ ap (λ (k : ℕ). end_from k (map code_size image.routines)) e

pub whole_is : (image : Image) (p : Plan) (a b c new : List ℕ) → IsImage image → IsPlan image p → a ≡ replicate 64 0 ++ readable_bytes image → b ≡ a ++ laid (length a) (map string_part (strings_of image)) (string_sizes image) →
    c ≡ b ++ laid (length b) (map (code_part (names_at p.addresses)) image.routines) (map code_size image.routines) → new ≡ c ++ replicate (aligned (length c) - length c) 0 → new ≡ replicate 64 0 ++ bytes_behind image
whole_is image p a b c new is plan ea eb ec en =
    en ∙ ap (λ (k : ℕ). c ++ replicate (aligned k - k) 0) long ∙ ap (λ (l : List ℕ). l ++ pad) all ∙ regroup (replicate 64 0) (readable_bytes image) (all_strings image) (image_routines image) pad
  where
    pad : List ℕ
    pad = replicate (aligned (image_end image) - image_end image) 0

    words : AreWords (names_at p.addresses)
    words = plan_words image p plan

    there : length b ≡ routines_from image
    there = strings_long image a b ea eb

    long : length c ≡ image_end image
    long = routines_long image (names_at p.addresses) b c there (codes_writable (names_at p.addresses) (counts_of_image image) image.routines words is.routines) ec

    all : c ≡ ((replicate 64 0 ++ readable_bytes image) ++ all_strings image) ++ image_routines image
    all = ec ∙ ap (λ (n : Names). b ++ laid (length b) (map (code_part n) image.routines) (map code_size image.routines)) (ap names_at plan.addresses_are)
        ∙ ap (λ (k : ℕ). b ++ laid k (map (code_part (image_names image)) image.routines) (map code_size image.routines)) there
        ∙ ap (λ (l : List ℕ). l ++ image_routines image) (eb ∙ ap (λ (k : ℕ). a ++ laid k (map string_part (strings_of image)) (string_sizes image)) (ap length ea ∙ front_long image) ∙ ap (λ (l : List ℕ). l ++ all_strings image) ea)

    regroup : (z y t u v : List ℕ) → (((z ++ y) ++ t) ++ u) ++ v ≡ z ++ (y ++ (t ++ (u ++ v)))
    regroup z y t u v = simp append_assoc

-- all bytes, with those of the header
pub whole_long : (image : Image) (p : Plan) → IsImage image → IsPlan image p → length (replicate 64 0 ++ bytes_behind image) ≡ aligned (image_end image)
whole_long image p is plan =
    let words = plan_words image p plan in
    let a = replicate 64 0 ++ readable_bytes image in
    let b = a ++ laid (length a) (map string_part (strings_of image)) (string_sizes image) in
    let c = b ++ laid (length b) (map (code_part (names_at p.addresses)) image.routines) (map code_size image.routines) in
    let whole = whole_is image p a b c (c ++ replicate (aligned (length c) - length c) 0) is plan refl refl refl refl in
    let long : length c ≡ image_end image = routines_long image (names_at p.addresses) b c (strings_long image a b refl refl) (codes_writable (names_at p.addresses) (counts_of_image image) image.routines words is.routines) refl in
    ap length (sym whole) ∙ padded_long c ∙ ap aligned long

drop_front : (xs : List ℕ) → drop 64 (replicate 64 0 ++ xs) ≡ xs
drop_front xs = refl

pub story_is : (image : Image) (p : Plan) (bytes story : List ℕ) → IsImage image → IsPlan image p → bytes ≡ replicate 64 0 ++ bytes_behind image →
    story ≡ header_bytes (p.dictionary + 4) p.dictionary p.base (length bytes) (sum (drop 64 bytes) % 65536) ++ drop 64 bytes → story ≡ story_of image
unfolding story_of
story_is image p bytes story is plan e n =
    n ∙ ap (λ (l : List ℕ). header_bytes (p.dictionary + 4) p.dictionary p.base (length l) (sum (drop 64 l) % 65536) ++ drop 64 l) e
    ∙ ap (λ (k : ℕ). header_bytes (p.dictionary + 4) p.dictionary p.base k (sum (bytes_behind image) % 65536) ++ bytes_behind image) (whole_long image p is plan)
    ∙ ap (λ (k : ℕ). header_bytes (k + 4) k p.base (aligned (image_end image)) (sum (bytes_behind image) % 65536) ++ bytes_behind image) plan.dictionary_is
    ∙ ap (λ (k : ℕ). header_bytes (code_start image) (dictionary_of image) k (aligned (image_end image)) (sum (bytes_behind image) % 65536) ++ bytes_behind image) plan.base_is
