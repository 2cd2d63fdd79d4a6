-- Where the rows of the world's words stand in memory, and those of what is kept, memory stands for what starts set.
use Rattle.std.proofs.Common.{◌≡◌, ℕ, zero, suc, ◌+◌, ◌*◌, ◌<◌, ◌≤◌, List, [], ◌∷◌, length, take, Some, None, refl, sym, ap, ◌∙◌, subst, arith}
use Rattle.std.specs.Prelude.{is_some}
use Rattle.std.specs.List.{slice_get, sum_by}
use Rattle.std.proofs.lemmas.List.Sums.{sum_by-cons}
use Rattle.dg_base.specs.declared.program.CoreProgram.{CoreProgram}
use Rattle.dg_base.specs.declared.program.PlaceKind.{PlaceKind}
use Rattle.dg_base.specs.declared.program.PlaceKind.TheVariants.{Flag, ObjectFlag, ObjectVar, Parent, Global}
use Rattle.dg_meaning.specs.Facts.{Fact, value_at, kinds_of}
use Rattle.dg_rt.specs.Cells.{bit}
use Rattle.dg_rt.specs.Changes.{SetIn, TableIn, FlagsIn}
use Rattle.dg_rt.specs.Copies.{Row}
use Rattle.dg_rt.specs.Tables.{byte_at}
use Rattle.dg_turn.specs.World.{world_at, place_bytes, all_words, words_at, bytes_at, PlaceIn, FactsIn}
use Rattle.dg_turn.specs.Starts.{set_word, object_words, object_bytes, bytes_of_place, bytes_from, AreSimple, FitsPlace}
use Rattle.dg_turn.proofs.Starts.{flags_long}
use Rattle.dg_story.proofs.KeptStart.{row_front, row_back, There, words_there, KeptRows, kept_stands}

-- ## Words and bytes of objects

word_in : (c : ℕ → ℕ) (facts : List Fact) (place j o n : ℕ) → Row c j (object_words facts place o n) → (i : ℕ) → i < n → c (j + i) ≡ set_word (value_at facts place (o + i))
word_in c facts place j o zero h i lt = absurd (omega arith)
word_in c facts place j o (suc n) h zero lt = let e : j + 0 ≡ j = omega arith in let e' : o ≡ o + 0 = omega arith in ap c e ∙ h.0 ∙ ap (λ (k : ℕ). set_word (value_at facts place k)) e'
word_in c facts place j o (suc n) h (suc i) lt =
    let e : j + suc i ≡ suc j + i = omega arith in
    let e' : suc o + i ≡ o + suc i = omega arith in
    ap c e ∙ word_in c facts place (suc j) (suc o) n h.1 i (omega arith) ∙ ap (λ (k : ℕ). set_word (value_at facts place k)) e'

byte_in : (c : ℕ → ℕ) (facts : List Fact) (place j o n : ℕ) → Row c j (object_bytes facts place o n) → (i : ℕ) → i < n → c (j + i) ≡ bit (is_some (value_at facts place (o + i)))
byte_in c facts place j o zero h i lt = absurd (omega arith)
byte_in c facts place j o (suc n) h zero lt = let e : j + 0 ≡ j = omega arith in let e' : o ≡ o + 0 = omega arith in ap c e ∙ h.0 ∙ ap (λ (k : ℕ). bit (is_some (value_at facts place k))) e'
byte_in c facts place j o (suc n) h (suc i) lt =
    let e : j + suc i ≡ suc j + i = omega arith in
    let e' : suc o + i ≡ o + suc i = omega arith in
    ap c e ∙ byte_in c facts place (suc j) (suc o) n h.1 i (omega arith) ∙ ap (λ (k : ℕ). bit (is_some (value_at facts place k))) e'

table_stands : (facts : List Fact) (words : ℕ → ℕ) (place t n : ℕ) → AreSimple facts place n → Row words t (object_words facts place 0 n) → TableIn words t n facts place
table_stands facts words place t n fits row = record {
  each = λ o lt. subst (λ (w : ℕ). SetIn w (value_at facts place o)) (sym (word_in words facts place t 0 n row o lt ∙ ap (λ (k : ℕ). set_word (value_at facts place k)) (let e : 0 + o ≡ o = omega arith in e))) (fits.each o lt);
  few = fits.few;
}

flags_stand : (facts : List Fact) (words : ℕ → ℕ) (place b n : ℕ) → ((o : ℕ) → n ≤ o → value_at facts place o ≡ None) → Row (byte_at words) b (object_bytes facts place 0 n) → FlagsIn words b n facts place
flags_stand facts words place b n fits row = record {
  each = λ o lt. byte_in (byte_at words) facts place b 0 n row o lt ∙ ap (λ (k : ℕ). bit (is_some (value_at facts place k))) (let e : 0 + o ≡ o = omega arith in e);
  few = fits;
}

bytes_there : (n : ℕ) (facts : List Fact) (c : ℕ → ℕ) (kinds : List PlaceKind) (j place i : ℕ) (kind : PlaceKind) → slice_get kinds i ≡ Some kind → Row c j (bytes_from n facts place kinds) → Row c (j + sum_by (place_bytes n) (take i kinds)) (bytes_of_place n facts (place + i) kind)
bytes_there n facts c [] j place i kind e h = absurd (cc)
bytes_there n facts c (k ∷ ks) j place zero kind e h =
    let same : k ≡ kind = cc in
    let none : sum_by (place_bytes n) [] ≡ 0 = refl in
    let at : j ≡ j + sum_by (place_bytes n) [] = omega arith in
    let here : place ≡ place + 0 = omega arith in
    subst (λ (i : ℕ). Row c i (bytes_of_place n facts (place + 0) kind)) at (subst (λ (i : ℕ). Row c j (bytes_of_place n facts i kind)) here (subst (λ (x : PlaceKind). Row c j (bytes_of_place n facts place x)) same (row_front c j (bytes_of_place n facts place k) (bytes_from n facts (suc place) ks) h)))
bytes_there n facts c (k ∷ ks) j place (suc i) kind e h =
    let long = flags_long n facts place k in
    let sum = sum_by-cons (place_bytes n) k (take i ks) in
    let at : j + length (bytes_of_place n facts place k) + sum_by (place_bytes n) (take i ks) ≡ j + sum_by (place_bytes n) (k ∷ take i ks) = omega arith in
    let here : suc place + i ≡ place + suc i = omega arith in
    subst (λ (a : ℕ). Row c a (bytes_of_place n facts (place + suc i) kind)) at (subst (λ (a : ℕ). Row c (j + length (bytes_of_place n facts place k) + sum_by (place_bytes n) (take i ks)) (bytes_of_place n facts a kind)) here
    (bytes_there n facts c ks (j + length (bytes_of_place n facts place k)) (suc place) i kind e (row_back c j (bytes_of_place n facts place k) (bytes_from n facts (suc place) ks) h)))

-- ## All of it

-- The bytes of the world in a row, and what is kept, stand for facts that fit their places.
pub facts_stand : (program : CoreProgram) (facts : List Fact) (words : ℕ → ℕ) → ((place : ℕ) (kind : PlaceKind) → slice_get (kinds_of program) place ≡ Some kind → FitsPlace (length program.objects) facts place kind) →
    Row (byte_at words) (2 * (world_at + all_words (length program.objects) (kinds_of program))) (bytes_from (length program.objects) facts 0 (kinds_of program)) → KeptRows program facts words → FactsIn program facts words
facts_stand program facts words fits in_bytes kept = record { each = λ place kind e. by_kind place kind e (fits place kind e); kept = kept_stands program facts words kept }
  where
    words_here : (place : ℕ) (kind : PlaceKind) → slice_get (kinds_of program) place ≡ Some kind → There (length program.objects) facts words (words_at program place) place kind
    words_here place kind e = subst (λ (i : ℕ). There (length program.objects) facts words (words_at program place) i kind) (let q : 0 + place ≡ place = omega arith in q) (words_there (length program.objects) facts words (kinds_of program) world_at 14315 0 place kind e kept.own)

    bytes_here : (place : ℕ) (kind : PlaceKind) → slice_get (kinds_of program) place ≡ Some kind → Row (byte_at words) (bytes_at program place) (bytes_of_place (length program.objects) facts place kind)
    bytes_here place kind e = subst (λ (i : ℕ). Row (byte_at words) (bytes_at program place) (bytes_of_place (length program.objects) facts i kind)) (let q : 0 + place ≡ place = omega arith in q) (bytes_there (length program.objects) facts (byte_at words) (kinds_of program) (2 * (world_at + all_words (length program.objects) (kinds_of program))) 0 place kind e in_bytes)

    by_kind : (place : ℕ) (kind : PlaceKind) → slice_get (kinds_of program) place ≡ Some kind → FitsPlace (length program.objects) facts place kind → PlaceIn program facts words place kind
    by_kind place Flag e fit = table_stands facts words place (words_at program place) 1 fit (words_here place Flag e).row
    by_kind place ObjectFlag e fit = flags_stand facts words place (bytes_at program place) (length program.objects) fit (bytes_here place ObjectFlag e)
    by_kind place ObjectVar e fit = table_stands facts words place (words_at program place) (length program.objects) fit (words_here place ObjectVar e).row
    by_kind place Parent e fit = table_stands facts words place (words_at program place) (length program.objects) fit (words_here place Parent e).row
    by_kind place Global e fit = tt
