-- What is gathered and what is outside stays, and going back leaves the oldest gatherings.
use Rattle.std.proofs.Common.{◌≡◌, ◌≢◌, ℕ, zero, suc, ◌+◌, ◌-◌, ◌<◌, ◌≤◌, List, [], ◌∷◌, length, drop, refl, sym, ap, ◌∙◌, arith}
use Rattle.std.proofs.Math.Seq.{drop-nil}
use Rattle.std.proofs.lemmas.List.{length-drop}
use Rattle.dg_meaning.specs.World.{Gathering, gathered_size}
use Rattle.dg_mid.specs.Step.{gathered_to}
use Rattle.dg_rt.specs.Copies.{Row}
use Rattle.dg_rt.specs.Gatherings.{rows_of}
use Rattle.dg_turn.specs.Told.{Telling}
use Rattle.dg_turn.specs.Rest.{aux_at, gather_words, newest, open_to, GatheringsIn, RestIn}

-- ## The oldest, so many

drop_sum : (m n : ℕ) (xs : List ℕ) → drop m (drop n xs) ≡ drop (n + m) xs
drop_sum m zero xs = let e : m ≡ 0 + m = omega arith in ap (λ (i : ℕ). drop i xs) e
drop_sum m (suc n) [] = drop-nil m ∙ sym (drop-nil (suc n + m))
drop_sum m (suc n) (x ∷ xs) = let e : suc (n + m) ≡ suc n + m = omega arith in drop_sum m n xs ∙ ap (λ (i : ℕ). drop i (x ∷ xs)) e

pub length_open : (n : ℕ) (xs : List ℕ) → n ≤ length xs → length (open_to n xs) ≡ n
length_open n xs le = length-drop (length xs - n) xs ∙ omega arith

-- fewer of so many are fewer of all
pub open_in : (k n : ℕ) (xs : List ℕ) → k ≤ n → n ≤ length xs → open_to k (open_to n xs) ≡ open_to k xs
open_in k n xs le le' =
    let size = length_open n xs le' in
    let a : length (open_to n xs) - k ≡ n - k = ap (λ (i : ℕ). i - k) size in
    let sum : length xs - n + (n - k) ≡ length xs - k = omega arith in
    ap (λ (i : ℕ). drop i (open_to n xs)) a ∙ drop_sum (n - k) (length xs - n) xs ∙ ap (λ (i : ℕ). drop i xs) sum

pub open_all : (xs : List ℕ) → open_to (length xs) xs ≡ xs
open_all xs = let none : length xs - length xs ≡ 0 = omega arith in ap (λ (i : ℕ). drop i xs) none

pub length_words : (gs : List Gathering) → length (gather_words gs) ≡ length gs
length_words [] = refl
length_words (x ∷ xs) = ap suc (length_words xs)

words_drop : (n : ℕ) (gs : List Gathering) → gather_words (drop n gs) ≡ drop n (gather_words gs)
words_drop zero gs = refl
words_drop (suc n) [] = refl
words_drop (suc n) (x ∷ xs) = words_drop n xs

pub words_to : (h : ℕ) (gs : List Gathering) → gather_words (gathered_to h gs) ≡ open_to h (gather_words gs)
words_to h gs = words_drop (length gs - h) gs ∙ ap (λ (i : ℕ). drop (i - h) (gather_words gs)) (sym (length_words gs))

-- ## Memory

row_stays : (cells cells' : ℕ → ℕ) (j : ℕ) (xs : List ℕ) → ((k : ℕ) → j ≤ k → cells' k ≡ cells k) → Row cells j xs → Row cells' j xs
row_stays cells cells' j [] same h = tt
row_stays cells cells' j (x ∷ xs) same h = (same j (omega arith) ∙ h.0, row_stays cells cells' (suc j) xs (λ k le. same k (omega arith)) h.1)

pub gatherings_stay : (t : Telling) (cells cells' : ℕ → ℕ) (gs : List Gathering) → ((k : ℕ) → aux_at ≤ k → cells' k ≡ cells k) → GatheringsIn t cells gs → GatheringsIn t cells' gs
gatherings_stay t cells cells' [] same h = tt
gatherings_stay t cells cells' (x ∷ xs) same h =
    let a = h.0 in (
      record {
        before = same (aux_at + gathered_size xs) (omega arith) ∙ a.before;
        end = same (aux_at + gathered_size xs + 1) (omega arith) ∙ a.end;
        values = row_stays cells cells' (aux_at + gathered_size xs + 2) (rows_of x.values) (λ k le. same k (omega arith)) a.values;
        formed = a.formed;
        room = a.room;
      },
      gatherings_stay t cells cells' xs same h.1,
    )

gatherings_drop : (t : Telling) (cells : ℕ → ℕ) (n : ℕ) (gs : List Gathering) → GatheringsIn t cells gs → GatheringsIn t cells (drop n gs)
gatherings_drop t cells zero gs h = h
gatherings_drop t cells (suc n) [] h = tt
gatherings_drop t cells (suc n) (x ∷ xs) h = gatherings_drop t cells n xs h.1

-- Words that differ in front of the registers that stay, and between them and the areas behind the trail, at most.
abbrev pub RestSame : (ℕ → ℕ) → (ℕ → ℕ) → Type 0
RestSame cells cells' = (k : ℕ) → 27 < k → (35 < k → aux_at ≤ k) → cells' k ≡ cells k

-- Registers and areas that are nobody's here stay.
pub rest_stays : (t : Telling) {outer : ℕ → ℕ} (cells cells' : ℕ → ℕ) (gs : List Gathering) → RestSame cells cells' → RestIn t outer cells gs → RestIn t outer cells' gs
rest_stays t cells cells' gs same h = let o = h.outside in record {
  gather = same 29 (omega arith) (λ q. (omega arith)) ∙ h.gather;
  gatherings = gatherings_stay t cells cells' gs (λ k le. same k (omega arith) (λ q. le)) h.gatherings;
  outside = record {
    registers = λ k low lt n29. same k low (λ q. (omega arith)) ∙ o.registers k low lt n29;
    areas = λ k le. same k (omega arith) (λ q. (omega arith)) ∙ o.areas k le;
  };
}

-- The newest gathering of so many is named again.
pub rest_back : (t : Telling) {outer : ℕ → ℕ} (cells cells' : ℕ → ℕ) (gs : List Gathering) (n : ℕ) → ((k : ℕ) → 27 < k → k ≢ 29 → (35 < k → aux_at ≤ k) → cells' k ≡ cells k) → cells' 29 ≡ newest (open_to n (gather_words gs)) → RestIn t outer cells gs → RestIn t outer cells' (gathered_to n gs)
rest_back t cells cells' gs n same named h = let o = h.outside in record {
  gather = named ∙ ap newest (sym (words_to n gs));
  gatherings = gatherings_drop t cells' (length gs - n) gs (gatherings_stay t cells cells' gs (λ k le. same k (omega arith) (λ e. (omega arith)) (λ q. le)) h.gatherings);
  outside = record {
    registers = λ k low lt n29. same k low n29 (λ q. (omega arith)) ∙ o.registers k low lt n29;
    areas = λ k le. same k (omega arith) (λ e. (omega arith)) (λ q. (omega arith)) ∙ o.areas k le;
  };
}
