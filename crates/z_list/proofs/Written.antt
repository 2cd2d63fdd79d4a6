-- What is written in turns: rows, instructions, stretches and marks.
use Rattle.std.proofs.Common.{◌≡◌, ℕ, zero, suc, ◌+◌, ◌-◌, ◌<◌, ◌≤◌, List, [], ◌∷◌, ◌++◌, length, take, drop, get_or, Result, Ok, Err, OnOk, refl, sym, ap, subst, ◌∙◌, arith, append_assoc, slice_range}
use Rattle.std.proofs.lemmas.List.{append-nil, length-append, length-drop, drop-drop}
use Rattle.std.proofs.lemmas.List.Folds.{drop_split}
use Rattle.std.proofs.Math.ListN.{drop_of_length-le}
use Rattle.std.proofs.lemmas.List.Concat.{flat_map-append}
use Rattle.z_list.specs.declared.mark.Mark.{Mark}
use Rattle.z_model.specs.declared.fault.ZFault.{ZFault}
use Rattle.z_model.specs.declared.op.Found.{Found}
use Rattle.z_model.specs.Table.{player_rows}
use Rattle.z_model.specs.Decode.{op_at}
use Rattle.z_list.specs.Listing.{Line, Data, Does, End, AreMarks, rows, instructions, marked, lines}
use Rattle.z_list.specs.Texts.{line_text, texts, first_length}
use Rattle.z_list.specs.inside.Written.{IsRowEnd}
use Rattle.z_list.proofs.Sounds.{row_first}
use Rattle.z_list.proofs.Sound.{is_short}
use Rattle.z_list.proofs.Instructions.{Small, small_drop, found_within, found_front}
use Rattle.z_list.proofs.Same.{does_first, none_first}

pub texts_append : (xs ys : List Line) → texts (xs ++ ys) ≡ texts xs ++ texts ys
texts_append xs ys = flat_map-append line_text xs ys

-- a line is written, and others are left
pub line_written : (all made made' : List ℕ) (l : Line) (ls : List Line) → all ≡ made ++ texts (l ∷ ls) → made' ≡ made ++ line_text l → all ≡ made' ++ texts ls
line_written all made made' l ls is put = is ∙ (sym (append_assoc made (line_text l) (texts ls)) ∙ ap (λ (t : List ℕ). t ++ texts ls) (sym put))

-- lines are written, and others are left
pub lines_written : (all made made' : List ℕ) (ks ls : List Line) → all ≡ made ++ texts (ks ++ ls) → made' ≡ made ++ texts ks → all ≡ made' ++ texts ls
lines_written all made made' ks ls is put =
    is ∙ (ap (λ (t : List ℕ). made ++ t) (texts_append ks ls) ∙ (sym (append_assoc made (texts ks) (texts ls)) ∙ ap (λ (t : List ℕ). t ++ texts ls) (sym put)))

pub range_length : (bs : List ℕ) (from end : ℕ) → from ≤ end → end ≤ length bs → length (slice_range bs from end) ≡ end - from
range_length bs from end le within =
    let split : length (drop from bs) ≡ length (slice_range bs from end) + length (drop end bs) = ap length (drop_split bs from end le) ∙ length-append (slice_range bs from end) (drop end bs) in
    let one = length-drop from bs in
    let two = length-drop end bs in
    omega (arith, split, one, two, within, le)

-- the rest of a slice
pub range_rest : (bs : List ℕ) (done : ℕ) → done ≤ length bs → slice_range bs done (length bs) ≡ drop done bs
range_rest bs done within =
    sym (append-nil (slice_range bs done (length bs))) ∙ (ap (λ (l : List ℕ). slice_range bs done (length bs) ++ l) (sym (drop_of_length-le bs (omega arith))) ∙ sym (drop_split bs done (length bs) within))

-- the row that comes first
pub next_row : (at from end : ℕ) (bs : List ℕ) → IsRowEnd from (length bs) end →
    rows (at + from) [] (drop from bs) ≡ Data (at + from) (slice_range bs from end) ∷ rows (at + end) [] (drop end bs)
next_row at from end bs is =
    let le : from ≤ end = omega (arith, is.some) in
    let long = range_length bs from end le is.within in
    let next : at + from + length (slice_range bs from end) ≡ at + end = omega (arith, long, le) in
    ap (rows (at + from) []) (drop_split bs from end le)
    ∙ (row_first (at + from) (slice_range bs from end) (drop end bs) (omega (arith, long, is.some)) (omega (arith, long, is.few)) (λ short. empty (drop end bs) (omega (arith, length-drop end bs, is.last (omega (arith, long, is.some, is_short (slice_range bs from end) short)))))
    ∙ ap (λ (k : ℕ). Data (at + from) (slice_range bs from end) ∷ rows k [] (drop end bs)) next)
  where
    empty : (l : List ℕ) → length l ≤ 0 → l ≡ []
    empty [] h = refl
    empty (x ∷ l) h = absurd (omega (arith, h))

-- ---- instructions

pub slice_found : (bs : List ℕ) (done : ℕ) (x : Found) → Small bs → op_at player_rows (drop done bs) 0 ≡ Ok x → op_at player_rows (slice_range bs done (done + x.end)) 0 ≡ Ok x
slice_found bs done x small e =
    let smaller = small_drop done bs small in
    let within = found_within (drop done bs) x smaller e in
    let split : drop done bs ≡ slice_range bs done (done + x.end) ++ drop (done + x.end) bs = drop_split bs done (done + x.end) (omega arith) in
    let one = length-drop done bs in
    let two = length-drop (done + x.end) bs in
    let all : length (drop done bs) ≡ length (slice_range bs done (done + x.end)) + length (drop (done + x.end) bs) = ap length split ∙ length-append (slice_range bs done (done + x.end)) (drop (done + x.end) bs) in
    found_front (slice_range bs done (done + x.end)) (drop (done + x.end) bs) x (subst Small split smaller) (subst (λ (l : List ℕ). op_at player_rows l 0 ≡ Ok x) split e) (omega (arith, all, one, two, within))

-- the instruction that comes first
pub next_op : (at done : ℕ) (bs : List ℕ) (x : Found) → Small bs → op_at player_rows (drop done bs) 0 ≡ Ok x →
    instructions first_length (length (drop done bs)) (at + done) (drop done bs)
    ≡ Does (at + done) (slice_range bs done (done + x.end)) ∷ instructions first_length (length (drop (done + x.end) bs)) (at + (done + x.end)) (drop (done + x.end) bs)
next_op at done bs x small e =
    does_first (at + done) (drop done bs) x (small_drop done bs small) e
    ∙ (ap (λ (k : ℕ). Does (at + done) (take k (drop done bs)) ∷ instructions first_length (length (drop x.end (drop done bs))) (at + done + x.end) (drop x.end (drop done bs))) size
    ∙ (ap (λ (l : List ℕ). Does (at + done) (slice_range bs done (done + x.end)) ∷ instructions first_length (length l) (at + done + x.end) l) (drop-drop x.end done bs)
    ∙ ap (λ (k : ℕ). Does (at + done) (slice_range bs done (done + x.end)) ∷ instructions first_length (length (drop (done + x.end) bs)) k (drop (done + x.end) bs)) sum))
  where
    sum : at + done + x.end ≡ at + (done + x.end)
    sum = omega arith

    size : x.end ≡ done + x.end - done
    size = omega arith

pub on_ok : {A E : Type 0} (r : Result A E) (P Q : Type 0) → (P → Q) → OnOk r P → OnOk r Q
on_ok (Ok x) P Q f h = f h
on_ok (Err e) P Q f h = tt

-- what is left of a mark is written, and its end
pub last_written : (all made rest_made end_made : List ℕ) (at done : ℕ) (bs : List ℕ) (r : Result Found ZFault) → done ≤ length bs → op_at player_rows (drop done bs) 0 ≡ r → ((x : Found) → r ≡ Ok x → ⊥) →
    all ≡ made ++ texts (instructions first_length (length (drop done bs)) (at + done) (drop done bs)) → rest_made ≡ made ++ texts (rows (at + done) [] (drop done bs)) →
    end_made ≡ rest_made ++ line_text (End (at + length bs)) → end_made ≡ all
last_written all made rest_made end_made at done bs (Ok x) within e not_ok is one two = absurd (not_ok x refl)
last_written all made rest_made end_made at done bs (Err fault) within e not_ok is one two =
    let end : at + done + length (drop done bs) ≡ at + length bs = omega (arith, length-drop done bs, within) in
    let lines_are : instructions first_length (length (drop done bs)) (at + done) (drop done bs) ≡ rows (at + done) [] (drop done bs) ++ End (at + length bs) ∷ []
    = none_first (at + done) (drop done bs) fault e ∙ ap (λ (k : ℕ). rows (at + done) [] (drop done bs) ++ End k ∷ []) end in
    let left = lines_written all made rest_made (rows (at + done) [] (drop done bs)) (End (at + length bs) ∷ []) (is ∙ ap (λ (ls : List Line). made ++ texts ls) lines_are) one in
    two ∙ sym (left ∙ ap (λ (t : List ℕ). rest_made ++ t) (append-nil (line_text (End (at + length bs)))))

-- ---- marks

pub dropped_item : {X : Type 0} (xs : List X) (i : ℕ) (d : X) → i < length xs → drop i xs ≡ get_or xs i d ∷ drop (suc i) xs
dropped_item [] i d lt = absurd (omega (arith, lt))
dropped_item (x ∷ xs) zero d lt = refl
dropped_item (x ∷ xs) (suc i) d lt = dropped_item xs i d (omega (arith, lt))

-- the next mark, and the marks behind it
pub record IsMarkAt (at count : ℕ) (m : Mark) (ms : List Mark) : Type 0 where
  pub from : at ≤ m.from
  pub some : m.from < m.to
  pub within : m.to ≤ count
  pub others : AreMarks m.to count ms

last_place : (at end : ℕ) (ms : List Mark) → AreMarks at end ms → at ≤ end
last_place at end [] h = h
last_place at end (m ∷ ms) h = omega (arith, h.0, h.1, last_place m.to end ms h.2)

pub mark_at : (at count : ℕ) (ms : List Mark) (i : ℕ) (d : Mark) → i < length ms → AreMarks at count (drop i ms) → IsMarkAt at count (get_or ms i d) (drop (i + 1) ms)
mark_at at count ms i d lt are =
    let next : suc i ≡ i + 1 = omega arith in
    let here : AreMarks at count (get_or ms i d ∷ drop (i + 1) ms) = subst (λ (l : List Mark). AreMarks at count l) (dropped_item ms i d lt ∙ ap (λ (k : ℕ). get_or ms i d ∷ drop k ms) next) are in
    record { from = here.0; some = here.1; within = last_place (get_or ms i d).to count (drop (i + 1) ms) here.2; others = here.2 }

-- a stretch and a mark are written
pub mark_written : (all made rows_made mark_made : List ℕ) (at : ℕ) (story : List ℕ) (m : Mark) (ms : List Mark) → at ≤ m.from → m.from < m.to →
    all ≡ made ++ texts (lines first_length at (drop at story) (m ∷ ms)) → rows_made ≡ made ++ texts (rows at [] (slice_range story at m.from)) →
    mark_made ≡ rows_made ++ texts (marked first_length m (slice_range story m.from m.to)) → all ≡ mark_made ++ texts (lines first_length m.to (drop m.to story) ms)
mark_written all made rows_made mark_made at story m ms from some is one two =
    let to_from : at + (m.from - at) ≡ m.from = omega (arith, from) in
    let to_end : at + (m.to - at) ≡ m.to = omega (arith, from, some) in
    let behind : drop (m.from - at) (drop at story) ≡ drop m.from story = drop-drop (m.from - at) at story ∙ ap (λ (k : ℕ). drop k story) to_from in
    let others : drop (m.to - at) (drop at story) ≡ drop m.to story = drop-drop (m.to - at) at story ∙ ap (λ (k : ℕ). drop k story) to_end in
    let mine : marked first_length m (take (m.to - m.from) (drop (m.from - at) (drop at story))) ++ lines first_length m.to (drop (m.to - at) (drop at story)) ms
    ≡ marked first_length m (slice_range story m.from m.to) ++ lines first_length m.to (drop m.to story) ms
    = ap (λ (l : List ℕ). marked first_length m (take (m.to - m.from) l) ++ lines first_length m.to (drop (m.to - at) (drop at story)) ms) behind
    ∙ ap (λ (l : List ℕ). marked first_length m (slice_range story m.from m.to) ++ lines first_length m.to l ms) others in
    lines_written all rows_made mark_made (marked first_length m (slice_range story m.from m.to)) (lines first_length m.to (drop m.to story) ms)
    (lines_written all made rows_made (rows at [] (slice_range story at m.from)) _ is one ∙ ap (λ (ls : List Line). rows_made ++ texts ls) mine) two

pub mark_next : (all made : List ℕ) (at : ℕ) (bytes : List ℕ) (ms : List Mark) (i : ℕ) (d : Mark) → i < length ms → all ≡ made ++ texts (lines first_length at bytes (drop i ms)) →
    all ≡ made ++ texts (lines first_length at bytes (get_or ms i d ∷ drop (i + 1) ms))
mark_next all made at bytes ms i d lt is =
    let next : suc i ≡ i + 1 = omega arith in
    is ∙ ap (λ (l : List Mark). made ++ texts (lines first_length at bytes l)) (dropped_item ms i d lt ∙ ap (λ (k : ℕ). get_or ms i d ∷ drop k ms) next)
