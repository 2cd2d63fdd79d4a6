-- Forms of lines: the word and the place, and what stands behind them.
use Rattle.std.proofs.Common.{◌≡◌, ◌≢◌, ℕ, ◌-◌, ◌≤◌, List, [], ◌∷◌, ◌++◌, length, take, drop, Option, Some, None, Result, Ok, refl, sym, ap, subst, ◌∙◌, arith, append_assoc, slice_range}
use Rattle.std.specs.Prelude.{codes, decimal, MatchOption}
use Rattle.std.proofs.lemmas.List.{append_cancel_left, append-nil, length-append, take_at, drop_at}
use Rattle.std.proofs.lemmas.List.Concat.{flat_map-append}
use Rattle.z_model.specs.declared.fault.ZFault.{ZFault}
use Rattle.z_model.specs.declared.op.Found.{Found}
use Rattle.z_model.specs.Table.{player_rows}
use Rattle.z_model.specs.Decode.{op_at}
use Rattle.z_list.specs.Listing.{Line, Data, Rule, Locals, Does, End}
use Rattle.z_list.specs.Texts.{spaced, all_spaced, found_text, newline, line_text, first_length}
use Rattle.z_list.specs.inside.Read.{NoByte, IsStuck}
use Rattle.z_list.specs.inside.Forms.{BeginsWithBytes, IsRead, IsUnread, IsData, IsRule, IsLocals, IsOp, IsEnd, EndsRow, EndsNoRow, EndsRule, EndsNoRule, op_tail, EndsOp, EndsNoOp}
use Rattle.z_list.proofs.Written.{range_rest}
use Rattle.z_list.proofs.TextLemmas.{tails, spaced_same, bytes_same, no_byte_newline, no_byte_semicolon, data_open, rule_open, locals_open, does_open, end_open}

abbrev pub Headless : List ℕ → List ℕ → Type 0
Headless head text = (rest : List ℕ) → text ≢ head ++ rest

module _ (form : Line → Type 0) (head : List ℕ) (tail : Line → List ℕ → List ℕ) (open_line : (l : Line) → form l → (behind : List ℕ) → line_text l ++ behind ≡ head ++ tail l behind) where
  no_tail : (text rest : List ℕ) → text ≡ head ++ rest → ((l : Line) → form l → (behind : List ℕ) → rest ≡ tail l behind → ⊥) → IsStuck form text
  no_tail text rest is none l f behind e = none l f behind (append_cancel_left head rest (tail l behind) (sym is ∙ (e ∙ open_line l f behind)))

  with_tail : (text rest : List ℕ) (l : Line) → form l → (behind : List ℕ) → text ≡ head ++ rest → rest ≡ tail l behind → text ≡ line_text l ++ behind
  with_tail text rest l f behind is tail_is = is ∙ (ap (λ (x : List ℕ). head ++ x) tail_is ∙ sym (open_line l f behind))

-- ---- a mark's end

end_head : ℕ → List ℕ
end_head at = codes "end " ++ decimal at

end_tail : Line → List ℕ → List ℕ
end_tail l behind = 10 ∷ behind

end_opens : (at : ℕ) (l : Line) → IsEnd at l → (behind : List ℕ) → line_text l ++ behind ≡ end_head at ++ end_tail l behind
unfolding end_head end_tail
end_opens at (End a) f behind = end_open a behind ∙ ap (λ (k : ℕ). (codes "end " ++ decimal k) ++ 10 ∷ behind) f
end_opens at (Data a bs) f behind = absurd f
end_opens at (Rule a p q) f behind = absurd f
end_opens at (Locals a b) f behind = absurd f
end_opens at (Does a bs) f behind = absurd f

pub end_no_tail : (at : ℕ) (text rest : List ℕ) → text ≡ (codes "end " ++ decimal at) ++ rest → Headless (10 ∷ []) rest → IsStuck (IsEnd at) text
unfolding end_head end_tail
end_no_tail at text rest is none = no_tail (IsEnd at) (end_head at) end_tail (end_opens at) text rest is (λ l f behind e. none behind e)

pub end_read : (at : ℕ) (text rest behind : List ℕ) → text ≡ (codes "end " ++ decimal at) ++ rest → rest ≡ (10 ∷ []) ++ behind → IsRead (IsEnd at) text behind [] []
unfolding end_head end_tail
end_read at text rest behind is tail_is = record { line = End at; fits = refl; is = with_tail (IsEnd at) (end_head at) end_tail (end_opens at) text rest (End at) refl behind is tail_is; bytes = refl }

-- ---- a mark's beginning

rule_head : ℕ → List ℕ
rule_head at = codes "rule " ++ decimal at

rule_tail : Line → List ℕ → List ℕ
rule_tail (Rule a p q) behind = 32 ∷ (decimal p ++ 46 ∷ (decimal q ++ 10 ∷ behind))
rule_tail (Data a bs) behind = []
rule_tail (Locals a b) behind = []
rule_tail (Does a bs) behind = []
rule_tail (End a) behind = []

rule_opens : (at : ℕ) (l : Line) → IsRule at l → (behind : List ℕ) → line_text l ++ behind ≡ rule_head at ++ rule_tail l behind
unfolding rule_head rule_tail
rule_opens at (Rule a p q) f behind = rule_open a p q behind ∙ ap (λ (k : ℕ). (codes "rule " ++ decimal k) ++ 32 ∷ (decimal p ++ 46 ∷ (decimal q ++ 10 ∷ behind))) f.0
rule_opens at (Data a bs) f behind = absurd f
rule_opens at (Locals a b) f behind = absurd f
rule_opens at (Does a bs) f behind = absurd f
rule_opens at (End a) f behind = absurd f

pub rule_no_space : (at : ℕ) (text rest : List ℕ) → text ≡ (codes "rule " ++ decimal at) ++ rest → Headless (32 ∷ []) rest → IsStuck (IsRule at) text
unfolding rule_head rule_tail
rule_no_space at text rest is none = no_tail (IsRule at) (rule_head at) rule_tail (rule_opens at) text rest is by_line
  where
    by_line : (l : Line) → IsRule at l → (behind : List ℕ) → rest ≡ rule_tail l behind → ⊥
    by_line (Rule a p q) f behind e = none (decimal p ++ 46 ∷ (decimal q ++ 10 ∷ behind)) e
    by_line (Data a bs) f behind e = absurd f
    by_line (Locals a b) f behind e = absurd f
    by_line (Does a bs) f behind e = absurd f
    by_line (End a) f behind e = absurd f

pub rule_no_tail : (at : ℕ) (text rest names : List ℕ) → text ≡ (codes "rule " ++ decimal at) ++ rest → rest ≡ (32 ∷ []) ++ names → EndsNoRule names → IsStuck (IsRule at) text
unfolding rule_head rule_tail
rule_no_tail at text rest names is space none = no_tail (IsRule at) (rule_head at) rule_tail (rule_opens at) text rest is by_line
  where
    by_line : (l : Line) → IsRule at l → (behind : List ℕ) → rest ≡ rule_tail l behind → ⊥
    by_line (Rule a p q) f behind e = none p q behind f.1 f.2 (tails 32 32 names (decimal p ++ 46 ∷ (decimal q ++ 10 ∷ behind)) (sym space ∙ e))
    by_line (Data a bs) f behind e = absurd f
    by_line (Locals a b) f behind e = absurd f
    by_line (Does a bs) f behind e = absurd f
    by_line (End a) f behind e = absurd f

pub rule_read : (at : ℕ) (text rest names behind : List ℕ) → text ≡ (codes "rule " ++ decimal at) ++ rest → rest ≡ (32 ∷ []) ++ names → EndsRule names behind → IsRead (IsRule at) text behind [] []
unfolding rule_head rule_tail
rule_read at text rest names behind is space ends = record {
  line = Rule at ends.pred ends.rule;
  fits = (refl, ends.small, ends.small_too);
  is = with_tail (IsRule at) (rule_head at) rule_tail (rule_opens at) text rest (Rule at ends.pred ends.rule) (refl, ends.small, ends.small_too) behind is (space ∙ ap (λ (x : List ℕ). 32 ∷ x) ends.is);
  bytes = refl;
}

-- ---- a mark's first byte

locals_head : ℕ → List ℕ
locals_head at = codes "locals " ++ decimal at

locals_tail : Line → List ℕ → List ℕ
locals_tail (Locals a b) behind = spaced b ++ 10 ∷ behind
locals_tail (Data a bs) behind = []
locals_tail (Rule a p q) behind = []
locals_tail (Does a bs) behind = []
locals_tail (End a) behind = []

locals_opens : (at : ℕ) (l : Line) → IsLocals at l → (behind : List ℕ) → line_text l ++ behind ≡ locals_head at ++ locals_tail l behind
unfolding locals_head locals_tail
locals_opens at (Locals a b) f behind = locals_open a b behind ∙ ap (λ (k : ℕ). (codes "locals " ++ decimal k) ++ (spaced b ++ 10 ∷ behind)) f.0
locals_opens at (Data a bs) f behind = absurd f
locals_opens at (Rule a p q) f behind = absurd f
locals_opens at (Does a bs) f behind = absurd f
locals_opens at (End a) f behind = absurd f

pub locals_no_byte : (at : ℕ) (text rest : List ℕ) → text ≡ (codes "locals " ++ decimal at) ++ rest → NoByte rest → IsStuck (IsLocals at) text
unfolding locals_head locals_tail
locals_no_byte at text rest is none = no_tail (IsLocals at) (locals_head at) locals_tail (locals_opens at) text rest is by_line
  where
    by_line : (l : Line) → IsLocals at l → (behind : List ℕ) → rest ≡ locals_tail l behind → ⊥
    by_line (Locals a b) f behind e = none b (10 ∷ behind) f.1 e
    by_line (Data a bs) f behind e = absurd f
    by_line (Rule a p q) f behind e = absurd f
    by_line (Does a bs) f behind e = absurd f
    by_line (End a) f behind e = absurd f

pub locals_no_end : (at : ℕ) (text rest : List ℕ) (b : ℕ) (more : List ℕ) → text ≡ (codes "locals " ++ decimal at) ++ rest → rest ≡ spaced b ++ more → Headless (10 ∷ []) more → IsStuck (IsLocals at) text
unfolding locals_head locals_tail
locals_no_end at text rest b more is byte none = no_tail (IsLocals at) (locals_head at) locals_tail (locals_opens at) text rest is by_line
  where
    by_line : (l : Line) → IsLocals at l → (behind : List ℕ) → rest ≡ locals_tail l behind → ⊥
    by_line (Locals a c) f behind e = none behind (spaced_same b c more (10 ∷ behind) (sym byte ∙ e)).1
    by_line (Data a bs) f behind e = absurd f
    by_line (Rule a p q) f behind e = absurd f
    by_line (Does a bs) f behind e = absurd f
    by_line (End a) f behind e = absurd f

-- ---- a row

data_head : ℕ → List ℕ
data_head at = codes "data " ++ decimal at

data_tail : Line → List ℕ → List ℕ
data_tail (Data a bs) behind = all_spaced bs ++ 10 ∷ behind
data_tail (Rule a p q) behind = []
data_tail (Locals a b) behind = []
data_tail (Does a bs) behind = []
data_tail (End a) behind = []

data_opens : (at left : ℕ) (l : Line) → IsData at left l → (behind : List ℕ) → line_text l ++ behind ≡ data_head at ++ data_tail l behind
unfolding data_head data_tail
data_opens at left (Data a bs) f behind = data_open a bs behind ∙ ap (λ (k : ℕ). (codes "data " ++ decimal k) ++ (all_spaced bs ++ 10 ∷ behind)) f.0
data_opens at left (Rule a p q) f behind = absurd f
data_opens at left (Locals a b) f behind = absurd f
data_opens at left (Does a bs) f behind = absurd f
data_opens at left (End a) f behind = absurd f

pub data_no_row : (at left : ℕ) (text rest bs more : List ℕ) → text ≡ (codes "data " ++ decimal at) ++ rest → BeginsWithBytes rest bs more → EndsNoRow more (length bs) left → IsStuck (IsData at left) text
unfolding data_head data_tail
data_no_row at left text rest bs more is begins none = no_tail (IsData at left) (data_head at) data_tail (data_opens at left) text rest is by_line
  where
    by_line : (l : Line) → IsData at left l → (behind : List ℕ) → rest ≡ data_tail l behind → ⊥
    by_line (Data a cs) f behind e =
        let same = bytes_same bs cs more (10 ∷ behind) begins.small f.4 begins.last (no_byte_newline behind) (sym begins.is ∙ e) in
        let long : length bs ≡ length cs = ap length same.0 in
        none (omega (arith, long, f.1)) (omega (arith, long, f.2)) (omega (arith, long, f.3)) behind same.1
    by_line (Rule a p q) f behind e = absurd f
    by_line (Locals a b) f behind e = absurd f
    by_line (Does a bs) f behind e = absurd f
    by_line (End a) f behind e = absurd f

pub data_read : (at left : ℕ) (text rest bs more behind old new : List ℕ) → text ≡ (codes "data " ++ decimal at) ++ rest → BeginsWithBytes rest bs more → EndsRow more (length bs) left behind → new ≡ old ++ bs →
    IsRead (IsData at left) text behind old new
data_read at left text rest bs more behind old new is begins ends put = record {
  line = Data at bs;
  fits = (refl, ends.some, ends.few, ends.there, begins.small);
  is = is ∙ (ap (λ (x : List ℕ). (codes "data " ++ decimal at) ++ x) (begins.is ∙ ap (λ (x : List ℕ). all_spaced bs ++ x) ends.is) ∙ sym (data_open at bs behind));
  bytes = put;
}

-- ---- an instruction

op_head : ℕ → List ℕ
op_head at = codes "op " ++ decimal at

ops_tail : Line → List ℕ → List ℕ
ops_tail (Does a bs) behind = all_spaced bs ++ (op_tail bs ++ behind)
ops_tail (Data a bs) behind = []
ops_tail (Rule a p q) behind = []
ops_tail (Locals a b) behind = []
ops_tail (End a) behind = []

tail_open : (bs behind : List ℕ) → op_tail bs ++ behind ≡ codes " ; " ++ (found_text (op_at player_rows bs 0) ++ 10 ∷ behind)
tail_open bs behind = ap (λ (x : List ℕ). codes " ; " ++ x) (append_assoc (found_text (op_at player_rows bs 0)) newline behind)

op_opens : (at left : ℕ) (l : Line) → IsOp at left l → (behind : List ℕ) → line_text l ++ behind ≡ op_head at ++ ops_tail l behind
unfolding op_head ops_tail
op_opens at left (Does a bs) f behind =
    does_open a bs behind ∙ (ap (λ (x : List ℕ). (codes "op " ++ decimal a) ++ (all_spaced bs ++ x)) (sym (tail_open bs behind))
    ∙ ap (λ (k : ℕ). (codes "op " ++ decimal k) ++ (all_spaced bs ++ (op_tail bs ++ behind))) f.0)
op_opens at left (Data a bs) f behind = absurd f
op_opens at left (Rule a p q) f behind = absurd f
op_opens at left (Locals a b) f behind = absurd f
op_opens at left (End a) f behind = absurd f

pub op_no_tail : (at left : ℕ) (text rest bs more : List ℕ) → text ≡ (codes "op " ++ decimal at) ++ rest → BeginsWithBytes rest bs more → EndsNoOp more bs left → IsStuck (IsOp at left) text
unfolding op_head ops_tail
op_no_tail at left text rest bs more is begins none = no_tail (IsOp at left) (op_head at) ops_tail (op_opens at left) text rest is by_line
  where
    by_line : (l : Line) → IsOp at left l → (behind : List ℕ) → rest ≡ ops_tail l behind → ⊥
    by_line (Does a cs) f behind e =
        let same = bytes_same bs cs more (op_tail cs ++ behind) begins.small f.3 begins.last (λ b x lt z. no_byte_semicolon (32 ∷ (found_text (op_at player_rows cs 0) ++ 10 ∷ behind)) b x lt (sym (tail_open cs behind) ∙ z)) (sym begins.is ∙ e) in
        let back : cs ≡ bs = sym same.0 in
        none (subst (λ (x : List ℕ). first_length x ≡ Some (length x)) back f.2) (subst (λ (x : List ℕ). length x ≤ left) back f.1) behind (same.1 ∙ ap (λ (x : List ℕ). op_tail x ++ behind) back)
    by_line (Data a bs) f behind e = absurd f
    by_line (Rule a p q) f behind e = absurd f
    by_line (Locals a b) f behind e = absurd f
    by_line (End a) f behind e = absurd f

pub op_read : (at left : ℕ) (text rest bs more behind old new : List ℕ) → text ≡ (codes "op " ++ decimal at) ++ rest → BeginsWithBytes rest bs more → EndsOp more bs left behind → new ≡ old ++ bs →
    IsRead (IsOp at left) text behind old new
op_read at left text rest bs more behind old new is begins ends put = record {
  line = Does at bs;
  fits = (refl, ends.there, ends.one, begins.small);
  is = is ∙ (ap (λ (x : List ℕ). (codes "op " ++ decimal at) ++ x) (begins.is ∙ ap (λ (x : List ℕ). all_spaced bs ++ x) (ends.is ∙ tail_open bs behind)) ∙ sym (does_open at bs behind));
  bytes = put;
}

-- ---- bytes that were put behind others

abbrev pub Put : List ℕ → List ℕ → List ℕ → List ℕ → Type 0
Put text rest old new = (bs : List ℕ) × (new ≡ old ++ bs) × BeginsWithBytes text bs rest

pub data_none : (at long left : ℕ) (text bytes rest old new cut : List ℕ) → Put bytes rest old new → at ≡ length old → long ≡ length new → text ≡ (codes "data " ++ decimal at) ++ bytes → EndsNoRow rest (long - at) left →
    cut ≡ take at new → IsUnread (IsData (length old) left) text old cut
data_none at long left text bytes rest old new cut p here all is none back =
    let count : long - at ≡ length p.0 = omega (arith, here, all, ap length p.1, length-append old p.0) in
    record {
      stuck = data_no_row (length old) left text bytes p.0 rest (is ∙ ap (λ (k : ℕ). (codes "data " ++ decimal k) ++ bytes) here) p.2 (subst (λ (k : ℕ). EndsNoRow rest k left) count none);
      bytes = back ∙ (ap (λ (k : ℕ). take k new) here ∙ (ap (take (length old)) p.1 ∙ take_at old p.0 (length old) refl));
    }

pub data_some : (at long left : ℕ) (text bytes rest behind old new : List ℕ) → Put bytes rest old new → at ≡ length old → long ≡ length new → text ≡ (codes "data " ++ decimal at) ++ bytes → EndsRow rest (long - at) left behind →
    IsRead (IsData (length old) left) text behind old new
data_some at long left text bytes rest behind old new p here all is ends =
    let count : long - at ≡ length p.0 = omega (arith, here, all, ap length p.1, length-append old p.0) in
    data_read (length old) left text bytes p.0 rest behind old new (is ∙ ap (λ (k : ℕ). (codes "data " ++ decimal k) ++ bytes) here) p.2 (subst (λ (k : ℕ). EndsRow rest k left behind) count ends) p.1

pub put_since : (at : ℕ) (old bs new : List ℕ) → at ≡ length old → new ≡ old ++ bs → slice_range new at (length new) ≡ bs
put_since at old bs new here put =
    range_rest new at (omega (arith, here, ap length put, length-append old bs)) ∙ (ap (drop at) put ∙ drop_at old bs at (sym here))

pub op_none : (at left : ℕ) (text bytes rest old new seen cut : List ℕ) → Put bytes rest old new → at ≡ length old → text ≡ (codes "op " ++ decimal at) ++ bytes → seen ≡ new →
    EndsNoOp rest (slice_range seen at (length seen)) left → cut ≡ take at new → IsUnread (IsOp (length old) left) text old cut
op_none at left text bytes rest old new seen cut p here is same none back = record {
  stuck = op_no_tail (length old) left text bytes p.0 rest (is ∙ ap (λ (k : ℕ). (codes "op " ++ decimal k) ++ bytes) here) p.2 (subst (λ (b : List ℕ). EndsNoOp rest b left) (put_since at old p.0 seen here (same ∙ p.1)) none);
  bytes = back ∙ (ap (λ (k : ℕ). take k new) here ∙ (ap (take (length old)) p.1 ∙ take_at old p.0 (length old) refl));
}

pub op_some : (at left : ℕ) (text bytes rest behind old new seen : List ℕ) → Put bytes rest old new → at ≡ length old → text ≡ (codes "op " ++ decimal at) ++ bytes → seen ≡ new →
    EndsOp rest (slice_range seen at (length seen)) left behind → IsRead (IsOp (length old) left) text behind old new
op_some at left text bytes rest behind old new seen p here is same ends =
    op_read (length old) left text bytes p.0 rest behind old new (is ∙ ap (λ (k : ℕ). (codes "op " ++ decimal k) ++ bytes) here) p.2 (subst (λ (b : List ℕ). EndsOp rest b left behind) (put_since at old p.0 seen here (same ∙ p.1)) ends) p.1

-- ---- answers that may be none

pub match_none : {A : Type 0} (r : Option A) (P : Type 0) (Q : A → Type 0) → r ≡ None → MatchOption r P Q → P
match_none None P Q e h = h
match_none (Some x) P Q e h = absurd cc

pub match_some : {A : Type 0} (r : Option A) (P : Type 0) (Q : A → Type 0) (x : A) → r ≡ Some x → MatchOption r P Q → Q x
match_some None P Q x e h = absurd cc
match_some (Some y) P Q x e h = let same : y ≡ x = cc in subst Q same h

pub match_map : {A : Type 0} (r : Option A) (P P' : Type 0) (Q Q' : A → Type 0) → (P → P') → ((x : A) → Q x → Q' x) → MatchOption r P Q → MatchOption r P' Q'
match_map None P P' Q Q' f g h = f h
match_map (Some x) P P' Q Q' f g h = g x h

pub none_is : {A : Type 0} (r : Option A) (P : Type 0) (Q : A → Type 0) → r ≡ None → P → MatchOption r P Q
none_is None P Q e p = p
none_is (Some x) P Q e p = absurd cc

pub behind_none : (text word dec dec' mid : List ℕ) → text ≡ word ++ mid → dec' ≡ dec → Headless dec' mid → Headless (word ++ dec) text
behind_none text word dec dec' mid is same none rest e =
    none rest (append_cancel_left word mid (dec' ++ rest) (sym is ∙ (e ∙ (append_assoc word dec rest ∙ ap (λ (d : List ℕ). word ++ (d ++ rest)) (sym same)))))

pub behind_some : (text word dec dec' mid rest : List ℕ) → text ≡ word ++ mid → dec' ≡ dec → mid ≡ dec' ++ rest → text ≡ (word ++ dec) ++ rest
behind_some text word dec dec' mid rest is same e = is ∙ (ap (λ (x : List ℕ). word ++ x) (e ∙ ap (λ (d : List ℕ). d ++ rest) same) ∙ sym (append_assoc word dec rest))

pub op_tail_is : (bs : List ℕ) (x : Found) → op_at player_rows bs 0 ≡ Ok x → (one two three : List ℕ) → one ≡ codes " ; " → two ≡ one ++ found_text (Ok x) → three ≡ two ++ 10 ∷ [] → three ≡ op_tail bs
op_tail_is bs x op one two three a b d =
    d ∙ (ap (λ (t : List ℕ). t ++ 10 ∷ []) (b ∙ ap (λ (t : List ℕ). t ++ found_text (Ok x)) a)
    ∙ (append_assoc (codes " ; ") (found_text (Ok x)) (10 ∷ []) ∙ ap (λ (r : Result Found ZFault). codes " ; " ++ (found_text r ++ 10 ∷ [])) (sym op)))

pub bytes_more : (bs : List ℕ) (b : ℕ) (rest : List ℕ) → all_spaced bs ++ (spaced b ++ rest) ≡ all_spaced (bs ++ b ∷ []) ++ rest
bytes_more bs b rest =
    sym (append_assoc (all_spaced bs) (spaced b) rest)
    ∙ ap (λ (l : List ℕ). l ++ rest) (sym (flat_map-append spaced bs (b ∷ []) ∙ ap (λ (l : List ℕ). all_spaced bs ++ l) (append-nil (spaced b))))
