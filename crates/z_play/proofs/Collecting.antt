-- Codes that are collected one by one, and tables that they pass.
use Rattle.std.proofs.Common.{◌≡◌, ◌≢◌, ℕ, zero, suc, ◌+◌, ◌-◌, ◌%◌, ◌<◌, ◌≤◌, Bool, true, false, cond, eqb, List, [], ◌∷◌, ◌++◌, length, take, Option, Some, None, Ok, Err, refl, sym, ap, subst, ◌∙◌, arith, append_assoc, length-append}
use Rattle.std.specs.Prelude.{◌&&◌, is_some}
use Rattle.std.proofs.Math.ListN.{set}
use Rattle.std.proofs.lemmas.List.{append-nil}
use Rattle.std.proofs.lemmas.Bool.{ne_eqb}
use Rattle.z_model.specs.declared.fault.ZFault.{ZFault}
use Rattle.z_model.specs.declared.fault.ZFault.TheVariants.{BadWrite, BadString, BadCharacter}
use Rattle.z_model.specs.declared.end.OpenTable.{OpenTable}
use Rattle.z_model.specs.declared.story.Layout.{Layout}
use Rattle.z_model.specs.Decode.{◌>>=◌}
use Rattle.z_model.specs.Zscii.{is_printed, are_printable}
use Rattle.z_model.specs.Memory.{Memory, guarded, is_writable, with_byte, with_bytes}
use Rattle.z_model.specs.Text.{Text, print_fault}
use Rattle.z_model.specs.Machine.{Machine}
use Rattle.z_model.specs.Streams.{shown_codes, into_table}
use Rattle.z_play.specs.inside.Collected.{Collects}
use Rattle.z_play.specs.inside.Effects.{into_first, into_newest}

abbrev no_fault : Option ZFault
no_fault = None

-- ---- a string

-- These codes of a string are there, and these are left.
pub record Collecting (room : List ℕ) (count : ℕ) (all left : List ℕ) : Type 0 where
  pub within : count ≤ length room
  pub is : shown_codes all ≡ take count room ++ shown_codes left
  pub good : are_printable left ≡ true

shown_more : (c : ℕ) (cs : List ℕ) → shown_codes (c ∷ cs) ≡ shown_codes (c ∷ []) ++ shown_codes cs
unfolding shown_codes
shown_more c cs = by_test (eqb c 0)
  where
    by_test : (t : Bool) → cond t (shown_codes cs) (c ∷ shown_codes cs) ≡ cond t [] (c ∷ []) ++ shown_codes cs
    by_test true = refl
    by_test false = refl

both_printed : (c : ℕ) (cs : List ℕ) → are_printable (c ∷ cs) ≡ true → (is_printed c ≡ true) × (are_printable cs ≡ true)
unfolding are_printable
both_printed c cs e = by_test (is_printed c) refl e
  where
    by_test : (t : Bool) → is_printed c ≡ t → (t && are_printable cs) ≡ true → (is_printed c ≡ true) × (are_printable cs ≡ true)
    by_test true is e = (is, e)
    by_test false is e = absurd cc

pub text_printed : (t : Text) → print_fault t ≡ None → are_printable t.codes ≡ true
unfolding print_fault
text_printed t e = by_test (are_printable t.codes) refl e
  where
    by_test : (b : Bool) → are_printable t.codes ≡ b → cond b (cond (is_some t.end) None (Some BadString)) (Some BadCharacter) ≡ no_fault → are_printable t.codes ≡ true
    by_test true is e = is
    by_test false is e = absurd cc

pub shown_zero : (c : ℕ) → c ≡ 0 → shown_codes (c ∷ []) ≡ []
unfolding shown_codes
shown_zero c e = rw e refl

pub shown_one : (c : ℕ) → c ≢ 0 → shown_codes (c ∷ []) ≡ c ∷ []
unfolding shown_codes
shown_one c e = rw (ne_eqb c 0 e) refl

pub collect_starts : (room all left : List ℕ) → left ≡ all → are_printable all ≡ true → Collecting room 0 all left
collect_starts room all left e good = record { within = omega arith; is = ap shown_codes (sym e); good = rw e good }

pub collect_over : (room : List ℕ) (count : ℕ) (all left : List ℕ) → Collecting room count all left → left ≡ [] → Collects (Some count) room (shown_codes all)
unfolding shown_codes
collect_over room count all left s none = (s.within, sym (s.is ∙ ap (λ (l : List ℕ). take count room ++ shown_codes l) none ∙ append-nil (take count room)))

pub next_printed : (room : List ℕ) (count : ℕ) (all left : List ℕ) (c : ℕ) (rest : List ℕ) → Collecting room count all left → left ≡ c ∷ rest → is_printed c ≡ true
next_printed room count all left c rest s e = (both_printed c rest (subst (λ (l : List ℕ). are_printable l ≡ true) e s.good)).0

pub collect_on : (room room' : List ℕ) (count count' : ℕ) (all left : List ℕ) (c : ℕ) (rest : List ℕ) → Collecting room count all left → left ≡ c ∷ rest → Collects (Some count') room' (take count room ++ shown_codes (c ∷ [])) → Collecting room' count' all rest
collect_on room room' count count' all left c rest s e put = record {
  within = put.0;
  is = s.is ∙ ap (λ (l : List ℕ). take count room ++ shown_codes l) e ∙ ap (λ (l : List ℕ). take count room ++ l) (shown_more c rest)
      ∙ sym (append_assoc (take count room) (shown_codes (c ∷ [])) (shown_codes rest)) ∙ ap (λ (l : List ℕ). l ++ shown_codes rest) (sym put.1);
  good = (both_printed c rest (subst (λ (l : List ℕ). are_printable l ≡ true) e s.good)).1;
}

pub collect_full : (room room' : List ℕ) (count : ℕ) (all left : List ℕ) (c : ℕ) (rest : List ℕ) → Collecting room count all left → left ≡ c ∷ rest → Collects None room' (take count room ++ shown_codes (c ∷ [])) → Collects None room' (shown_codes all)
collect_full room room' count all left c rest s e full =
    let whole : shown_codes all ≡ (take count room ++ shown_codes (c ∷ [])) ++ shown_codes rest =
    s.is ∙ ap (λ (l : List ℕ). take count room ++ shown_codes l) e ∙ ap (λ (l : List ℕ). take count room ++ l) (shown_more c rest)
    ∙ sym (append_assoc (take count room) (shown_codes (c ∷ [])) (shown_codes rest)) in
    let long : length (shown_codes all) ≡ length (take count room ++ shown_codes (c ∷ [])) + length (shown_codes rest) = ap length whole ∙ length-append (take count room ++ shown_codes (c ∷ [])) (shown_codes rest) in
    omega arith

-- ---- more codes than there are addresses

-- Byte 0 may not be written, so that no bytes pass it.
passes : (layout : Layout) (mem : Memory) (a d : ℕ) (bytes : List ℕ) → mem.may_write ≡ is_writable layout → (a + d) % 65536 ≡ 0 → a < 65536 → d < length bytes → with_bytes mem a bytes ≡ Err BadWrite
unfolding with_bytes with_byte
passes layout mem a d [] rights to lt few = absurd (omega arith)
passes layout mem a zero (b ∷ bytes) rights to lt few =
    let first : a ≡ 0 = omega arith in
    let closed : mem.may_write a ≡ false = ap (λ (f : ℕ → Bool). f a) rights ∙ ap (λ (n : ℕ). is_writable layout n) first in
    rw closed refl
passes layout mem a (suc d) (b ∷ bytes) rights to lt few =
    by_test (mem.may_write a) (passes layout (record mem { bytes = set mem.bytes a b }) ((a + 1) % 65536) d bytes rights (omega arith) (omega arith) (omega arith))
  where
    by_test : (t : Bool) → with_bytes (record mem { bytes = set mem.bytes a b }) ((a + 1) % 65536) bytes ≡ Err BadWrite →
        (cond t (Ok (record mem { bytes = set mem.bytes a b })) (Err BadWrite) >>= λ first. with_bytes first ((a + 1) % 65536) bytes) ≡ Err BadWrite
    by_test true e = e
    by_test false e = refl

first_passed : (layout : Layout) (m : Machine) (tables : List OpenTable) (codes : List ℕ) → 0 < length tables → 65535 < length codes → into_first layout m tables codes ≡ Err BadWrite
unfolding into_table
first_passed layout m [] codes some many = absurd (omega arith)
first_passed layout m (t ∷ ts) codes some many =
    let at : ℕ = (t.at + 2 + t.count) % 65536 in
    let refused : with_bytes (guarded layout m.memory) ((t.at + 2 + t.count) % 65536) codes ≡ Err BadWrite =
    passes layout (guarded layout m.memory) ((t.at + 2 + t.count) % 65536) ((65536 - (t.at + 2 + t.count) % 65536) % 65536) codes refl (omega arith) (omega arith) (omega arith) in
    rw refused refl

pub newest_passed : (layout : Layout) (m : Machine) (codes : List ℕ) → 0 < length m.tables → 65535 < length codes → into_newest layout m codes ≡ Err BadWrite
newest_passed layout m codes some many = first_passed layout m m.tables codes some many
