-- What lines write for what they are told.
use Rattle.std.proofs.Common.{◌≡◌, ◌≢◌, ℕ, zero, suc, ◌<◌, ◌≤◌, List, [], ◌∷◌, ◌++◌, Bool, true, false, refl, sym, ap, ◌∙◌, subst, arith, length, get_or, take, append_assoc}
use Rattle.std.specs.Prelude.{codes, eqb}
use Rattle.std.proofs.lemmas.Bool.{cond-false, false_from_ne_true, eqb-true}
use Rattle.std.proofs.lemmas.List.{append-nil}
use Rattle.dg_base.specs.Written.{SinkView, Wrote, BrokeOff}
use Rattle.dg_watch.specs.Told.{Told, Took, took}
use Rattle.dg_trace.specs.inside.Spelled.{ended, marked, byte_spelled, begun_by, spelled, begun_after}
use Rattle.dg_trace.specs.inside.Telling.{Place, Goes, ToldLines}

-- ## What is written

pub wrote_told : (a b : Place) (ts : List Told) (bytes : List ℕ) → a.broken ≡ false → b.broken ≡ false → b.names ≡ a.names → b.faults ≡ a.faults
    → spelled a.names a.begun ts ≡ bytes → begun_after a.begun ts ≡ b.begun → Wrote a.view b.view bytes → ToldLines a b ts
wrote_told a b ts bytes before now names steady is begun wrote = record {
  names = names;
  goes = subst (λ p. Goes p b.broken a b ts) (sym before) (subst (λ q. Goes false q a b ts) (sym now)
      (record { wrote = subst (Wrote a.view b.view) (sym is) wrote; begun = sym begun; steady = steady }));
}

pub broke_told : (a b : Place) (ts : List Told) (bytes : List ℕ) → a.broken ≡ false → b.broken ≡ true → b.names ≡ a.names
    → spelled a.names a.begun ts ≡ bytes → BrokeOff a.view b.view bytes → ToldLines a b ts
broke_told a b ts bytes before now names is broke = record {
  names = names;
  goes = subst (λ p. Goes p b.broken a b ts) (sym before) (subst (λ q. Goes false q a b ts) (sym now) (subst (BrokeOff a.view b.view) (sym is) broke));
}

-- ## Stretches

other_byte : (b : ℕ) → b ≢ 10 → eqb b 10 ≡ false
other_byte b h = false_from_ne_true (eqb b 10) (λ e. h (eqb-true b 10 e))

-- bytes that stand in one line, which is open
begun_text : (names : List (List ℕ)) (bytes : List ℕ) → ((k : ℕ) → k < length bytes → get_or bytes k 0 ≢ 10) → spelled names true (took bytes) ≡ bytes
begun_text names [] h = refl
begun_text names (b ∷ bytes) h =
    let other = other_byte b (h 0 (omega arith)) in
    ap (λ l. l ++ spelled names (begun_by b) (took bytes)) (cond-false (eqb b 10) _ _ other)
    ∙ ap (λ o. b ∷ spelled names o (took bytes)) (cond-false (eqb b 10) _ _ other)
    ∙ ap (λ l. b ∷ l) (begun_text names bytes (λ k lt. h (suc k) (omega arith)))

stays_begun : (bytes : List ℕ) → ((k : ℕ) → k < length bytes → get_or bytes k 0 ≢ 10) → begun_after true (took bytes) ≡ true
stays_begun [] h = refl
stays_begun (b ∷ bytes) h =
    ap (λ o. begun_after o (took bytes)) (cond-false (eqb b 10) _ _ (other_byte b (h 0 (omega arith))))
    ∙ stays_begun bytes (λ k lt. h (suc k) (omega arith))

pub text_spelled : (names : List (List ℕ)) (begun : Bool) (bytes : List ℕ) → 0 < length bytes
    → ((k : ℕ) → k < length bytes → get_or bytes k 0 ≢ 10) → spelled names begun (took bytes) ≡ marked begun ++ bytes
text_spelled names begun [] some h = absurd (omega arith)
text_spelled names begun (b ∷ bytes) some h =
    let other = other_byte b (h 0 (omega arith)) in
    ap (λ l. l ++ spelled names (begun_by b) (took bytes)) (cond-false (eqb b 10) _ _ other)
    ∙ append_assoc (marked begun) (b ∷ []) (spelled names (begun_by b) (took bytes))
    ∙ ap (λ o. marked begun ++ (b ∷ spelled names o (took bytes))) (cond-false (eqb b 10) _ _ other)
    ∙ ap (λ l. marked begun ++ (b ∷ l)) (begun_text names bytes (λ k lt. h (suc k) (omega arith)))

pub text_begins : (begun : Bool) (bytes : List ℕ) → 0 < length bytes → ((k : ℕ) → k < length bytes → get_or bytes k 0 ≢ 10) → begun_after begun (took bytes) ≡ true
text_begins begun [] some h = absurd (omega arith)
text_begins begun (b ∷ bytes) some h =
    ap (λ o. begun_after o (took bytes)) (cond-false (eqb b 10) _ _ (other_byte b (h 0 (omega arith))))
    ∙ stays_begun bytes (λ k lt. h (suc k) (omega arith))

pub newline_first : (xs : List ℕ) → 0 < length xs → get_or xs 0 0 ≡ 10 → take 1 xs ≡ 10 ∷ []
newline_first [] some h = absurd (omega arith)
newline_first (x ∷ xs) some h = ap (λ b. b ∷ []) h
