-- What is left when the newest that waits is taken up, or all above some are dropped.
use Rattle.std.proofs.Common.{◌≡◌, ℕ, List, [], ◌∷◌, ◌++◌, sym, ap, ◌∙◌, arith, Option, Some, None, length, take, reverse}
use Rattle.std.proofs.lemmas.List.{reverse-append, reverse-reverse, length-reverse, take-append-le, take_all}
use Rattle.dg_unify.specs.Waits.{TakesUp, TakesAbove}
use Rattle.dg_unify.specs.declared.parts.Wait.{Wait}

pub takes_above : (old new above below : List Wait) (r : Option Wait) → old ≡ above ++ below → (length old ≡ length below → ⊥) → TakesUp old new r → TakesAbove above below new r
takes_above old new [] below r is more h = absurd (more (ap length is))
takes_above old new (w ∷ rest) below None is more h = absurd (cc (is, h.0))
takes_above old new (w ∷ rest) below (Some v) is more h =
    let same : w ∷ (rest ++ below) ≡ v ∷ new = sym is ∙ h in
    let first : w ≡ v = cc in
    let others : new ≡ rest ++ below = cc in
    (rest, ap (λ x. x ∷ rest) first, others)

pub forgotten : (items above base : List Wait) (n : ℕ) → reverse items ≡ above ++ base → length base ≡ n → reverse (take n items) ≡ base
forgotten items above base n is size =
    let whole : items ≡ reverse base ++ reverse above = sym (reverse-reverse items) ∙ ap reverse is ∙ reverse-append above base in
    let front : take n (reverse base ++ reverse above) ≡ take n (reverse base) = take-append-le n (reverse base) (reverse above) (omega (arith, length-reverse base, size)) in
    let all : take n (reverse base) ≡ reverse base = take_all n (reverse base) (omega (arith, length-reverse base, size)) in
    ap reverse (ap (take n) whole ∙ front ∙ all) ∙ reverse-reverse base
