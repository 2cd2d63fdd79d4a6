-- What is told, one stretch behind another.
use Rattle.std.proofs.Common.{◌≡◌, ℕ, zero, suc, ◌+◌, ◌-◌, ◌≤◌, List, [], ◌∷◌, ◌++◌, refl, sym, ap, ◌∙◌, subst, arith, length, take, drop, append_assoc, length-drop}
use Rattle.std.specs.Prelude.{Result, Ok, Err}
use Rattle.std.proofs.lemmas.List.{append-nil, take-append-drop}
use Rattle.dg_base.specs.Causes.{Rose}
use Rattle.dg_base.proofs.WrittenLemmas.{rest_at}
use Rattle.dg_watch.specs.Told.{Told, Took, took}
use Rattle.dg_watch.specs.Watching.{Watching, beside, Refused, IsTold, Puts, Given, Lost}

module _ {W : Type 0} (v : Watching W) where
  pub given_nothing : (a : W) → Given v a a []
  given_nothing a = record { told = v.nothing a; steady = refl }

  pub given_on : (a b c : W) (xs ys : List Told) → Given v a b xs → Given v b c ys → Given v a c (xs ++ ys)
  given_on a b c xs ys h k = record { told = v.on a b c xs ys h.told k.told; steady = k.steady ∙ h.steady }

  -- a failure in a front of what is told
  pub lost_first : (a b : W) (xs ys : List Told) → Lost v a b xs → Lost v a b (xs ++ ys)
  lost_first a b xs ys h = record {
    later = h.later;
    rose = h.rose;
    once = h.once;
    part = h.part;
    rest = h.rest ++ ys;
    is = ap (λ l. l ++ ys) h.is ∙ append_assoc h.part h.rest ys;
    told = h.told;
    upto = h.upto;
    beyond = h.beyond ++ ys;
    reaches = ap (λ l. l ++ ys) h.reaches ∙ append_assoc h.upto h.beyond ys;
    refuses = h.refuses;
  }

  -- a failure behind a front of what is told
  pub lost_later : (a b c : W) (xs ys : List Told) → Given v a b xs → Lost v b c ys → Lost v a c (xs ++ ys)
  lost_later a b c xs ys h k = record {
    later = omega (arith, h.steady, k.later);
    rose = subst (λ n. Rose n (v.faults c)) h.steady k.rose;
    once = omega (arith, h.steady, k.once);
    part = xs ++ k.part;
    rest = k.rest;
    is = ap (λ l. xs ++ l) k.is ∙ sym (append_assoc xs k.part k.rest);
    told = v.on a b c xs k.part h.told k.told;
    upto = xs ++ k.upto;
    beyond = k.beyond;
    reaches = ap (λ l. xs ++ l) k.reaches ∙ sym (append_assoc xs k.upto k.beyond);
    refuses = v.behind a b xs k.upto h.told k.refuses;
  }

  -- what was refused
  pub lost_refused : (a b : W) (xs : List Told) → Refused v xs a b → v.faults a ≤ v.faults b → Rose (v.faults a) (v.faults b) → v.faults b ≤ v.faults a + 1 → Lost v a b xs
  lost_refused a b xs h later rose once = record {
    later = later;
    rose = rose;
    once = once;
    part = [];
    rest = xs;
    is = refl;
    told = h.told;
    upto = xs;
    beyond = [];
    reaches = sym (append-nil xs);
    refuses = h.refuses;
  }

-- ## With something beside it

pub puts_beside : {A W E : Type 0} (v : Watching W) (a b : A) (old new : W) (piece : List ℕ) (r : Result ℕ E) → Puts v old new piece r → Puts (beside v) (a, old) (b, new) piece r
puts_beside v a b old new piece (Ok n) h = h
puts_beside v a b old new piece (Err e) h = record { told = h.told; refuses = h.refuses }

pub told_beside : {A W T E : Type 0} (v : Watching W) (ts : List Told) (a b : A) (old new : W) (r : Result T E) → IsTold v ts old new r → IsTold (beside v) ts (a, old) (b, new) r
told_beside v ts a b old new (Ok x) h = h
told_beside v ts a b old new (Err e) h = record { told = h.told; refuses = h.refuses }

-- ## Bytes

pub took_on : (xs ys : List ℕ) → took (xs ++ ys) ≡ took xs ++ took ys
took_on [] ys = refl
took_on (x ∷ xs) ys = ap (λ l. Took x ∷ l) (took_on xs ys)

all_taken : {A : Type 0} (xs : List A) (n : ℕ) → length xs ≤ n → take n xs ≡ xs
all_taken [] zero h = refl
all_taken [] (suc n) h = refl
all_taken (x ∷ xs) zero h = absurd (omega arith)
all_taken (x ∷ xs) (suc n) h = ap (λ l. x ∷ l) (all_taken xs n (omega arith))

take_sum : (xs : List ℕ) (a b c : ℕ) → c ≡ a + b → take c xs ≡ take a xs ++ take b (drop a xs)
take_sum xs zero b c e = let q : c ≡ b = omega arith in ap (λ n. take n xs) q
take_sum [] (suc a) zero zero e = refl
take_sum [] (suc a) zero (suc c) e = refl
take_sum [] (suc a) (suc b) zero e = refl
take_sum [] (suc a) (suc b) (suc c) e = refl
take_sum (x ∷ xs) (suc a) b zero e = absurd (omega arith)
take_sum (x ∷ xs) (suc a) b (suc c) e = ap (λ l. x ∷ l) (take_sum xs a b c (omega arith))

rest_is : (bytes : List ℕ) (at : ℕ) → rest_at bytes at ≡ drop at bytes
rest_is bytes at = all_taken (drop at bytes) (length bytes - at) (omega (arith, length-drop at bytes))

module _ {W : Type 0} (v : Watching W) where
  -- so many bytes more were taken
  pub given_more : (a b c : W) (bytes : List ℕ) (at n : ℕ) → Given v a b (took (take at bytes)) → v.told b c (took (take n (rest_at bytes at))) → v.faults c ≡ v.faults b → Given v a c (took (take (at + n) bytes))
  given_more a b c bytes at n h k steady =
      let same : take at bytes ++ take n (rest_at bytes at) ≡ take (at + n) bytes = ap (λ l. take at bytes ++ take n l) (rest_is bytes at) ∙ sym (take_sum bytes at n (at + n) refl) in
      subst (Given v a c) (sym (took_on (take at bytes) (take n (rest_at bytes at))) ∙ ap took same)
      (given_on v a b c (took (take at bytes)) (took (take n (rest_at bytes at))) h (record { told = k; steady = steady }))

  pub given_all : (a b : W) (bytes : List ℕ) (at : ℕ) → length bytes ≤ at → Given v a b (took (take at bytes)) → Given v a b (took bytes)
  given_all a b bytes at le h = subst (λ l. Given v a b (took l)) (all_taken bytes at le) h

  -- the rest was refused
  pub lost_rest : (a b c : W) (bytes : List ℕ) (at : ℕ) → Given v a b (took (take at bytes)) → Refused v (took (rest_at bytes at)) b c → v.faults b ≤ v.faults c → Rose (v.faults b) (v.faults c) → v.faults c ≤ v.faults b + 1 → Lost v a c (took bytes)
  lost_rest a b c bytes at h k later rose once =
      let same : take at bytes ++ rest_at bytes at ≡ bytes = ap (λ l. take at bytes ++ l) (rest_is bytes at) ∙ take-append-drop at bytes in
      subst (Lost v a c) (sym (took_on (take at bytes) (rest_at bytes at)) ∙ ap took same)
      (lost_later v a b c (took (take at bytes)) (took (rest_at bytes at)) h (lost_refused v b c (took (rest_at bytes at)) k later rose once))
