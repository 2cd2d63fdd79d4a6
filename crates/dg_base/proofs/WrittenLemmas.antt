-- Texts that are written in parts.
use Rattle.std.proofs.Common.{◌≡◌, ℕ, zero, suc, ◌+◌, ◌-◌, ◌≤◌, List, [], ◌∷◌, ◌++◌, Option, Some, None, refl, sym, ap, ◌∙◌, subst, arith, length, take, drop, append_assoc, length-drop, length-append, length-take}
use Rattle.std.specs.Prelude.{Ok, Err}
use Rattle.std.specs.Io.KnownBytes.{Keeps, Appends}
use Rattle.std.proofs.lemmas.List.{take-append-drop, append-nil}
use Rattle.dg_base.specs.Causes.{Rose}
use Rattle.dg_base.specs.Streams.{RoomFalls, TakesWithinRoom}
use Rattle.dg_base.specs.Written.{SinkView, FallsBy, IsOver, Wrote, BrokeOff, joined}

-- ## What is told

appends_on : (a b c : Option (List ℕ)) (xs ys : List ℕ) → Appends a b xs → Appends b c ys → Appends a c (xs ++ ys)
appends_on None b c xs ys h k = tt
appends_on (Some a) None c xs ys h k = absurd h
appends_on (Some a) (Some b) None xs ys h k = absurd k
appends_on (Some a) (Some b) (Some c) xs ys h k = k ∙ ap (λ l. l ++ ys) h ∙ append_assoc a xs ys

appends_none : (a b : Option (List ℕ)) → Keeps a b → Appends a b []
appends_none None b h = tt
appends_none (Some a) None h = absurd h
appends_none (Some a) (Some b) h = h ∙ sym (append-nil a)

appends_same : (a : Option (List ℕ)) → Appends a a []
appends_same None = tt
appends_same (Some a) = sym (append-nil a)

falls_same : (r : Option ℕ) → FallsBy r r 0
falls_same None = tt
falls_same (Some r) = omega arith

falls_on : (a b c : Option ℕ) (m n k : ℕ) → k ≡ m + n → FallsBy a b m → FallsBy b c n → FallsBy a c k
falls_on None b c m n k e h j = tt
falls_on (Some a) None c m n k e h j = absurd h
falls_on (Some a) (Some b) None m n k e h j = absurd j
falls_on (Some a) (Some b) (Some c) m n k e h j = omega arith

over_on : (a b : Option ℕ) (m n k : ℕ) → k ≡ m + n → FallsBy a b m → IsOver b n → IsOver a k
over_on None b m n k e h j = tt
over_on (Some a) None m n k e h j = absurd h
over_on (Some a) (Some b) m n k e h j = omega arith

over_more : (a : Option ℕ) (m n : ℕ) → m ≤ n → IsOver a m → IsOver a n
over_more None m n le h = tt
over_more (Some a) m n le h = omega arith

pub falls : (E : Type 0) (a b : Option ℕ) (n : ℕ) → RoomFalls {E = E} a b (Ok n) → FallsBy a b n
falls E None b n h = tt
falls E (Some a) None n h = absurd h
falls E (Some a) (Some b) n h = h

-- ## One after another

pub wrote_nothing : (a : SinkView) → Wrote a a []
wrote_nothing a = record { taken = appends_same a.taken; room = falls_same a.room; steady = refl }

pub wrote_on : (a b c : SinkView) (xs ys : List ℕ) → Wrote a b xs → Wrote b c ys → Wrote a c (xs ++ ys)
wrote_on a b c xs ys h k = record {
  taken = appends_on a.taken b.taken c.taken xs ys h.taken k.taken;
  room = falls_on a.room b.room c.room (length xs) (length ys) (length (xs ++ ys)) (length-append xs ys) h.room k.room;
  steady = k.steady ∙ h.steady;
}

-- a failure in a front of the bytes
pub broke_first : (a b : SinkView) (xs ys : List ℕ) → BrokeOff a b xs → BrokeOff a b (xs ++ ys)
broke_first a b xs ys h = record {
  later = h.later;
  rose = h.rose;
  once = h.once;
  part = h.part;
  rest = h.rest ++ ys;
  is = ap (λ l. l ++ ys) h.is ∙ append_assoc h.part h.rest ys;
  taken = h.taken;
  over = over_more a.room (length xs) (length (xs ++ ys)) (omega (arith, length-append xs ys)) h.over;
}

-- a failure behind a front of the bytes
pub broke_later : (a b c : SinkView) (xs ys : List ℕ) → Wrote a b xs → BrokeOff b c ys → BrokeOff a c (xs ++ ys)
broke_later a b c xs ys h k = record {
  later = omega (arith, h.steady, k.later);
  rose = subst (λ n. Rose n c.faults) h.steady k.rose;
  once = omega (arith, h.steady, k.once);
  part = xs ++ k.part;
  rest = k.rest;
  is = ap (λ l. xs ++ l) k.is ∙ sym (append_assoc xs k.part k.rest);
  taken = appends_on a.taken b.taken c.taken xs k.part h.taken k.taken;
  over = over_on a.room b.room (length xs) (length ys) (length (xs ++ ys)) (length-append xs ys) h.room k.over;
}

-- ## One put

take_sum : (xs : List ℕ) (a b c : ℕ) → c ≡ a + b → take c xs ≡ take a xs ++ take b (drop a xs)
take_sum xs zero b c e = let q : c ≡ b = omega arith in ap (λ n. take n xs) q
take_sum [] (suc a) zero zero e = refl
take_sum [] (suc a) zero (suc c) e = refl
take_sum [] (suc a) (suc b) zero e = refl
take_sum [] (suc a) (suc b) (suc c) e = refl
take_sum (x ∷ xs) (suc a) b zero e = absurd (omega arith)
take_sum (x ∷ xs) (suc a) b (suc c) e = ap (λ l. x ∷ l) (take_sum xs a b c (omega arith))

all_taken : {A : Type 0} (xs : List A) (n : ℕ) → length xs ≤ n → take n xs ≡ xs
all_taken [] zero h = refl
all_taken [] (suc n) h = refl
all_taken (x ∷ xs) zero h = absurd (omega arith)
all_taken (x ∷ xs) (suc n) h = ap (λ l. x ∷ l) (all_taken xs n (omega arith))

-- the rest of the bytes, as the code cuts it
abbrev pub rest_at : List ℕ → ℕ → List ℕ
rest_at bytes at = take (length bytes - at) (drop at bytes)

rest_is : (bytes : List ℕ) (at : ℕ) → rest_at bytes at ≡ drop at bytes
rest_is bytes at = all_taken (drop at bytes) (length bytes - at) (omega (arith, length-drop at bytes))

pub rest_length : (bytes : List ℕ) (at : ℕ) → length (rest_at bytes at) ≡ length bytes - at
rest_length bytes at = ap length (rest_is bytes at) ∙ length-drop at bytes

pub wrote_more : (a b c : SinkView) (bytes : List ℕ) (at n : ℕ) → n ≤ length (rest_at bytes at) → Wrote a b (take at bytes) → Appends b.taken c.taken (take n (rest_at bytes at)) → FallsBy b.room c.room n → c.faults ≡ b.faults → Wrote a c (take (at + n) bytes)
wrote_more a b c bytes at n le h t r f =
    let rest = rest_is bytes at in
    let len : length (take n (rest_at bytes at)) ≡ n = length-take n (rest_at bytes at) ∙ omega arith in
    let put : Wrote b c (take n (rest_at bytes at)) = record { taken = t; room = subst (FallsBy b.room c.room) (sym len) r; steady = f } in
    subst (Wrote a c) (ap (λ l. take at bytes ++ take n l) rest ∙ sym (take_sum bytes at n (at + n) refl)) (wrote_on a b c (take at bytes) (take n (rest_at bytes at)) h put)

pub wrote_all : (a b : SinkView) (bytes : List ℕ) (at : ℕ) → length bytes ≤ at → Wrote a b (take at bytes) → Wrote a b bytes
wrote_all a b bytes at le h = subst (Wrote a b) (all_taken bytes at le) h

over_refused : {E : Type 0} (room : Option ℕ) (piece : List ℕ) (e : E) → TakesWithinRoom {E = E} room piece (Err e) → IsOver room (length piece)
over_refused None piece e h = tt
over_refused (Some room) piece e h = let no : length piece ≤ room → ⊥ = λ le. let x = h le in cc in omega (arith, no)

pub put_failed : {E : Type 0} (a b c : SinkView) (bytes : List ℕ) (at : ℕ) (e : E) → at ≤ length bytes → Wrote a b (take at bytes) → Keeps b.taken c.taken → TakesWithinRoom {E = E} b.room (rest_at bytes at) (Err e) → b.faults ≤ c.faults → Rose b.faults c.faults → c.faults ≤ b.faults + 1 → BrokeOff a c bytes
put_failed a b c bytes at e le h t r m f once =
    let here : BrokeOff b c (rest_at bytes at) = record { later = m; rose = f; once = once; part = []; rest = rest_at bytes at; is = refl; taken = appends_none b.taken c.taken t; over = over_refused b.room (rest_at bytes at) e r } in
    subst (BrokeOff a c) (ap (λ l. take at bytes ++ l) (rest_is bytes at) ∙ take-append-drop at bytes) (broke_later a b c (take at bytes) (rest_at bytes at) h here)

-- ## One piece of many

-- a front of the pieces was written, and these are left
pub record WroteFront (old new : SinkView) (pieces rest : List (List ℕ)) : Type 0 where
  pub front : List ℕ
  pub is : joined pieces ≡ front ++ joined rest
  pub wrote : Wrote old new front

pub front_starts : (a : SinkView) (pieces : List (List ℕ)) → WroteFront a a pieces pieces
front_starts a pieces = record { front = []; is = refl; wrote = wrote_nothing a }

pub front_goes : (a b c : SinkView) (pieces rest more : List (List ℕ)) (piece : List ℕ) → rest ≡ piece ∷ more → WroteFront a b pieces rest → Wrote b c piece → WroteFront a c pieces more
front_goes a b c pieces rest more piece e w h = record {
  front = w.front ++ piece;
  is = w.is ∙ ap (λ l. w.front ++ joined l) e ∙ sym (append_assoc w.front piece (joined more));
  wrote = wrote_on a b c w.front piece w.wrote h;
}

pub front_ends : (a b : SinkView) (pieces rest : List (List ℕ)) → rest ≡ [] → WroteFront a b pieces rest → Wrote a b (joined pieces)
front_ends a b pieces rest e w = subst (Wrote a b) (sym (w.is ∙ ap (λ l. w.front ++ joined l) e ∙ append-nil w.front)) w.wrote

pub front_broke : (a b c : SinkView) (pieces rest more : List (List ℕ)) (piece : List ℕ) → rest ≡ piece ∷ more → WroteFront a b pieces rest → BrokeOff b c piece → BrokeOff a c (joined pieces)
front_broke a b c pieces rest more piece e w h =
    let all = w.is ∙ ap (λ l. w.front ++ joined l) e in
    subst (BrokeOff a c) (sym all) (broke_later a b c w.front (piece ++ joined more) w.wrote (broke_first b c piece (joined more) h))
