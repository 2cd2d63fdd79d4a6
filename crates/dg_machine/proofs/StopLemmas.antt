-- Which stoppable part is open, and which choices are among others.
use Rattle.std.proofs.Common.{◌≡◌, ℕ, zero, suc, ◌*◌, ◌<◌, ◌≤◌, List, [], ◌∷◌, ◌++◌, Option, None, refl, ap, ◌∙◌, arith, length, inl, inr, length-append}
use Rattle.std.specs.List.{slice_get}
use Rattle.dg_base.specs.Begins.{Begins}
use Rattle.dg_mid.specs.State.{Stop, Choice as ChoiceOf}
use Rattle.dg_mid.specs.Stops.{choices_of}
use Rattle.dg_machine.specs.declared.now.Choice.{Choice}
use Rattle.dg_machine.specs.Links.{named}
use Rattle.dg_machine.specs.Stops.{tags_of, StopIs, Among, IsUnder}

-- ## Names

get_in_front : {A : Type 0} (xs ys : List A) (n : ℕ) → n < length xs → slice_get (xs ++ ys) n ≡ slice_get xs n
get_in_front [] ys n lt = absurd (omega (arith, lt))
get_in_front (x ∷ xs) ys zero lt = refl
get_in_front (x ∷ xs) ys (suc n) lt = get_in_front xs ys n (omega (arith, lt))

pub named_in_front : {A : Type 0} (xs ys : List A) (n : ℕ) → n ≤ length xs → named (xs ++ ys) n ≡ named xs n
named_in_front xs ys zero le = refl
named_in_front xs ys (suc n) le = get_in_front xs ys n (omega (arith, le))

-- the name of a stoppable part stays
pub stop_kept : (us vs : List ℕ) (n : ℕ) (o : Option ℕ) → Begins us vs → StopIs us n o → StopIs vs n o
stop_kept us vs n o b h =
    let within = h.within in
    record {
      within = omega (arith, within, ap length b.is, length-append us b.behind);
      is = ap (λ l. named l n) b.is ∙ named_in_front us b.behind n within ∙ h.is;
    }

pub none_open : (us : List ℕ) → StopIs us 0 None
none_open us = record { within = omega arith; is = refl }

pub tags_length : (ss : List Stop) → length (tags_of ss) ≡ length ss
tags_length [] = refl
tags_length (s ∷ ss) = let e = tags_length ss in omega (arith, e, length-append (tags_of ss) (s.place.tag ∷ []))

pub choices_length : (ss : List Stop) → length (choices_of ss) ≡ length ss
choices_length [] = refl
choices_length (s ∷ ss) = ap suc (choices_length ss)

-- ## Choices among others

pub among_front : (p : Choice) (q : ChoiceOf) (ps : List Choice) (qs : List ChoiceOf) (ks : List Choice) (cs : List ChoiceOf) → Among ps qs ks cs → Among (p ∷ ps) (q ∷ qs) ks cs
among_front p q ps qs [] [] h = tt
among_front p q ps qs (k ∷ ks) (c ∷ cs) h = inr h
among_front p q [] [] [] (c ∷ cs) h = h
among_front p q [] [] (k ∷ ks) [] h = h
among_front p q [] (y ∷ qs) [] (c ∷ cs) h = h
among_front p q [] (y ∷ qs) (k ∷ ks) [] h = h
among_front p q (x ∷ ps) [] [] (c ∷ cs) h = h
among_front p q (x ∷ ps) [] (k ∷ ks) [] h = h
among_front p q (x ∷ ps) (y ∷ qs) [] (c ∷ cs) h = h
among_front p q (x ∷ ps) (y ∷ qs) (k ∷ ks) [] h = h

pub among_tail : (ps : List Choice) (qs : List ChoiceOf) (k : Choice) (ks : List Choice) (c : ChoiceOf) (cs : List ChoiceOf) → Among ps qs (k ∷ ks) (c ∷ cs) → Among ps qs ks cs
among_tail (p ∷ ps) (q ∷ qs) k ks c cs (inl h) = among_front p q ps qs ks cs h.2
among_tail (p ∷ ps) (q ∷ qs) k ks c cs (inr h) = among_front p q ps qs ks cs (among_tail ps qs k ks c cs h)
among_tail [] [] k ks c cs h = absurd h
among_tail [] (q ∷ qs) k ks c cs h = absurd h
among_tail (p ∷ ps) [] k ks c cs h = absurd h

-- they are no more
pub among_fewer : (ps : List Choice) (qs : List ChoiceOf) (ks : List Choice) (cs : List ChoiceOf) → Among ps qs ks cs → length ks ≤ length ps
among_fewer ps qs [] [] h = omega arith
among_fewer (p ∷ ps) (q ∷ qs) (k ∷ ks) (c ∷ cs) (inl h) = let le = among_fewer ps qs ks cs h.2 in omega (arith, le)
among_fewer (p ∷ ps) (q ∷ qs) (k ∷ ks) (c ∷ cs) (inr h) = let le = among_fewer ps qs (k ∷ ks) (c ∷ cs) h in omega (arith, le)
among_fewer ps qs [] (c ∷ cs) h = omega arith
among_fewer [] [] (k ∷ ks) [] h = absurd h
among_fewer [] (q ∷ qs) (k ∷ ks) [] h = absurd h
among_fewer (p ∷ ps) [] (k ∷ ks) [] h = absurd h
among_fewer (p ∷ ps) (q ∷ qs) (k ∷ ks) [] h = absurd h
among_fewer [] [] (k ∷ ks) (c ∷ cs) h = absurd h
among_fewer [] (q ∷ qs) (k ∷ ks) (c ∷ cs) h = absurd h
among_fewer (p ∷ ps) [] (k ∷ ks) (c ∷ cs) h = absurd h

-- as many stand for as many
pub among_same : (ps : List Choice) (qs : List ChoiceOf) (ks : List Choice) (cs : List ChoiceOf) → Among ps qs ks cs → length ks ≡ length cs
among_same ps qs [] [] h = refl
among_same (p ∷ ps) (q ∷ qs) (k ∷ ks) (c ∷ cs) (inl h) = ap suc (among_same ps qs ks cs h.2)
among_same (p ∷ ps) (q ∷ qs) (k ∷ ks) (c ∷ cs) (inr h) = among_same ps qs (k ∷ ks) (c ∷ cs) h
among_same [] [] [] (c ∷ cs) h = absurd h
among_same [] (q ∷ qs) [] (c ∷ cs) h = absurd h
among_same (p ∷ ps) [] [] (c ∷ cs) h = absurd h
among_same (p ∷ ps) (q ∷ qs) [] (c ∷ cs) h = absurd h
among_same [] [] (k ∷ ks) [] h = absurd h
among_same [] (q ∷ qs) (k ∷ ks) [] h = absurd h
among_same (p ∷ ps) [] (k ∷ ks) [] h = absurd h
among_same (p ∷ ps) (q ∷ qs) (k ∷ ks) [] h = absurd h
among_same [] [] (k ∷ ks) (c ∷ cs) h = absurd h
among_same [] (q ∷ qs) (k ∷ ks) (c ∷ cs) h = absurd h
among_same (p ∷ ps) [] (k ∷ ks) (c ∷ cs) h = absurd h

-- ## Heights

pub under_up : (h h' : ℕ) (ks : List Choice) → h ≤ h' → IsUnder h ks → IsUnder h' ks
under_up h h' [] le u = tt
under_up h h' (k ∷ ks) le u = (omega (arith, u.0, le), omega (arith, u.1, le))

pub under_few : (h : ℕ) (ks : List Choice) → IsUnder h ks → 10 * length ks ≤ h
under_few h [] u = omega arith
under_few h (k ∷ ks) u = u.1
