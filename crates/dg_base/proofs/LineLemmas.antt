-- A typed line, byte by byte, and what its bytes are in front of.
use Rattle.std.proofs.Common.{◌≡◌, ◌≢◌, ℕ, zero, suc, ◌+◌, ◌-◌, ◌<◌, List, [], ◌∷◌, ◌++◌, length, take, Option, Some, None, inl, inr, refl, sym, ap, subst, ◌∙◌, arith, append_assoc}
use Rattle.std.specs.Prelude.{All}
use Rattle.std.specs.Io.KnownBytes.{Consumes, IsAtEnd, Keeps}
use Rattle.std.proofs.KnownBytes.{Consumes-trans}
use Rattle.std.proofs.lemmas.List.{append-nil, append_cancel_left, length-append, length_push}
use Rattle.std.proofs.lemmas.List.Elements.{All-nil, All-push}
use Rattle.dg_base.specs.Lines.{IsPlain, Ends, TookLine, IsText, IsKept}
use Rattle.dg_base.specs.Typed.{longest}

-- So much of a line was read behind its first byte: the last byte is held back, and the bytes before it are kept.
pub record Reading (first : ℕ) (line : List ℕ) (kept held room : ℕ) (old now : Option (List ℕ)) : Type 0 where
  pub front : List ℕ
  pub plain : All (λ b. b ≢ 10) (front ++ held ∷ [])
  pub long : room + length (front ++ held ∷ []) ≡ longest
  pub took : (before : Option (List ℕ)) → Consumes before old (first ∷ []) → Consumes before now (front ++ held ∷ [])
  pub keeps : IsKept line kept front

-- ---- what a source gave

pub nothing_left : (old : Option (List ℕ)) → IsAtEnd old → Consumes old (Some []) []
nothing_left None end = tt
nothing_left (Some xs) end = end

pub took_none : (old new : Option (List ℕ)) → Keeps old new → Consumes old new []
took_none None new k = tt
took_none (Some xs) None k = absurd k
took_none (Some xs) (Some ys) k = sym k

pub not_empty : (front : List ℕ) (b : ℕ) (end : List ℕ) → (front ++ b ∷ []) ++ end ≢ []
not_empty [] b end none = absurd cc
not_empty (x ∷ front) b end none = absurd cc

-- ---- a carriage return at the end

last_is : (front other : List ℕ) (b c : ℕ) → front ++ b ∷ [] ≡ other ++ c ∷ [] → b ≡ c
last_is [] [] b c e = cc
last_is [] (y ∷ other) b c e = absurd (omega (arith, ap length e, length_push other c))
last_is (x ∷ front) [] b c e = absurd (omega (arith, ap length e, length_push front b))
last_is (x ∷ front) (y ∷ other) b c e = let same : front ++ b ∷ [] ≡ other ++ c ∷ [] = cc in last_is front other b c same

pub no_return : (front : List ℕ) (b : ℕ) → b ≢ 13 → IsText (front ++ b ∷ []) (front ++ b ∷ [])
no_return front b e = inr (refl, λ other is. e (last_is front other b 13 is))

pub no_text : IsText [] []
no_text = inr (refl, λ other is. absurd (omega (arith, ap length is, length_push other 13)))

pub none_kept : (line : List ℕ) → IsKept line 0 []
none_kept line = record { front = sym (take_none (length line)); count = ap length (sym (take_none (length line))) }
  where
    take_none : (n : ℕ) → take {A = ℕ} n [] ≡ []
    take_none zero = refl
    take_none (suc n) = refl

-- ---- a line

pub first_plain : (first : ℕ) → first ≢ 10 → All (λ b. b ≢ 10) (first ∷ [])
first_plain first e = All-push (λ b. b ≢ 10) [] first (All-nil (λ b. b ≢ 10)) e

pub reading_goes : (first : ℕ) (line line' : List ℕ) (kept kept' held room byte : ℕ) (old now new : Option (List ℕ)) → (r : Reading first line kept held room old now) →
    Consumes now new (byte ∷ []) → byte ≢ 10 → 0 < room → IsKept line' kept' (r.front ++ held ∷ []) → Reading first line' kept' byte (room - 1) old new
reading_goes first line line' kept kept' held room byte old now new r took plain some keeps = record {
  front = r.front ++ held ∷ [];
  plain = All-push (λ b. b ≢ 10) (r.front ++ held ∷ []) byte r.plain plain;
  long = omega (arith, r.long, length_push (r.front ++ held ∷ []) byte);
  took = λ before h. Consumes-trans before now new (r.front ++ held ∷ []) (byte ∷ []) (r.took before h) took;
  keeps = keeps;
}

pub line_ends : (front : List ℕ) (held room : ℕ) (before now new : Option (List ℕ)) (end : List ℕ) → All (λ b. b ≢ 10) (front ++ held ∷ []) → room + length (front ++ held ∷ []) ≡ longest →
    Consumes before now (front ++ held ∷ []) → Consumes now new end → Ends room now [] end → TookLine (front ++ held ∷ []) before new
line_ends front held room before now new end plain long took last ends = record {
  plain = record { no_newline = plain; within = omega (arith, long) };
  end = end;
  took = Consumes-trans before now new bytes end took last;
  ends = subst (λ (n : ℕ). Ends n before bytes end) (omega (arith, long)) (so ends);
  some = not_empty front held end;
}
  where
    bytes : List ℕ
    bytes = front ++ held ∷ []

    so : Ends room now [] end → Ends room before bytes end
    so (inl newline) = inl newline
    so (inr (inl full, none)) = inr (inl full, none)
    so (inr (inr over, none)) = inr (inr (subst (Consumes before (Some [])) (append-nil bytes) (Consumes-trans before now (Some []) bytes [] took over)), none)

-- ## For those who read a line: what its bytes are in front of

-- These typed bytes are a line, its end and the rest.
pub record IsLine (bytes typed rest : List ℕ) : Type 0 where
  pub plain : IsPlain bytes
  pub end : List ℕ
  pub is : typed ≡ bytes ++ (end ++ rest)
  pub ends : Ends (longest - length bytes) (Some rest) [] end
  pub some : typed ≢ []

-- where the source tells its bytes
pub line_told : (bytes typed : List ℕ) (new : Option (List ℕ)) → TookLine bytes (Some typed) new → (rest : List ℕ) × (new ≡ Some rest) × IsLine bytes typed rest
line_told bytes typed None t = absurd t.took
line_told bytes typed (Some rest) t = (rest, refl, record { plain = t.plain; end = t.end; is = is; ends = so t.ends; some = some })
  where
    is : typed ≡ bytes ++ (t.end ++ rest)
    is = t.took ∙ append_assoc bytes t.end rest

    so : Ends (longest - length bytes) (Some typed) bytes t.end → Ends (longest - length bytes) (Some rest) [] t.end
    so (inl newline) = inl newline
    so (inr (inl full, none)) = inr (inl full, none)
    so (inr (inr over, none)) = inr (inr (ap (λ (e : List ℕ). e ++ rest) (sym none) ∙ append_cancel_left bytes (t.end ++ rest) [] (sym is ∙ over)), none)

    some : typed ≢ []
    some none = t.some (nil (bytes ++ t.end) (sym t.took ∙ none))
      where
        nil : (l : List ℕ) → l ++ rest ≡ [] → l ≡ []
        nil [] e = refl
        nil (b ∷ l) e = absurd cc

-- where it doesn't: a newline ends the line, unless it is the longest
pub line_untold : (bytes : List ℕ) → IsPlain bytes → (end : List ℕ) × ((rest : List ℕ) → IsLine bytes (bytes ++ (end ++ rest)) rest)
line_untold bytes plain = by_room (longest - length bytes) refl
  where
    by_room : (room : ℕ) → longest - length bytes ≡ room → (end : List ℕ) × ((rest : List ℕ) → IsLine bytes (bytes ++ (end ++ rest)) rest)
    by_room zero e = ([], λ rest. record { plain = plain; end = []; is = refl; ends = inr (inl e, refl); some = λ none. omega (arith, plain.within, e, ap length none, length-append bytes rest) })
    by_room (suc room) e = (10 ∷ [], λ rest. record { plain = plain; end = 10 ∷ []; is = refl; ends = inl (omega (arith, e), refl); some = λ none. omega (arith, ap length none, length-append bytes (10 ∷ rest)) })
