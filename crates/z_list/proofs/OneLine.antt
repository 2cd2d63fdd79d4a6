-- No text begins with two lines of one place.
use Rattle.std.proofs.Common.{◌≡◌, ℕ, ◌<◌, List, [], ◌∷◌, ◌++◌, refl, sym, ap, ◌∙◌, arith}
use Rattle.std.specs.Prelude.{codes, decimal}
use Rattle.std.proofs.lemmas.List.{append_cancel_left}
use Rattle.z_model.specs.Table.{player_rows}
use Rattle.z_model.specs.Decode.{op_at}
use Rattle.z_list.specs.Listing.{Line, Data, Rule, Locals, Does, End}
use Rattle.z_list.specs.Texts.{spaced, all_spaced, found_text, line_text}
use Rattle.z_list.specs.inside.Held.{place_in, IsFit}
use Rattle.z_list.proofs.Instructions.{Small}
use Rattle.z_list.proofs.TextLemmas.{tails, spaced_same, bytes_same, no_byte_newline, no_byte_semicolon, numbers_same, newline_no_digit, dot_no_digit, data_open, rule_open, locals_open, does_open}

pub first_of : List ℕ → ℕ
first_of [] = 0
first_of (x ∷ xs) = x

-- the letter with which a line begins
abbrev pub letter : Line → ℕ
letter (Data at bytes) = 100
letter (Rule at pred rule) = 114
letter (Locals at byte) = 108
letter (Does at bytes) = 111
letter (End at) = 101

pub begins : (l : Line) (r : List ℕ) → first_of (line_text l ++ r) ≡ letter l
unfolding first_of
begins (Data at bytes) r = refl
begins (Rule at pred rule) r = refl
begins (Locals at byte) r = refl
begins (Does at bytes) r = refl
begins (End at) r = refl

pub letters : (l m : Line) (r s : List ℕ) → line_text l ++ r ≡ line_text m ++ s → letter l ≡ letter m
letters l m r s e = sym (begins l r) ∙ (ap first_of e ∙ begins m s)

some_letter : (l : Line) → 0 < letter l
some_letter (Data at bytes) = omega arith
some_letter (Rule at pred rule) = omega arith
some_letter (Locals at byte) = omega arith
some_letter (Does at bytes) = omega arith
some_letter (End at) = omega arith

pub no_line : (l : Line) (r : List ℕ) → [] ≡ line_text l ++ r → ⊥
unfolding first_of
no_line l r e = let none : 0 ≡ letter l = ap first_of e ∙ begins l r in omega (arith, none, some_letter l)

data_same : (at : ℕ) (bs cs r s : List ℕ) → Small bs → Small cs → line_text (Data at bs) ++ r ≡ line_text (Data at cs) ++ s → bs ≡ cs
data_same at bs cs r s hb hc e =
    (bytes_same bs cs (10 ∷ r) (10 ∷ s) hb hc (no_byte_newline r) (no_byte_newline s)
    (append_cancel_left (codes "data " ++ decimal at) (all_spaced bs ++ 10 ∷ r) (all_spaced cs ++ 10 ∷ s) (sym (data_open at bs r) ∙ (e ∙ data_open at cs s)))).0

locals_same : (at b c : ℕ) (r s : List ℕ) → line_text (Locals at b) ++ r ≡ line_text (Locals at c) ++ s → b ≡ c
locals_same at b c r s e =
    (spaced_same b c (10 ∷ r) (10 ∷ s) (append_cancel_left (codes "locals " ++ decimal at) (spaced b ++ 10 ∷ r) (spaced c ++ 10 ∷ s) (sym (locals_open at b r) ∙ (e ∙ locals_open at c s)))).0

does_same : (at : ℕ) (bs cs r s : List ℕ) → Small bs → Small cs → line_text (Does at bs) ++ r ≡ line_text (Does at cs) ++ s → bs ≡ cs
does_same at bs cs r s hb hc e =
    (bytes_same bs cs (codes " ; " ++ (found_text (op_at player_rows bs 0) ++ 10 ∷ r)) (codes " ; " ++ (found_text (op_at player_rows cs 0) ++ 10 ∷ s)) hb hc
    (no_byte_semicolon (32 ∷ (found_text (op_at player_rows bs 0) ++ 10 ∷ r))) (no_byte_semicolon (32 ∷ (found_text (op_at player_rows cs 0) ++ 10 ∷ s)))
    (append_cancel_left (codes "op " ++ decimal at) _ _ (sym (does_open at bs r) ∙ (e ∙ does_open at cs s)))).0

rule_same : (at p q p' q' : ℕ) (r s : List ℕ) → p < 65536 → p' < 65536 → q < 65536 → q' < 65536 → line_text (Rule at p q) ++ r ≡ line_text (Rule at p' q') ++ s → (p ≡ p') × (q ≡ q')
rule_same at p q p' q' r s hp hp' hq hq' e =
    let e0 = append_cancel_left (codes "rule " ++ decimal at) (32 ∷ (decimal p ++ 46 ∷ (decimal q ++ 10 ∷ r))) (32 ∷ (decimal p' ++ 46 ∷ (decimal q' ++ 10 ∷ s))) (sym (rule_open at p q r) ∙ (e ∙ rule_open at p' q' s)) in
    let one = numbers_same p p' 46 46 (decimal q ++ 10 ∷ r) (decimal q' ++ 10 ∷ s) (omega (arith, hp)) (omega (arith, hp')) dot_no_digit dot_no_digit
    (tails 32 32 (decimal p ++ 46 ∷ (decimal q ++ 10 ∷ r)) (decimal p' ++ 46 ∷ (decimal q' ++ 10 ∷ s)) e0) in
    let two = numbers_same q q' 10 10 r s (omega (arith, hq)) (omega (arith, hq')) newline_no_digit newline_no_digit (tails 46 46 (decimal q ++ 10 ∷ r) (decimal q' ++ 10 ∷ s) one.1) in
    (one.0, two.0)

pub one_line : (l m : Line) (r s : List ℕ) → place_in l ≡ place_in m → IsFit l → IsFit m → line_text l ++ r ≡ line_text m ++ s → l ≡ m
one_line (Data a bs) (Data a' cs) r s at f g e = ap (λ (k : ℕ). Data k bs) at ∙ ap (λ (l : List ℕ). Data a' l) (data_same a bs cs r s f.bytes g.bytes (e ∙ ap (λ (k : ℕ). line_text (Data k cs) ++ s) (sym at)))
one_line (Data a bs) (Rule a' p' q') r s at f g e = absurd (omega (arith, letters (Data a bs) (Rule a' p' q') r s e))
one_line (Data a bs) (Locals a' c) r s at f g e = absurd (omega (arith, letters (Data a bs) (Locals a' c) r s e))
one_line (Data a bs) (Does a' cs) r s at f g e = absurd (omega (arith, letters (Data a bs) (Does a' cs) r s e))
one_line (Data a bs) (End a') r s at f g e = absurd (omega (arith, letters (Data a bs) (End a') r s e))
one_line (Rule a p q) (Data a' cs) r s at f g e = absurd (omega (arith, letters (Rule a p q) (Data a' cs) r s e))
one_line (Rule a p q) (Rule a' p' q') r s at f g e =
    let same = rule_same a p q p' q' r s f.numbers.0 g.numbers.0 f.numbers.1 g.numbers.1 (e ∙ ap (λ (k : ℕ). line_text (Rule k p' q') ++ s) (sym at)) in
    ap (λ (k : ℕ). Rule k p q) at ∙ (ap (λ (k : ℕ). Rule a' k q) same.0 ∙ ap (λ (k : ℕ). Rule a' p' k) same.1)
one_line (Rule a p q) (Locals a' c) r s at f g e = absurd (omega (arith, letters (Rule a p q) (Locals a' c) r s e))
one_line (Rule a p q) (Does a' cs) r s at f g e = absurd (omega (arith, letters (Rule a p q) (Does a' cs) r s e))
one_line (Rule a p q) (End a') r s at f g e = absurd (omega (arith, letters (Rule a p q) (End a') r s e))
one_line (Locals a b) (Data a' cs) r s at f g e = absurd (omega (arith, letters (Locals a b) (Data a' cs) r s e))
one_line (Locals a b) (Rule a' p' q') r s at f g e = absurd (omega (arith, letters (Locals a b) (Rule a' p' q') r s e))
one_line (Locals a b) (Locals a' c) r s at f g e = ap (λ (k : ℕ). Locals k b) at ∙ ap (λ (v : ℕ). Locals a' v) (locals_same a b c r s (e ∙ ap (λ (k : ℕ). line_text (Locals k c) ++ s) (sym at)))
one_line (Locals a b) (Does a' cs) r s at f g e = absurd (omega (arith, letters (Locals a b) (Does a' cs) r s e))
one_line (Locals a b) (End a') r s at f g e = absurd (omega (arith, letters (Locals a b) (End a') r s e))
one_line (Does a bs) (Data a' cs) r s at f g e = absurd (omega (arith, letters (Does a bs) (Data a' cs) r s e))
one_line (Does a bs) (Rule a' p' q') r s at f g e = absurd (omega (arith, letters (Does a bs) (Rule a' p' q') r s e))
one_line (Does a bs) (Locals a' c) r s at f g e = absurd (omega (arith, letters (Does a bs) (Locals a' c) r s e))
one_line (Does a bs) (Does a' cs) r s at f g e = ap (λ (k : ℕ). Does k bs) at ∙ ap (λ (l : List ℕ). Does a' l) (does_same a bs cs r s f.bytes g.bytes (e ∙ ap (λ (k : ℕ). line_text (Does k cs) ++ s) (sym at)))
one_line (Does a bs) (End a') r s at f g e = absurd (omega (arith, letters (Does a bs) (End a') r s e))
one_line (End a) (Data a' cs) r s at f g e = absurd (omega (arith, letters (End a) (Data a' cs) r s e))
one_line (End a) (Rule a' p' q') r s at f g e = absurd (omega (arith, letters (End a) (Rule a' p' q') r s e))
one_line (End a) (Locals a' c) r s at f g e = absurd (omega (arith, letters (End a) (Locals a' c) r s e))
one_line (End a) (Does a' cs) r s at f g e = absurd (omega (arith, letters (End a) (Does a' cs) r s e))
one_line (End a) (End a') r s at f g e = ap (λ (k : ℕ). End k) at
