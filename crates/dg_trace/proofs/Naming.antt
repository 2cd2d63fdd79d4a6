-- The names of a sound program's predicates stand in one line.
use Rattle.std.proofs.Common.{◌≡◌, ◌≢◌, ℕ, zero, suc, ◌+◌, ◌/◌, ◌≤◌, List, [], ◌∷◌, ◌++◌, Bool, true, false, cond, ltb, refl, sym, subst, arith, map, get_or}
use Rattle.std.specs.Prelude.{All, encode_utf8_all}
use Rattle.std.proofs.Math.Utf8.{encode, next}
use Rattle.std.proofs.lemmas.List.Elements.{All-nil, All-cons, All-head, All-tail, All-append}
use Rattle.dg_base.specs.declared.program.CoreProgram.{CoreProgram}
use Rattle.dg_base.specs.declared.program.Pred.{Pred}
use Rattle.dg_base.specs.Sound.{IsPrintable, IsName, IsPredOf, IsSound}
use Rattle.dg_meaning.specs.Trace.{names_of}
use Rattle.dg_meaning.specs.inside.Erasing.{HaveNoNewline}

abbrev NoNewline : List ℕ → Type 0
NoNewline = All (λ b. b ≢ 10)

-- these bytes are none of those before the space
abbrev AreFar : List ℕ → Type 0
AreFar [] = Unit {0}
AreFar (b ∷ bs) = (32 ≤ b) × AreFar bs

far_in_line : (bs : List ℕ) → AreFar bs → NoNewline bs
far_in_line [] h = All-nil (λ b. b ≢ 10)
far_in_line (b ∷ bs) h = All-cons (λ b. b ≢ 10) b bs (λ e. omega (arith, h.0)) (far_in_line bs h.1)

chosen : (x y z : Bool) (one two three four : List ℕ) → AreFar one → AreFar two → AreFar three → AreFar four → AreFar (cond x one (cond y two (cond z three four)))
chosen true y z one two three four h1 h2 h3 h4 = h1
chosen false true z one two three four h1 h2 h3 h4 = h2
chosen false false true one two three four h1 h2 h3 h4 = h3
chosen false false false one two three four h1 h2 h3 h4 = h4

bytes_far : (c : ℕ) → 32 ≤ c → AreFar (encode c)
unfolding encode
bytes_far c from =
    let two = (192 + c / 64) ∷ next c ∷ [] in
    let three = (224 + c / 4096) ∷ next (c / 64) ∷ next c ∷ [] in
    let four = (240 + c / 262144) ∷ next (c / 4096) ∷ next (c / 64) ∷ next c ∷ [] in
    chosen (ltb c 128) (ltb c 2048) (ltb c 65536) (c ∷ []) two three four
    (omega arith, tt) (omega arith, (omega arith, tt)) (omega arith, (omega arith, (omega arith, tt))) (omega arith, (omega arith, (omega arith, (omega arith, tt))))

characters_in_line : (cs : List ℕ) → All IsPrintable cs → NoNewline (encode_utf8_all cs)
characters_in_line [] h = All-nil (λ b. b ≢ 10)
characters_in_line (c ∷ cs) h =
    All-append (λ b. b ≢ 10) (encode c) (encode_utf8_all cs)
    (far_in_line (encode c) (bytes_far c (All-head IsPrintable c cs h).from)) (characters_in_line cs (All-tail IsPrintable c cs h))

name_in_line : (name : List ℕ) → IsName name → NoNewline name
name_in_line name h = subst NoNewline (sym h.encoded) (characters_in_line h.characters h.printable)

names_in_line : (p : CoreProgram) (preds : List Pred) → All (IsPredOf p) preds → (n : ℕ) → NoNewline (get_or (map (λ (pred : Pred). pred.name) preds) n [])
names_in_line p [] h n = All-nil (λ b. b ≢ 10)
names_in_line p (pred ∷ preds) h zero = name_in_line pred.name (All-head (IsPredOf p) pred preds h).name
names_in_line p (pred ∷ preds) h (suc n) = names_in_line p preds (All-tail (IsPredOf p) pred preds h) n

pub sound_names : (p : CoreProgram) → IsSound p → HaveNoNewline (names_of p)
sound_names p sound = names_in_line p p.preds sound.preds
