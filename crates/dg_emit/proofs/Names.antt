-- Names of a program as text: they are characters of one word each, in UTF-8.
use Rattle.std.proofs.Common.{◌≡◌, ℕ, ◌-◌, ◌<◌, ◌≤◌, true, List, [], ◌∷◌, length, get_or, Option, Some, None, refl, sym, ap, ◌∙◌, subst, arith}
use Rattle.std.specs.List.{All}
use Rattle.std.specs.Str.{chars, IsUtf8, all_scalars}
use Rattle.std.proofs.lemmas.List.Elements.{All-head, All-tail, All-get_or}
use Rattle.std.proofs.lemmas.Str.{chars-encodes}
use Rattle.dg_base.specs.Sound.{IsName, IsPrintable}
use Rattle.dg_meaning.specs.Render.{last_of}
use Rattle.dg_rt.specs.Gaps.{last_word}

scalars_in : (cs : List ℕ) → All IsPrintable cs → all_scalars cs ≡ true
scalars_in [] h = refl
scalars_in (c ∷ cs) h = rw ((All-head IsPrintable c cs h).scalar, scalars_in cs (All-tail IsPrintable c cs h)) refl

pub name_text : (bytes : List ℕ) → IsName bytes → IsUtf8 bytes
name_text bytes h = (h.characters, (scalars_in h.characters h.printable, sym h.encoded))

-- Its characters are those that are printed.
pub name_chars : (bytes : List ℕ) (h : IsName bytes) → chars bytes ≡ h.characters
name_chars bytes h = ap chars h.encoded ∙ chars-encodes h.characters (scalars_in h.characters h.printable)

pub small_char : (bytes : List ℕ) (h : IsName bytes) (n c : ℕ) → (n < length (chars bytes)) × (c ≡ get_or (chars bytes) n c) → c < 65536
small_char bytes h n c at =
    let is = name_chars bytes h in
    let few : n < length h.characters = subst (λ (cs : List ℕ). n < length cs) is at.0 in
    let p = All-get_or IsPrintable h.characters n c few h.printable in
    let e : c ≡ get_or h.characters n c = at.1 ∙ ap (λ (cs : List ℕ). get_or cs n c) is in
    let to = p.to in
    omega (arith, e, to)

last_is : (before : Option ℕ) (first : ℕ) (more : List ℕ) (d : ℕ) → last_of before (first ∷ more) ≡ Some (get_or (first ∷ more) (length more) d)
last_is before first [] d = refl
last_is before first (second ∷ more) d = last_is (Some first) second more d

-- How a text ends that has characters.
pub ends_so : (text : List ℕ) (d : ℕ) → 1 ≤ length text → last_word (last_of None text) ≡ last_word (Some (get_or text (length text - 1) d))
ends_so [] d some = absurd (omega arith)
ends_so (first ∷ more) d some =
    let q : length more ≡ length (first ∷ more) - 1 = omega arith in
    ap last_word (last_is None first more d) ∙ ap (λ (k : ℕ). last_word (Some (get_or (first ∷ more) k d))) q

-- So it is behind what was there before.
pub ends_behind : (before : Option ℕ) (text : List ℕ) (d : ℕ) → 1 ≤ length text → last_word (last_of before text) ≡ last_word (Some (get_or text (length text - 1) d))
ends_behind before [] d some = absurd (omega arith)
ends_behind before (first ∷ more) d some =
    let q : length more ≡ length (first ∷ more) - 1 = omega arith in
    ap last_word (last_is before first more d) ∙ ap (λ (k : ℕ). last_word (Some (get_or (first ∷ more) k d))) q
