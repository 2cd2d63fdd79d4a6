-- The words of a string, one by one.
use Rattle.std.proofs.Common.{◌≡◌, ℕ, suc, ◌+◌, ◌*◌, ◌/◌, ◌%◌, ◌<◌, ◌≤◌, Bool, true, false, not, ltb, List, [], ◌∷◌, length, get_or, drop, Option, None, refl, arith, sym, drop-cons}
use Rattle.std.specs.Prelude.{if◌then◌else◌}
use Rattle.std.proofs.lemmas.List.{length-drop}
use Rattle.z_model.specs.declared.text.Alphabet.{Alphabet}
use Rattle.z_model.specs.declared.text.Alphabet.TheVariants.{Lower}
use Rattle.z_model.specs.declared.text.Reading.TheVariants.{Gives, Turns, Refuses}
use Rattle.z_model.specs.Decode.{text_end}
use Rattle.z_model.specs.Text.{decoded_codes, read_character, z_characters}
use Rattle.z_text.specs.declared.walker.Pending.TheVariants.{Nothing, Two}
use Rattle.z_text.specs.declared.walker.Walker.{Walker}
use Rattle.z_text.specs.Walk.{rest_of, characters_left, end_left, IsBehind}

-- ---- bytes

two_front : (bytes : List ℕ) (at : ℕ) → at + 1 < length bytes → drop at bytes ≡ get_or bytes at 0 ∷ (get_or bytes (at + 1) 0 ∷ drop (at + 2) bytes)
two_front bytes at h =
    let first : drop at bytes ≡ get_or bytes at 0 ∷ drop (suc at) bytes = drop-cons bytes at 0 (omega arith) in
    let second : drop (suc at) bytes ≡ get_or bytes (suc at) 0 ∷ drop (suc (suc at)) bytes = drop-cons bytes (suc at) 0 (omega arith) in
    let one : at + 1 ≡ suc at = omega arith in
    let two : at + 2 ≡ suc (suc at) = omega arith in
    rw (one, two, first, second) refl

short_end : (w : List ℕ) (at : ℕ) → length w ≤ 1 → text_end w at ≡ None
unfolding text_end
short_end [] at h = refl
short_end (b ∷ []) at h = refl
short_end (b ∷ c ∷ w) at h = absurd (omega arith)

short_characters : (w : List ℕ) → length w ≤ 1 → z_characters w ≡ []
unfolding z_characters
short_characters [] h = refl
short_characters (b ∷ []) h = refl
short_characters (b ∷ c ∷ w) h = absurd (omega arith)

pub no_end : (bytes : List ℕ) (at : ℕ) → length bytes < at + 2 → text_end (drop at bytes) at ≡ None
no_end bytes at h = short_end (drop at bytes) at (omega (arith, length-drop at bytes))

pub no_characters : (bytes : List ℕ) (at : ℕ) → length bytes < at + 2 → z_characters (drop at bytes) ≡ []
no_characters bytes at h = short_characters (drop at bytes) (omega (arith, length-drop at bytes))

-- ---- a word

turned : {A : Type 0} (b : Bool) (x y : A) → (if not b then x else y) ≡ (if b then y else x)
turned true x y = refl
turned false x y = refl

pub word_behind : (w : Walker) (bytes : List ℕ) → w.pending ≡ Nothing → w.last ≡ false → w.at + 1 < length bytes → (high low : ℕ) → high ≡ get_or bytes w.at 0 → low ≡ get_or bytes (w.at + 1) 0 → IsBehind (high / 4 % 32) w (record { at = w.at + 2; last = not (ltb high 128); pending = Two (high % 4 * 8 + low / 32) (low % 32); alphabet = w.alphabet }) bytes
unfolding text_end z_characters
word_behind w bytes pending last h high low e f = record {
  characters = rw (pending, last, two_front bytes w.at h, sym e, sym f, turned (ltb high 128)) refl;
  end = rw (last, two_front bytes w.at h, sym e, turned (ltb high 128)) refl;
  alphabet = refl;
}

-- ---- codes

pub none_left : (w : Walker) (bytes : List ℕ) (end : Option ℕ) → characters_left w bytes ≡ [] → end_left w bytes ≡ end → rest_of w bytes ≡ record { codes = []; end = end }
unfolding decoded_codes
none_left w bytes end none is = rw (none, is) refl

module _ (z : ℕ) (here next : Walker) (bytes : List ℕ) (b : IsBehind z here next bytes) where
  pub refused : read_character here.alphabet z ≡ Refuses → rest_of here bytes ≡ record { codes = []; end = None }
  unfolding decoded_codes
  refused is = rw (b.characters, is) refl

  pub turns : (alphabet : Alphabet) → read_character here.alphabet z ≡ Turns alphabet → rest_of here bytes ≡ rest_of (record next { alphabet = alphabet }) bytes
  unfolding decoded_codes
  turns alphabet is = rw (b.characters, is, sym b.end) refl

  pub gives : (code : ℕ) → read_character here.alphabet z ≡ Gives code → rest_of here bytes ≡ record { codes = code ∷ (rest_of (record next { alphabet = Lower }) bytes).codes; end = (rest_of (record next { alphabet = Lower }) bytes).end }
  unfolding decoded_codes
  gives code is = rw (b.characters, is, sym b.end) refl
