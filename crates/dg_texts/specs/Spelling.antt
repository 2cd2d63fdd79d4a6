-- What words and numbers become that are read letter by letter. Hold it against docs/LANGUAGE.md, "Typed lines and words", and "Built-in queries" on
-- splitting and joining words.
use Rattle.std.specs.Prelude.{◌≡◌, ◌+◌, ◌<◌, ◌≤◌, ◌++◌, ℕ, List, Option, Some, None, Bool, true, false, IsTrue, Result, MatchResult, length, count_by, encode_utf8_all}
use Rattle.std.specs.Str.{chars}
use Rattle.dg_meaning.specs.Copies.{copy_cells}
use Rattle.dg_meaning.specs.Values.{Value, pair}
use Rattle.dg_unify.specs.Store.{Store, Made, told}
use Rattle.dg_unify.specs.declared.bindings.Ref.{Ref}
use Rattle.dg_unify.specs.declared.bindings.Full.{Full}
use Rattle.dg_unify.specs.declared.bindings.Full.TheVariants as full
use Rattle.dg_words.specs.Chars.{begins}
use Rattle.dg_words.specs.Letters.{AreSmall}

-- Bytes are the characters in UTF-8 that are read of them, and these are small.
abbrev pub IsSpelled : List ℕ → Type 0
IsSpelled bytes = (encode_utf8_all (chars bytes) ≡ bytes) × AreSmall (chars bytes)

-- Letters that one word may have.
pub record IsShort (letters : List ℕ) : Type 0 where
  pub few : length letters ≤ 200
  pub small : AreSmall letters

-- Bytes spell letters of which this holds.
pub record SpellsSome (P : List ℕ → Type 0) (bytes : List ℕ) : Type 0 where
  pub letters : List ℕ
  pub hold : P letters
  pub is : bytes ≡ encode_utf8_all letters

-- ## Joining

-- The spelling of these letters was joined, or nothing was, since there are none or they are too many.
abbrev pub JoinsWord : Option (List ℕ) → List ℕ → List ℕ → Bool → Type 0
JoinsWord None old new joined = joined ≡ false
JoinsWord (Some letters) old new true = AreSmall letters × (new ≡ old ++ encode_utf8_all letters) × (count_by begins new ≤ 200)
JoinsWord (Some letters) old new false = 200 < count_by begins (old ++ encode_utf8_all letters)

-- These letters were joined, if there are any.
abbrev pub IsJoined : Option (List ℕ) → List ℕ → Bool → Type 0
IsJoined None bytes joined = joined ≡ false
IsJoined (Some letters) bytes joined = (joined ≡ true) × IsShort letters × (bytes ≡ encode_utf8_all letters)

-- ## What is made

-- So many cells are more than are left, or memory ran out, as it may in a store that grows.
abbrev pub TooMany : ℕ → Store → Full → Type 0
TooMany n s full.Heap = s.heap_limit < s.state.heap + n
TooMany n s full.Trail = ⊥
TooMany n s full.OutOfMemory = IsTrue s.grows

-- A value was made, or the heap has too little room for it.
abbrev pub MakesValue : Value → Store → Store → Result Ref Full → Type 0
MakesValue v old new result = MatchResult result (λ r. Made (copy_cells v) old new r v) (λ e. TooMany (copy_cells v) old e)

-- A value was made, and put in front of a list, or the heap has too little room for both.
abbrev pub MakesBefore : Value → Ref → Store → Store → Result Ref Full → Type 0
MakesBefore v list old new result =
    let n = copy_cells v + 3 in
    MatchResult result (λ r. Made n old new r (pair v (told old list))) (λ e. TooMany n old e)
