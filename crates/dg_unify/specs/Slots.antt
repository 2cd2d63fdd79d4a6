-- What slots and bindings stand for. Hold it against dg_meaning/specs/Values.antt and Substitutions.antt.
use Rattle.std.specs.Prelude.{◌≡◌, ℕ, zero, suc, ◌-◌, ◌<◌, ◌≤◌, nat_lt, nat_le, ◌||◌, true, false, List, [], ◌∷◌, Option, Some, None, Bool, if◌then◌else◌, length, take, reverse}
use Rattle.std.specs.List.{slice_get}
use Rattle.dg_meaning.specs.Values.{Label, Num, Word, Unknown, Object, Nil, Closure, Value, Var, Node, Values, NoMore, More, leaf, pair}
use Rattle.dg_meaning.specs.Substitutions.{Substitution}
use Rattle.dg_meaning.specs.inside.Substitutions.{IsSubstitution}
use Rattle.dg_unify.specs.Store.{Store, Saved, or_nil, IsTold}
use Rattle.dg_unify.specs.Links.{Once}
use Rattle.dg_unify.specs.declared.bindings.Ref.{Ref}
use Rattle.dg_unify.specs.declared.bindings.Mark.{Mark}
use Rattle.dg_unify.specs.declared.slots.Slot.{Slot}
use Rattle.dg_unify.specs.declared.slots.Slot.TheVariants as slot
use Rattle.dg_unify.specs.declared.slots.Link.{Link}

-- ## Values

-- The label of a value without parts, by its number.
abbrev pub label_at : ℕ → Label
label_at k = if nat_lt k 65536 then Num k else (if nat_lt k 131072 then Word (k - 65536) else (if nat_lt k 196608 then Object (k - 131072) else Nil))

-- A pair, where both of its parts are there.
abbrev pub pair_told : Option Value → Option Value → Option Value
pair_told None t = None
pair_told (Some h) None = None
pair_told (Some h) (Some t) = Some (pair h t)

-- One more part in front.
abbrev pub and_part : Option Value → Option Values → Option Values
and_part None vs = None
and_part (Some v) None = None
and_part (Some v) (Some vs) = Some (More v vs)

-- One more letter in front.
abbrev pub and_letter : Option ℕ → Option (List ℕ) → Option (List ℕ)
and_letter None cs = None
and_letter (Some c) None = None
and_letter (Some c) (Some cs) = Some (c ∷ cs)

-- A captured value, by its Ref.
abbrev pub captured_of : Option Slot → Option Ref
captured_of (Some (slot.Captured r)) = Some r
captured_of other = None

-- A captured value.
abbrev pub captured_slot : (ℕ → Option Value) → Option Slot → Option Value
captured_slot go (Some (slot.Captured r)) = go r.0
captured_slot go other = None

-- A word of a block: a number in a slot that begins no value.
abbrev pub word_slot : Option Slot → Option ℕ
word_slot (Some (slot.Captured r)) = Some r.0
word_slot other = None

-- A letter.
abbrev pub letter_slot : Option Slot → Option ℕ
letter_slot (Some (slot.Letter c)) = Some c
letter_slot other = None

-- The captured values in so many slots from a place on.
abbrev pub captured_in : (ℕ → Option Value) → List Slot → ℕ → ℕ → Option Values
captured_in go slots at zero = Some NoMore
captured_in go slots at (suc n) = and_part (captured_slot go (slice_get slots at)) (captured_in go slots (suc at) n)

-- The letters in so many slots from a place on.
abbrev pub letters_in : List Slot → ℕ → ℕ → Option (List ℕ)
letters_in slots at zero = Some []
letters_in slots at (suc n) = and_letter (letter_slot (slice_get slots at)) (letters_in slots (suc at) n)

-- A closure, where its captured values are there.
abbrev pub closure_told : ℕ → Option Values → Option Value
closure_told place None = None
closure_told place (Some vs) = Some (Node (Closure place) vs)

-- An unknown word, where its letters are there.
abbrev pub word_told : Option (List ℕ) → Option Value
word_told None = None
word_told (Some cs) = Some (leaf (Unknown cs))

-- What the slot at a place stands for, where the values of the places that it names are known.
abbrev pub slot_value : (ℕ → Option Value) → List Slot → ℕ → Option Slot → Option Value
slot_value go slots at None = None
slot_value go slots at (Some (slot.Var n)) = Some (Var n)
slot_value go slots at (Some (slot.Pair h t constant)) = pair_told (go h.0) (go t.0)
slot_value go slots at (Some (slot.Closure place n)) = closure_told place (captured_in go slots (suc at) n)
slot_value go slots at (Some (slot.Unknown n)) = word_told (letters_in slots (suc at) n)
slot_value go slots at (Some (slot.Captured r)) = None
slot_value go slots at (Some (slot.Letter c)) = None

-- A number below 2 ^ 31 names a slot, and others a value without parts.
abbrev pub ref_value : Option Value → ℕ → Option Value
ref_value inner r = if nat_lt r 2147483648 then inner else Some (leaf (label_at (r - 2147483648)))

-- What a Ref stands for, at most n slots deep.
abbrev pub value_at : List Slot → ℕ → ℕ → Option Value
value_at slots zero r = ref_value None r
value_at slots (suc n) r = ref_value (slot_value (value_at slots n) slots r (slice_get slots r)) r

-- What a Ref stands for: no value is deeper than there are slots.
abbrev pub value_in : List Slot → ℕ → Option Value
value_in slots r = value_at slots (length slots) r

-- ## Bindings

-- The substitution of some bindings, the newest first.
abbrev pub subst_of : List Slot → List Link → Substitution
subst_of slots [] = []
subst_of slots (l ∷ ls) = (l.var, or_nil (value_in slots l.to.0)) ∷ subst_of slots ls

-- Each variable is bound to something that is there.
abbrev pub AreTold : List Slot → List Link → Type 0
AreTold slots [] = Unit {0}
AreTold slots (l ∷ ls) = IsTold (value_in slots l.to.0) × AreTold slots ls

-- A closure has no more captured values, and an unknown word no more letters, than it may have.
abbrev pub IsFew : Slot → Type 0
IsFew (slot.Closure place n) = n ≤ 65535
IsFew (slot.Unknown n) = n ≤ 200
IsFew other = Unit {0}

-- A slot begins a value, unless it is behind a closure or an unknown word, of which it is a part.
abbrev pub Begins : Slot → Type 0
Begins (slot.Captured r) = ⊥
Begins (slot.Letter c) = ⊥
Begins other = Unit {0}

-- A slot is marked as a pair without variables.
abbrev pub is_marked : Option Slot → Bool
is_marked (Some (slot.Pair h t constant)) = constant
is_marked other = false

-- A value has no parts, or is marked as one without variables.
abbrev pub is_constant : List Slot → Ref → Bool
is_constant slots r = nat_le 2147483648 r.0 || is_marked (slice_get slots r.0)

-- What holds of slots, bindings and a number of variables: the bindings are a substitution, the numbers of variables rise with their places, where a
-- slot begins a value, the value is there, and a pair is marked as one without variables only where its parts are.
pub record Fits (slots : List Slot) (ls : List Link) (vars : ℕ) : Type 0 where
  pub sound : IsSubstitution (subst_of slots ls)
  pub told : AreTold slots ls
  pub once : Once vars ls
  pub below : (i n : ℕ) → slice_get slots i ≡ Some (slot.Var n) → n < vars
  pub rising : (i j m n : ℕ) → slice_get slots i ≡ Some (slot.Var m) → slice_get slots j ≡ Some (slot.Var n) → i < j → m < n
  pub few : (i : ℕ) (x : Slot) → slice_get slots i ≡ Some x → IsFew x
  pub whole : (i : ℕ) (x : Slot) → slice_get slots i ≡ Some x → Begins x → IsTold (value_in slots i)
  pub constant : (i : ℕ) (h t : Ref) → slice_get slots i ≡ Some (slot.Pair h t true) → (is_constant slots h ≡ true) × (is_constant slots t ≡ true)
  pub room : length slots ≤ 2147483648
  pub fewer : vars ≤ length slots

-- ## Stores

-- What a store keeps: its slots, its bindings with the oldest first, how many variables there are and were at the newest mark that stands, the
-- counts, and their limits.
pub record Fields : Type 0 where
  pub slots : List Slot
  pub log : List Link
  pub vars : ℕ
  pub since : ℕ
  pub heap : ℕ
  pub trail : ℕ
  pub heap_limit : ℕ
  pub trail_limit : ℕ

-- What it stands for.
abbrev pub store_of : Bool → Fields → Store
store_of grows f = record {
  state = record { vars = f.vars; subst = subst_of f.slots (reverse f.log); since = f.since; heap = f.heap; trail = f.trail };
  value = λ r. value_in f.slots r.0;
  places = length f.slots;
  word = λ at. word_slot (slice_get f.slots at);
  heap_limit = f.heap_limit;
  trail_limit = f.trail_limit;
  grows = grows;
}

-- A store keeps this true.
pub record AreSound (f : Fields) : Type 0 where
  pub fits : Fits f.slots (reverse f.log) f.vars
  pub heap_fits : f.heap ≤ f.heap_limit
  pub trail_fits : f.trail ≤ f.trail_limit

-- What a store kept at a mark.
abbrev pub fields_at : Fields → Mark → Fields
fields_at f m = record {
  slots = take m.slots f.slots;
  log = take m.links f.log;
  vars = m.vars;
  since = m.vars;
  heap = m.heap;
  trail = m.trail;
  heap_limit = f.heap_limit;
  trail_limit = f.trail_limit;
}

-- A mark gives back what a store kept at it.
pub record GivesBack (grows : Bool) (f : Fields) (m : Saved) : Type 0 where
  pub sound : AreSound (fields_at f m.mark)
  pub store : m.store ≡ store_of grows (fields_at f m.mark)

-- Each of these marks, the newest first, is within the next newer one, and the newest within so many slots, bindings and variables.
abbrev pub Saves : Bool → Fields → ℕ → ℕ → ℕ → List Saved → Type 0
Saves grows f slots links vars [] = Unit {0}
Saves grows f slots links vars (m ∷ ms) = (m.mark.slots ≤ slots) × (m.mark.links ≤ links) × (m.mark.vars ≤ vars) × GivesBack grows f m ×
    Saves grows f m.mark.slots m.mark.links m.mark.vars ms

-- These marks stand.
abbrev pub Stand : Bool → Fields → List Saved → Type 0
Stand grows f ms = Saves grows f (length f.slots) (length f.log) f.vars ms

-- ## Slots that are appended

-- The slots of captured values.
abbrev pub captured_slots : List Ref → List Slot
captured_slots [] = []
captured_slots (r ∷ rs) = slot.Captured r ∷ captured_slots rs

-- The slots of letters.
abbrev pub letter_slots : List ℕ → List Slot
letter_slots [] = []
letter_slots (c ∷ cs) = slot.Letter c ∷ letter_slots cs

-- The slots of a block's words.
abbrev pub word_slots : List ℕ → List Slot
word_slots [] = []
word_slots (w ∷ ws) = slot.Captured (record { 0 = w }) ∷ word_slots ws
