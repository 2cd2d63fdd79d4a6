-- Objects, attributes and properties (Z-Machine Standard 1.1, section 12).
use Rattle.std.specs.Prelude.{ℕ, zero, suc, ◌+◌, ◌-◌, ◌*◌, ◌/◌, ◌%◌, ◌^◌, Option, Some, None, Result, Ok, Err, Bool, not, nat_lt, ◌==◌, ◌||◌, if◌then◌else◌, bit_and, bit_or}
use Rattle.z_model.specs.declared.fault.ZFault.{ZFault}
use Rattle.z_model.specs.declared.fault.ZFault.TheVariants.{BadObject}
use Rattle.z_model.specs.Decode.{◌>>=◌}
use Rattle.z_model.specs.Memory.{Memory, byte_in, with_byte, memory_word, with_word}

-- ---- the entries of objects

-- Behind 63 default words stand entries of 14 bytes, counted from 1: 48 attributes, then the words parent, sibling, child and the address of the properties.
abbrev pub entry_at : ℕ → ℕ → ℕ
entry_at objects n = (objects + 126 + 14 * (n + 65535)) % 65536

abbrev pub parent_at : ℕ → ℕ → ℕ
parent_at objects n = (entry_at objects n + 6) % 65536

abbrev pub sibling_at : ℕ → ℕ → ℕ
sibling_at objects n = (entry_at objects n + 8) % 65536

abbrev pub child_at : ℕ → ℕ → ℕ
child_at objects n = (entry_at objects n + 10) % 65536

-- a word of the object tree; that of no object is 0
unfoldable pub link_in : Memory → ℕ → ℕ → Result ℕ ZFault
link_in mem n place = if n == 0 then Ok 0 else memory_word mem place

-- Objects that are named have to be there.
unfoldable pub some_object : {A : Type 0} → ℕ → Result A ZFault → Result A ZFault
some_object n r = if n == 0 then Err BadObject else r

-- whether the parent of an object is another
unfoldable pub is_inside : Memory → ℕ → ℕ → ℕ → Result Bool ZFault
is_inside mem objects a b = some_object a (some_object b (memory_word mem (parent_at objects a) >>= λ parent. Ok (parent == b)))

-- ---- attributes

-- Attribute 0 is the top bit of the first byte; there are 48.
abbrev pub attribute_at : ℕ → ℕ → ℕ → ℕ
attribute_at objects n a = (entry_at objects n + a / 8) % 65536

abbrev pub attribute_bit : ℕ → ℕ
attribute_bit a = 128 / 2 ^ (a % 8)

unfoldable pub some_attribute : {A : Type 0} → ℕ → ℕ → Result A ZFault → Result A ZFault
some_attribute n a r = if (n == 0) || nat_lt 47 a then Err BadObject else r

-- whether an object has an attribute
unfoldable pub has_attribute : Memory → ℕ → ℕ → ℕ → Result Bool ZFault
has_attribute mem objects n a = some_attribute n a (byte_in mem (attribute_at objects n a) >>= λ byte. Ok (not (bit_and byte (attribute_bit a) == 0)))

-- a byte with a bit set, or cleared
abbrev pub with_bit : Bool → ℕ → ℕ → ℕ
with_bit on byte bit = if on then bit_or byte bit else bit_and byte (255 - bit)

unfoldable pub with_attribute : Memory → ℕ → ℕ → ℕ → Bool → Result Memory ZFault
with_attribute mem objects n a on =
    some_attribute n a (byte_in mem (attribute_at objects n a) >>= λ byte. with_byte mem (attribute_at objects n a) (with_bit on byte (attribute_bit a)))

-- ---- the tree

-- The place of the link that names an object, in a chain of siblings from a link on; none where the chain ends before.
unfoldable pub link_to : Memory → ℕ → ℕ → ℕ → ℕ → Result (Option ℕ) ZFault
link_to mem objects a zero place = Err BadObject
link_to mem objects a (suc more) place = do
  x ← memory_word mem place
  if x == a then Ok (Some place) else if x == 0 then Ok None else link_to mem objects a more (sibling_at objects x)

-- its sibling comes into its place there
abbrev pub passed_by : Memory → ℕ → ℕ → Option ℕ → Result Memory ZFault
passed_by mem objects a None = Ok mem
passed_by mem objects a (Some place) = memory_word mem (sibling_at objects a) >>= λ next. with_word mem place next

-- out of the children of its parent, if it has one; a chain has at most 65,535 links
unfoldable pub unchained : Memory → ℕ → ℕ → ℕ → Result Memory ZFault
unchained mem objects a parent =
    if parent == 0 then Ok mem else (link_to mem objects a 65536 (child_at objects parent) >>= λ place. passed_by mem objects a place)

-- An object is taken out of the tree; its children stay its own.
unfoldable pub removed : Memory → ℕ → ℕ → Result Memory ZFault
removed mem objects a = some_object a (do
  parent ← memory_word mem (parent_at objects a)
  out ← unchained mem objects a parent
  alone ← with_word out (parent_at objects a) 0
  with_word alone (sibling_at objects a) 0)

-- An object is made the first child of another.
unfoldable pub inserted : Memory → ℕ → ℕ → ℕ → Result Memory ZFault
inserted mem objects a b = some_object b (do
  out ← removed mem objects a
  first ← memory_word out (child_at objects b)
  below ← with_word out (parent_at objects a) b
  beside ← with_word below (sibling_at objects a) first
  with_word beside (child_at objects b) a)
