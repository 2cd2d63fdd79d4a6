-- The name of the entry can be printed: it is of plain ASCII.
use Rattle.std.proofs.Common.{◌≡◌, ◌<◌, ◌≤◌, ℕ, List, [], ◌∷◌, ◌++◌, Bool, true, ◌&&◌, nat_lt, refl, sym, ◌∙◌, ap, arith}
use Rattle.std.specs.Prelude.{nat_le, encode_utf8_all}
use Rattle.std.specs.List.{All, list_all}
use Rattle.std.proofs.lemmas.Bool.{and_parts}
use Rattle.std.proofs.lemmas.Bool.Decides.{nat_tests}
use Rattle.std.proofs.lemmas.List.Elements.{All-nil, All-cons}
use Rattle.std.proofs.lemmas.Str.{encode_ascii}
use lib.Utf8.{low_scalar}
use Rattle.dg_base.specs.Sound.{IsPrintable, IsName}
use Rattle.dg_core.specs.Core.{entry_name}

abbrev is_plain : ℕ → Bool
is_plain c = nat_le 32 c && nat_lt c 127

plain_low : (c : ℕ) → is_plain c ≡ true → (32 ≤ c) × (c < 127)
plain_low c e =
    let each = and_parts (nat_le 32 c) (nat_lt c 127) e in
    (grind (arith, nat_tests, each.0), grind (arith, nat_tests, each.1))

plain_printable : (c : ℕ) → is_plain c ≡ true → IsPrintable c
plain_printable c e =
    let low = plain_low c e in
    record { from = low.0; to = omega (arith, low.1); scalar = low_scalar c (omega (arith, low.1)); no_delete = λ same. omega (arith, low.1, same) }

plain_encoded : (cs : List ℕ) → list_all is_plain cs ≡ true → cs ≡ encode_utf8_all cs
plain_encoded [] e = refl
plain_encoded (c ∷ cs) e =
    let each = and_parts (is_plain c) (list_all is_plain cs) e in
    ap (λ (l : List ℕ). c ∷ l) (plain_encoded cs each.1)
    ∙ ap (λ (l : List ℕ). l ++ encode_utf8_all cs) (sym (encode_ascii c (omega (arith, (plain_low c each.0).1))))

all_printable : (cs : List ℕ) → list_all is_plain cs ≡ true → All IsPrintable cs
all_printable [] e = All-nil IsPrintable
all_printable (c ∷ cs) e =
    let each = and_parts (is_plain c) (list_all is_plain cs) e in
    All-cons IsPrintable c cs (plain_printable c each.0) (all_printable cs each.1)

pub entry_printable : IsName entry_name
entry_printable = record { characters = entry_name; some = λ none. cc; printable = all_printable entry_name refl; encoded = plain_encoded entry_name refl }
