-- The names of the prelude can be printed: they are of plain ASCII.
use Rattle.std.proofs.Common.{◌≡◌, ◌<◌, ◌≤◌, ℕ, List, [], ◌∷◌, ◌++◌, Bool, true, false, ◌&&◌, length, nat_lt, refl, sym, ◌∙◌, ap, arith}
use Rattle.std.specs.Prelude.{nat_le, encode_utf8_all}
use Rattle.std.specs.List.{All, list_all}
use Rattle.std.proofs.lemmas.Bool.{and_parts}
use Rattle.std.proofs.lemmas.Bool.Decides.{nat_tests}
use Rattle.std.proofs.lemmas.List.Elements.{All-nil, All-cons}
use Rattle.std.proofs.lemmas.Str.{encode_ascii}
use lib.Utf8.{low_scalar}
use Rattle.dg_base.specs.Names.{prelude_names}
use Rattle.dg_base.specs.Sound.{IsPrintable, IsName}

-- what passes a test that decides this
from_test : {A : Type 0} (P : A → Type 0) (test : A → Bool) → ((x : A) → test x ≡ true → P x) → (xs : List A) → list_all test xs ≡ true → All P xs
from_test P test each [] e = All-nil P
from_test P test each (x ∷ xs) e =
    let parts = and_parts (test x) (list_all test xs) e in
    All-cons P x xs (each x parts.0) (from_test P test each xs parts.1)

abbrev is_plain : ℕ → Bool
is_plain c = nat_le 32 c && nat_lt c 127

plain_low : (c : ℕ) → is_plain c ≡ true → (32 ≤ c) × (c < 127)
plain_low c e =
    let each = and_parts (nat_le 32 c) (nat_lt c 127) e in
    (grind (arith, nat_tests, each.0), grind (arith, nat_tests, each.1))

plain_printable : (c : ℕ) → is_plain c ≡ true → IsPrintable c
plain_printable c e =
    let low = plain_low c e in
    record { from = low.0; to = omega (arith, low.1); scalar = low_scalar c (omega (arith, low.1)); no_delete = λ same. omega (arith, low.1, same) }

plain_encoded : (cs : List ℕ) → list_all is_plain cs ≡ true → cs ≡ encode_utf8_all cs
plain_encoded [] e = refl
plain_encoded (c ∷ cs) e =
    let each = and_parts (is_plain c) (list_all is_plain cs) e in
    ap (λ (l : List ℕ). c ∷ l) (plain_encoded cs each.1)
    ∙ ap (λ (l : List ℕ). l ++ encode_utf8_all cs) (sym (encode_ascii c (omega (arith, (plain_low c each.0).1))))

abbrev is_plain_name : List ℕ → Bool
is_plain_name n = nat_lt 0 (length n) && list_all is_plain n

plain_name : (n : List ℕ) → is_plain_name n ≡ true → IsName n
plain_name n e =
    let each = and_parts (nat_lt 0 (length n)) (list_all is_plain n) e in
    record {
      characters = n;
      some = λ none. let no : false ≡ true = sym (ap (λ (l : List ℕ). nat_lt 0 (length l)) none) ∙ each.0 in cc;
      printable = from_test IsPrintable is_plain plain_printable n each.1;
      encoded = plain_encoded n each.1;
    }

pub prelude_printable : All IsName prelude_names
prelude_printable = from_test IsName is_plain_name plain_name prelude_names refl
