use Rattle.std.proofs.Common.{◌≡◌, List, ℕ, None, Vec, Global, Result, Ok, Err, IfOk, flat_map, ap, ◌∙◌}
use Rattle.z_text.specs.Encode.{code_characters, packed, string_of, IsTextOf}
use Rattle.z_text.specs.Codes.{codes_from}
use Rattle.z_text.proofs.TextCodes.{text_codes}
use Rattle.z_text.proofs.encoding.encode.Goals as goal

same_string : (text codes : List ℕ) → IsTextOf codes text → packed (flat_map code_characters (codes_from None text)) ≡ string_of codes
unfolding string_of
same_string text codes is = ap (λ (cs : List ℕ). packed (flat_map code_characters cs)) (ap (codes_from None) is.printed ∙ text_codes codes is.coded)

if_each : {T E : Type 0} (P Q : T → Type 0) (r : Result T E) → IfOk r P → ((t : T) → P t → Q t) → IfOk r Q
if_each P Q (Ok t) p f = f t p
if_each P Q (Err e) p f = p

pub returns : goal.returns
returns c = if_each (λ (bytes : Vec ℕ Global). bytes.items ≡ packed c.deref.result.now) _ c.pack.result c.pack.ensures (λ bytes is codes of. is ∙ ap packed (c.deref.ensures.value ∙ c.in_ok-characters.ensures.characters) ∙ same_string c.args.text.now codes of)
