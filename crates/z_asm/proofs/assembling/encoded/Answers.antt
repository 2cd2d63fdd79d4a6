use Rattle.std.proofs.Common.{◌≡◌, ℕ, List, [], ◌∷◌, ◌++◌, ◌+◌, map, drop, sym, ap, ◌∙◌, subst, append_assoc}
use Rattle.std.proofs.lemmas.List.{at_drop_more}
use Rattle.z_text.specs.Encode.{IsTextOf, IsPrintable}
use Rattle.z_asm.specs.Story.{string_bytes}
use Rattle.z_asm.proofs.Parts.{encoded_is, printable_next}
use Rattle.z_asm.proofs.assembling.encoded.Goals as goal

step : (texts strings new : List (List ℕ)) (i : ℕ) (text bytes : List ℕ) → map string_bytes texts ≡ strings ++ map string_bytes (drop i texts) → map string_bytes (drop i texts) ≡ string_bytes text ∷ map string_bytes (drop (i + 1) texts) → bytes ≡ string_bytes text → new ≡ strings ++ bytes ∷ [] →
    map string_bytes texts ≡ new ++ map string_bytes (drop (i + 1) texts)
step texts strings new i text bytes e d is n =
    e ∙ ap (λ (l : List (List ℕ)). strings ++ l) d ∙ sym (append_assoc strings (string_bytes text ∷ []) (map string_bytes (drop (i + 1) texts)))
    ∙ ap (λ (b : List ℕ). (strings ++ b ∷ []) ++ map string_bytes (drop (i + 1) texts)) (sym is) ∙ ap (λ (l : List (List ℕ)). l ++ map string_bytes (drop (i + 1) texts)) (sym n)

pub loop-text-preserved : goal.loop-text-preserved
loop-text-preserved c =
    let texts = c.args.texts.now in
    let i = c.loop-text.text-index in
    let text = c.text-item.result in
    let next = printable_next texts i text c.loop-text-test.true c.loop-text.invariant.printable in
    let here : IsPrintable text = subst (λ (x : List ℕ). IsPrintable x) (sym c.text-item.is) next.0 in
    let is = encoded_is text c.in_ok-string.string.items here (λ codes of. c.in_ok-string.ensures codes (subst (λ (x : List ℕ). IsTextOf codes x) (sym c.as_slice.ensures) of)) in
    record {
      rest = step texts c.loop-text.strings c.push.new.self i text c.from_vec.result c.loop-text.invariant.rest
          (at_drop_more (map string_bytes) texts i text c.loop-text-test.true ∙ ap (λ (x : List ℕ). string_bytes x ∷ map string_bytes (drop (i + 1) texts)) (sym c.text-item.is)) (c.from_vec.ensures ∙ is) c.in_ok-push.ensures.ok;
      printable = next.1;
    }
