-- Two words more of a command line are an option and its word.
use Rattle.std.proofs.Common.{◌≡◌, ◌≤◌, ◌-◌, List, [], ◌∷◌, Some, String, Global, length, take, drop, get_or, ◌∙◌, ap, arith}
use Rattle.std.specs.Prelude.{string_bytes}
use Rattle.std.specs.Option.{option_and_then}
use Rattle.dialog_tool.specs.Command.{texts, OptionWords, with_option, values_behind}
use Rattle.std.proofs.lemmas.List.{take_all}

pub two_more : (v m : OptionWords) (l : List (String Global)) (x y : String Global) → 2 ≤ length l → x ≡ get_or l 0 x → y ≡ get_or l 1 y → Some m ≡ with_option v (string_bytes x) (string_bytes y) → values_behind m (texts (take (length l - 2) (drop 2 l))) ≡ values_behind v (texts l)
two_more v m [] x y le first second is = absurd (omega arith)
two_more v m (a ∷ []) x y le first second is = absurd (omega arith)
two_more v m (a ∷ b ∷ rest) x y le first second is =
    ap (λ (l : List (String Global)). values_behind m (texts l)) (take_all _ rest (omega arith))
    ∙ ap (λ o. option_and_then (λ more. values_behind more (texts rest)) o) is
    ∙ ap (λ (s : String Global). option_and_then (λ more. values_behind more (texts rest)) (with_option v (string_bytes s) (string_bytes y))) first
    ∙ ap (λ (s : String Global). option_and_then (λ more. values_behind more (texts rest)) (with_option v (string_bytes a) (string_bytes s))) second
