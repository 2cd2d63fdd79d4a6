-- A line that is taken is the first line of the meaning.
use Rattle.std.proofs.Common.{◌≡◌, ℕ, ◌≤◌, List, ◌++◌, length, Option, Some, None, refl, sym, ap, subst, ◌∙◌, append_assoc}
use Rattle.std.specs.Io.KnownBytes.{Consumes}
use Rattle.dg_meaning.specs.Words.{first_line, behind_first, line_within, behind_line, without_return}
use Rattle.dg_meaning.specs.Shows.{IsLeft}
use Rattle.dg_base.specs.Lines.{IsPlain, TookLine, IsText}
use Rattle.dg_base.proofs.LineLemmas.{IsLine, line_told, line_untold}
use Rattle.dg_base.proofs.Meant.{Means, behind_shorter, line_is as meant_line, part_is}
use Rattle.dg_words.specs.Lines.{Took}

meant : Means line_within behind_line without_return
meant = record { full = λ bytes. (refl, refl); over = λ n. (refl, refl); on = λ n b bytes. (refl, refl); none = refl; last = λ b. refl; more = λ b c bytes. refl }

pub left_shorter : (room : ℕ) (typed : List ℕ) → length (behind_line room typed) ≤ length typed
left_shorter = behind_shorter line_within behind_line without_return meant

pub line_is : (text bytes typed rest : List ℕ) → IsLine bytes typed rest → IsText text bytes → (first_line typed ≡ text) × (behind_first typed ≡ rest)
line_is = meant_line line_within behind_line without_return meant

-- ---- what a source gave

given : (old new : Option (List ℕ)) (taken : List ℕ) → Consumes old new taken → (rest : List ℕ) → IsLeft new rest → IsLeft old (taken ++ rest)
given None new taken h rest is = tt
given (Some xs) None taken h rest is = absurd h
given (Some xs) (Some ys) taken h rest is = h ∙ ap (λ (l : List ℕ). taken ++ l) is

pub took_line : (old new : Option (List ℕ)) (bytes : List ℕ) (P : List ℕ → List ℕ → Type 0) → TookLine bytes old new → ((typed rest : List ℕ) → IsLine bytes typed rest → P typed rest) → Took old new P
took_line None new bytes P took f =
    let line = line_untold bytes took.plain in
    record { taken = bytes ++ line.0; gave = λ rest is. tt; holds = λ rest is. subst (λ (l : List ℕ). P l rest) (sym (append_assoc bytes line.0 rest)) (f (bytes ++ (line.0 ++ rest)) rest (line.1 rest)) }
took_line (Some xs) None bytes P took f = absurd took.took
took_line (Some xs) (Some ys) bytes P took f =
    let line = line_told bytes xs (Some ys) took in
    let same : ys ≡ line.0 = let e = line.1 in cc in
    let gave = given (Some xs) (Some ys) (bytes ++ took.end) took.took in
    record { taken = bytes ++ took.end; gave = gave; holds = λ rest is. subst (λ (l : List ℕ). P l rest) (gave rest is) (f xs rest (subst (λ (l : List ℕ). IsLine bytes xs l) (sym same ∙ is) line.2)) }

pub took_part : (old new : Option (List ℕ)) (bytes : List ℕ) → IsPlain bytes → Consumes old new bytes → Took old new (λ typed rest. length (behind_first typed) ≤ length rest)
took_part old new bytes plain took = record {
  taken = bytes;
  gave = given old new bytes took;
  holds = λ rest is. part_is line_within behind_line without_return meant bytes rest plain;
}
