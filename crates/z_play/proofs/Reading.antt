-- A line that is taken is the next typed line.
use Rattle.std.proofs.Common.{◌≡◌, ℕ, ◌≤◌, List, [], ◌++◌, length, take, Option, Some, None, refl, sym, ap, subst, ◌∙◌, arith}
use Rattle.std.specs.Io.KnownBytes.{Consumes, IsAtEnd, Keeps}
use Rattle.std.proofs.lemmas.List.{length-append}
use Rattle.z_model.specs.Typed.{typed_bytes, typed_left, line_within, left_within, without_return}
use Rattle.dg_base.specs.Lines.{IsPlain, KeepsText}
use Rattle.dg_base.proofs.LineLemmas.{IsLine}
use Rattle.dg_base.proofs.Meant.{Means, behind_shorter, line_is, part_is}

-- So many bytes are left, and at least those behind the line.
pub record StopsWithin (behind typed : List ℕ) (left : Option (List ℕ)) : Type 0 where
  pub rest : List ℕ
  pub is : left ≡ Some rest
  pub most : length rest ≤ length typed
  pub least : length behind ≤ length rest

-- ---- what a source gave

pub consumed : (old new : Option (List ℕ)) (typed taken : List ℕ) → old ≡ Some typed → Consumes old new taken → (rest : List ℕ) × (new ≡ Some rest) × (typed ≡ taken ++ rest)
consumed None new typed taken e h = absurd cc
consumed (Some xs) None typed taken e h = absurd h
consumed (Some xs) (Some ys) typed taken e h = let same : xs ≡ typed = cc in (ys, refl, sym same ∙ h)

pub ended : (old new : Option (List ℕ)) (typed : List ℕ) → old ≡ Some typed → IsAtEnd old → Keeps old new → (typed ≡ []) × (new ≡ Some [])
ended None new typed e h k = absurd cc
ended (Some xs) None typed e h k = absurd k
ended (Some xs) (Some ys) typed e h k = let same : xs ≡ typed = cc in (sym same ∙ h, ap Some (k ∙ h))

pub stays : (old new : Option (List ℕ)) (typed : List ℕ) → old ≡ Some typed → Keeps old new → new ≡ Some typed
stays None new typed e k = absurd cc
stays (Some xs) None typed e k = absurd k
stays (Some xs) (Some ys) typed e k = ap Some k ∙ e

-- ---- a line

meant : Means line_within left_within without_return
unfolding line_within left_within without_return
meant = record { full = λ bytes. (refl, refl); over = λ n. (refl, refl); on = λ n b bytes. (refl, refl); none = refl; last = λ b. refl; more = λ b c bytes. refl }

pub left_shorter : (room : ℕ) (typed : List ℕ) → length (left_within room typed) ≤ length typed
left_shorter = behind_shorter line_within left_within without_return meant

pub line_kept_is : (line : List ℕ) (kept : ℕ) (bytes typed rest : List ℕ) → IsLine bytes typed rest → KeepsText line kept bytes →
    (take kept line ≡ take (length line) (typed_bytes typed)) × (typed_left typed ≡ rest)
unfolding typed_bytes typed_left
line_kept_is line kept bytes typed rest is keeps =
    let next = line_is line_within left_within without_return meant keeps.text bytes typed rest is keeps.is in
    (keeps.keeps.front ∙ ap (take (length line)) (sym next.0), next.1)

pub stops_behind : (bytes typed : List ℕ) (old new : Option (List ℕ)) → IsPlain bytes → Consumes old new bytes → old ≡ Some typed → StopsWithin (typed_left typed) typed new
unfolding typed_left
stops_behind bytes typed old new plain took told =
    let given = consumed old new typed bytes told took in
    record {
      rest = given.0;
      is = given.1;
      most = omega (arith, ap length given.2, length-append bytes given.0);
      least = subst (λ (l : List ℕ). length (typed_left l) ≤ length given.0) (sym given.2) (part_is line_within left_within without_return meant bytes given.0 plain);
    }
