-- What was read goes on, by lines of a story.
use Rattle.std.proofs.Common.{ℕ, zero, suc, ◌+◌, List, [], ◌∷◌, ◌++◌, length, Option, refl, sym, ap, subst, ◌∙◌, arith}
use Rattle.std.specs.Prelude.{true, false}
use Rattle.std.proofs.lemmas.List.{append-nil}
use Rattle.std.proofs.lemmas.List.Elements.{All-nil}
use Rattle.z_list.specs.Listing.{Line, Rule, Locals, End, instructions, lines}
use Rattle.z_list.specs.Reads.{IsMark}
use Rattle.z_list.specs.inside.Lines.{Where, Outside, Named, Inside, Behind, Accepts, Comes, AreInstructions}
use Rattle.z_list.specs.inside.Held.{bytes_of, HaveNumbers}
use Rattle.z_list.proofs.Instructions.{Small, small_nil, small_cons}
use Rattle.z_list.proofs.Complete.{listed_read, instructions_read, Holds, comes_holds, zeros, zeros_len}
use Rattle.z_list.proofs.Held.{lines_bytes, lines_numbers, instructions_bytes, instructions_numbers, numbers_append}

small_zeros : (n : ℕ) → Small (zeros n)
small_zeros zero = small_nil
small_zeros (suc n) = small_cons zero (zeros n) (omega arith) (small_zeros n)

module _ (first : List ℕ → Option ℕ) (asked : AreInstructions first) where
  -- lines that lead from a state to the end, with bytes and numbers of a story
  pub record Onward (w : Where) (at left : ℕ) : Type 0 where
    pub more : List Line
    pub accepted : Accepts first w at left more
    pub small : Small (bytes_of more)
    pub numbers : HaveNumbers more

  outside_onward : (at left : ℕ) → Onward (Outside true) at left
  outside_onward at left = record {
    more = lines first at (zeros left) [];
    accepted = subst (λ (n : ℕ). Accepts first (Outside true) at n (lines first at (zeros left) [])) (zeros_len left) (listed_read first asked at (zeros left) [] (omega arith));
    small = subst Small (sym (lines_bytes first asked at (at + length (zeros left)) (zeros left) [] (omega arith))) (small_zeros left);
    numbers = lines_numbers first asked at (zeros left) [] (All-nil IsMark);
  }

  inside_onward : (at left : ℕ) → Onward Inside at left
  inside_onward at left = record {
    more = is ++ [];
    accepted = subst (λ (n : ℕ). Accepts first Inside at n (is ++ [])) (omega (arith, zeros_len left))
        (instructions_read first asked (length (zeros left)) at (zeros left) 0 [] (omega arith) (tt, refl));
    small = subst Small (sym (ap bytes_of (append-nil is) ∙ instructions_bytes first asked (length (zeros left)) at (zeros left) (omega arith))) (small_zeros left);
    numbers = numbers_append is [] (instructions_numbers first asked (length (zeros left)) at (zeros left)) tt;
  }
    where
      is : List Line
      is = instructions first (length (zeros left)) at (zeros left)

  named_onward : (at n : ℕ) → Onward Named at (suc n)
  named_onward at n =
      let on = inside_onward (at + 1) n in
      record {
        more = Locals at 0 ∷ on.more;
        accepted = (Inside, at + 1, n, (refl, refl, omega arith, refl), on.accepted);
        small = small_cons 0 (bytes_of on.more) (omega arith) on.small;
        numbers = (tt, on.numbers);
      }

  onward : (w : Where) (at left : ℕ) → Holds w left → Onward w at left
  onward (Outside true) at left h = outside_onward at left
  onward (Outside false) at zero h = record { more = []; accepted = (tt, refl); small = small_nil; numbers = tt }
  onward (Outside false) at (suc n) h =
      let on = named_onward at n in
      record { more = Rule at 0 0 ∷ on.more; accepted = (Named, at, suc n, ((refl, refl, refl), omega arith, refl), on.accepted); small = on.small; numbers = ((omega arith, omega arith), on.numbers) }
  onward Named at zero h = absurd (omega (arith, h))
  onward Named at (suc n) h = named_onward at n
  onward Inside at left h = inside_onward at left
  onward (Behind full since) at left h =
      let on = outside_onward at left in
      record { more = End at ∷ on.more; accepted = (Outside true, at, left, ((refl, refl, refl), refl), on.accepted); small = on.small; numbers = (tt, on.numbers) }

  pub read_onward : (count : ℕ) (ls : List Line) (w : Where) (at left : ℕ) → Comes first (Outside true) 0 count ls w at left → Onward w at left
  read_onward count ls w at left c = onward w at left (comes_holds first asked (Outside true) 0 count ls w at left tt c)
