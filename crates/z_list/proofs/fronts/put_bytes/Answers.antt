use Rattle.std.proofs.Common.{ℕ, List, [], ◌∷◌, ◌++◌, ◌∙◌, length, refl, sym, ap, subst, append_assoc, arith}
use Rattle.std.proofs.lemmas.List.{append-nil}
use Rattle.z_list.specs.Texts.{all_spaced}
use Rattle.z_list.proofs.Instructions.{Small}
use Rattle.z_list.proofs.Turns.{small_rest}
use Rattle.z_list.proofs.FormLemmas.{bytes_more}
use Rattle.z_list.proofs.fronts.put_bytes.Goals as goal

pub loop-byte-init : goal.loop-byte-init
loop-byte-init c = ([], sym (append-nil c.args.bytes.now.items), refl)

pub loop-byte-smaller : goal.loop-byte-smaller
loop-byte-smaller c = omega (arith, ap length c.in-Some.ensures)

pub loop-byte-preserved : goal.loop-byte-preserved
loop-byte-preserved c =
    let i = c.loop-byte.invariant in
    let byte = c.in-Some.byte in (
      i.0 ++ byte ∷ [],
      c.in_ok-push.ensures.items ∙ (ap (λ (l : List ℕ). l ++ byte ∷ []) i.1 ∙ append_assoc c.args.bytes.now.items i.0 (byte ∷ [])),
      i.2 ∙ (ap (λ (l : List ℕ). all_spaced i.0 ++ l) c.in-Some.ensures ∙ bytes_more i.0 byte c.in-Some.next.now),
    )

pub returns : goal.returns
returns c =
    let i = c.loop-byte.invariant in
    (i.0, i.1, record { is = i.2; small = small_rest c.args.bytes.now.items i.0 (subst Small i.1 c.type_inv.bytes); last = c.in_default.ensures })
