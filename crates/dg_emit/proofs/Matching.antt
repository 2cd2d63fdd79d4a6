-- Arguments that are matched one behind the other.
use Rattle.std.proofs.Common.{◌≡◌, ◌+◌, ◌-◌, ◌<◌, ℕ, suc, List, [], ◌∷◌, ◌++◌, sym, ◌∙◌, ap, arith, append_assoc}
use Rattle.z_lang.specs.declared.act.Act.{Act}
use Rattle.dg_turn.specs.Turns.{match_acts}
use Rattle.dg_emit.specs.inside.Acts.{match_act}

pub matched_next : (before acts : List Act) (a t n i : ℕ) → i < n → acts ≡ before ++ match_act (a + i) (t + i) ∷ [] → acts ++ match_acts (a + (i + 1)) (t + (i + 1)) (n - (i + 1)) ≡ before ++ match_acts (a + i) (t + i) (n - i)
matched_next before acts a t n i lt e =
    let k = n - (i + 1) in
    let more : n - i ≡ suc k = omega arith in
    let at_a : a + (i + 1) ≡ suc (a + i) = omega arith in
    let at_t : t + (i + 1) ≡ suc (t + i) = omega arith in
    ap (λ (l : List Act). l ++ match_acts (a + (i + 1)) (t + (i + 1)) k) e
    ∙ append_assoc before (match_act (a + i) (t + i) ∷ []) (match_acts (a + (i + 1)) (t + (i + 1)) k)
    ∙ ap (λ (j : ℕ). before ++ match_act (a + i) (t + i) ∷ match_acts j (t + (i + 1)) k) at_a
    ∙ ap (λ (j : ℕ). before ++ match_act (a + i) (t + i) ∷ match_acts (suc (a + i)) j k) at_t
    ∙ ap (λ (j : ℕ). before ++ match_acts (a + i) (t + i) j) (sym more)
